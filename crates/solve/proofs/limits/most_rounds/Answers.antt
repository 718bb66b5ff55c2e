use Rattle.std.proofs.Common.{◌≡◌, ◌*◌, ◌≤◌, eqb, None, refl, ◌∙◌, ap₂, mul-le-mul, arith}
use Rattle.std.proofs.lemmas.Bool.{eqb-true}
use Rattle.scale.specs.declared.refusal.Refusal.TheVariants.{LevelsDiffer}
use Rattle.scale.specs.Meaning.{Meaning, Laws}
use Rattle.scale.proofs.Grants.{grants}
use Rattle.book.specs.Ledger.{Lawful}
use Rattle.book.specs.View.{ledger_of}
use Rattle.theory.specs.Semantics.{AllByRecursion}
use Rattle.solve.specs.Raisings.{most_rounds_refusal, Raisings}
use Rattle.solve.proofs.Books.{granted, of_book}
use Rattle.solve.proofs.Heights.{raisings}
use Rattle.solve.proofs.Programs.{program_lawful}
use Rattle.solve.proofs.limits.most_rounds.Goals as goal

pub overflow_mul-result : goal.overflow_mul-result
overflow_mul-result g c =
    let few : c.from.result ≤ 255 = omega (arith, c.from.ensures, c.in_ok-program.program.few) in
    let low : c.from-2.result ≤ 255 = omega (arith, c.from-2.ensures, c.height.type_inv) in
    omega (arith, mul-le-mul few low)

pub returns : goal.returns
returns g c =
    let scale = c.args.scale.now in
    let m : Meaning = g.S.Scale.meaning scale in
    let l = ledger_of c.args.book.now in
    let p = c.in_ok-program.program in
    let new = granted (eqb m.levels l.levels) LevelsDiffer _ p c.in_ok-program.ensures in
    let none : most_rounds_refusal m l ≡ None = rw new.0 refl in
    let limit : c.from.result * c.from-2.result ≡ l.statements * m.height = ap₂ ◌*◌ (c.from.ensures ∙ new.1.2) (c.from-2.ensures ∙ c.height.ensures) in
    let laws : Laws m = g.met.S.Scale.lawful scale (omega (arith, eqb-true _ _ new.0, c.args.book.now.least)) in
    let lawful = of_book scale l p new.1 (λ m cs n. AllByRecursion (Lawful m.levels n) cs) (program_lawful p) in
    grants (most_rounds_refusal m l) (Raisings m l.rules l.statements) _ none (raisings laws l.statements l.rules lawful _ limit)
