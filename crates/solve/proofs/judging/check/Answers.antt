use Rattle.std.proofs.Common.{rules, ◌≡◌, true, eqb, ltb, length, None, refl, ◌∙◌, arith}
use Rattle.std.proofs.lemmas.Bool.{eq-eqb}
use Rattle.std.specs.List.{list_all}
use Rattle.scale.specs.declared.refusal.Refusal.TheVariants.{LevelsDiffer, PlaceLength}
use Rattle.scale.proofs.Grants.{grants}
use Rattle.book.specs.View.{ledger_of}
use Rattle.theory.specs.Semantics.{Setting}
use Rattle.solve.specs.Programs.{meaning_of, clauses_of}
use Rattle.solve.specs.Verdicts.{Checked, check_refusal}
use Rattle.solve.proofs.Books.{granted, of_book, program_levels, tested}
use Rattle.solve.proofs.Checks.{checked}
use Rattle.solve.proofs.Programs.{program_laws, program_lawful}
use Rattle.solve.proofs.judging.check.Goals as goal

pub returns : goal.returns
returns g c =
    let scale = c.args.scale.now in
    let l = ledger_of c.args.book.now in
    let setting = c.args.setting.now in
    let p = c.in_ok-program.program in
    let new = granted (eqb (g.S.Scale.meaning scale).levels l.levels) LevelsDiffer _ p c.in_ok-program.ensures in
    let fit = granted (eqb (length setting) p.statements) PlaceLength _ tt c.in_ok-test_length.ensures in
    let passed : list_all (λ d. ltb d l.levels) setting ≡ true = search rules in
    let long : eqb (length setting) l.statements ≡ true = eq-eqb _ _ (fit.1 ∙ new.1.2) in
    let none : check_refusal (g.S.Scale.meaning scale) l setting ≡ None = rw (passed, new.0, long) refl in
    let laws = program_laws p g.met.S.Scale.lawful in
    let lawful = program_lawful p in
    let is : Setting (meaning_of p) p.statements setting = tested (meaning_of p) p.statements l.levels setting (program_levels scale l p new.1 new.0) (omega (arith, p.some)) passed fit.1 in
    grants (check_refusal (g.S.Scale.meaning scale) l setting) (Checked (g.S.Scale.meaning scale) l.rules l.statements setting) c.judge.result none (of_book scale l p new.1 (λ m cs n. Checked m cs n setting c.judge.result) (checked laws p.statements (clauses_of p) lawful setting is c.judge.result c.judge.ensures))
