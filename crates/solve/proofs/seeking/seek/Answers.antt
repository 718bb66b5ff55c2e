use Rattle.std.proofs.Common.{◌≡◌, ℕ, ◌^◌, ◌<◌, ◌≤◌, true, false, eqb, ltb, length, Some, None, Option, MatchOption, refl, ◌∙◌, subst, ap₂}
use Rattle.std.proofs.lemmas.Bool.{eq-eqb, le-ltb}
use Rattle.scale.specs.declared.refusal.Refusal.TheVariants.{LevelsDiffer, PlaceLength}
use Rattle.scale.specs.Meaning.{Meaning}
use Rattle.scale.proofs.Grants.{grants}
use Rattle.book.specs.View.{ledger_of}
use Rattle.solve.specs.Programs.{clauses_of}
use Rattle.solve.specs.Searches.{Found, seek_refusal}
use Rattle.solve.proofs.Books.{granted, of_book}
use Rattle.solve.proofs.Programs.{program_laws, program_lawful}
use Rattle.solve.proofs.Searching.{finds}
use Rattle.solve.proofs.seeking.seek.Goals as goal

pub returns-clause-answer : goal.returns-clause-answer
returns-clause-answer g c =
    let scale = c.args.scale.now in
    let m : Meaning = g.S.Scale.meaning scale in
    let l = ledger_of c.args.book.now in
    let place = c.args.place.now in
    let after = c.search.new.place in
    let p = c.in_ok-program.program in
    let new = granted (eqb m.levels l.levels) LevelsDiffer _ p c.in_ok-program.ensures in
    let fit = granted (eqb (length place) p.statements) PlaceLength _ tt c.in_ok-test_length.ensures in
    let counted : c.setting_count-settings.result ≡ Some c.in_ok-count.count = c.in_ok-count.ensures.ok_part in
    let count = subst (λ (o : Option ℕ). MatchOption o (65536 < c.levels.result ^ p.statements) (λ n. (n ≡ c.levels.result ^ p.statements) × (n ≤ 65536))) counted c.setting_count-settings.ensures in
    let whole : c.in_ok-count.count ≡ l.levels ^ l.statements = count.0 ∙ ap₂ ◌^◌ c.levels.ensures new.1.2 in
    let long : eqb (length place) l.statements ≡ true = eq-eqb _ _ (fit.1 ∙ new.1.2) in
    let few : ltb 65536 (l.levels ^ l.statements) ≡ false = le-ltb _ _ (subst (λ (k : ℕ). k ≤ 65536) whole count.1) in
    let none : seek_refusal m l place ≡ None = rw (new.0, long, few) refl in
    let laws = program_laws p g.met.S.Scale.lawful in
    let lawful = program_lawful p in
    let found = of_book scale l p new.1 (λ m cs n. Found m cs n c.args.start place after c.search.result) (finds laws p.statements (clauses_of p) lawful c.args.start place c.search.result c.search.ensures) in
    grants (seek_refusal m l place) (Found m l.rules l.statements c.args.start place after) c.search.result none found
