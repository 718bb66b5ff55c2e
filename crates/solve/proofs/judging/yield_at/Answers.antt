use Rattle.std.proofs.Common.{rules, ◌≡◌, ◌<◌, true, false, eqb, ltb, leb, length, get_or, None, sym, refl, ap, ◌∙◌, subst, arith}
use Rattle.std.proofs.lemmas.List.Elements.{All-from_recursion}
use Rattle.std.proofs.lemmas.List.{get_or_default}
use Rattle.std.proofs.lemmas.Bool.{eq-eqb, lt-leb}
use Rattle.std.specs.List.{list_all}
use Rattle.scale.specs.declared.refusal.Refusal.TheVariants.{LevelsDiffer, PlaceLength}
use Rattle.scale.specs.Meaning.{Meaning}
use Rattle.scale.proofs.Grants.{grants}
use Rattle.book.specs.Ledger.{Clause, Lawful, fits}
use Rattle.book.specs.Rows.{clause_of}
use Rattle.book.specs.View.{ledger_of}
use Rattle.theory.specs.Semantics.{AllByRecursion, Setting, at, yield}
use Rattle.solve.specs.Programs.{meaning_of}
use Rattle.solve.specs.Verdicts.{yield_refusal, YieldAt}
use Rattle.solve.proofs.Books.{granted, of_book, program_levels, tested}
use Rattle.solve.proofs.Programs.{program_lawful}
use Rattle.solve.proofs.judging.yield_at.Goals as goal

pub returns : goal.returns
returns g c =
    let scale = c.args.scale.now in
    let m : Meaning = g.S.Scale.meaning scale in
    let l = ledger_of c.args.book.now in
    let setting = c.args.setting.now in
    let i = c.args.i in
    let rule = clause_of c.in_ok-rule.rule in
    let within : i < length l.rules = c.in_ok-rule.ensures.0 in
    let is : rule ≡ get_or l.rules i rule = c.in_ok-rule.ensures.1 in
    let p = c.in_ok-program.program in
    let new = granted (eqb m.levels l.levels) LevelsDiffer _ p c.in_ok-program.ensures in
    let fit = granted (eqb (length setting) p.statements) PlaceLength _ tt c.in_ok-test_length.ensures in
    let passed : list_all (λ d. ltb d l.levels) setting ≡ true = search rules in
    let there : leb (length l.rules) i ≡ false = lt-leb (length l.rules) i within in
    let long : eqb (length setting) l.statements ≡ true = eq-eqb _ _ (fit.1 ∙ new.1.2) in
    let none : yield_refusal m l i setting ≡ None = rw (passed, there, new.0, long) refl in
    let setting_of_p = tested (meaning_of p) p.statements l.levels setting (program_levels scale l p new.1 new.0) (omega (arith, p.some)) passed fit.1 in
    let here : Setting m l.statements setting = of_book scale l p new.1 (λ m cs n. Setting m n setting) setting_of_p in
    let lawful : AllByRecursion (Lawful m.levels l.statements) l.rules = of_book scale l p new.1 (λ m cs n. AllByRecursion (Lawful m.levels n) cs) (program_lawful p) in
    let fit : fits m.levels rule ≡ true = subst (λ (r : Clause). fits m.levels r ≡ true) (sym is) (All-from_recursion (Lawful m.levels l.statements) l.rules lawful i rule within).degrees in
    grants (yield_refusal m l i setting) (YieldAt m l.rules i setting) c.rule_yield.result none (λ d. c.rule_yield.ensures (here.degrees, here.degrees) fit ∙ ap (yield m (at setting) (at setting)) (is ∙ get_or_default l.rules i rule d within))
