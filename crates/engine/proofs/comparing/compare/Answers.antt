use Rattle.std.proofs.Common.{◌≡◌, ℕ, ◌*◌, ◌^◌, ◌<◌, ◌≤◌, true, false, eqb, ltb, List, length, Some, None, Option, MatchOption, sym, refl, ◌∙◌, subst, ap₂, subst₂, arith}
use Rattle.std.proofs.lemmas.Bool.{eq-eqb, le-ltb, eqb-true}
use Rattle.scale.specs.Meaning.{Laws}
use Rattle.scale.specs.declared.refusal.Refusal.TheVariants.{LevelsDiffer}
use Rattle.scale.proofs.Grants.{grants}
use Rattle.book.specs.Ledger.{Clause, Lawful}
use Rattle.book.specs.View.{ledger_of}
use Rattle.theory.specs.Semantics.{AllByRecursion}
use Rattle.solve.specs.Programs.{clauses_of}
use Rattle.solve.proofs.Books.{granted, scale_lawful}
use Rattle.engine.specs.Comparisons.{compare_refusal, places, Told, Compared}
use Rattle.engine.proofs.Telling.{compared}
use Rattle.engine.proofs.comparing.compare.Goals as goal

pub returns-clause-answer : goal.returns-clause-answer
returns-clause-answer g c =
    let m = g.S.Scale.meaning c.args.scale.now in
    let first = c.args.first.now in
    let second = c.args.second.now in
    let n = first.statements in
    let addendum = c.args.addendum.now in
    let setting = c.args.setting.now in
    let made = granted (eqb m.levels first.levels) LevelsDiffer _ c.in_ok-first_program.first_program c.in_ok-first_program.ensures in
    let made-too = granted (eqb m.levels second.levels) LevelsDiffer _ c.in_ok-second_program.second_program c.in_ok-second_program.ensures in
    let both : n ≡ second.statements = sym c.statements-statements.ensures ∙ c.if-statements.false ∙ c.statements.ensures in
    let size : length setting ≡ n = c.if-setting-length.false ∙ c.from-length.ensures ∙ c.statements-statements.ensures in
    let counted : c.setting_count.result ≡ Some c.in_ok-count.count = c.in_ok-count.ensures.ok_part in
    let count = subst (λ (o : Option ℕ). MatchOption o (4096 < c.levels.result ^ c.statements-statements.result) (λ n. (n ≡ c.levels.result ^ c.statements-statements.result) × (n ≤ 4096))) counted c.setting_count.ensures in
    let whole : c.in_ok-count.count ≡ first.levels ^ n = count.0 ∙ ap₂ ◌^◌ c.levels.ensures c.statements-statements.ensures in
    let wide : eqb n second.statements ≡ true = eq-eqb _ _ both in
    let long : eqb (length setting) n ≡ true = eq-eqb _ _ size in
    let room : ltb (length addendum) (2 * n) ≡ false = le-ltb _ _ (omega (arith, c.if-addendum-length.false, c.from-length.ensures, c.statements-statements.ensures)) in
    let few : ltb 4096 (first.levels ^ n) ≡ false = le-ltb _ _ (subst (λ (k : ℕ). k ≤ 4096) whole count.1) in
    let none : compare_refusal m (ledger_of first) (ledger_of second) addendum setting ≡ None = rw (made.0, made-too.0, wide, long, room, few) refl in
    let levels = eqb-true m.levels first.levels made.0 in
    let laws : Laws m = g.met.S.Scale.lawful c.args.scale.now (omega (arith, levels, first.least)) in
    let two : AllByRecursion (Lawful m.levels n) (ledger_of second).rules = subst (λ (k : ℕ). AllByRecursion (Lawful m.levels k) (ledger_of second).rules) (sym both) (scale_lawful m second (eqb-true m.levels second.levels made-too.0)) in
    let before = places addendum setting in
    let after = places c.tell.new.addendum c.tell.new.setting in
    let told = subst₂ (λ (p q : List Clause). Told m n p q before after c.tell.result) made.1.1 made-too.1.1 (subst (λ (k : ℕ). Told m k (clauses_of c.in_ok-first_program.first_program) (clauses_of c.in_ok-second_program.second_program) before after c.tell.result) (c.from-length.ensures ∙ c.statements-statements.ensures) c.tell.ensures) in
    grants (compare_refusal m (ledger_of first) (ledger_of second) addendum setting) (Compared m n (ledger_of first).rules (ledger_of second).rules before after) c.tell.result none (compared laws n (ledger_of first).rules (ledger_of second).rules (scale_lawful m first levels) two before after c.tell.result told)
