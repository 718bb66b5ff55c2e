-- From what the loops found in the rows of a table to the verdict on its rules.
use Rattle.std.proofs.Common.{◌≡◌, ℕ, ◌<◌, List, map, length, get_or, take, Some, None, Option, is_none, Bool, MatchBool, MatchOption, sym, ap, ◌∙◌, subst, arith}
use Rattle.std.proofs.lemmas.List.Elements.{All-from_recursion}
use Rattle.std.proofs.lemmas.List.{length-map, get_or-map, take-map}
use Rattle.std.proofs.lemmas.Bool.{both_ways, false_from_ne_true}
use Rattle.scale.specs.Meaning.{Meaning}
use Rattle.book.specs.Ledger.{Clause}
use Rattle.book.specs.Rows.{clause_of}
use Rattle.book.specs.declared.rows.Rule.{Rule}
use Rattle.book.proofs.Reweighing.{blank}
use Rattle.theory.proofs.Lists.{all_to_map, all_from_map}
use Rattle.theory.specs.Semantics.{AllByRecursion, at, holds, body_value, head_value, raised, Rounds}
use Rattle.solve.specs.Ready.{FirstDifference}
use Rattle.solve.specs.Verdicts.{HoldsAt, FirstBreach, FirstBroken, FirstUnsupported}

module _ (m : Meaning) (rows : List Rule) (row : List ℕ) where
  pub first_breach : (r : Option ℕ) → MatchOption r (AllByRecursion (λ x. HoldsAt m row (clause_of x)) rows) (λ i. (i < length rows) × ((d : Rule) → HoldsAt m row (clause_of (get_or rows i d)) → ⊥) × AllByRecursion (λ x. HoldsAt m row (clause_of x)) (take i rows)) → FirstBreach m rows row r
  first_breach None held = held
  first_breach (Some i) found = (found.0, λ d. false_from_ne_true _ (found.1 d), found.2)

  pub all_hold : FirstBreach m rows row None → AllByRecursion (HoldsAt m row) (map clause_of rows)
  all_hold held = all_to_map (HoldsAt m row) clause_of rows held

  pub breach_refutes : {i : ℕ} → FirstBreach m rows row (Some i) → AllByRecursion (HoldsAt m row) (map clause_of rows) → ⊥
  breach_refutes {i} breach held =
      both_ways (holds m (at row) (at row) (clause_of (get_or rows i blank))) (breach.1 blank) (All-from_recursion (λ r. HoldsAt m row (clause_of r)) rows (all_from_map (HoldsAt m row) clause_of rows held) i blank breach.0)

  -- no rule is broken exactly when all hold
  pub none_broken : (found : Option ℕ) (none : Bool) → none ≡ is_none found → FirstBreach m rows row found → MatchBool none (AllByRecursion (HoldsAt m row) (map clause_of rows)) (AllByRecursion (HoldsAt m row) (map clause_of rows) → ⊥)
  none_broken None none e held = subst (λ (b : Bool). MatchBool b (AllByRecursion (HoldsAt m row) (map clause_of rows)) (AllByRecursion (HoldsAt m row) (map clause_of rows) → ⊥)) (sym e) (all_hold held)
  none_broken (Some i) none e breach = subst (λ (b : Bool). MatchBool b (AllByRecursion (HoldsAt m row) (map clause_of rows)) (AllByRecursion (HoldsAt m row) (map clause_of rows) → ⊥)) (sym e) (breach_refutes breach)

  pub first_from_breach : (i d : ℕ) (r : Rule) → FirstBreach m rows row (Some i) → d ≡ m.residuum (body_value m (at row) (at row) (clause_of (get_or rows i r)).body) (head_value (at row) (get_or rows i r).head) → FirstBroken m (map clause_of rows) row i d
  first_from_breach i d r breach residuum = record {
    rule = clause_of (get_or rows i r);
    there = let size = length-map rows clause_of in omega (arith, breach.0);
    is = get_or-map clause_of rows i r (clause_of (get_or rows i r)) breach.0;
    breaks = breach.1 r;
    before = subst (λ (cs : List Clause). AllByRecursion (HoldsAt m row) cs) (sym (take-map clause_of i rows)) (all_to_map (HoldsAt m row) clause_of (take i rows) breach.2);
    residuum = residuum;
  }

module _ (m : Meaning) (cs : List Clause) (n : ℕ) (row : List ℕ) where
  pub first_unsupported : (r s : ℕ) {least : List ℕ} → AllByRecursion (HoldsAt m row) cs → Rounds m cs n row r → least ≡ raised m cs n row r → length least ≡ n → FirstDifference least row (Some s) → FirstUnsupported m cs n row s (at least s)
  first_unsupported r s {least} held rounds is long found = record {
    satisfied = held;
    r = r;
    rounds = rounds;
    there = omega (arith, found.0);
    degree = ap (λ x. at x s) is;
    differs = found.1;
    before = λ k h. ap (λ x. at x k) (sym is) ∙ found.2 k h;
  }
