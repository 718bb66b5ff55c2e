-- Rules whose pairs differ are told apart by further rules: so to be strongly equivalent is to have the same pairs.
use Rattle.std.proofs.Common.{◌≡◌, ℕ, true, List, ◌++◌, sym, subst, inl, inr}
use Rattle.scale.specs.Meaning.{Meaning, Laws}
use Rattle.book.specs.Ledger.{Clause, Lawful}
use Rattle.theory.specs.Semantics.{at, Setting, holds, AllByRecursion, StatementHolds}
use Rattle.theory.specs.Equivalence.{Pair, SamePairs, StronglyEquivalent, TellsApart, facts, addendum}
use Rattle.theory.proofs.Least.{under_antisym}
use Rattle.theory.proofs.Lists.{all_append, all_left}
use Rattle.theory.proofs.Pairs.{all_hold_or_not, statements_hold_or_not, pair-append, pair_left, pair_right, pair_with_itself, equilibrium_from_scene, scene_from_equilibrium}
use Rattle.theory.proofs.Addendum.{facts_lawful, facts_hold, facts_demand, length-facts, addendum_lawful, length-addendum, addendum_pair, addendum_between}

module _ {m : Meaning} (laws : Laws m) (n : ℕ) (first second : List Clause) (lawful-first : AllByRecursion (Lawful m.levels n) first) (lawful-second : AllByRecursion (Lawful m.levels n) second) where
  -- A setting at which all of the first rules hold and not all of the second: with its facts, it is a scene of the first alone.
  pub facts_tell_apart : {row : List ℕ} → Setting m n row → AllByRecursion (λ c. holds m (at row) (at row) c ≡ true) first → (AllByRecursion (λ c. holds m (at row) (at row) c ≡ true) second → ⊥) → TellsApart m n first second (facts n row) row
  facts_tell_apart {row} setting all broken =
      let more = facts n row in
      let lawful = facts_lawful laws setting in
      record {
        lawful = lawful;
        short = length-facts n row;
        setting = setting;
        scene =
            scene_from_equilibrium laws setting (first ++ more) (all_append _ first more lawful-first lawful) (record {
              pair = pair_with_itself laws setting (first ++ more) (all_append _ first more all (facts_hold laws setting (at row)));
              alone = λ lower p. under_antisym laws p.here setting p.under (facts_demand laws setting p.here (at row) (pair_right first more p).kept);
            });
        none = λ scene.
            let e = equilibrium_from_scene laws setting (second ++ more) (all_append _ second more lawful-second lawful) scene in
            broken (all_left _ second more e.pair.satisfied);
      }

  -- A pair of the first rules that is none of the second, though all of these hold at its upper row: with the addendum
  -- of its rows, the upper row is a scene of the second alone.
  pub addendum_tells_apart : {lower upper : List ℕ} → Pair m n first lower upper → AllByRecursion (λ c. holds m (at upper) (at upper) c ≡ true) second → (AllByRecursion (StatementHolds m (at lower) (at upper)) second → ⊥) → TellsApart m n second first (addendum n lower upper) upper
  addendum_tells_apart {lower} {upper} p all broken =
      let more = addendum n lower upper in
      let lawful = addendum_lawful laws p.here p.there in
      let q : Pair m n more lower upper = addendum_pair laws p.here p.there p.under in
      let itself : Pair m n second upper upper = pair_with_itself laws p.there second all in
      let not_lower : (mid : List ℕ) → Pair m n second mid upper → mid ≡ lower → ⊥ = λ mid r e. broken (subst (λ x. AllByRecursion (StatementHolds m (at x) (at upper)) second) e r.kept) in
      record {
        lawful = lawful;
        short = length-addendum n lower upper;
        setting = p.there;
        scene =
            scene_from_equilibrium laws p.there (second ++ more) (all_append _ second more lawful-second lawful) (record {
              pair = pair-append itself (pair_with_itself laws p.there more q.satisfied);
              alone = λ mid r.
                  elim (addendum_between laws p.here p.there p.under (pair_right second more r)) [
                    | inl e ↦ absurd (not_lower mid (pair_left second more r) e)
                    | inr e ↦ e
                  ];
            });
        none = λ scene.
            let e = equilibrium_from_scene laws p.there (first ++ more) (all_append _ first more lawful-first lawful) scene in
            not_lower upper itself (sym (e.alone lower (pair-append p q)));
      }

  -- strongly equivalent rules: each pair of the first is one of the second, for otherwise something tells them apart
  pair_moves : StronglyEquivalent m n first second → {lower upper : List ℕ} → Pair m n first lower upper → Pair m n second lower upper
  pair_moves same {lower} {upper} p =
      elim (all_hold_or_not m (at upper) (at upper) second) [
        | inl all ↦ elim (statements_hold_or_not m (at lower) (at upper) second) [
          | inl kept ↦ record { here = p.here; there = p.there; under = p.under; satisfied = all; kept = kept }
          | inr broken ↦
              let t = addendum_tells_apart p all broken in
              absurd (t.none ((same (addendum n lower upper) t.lawful upper t.setting).1 t.scene))
        ]
        | inr broken ↦
            let t = facts_tell_apart p.there p.satisfied broken in
            absurd (t.none ((same (facts n upper) t.lawful upper t.setting).0 t.scene))
      ]

pub same_pairs : {m : Meaning} (laws : Laws m) (n : ℕ) (first second : List Clause) → AllByRecursion (Lawful m.levels n) first → AllByRecursion (Lawful m.levels n) second → StronglyEquivalent m n first second → SamePairs m n first second
same_pairs laws n first second lawful-first lawful-second same lower upper = (
  pair_moves laws n first second lawful-first lawful-second same,
  pair_moves laws n second first lawful-second lawful-first (λ more lawful row setting. let both = same more lawful row setting in (both.1, both.0)),
)
