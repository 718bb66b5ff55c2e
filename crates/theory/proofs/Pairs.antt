-- Here-and-there pairs: the scenes are the equilibria, and rules with the same pairs have the same scenes whatever is added.
use Rattle.std.proofs.Common.{◌≡◌, ℕ, suc, true, ◌⊎◌, List, ◌++◌, subst, inl, inr}
use Rattle.std.proofs.lemmas.Bool.{cases_Bool, both_ways}
use Rattle.scale.specs.Meaning.{Meaning, Laws}
use Rattle.book.specs.Ledger.{Clause, Lawful}
use Rattle.theory.specs.Semantics.{at, Setting, holds, AllByRecursion, StatementHolds, raised, Scene}
use Rattle.theory.specs.AnswerSet.{LeastUnder}
use Rattle.theory.specs.Equivalence.{Pair, Equilibrium, SamePairs, StronglyEquivalent}
use Rattle.theory.proofs.Ranges.{all_map, all_within, by_head}
use Rattle.theory.proofs.Raising.{stands_still}
use Rattle.theory.proofs.Least.{statement_part, under_antisym, least_under, scene_from, scene_holds}
use Rattle.theory.proofs.Lists.{all_append, all_left, all_right, all_or_not}

-- what a pair asks is decided, rule by rule
module _ (m : Meaning) (l u : ℕ → ℕ) where
  holds_or_not : (c : Clause) → (holds m l u c ≡ true) ⊎ (holds m l u c ≡ true → ⊥)
  holds_or_not c = elim (cases_Bool (holds m l u c)) [ inl held ↦ inl held | inr broken ↦ inr (both_ways (holds m l u c) broken) ]

  pub all_hold_or_not : (cs : List Clause) → AllByRecursion (λ c. holds m l u c ≡ true) cs ⊎ (AllByRecursion (λ c. holds m l u c ≡ true) cs → ⊥)
  all_hold_or_not = all_or_not _ holds_or_not

  pub statements_hold_or_not : (cs : List Clause) → AllByRecursion (StatementHolds m l u) cs ⊎ (AllByRecursion (StatementHolds m l u) cs → ⊥)
  statements_hold_or_not = all_or_not _ (λ c.
      by_head (λ b. (holds m l u b ≡ true) ⊎ (holds m l u b ≡ true → ⊥) → StatementHolds m l u b ⊎ (StatementHolds m l u b → ⊥)) c
      (λ s d. d) (λ b d. inl tt) (holds_or_not c))

-- the pairs of joined rules are those of both parts
module _ {m : Meaning} {n : ℕ} {lower upper : List ℕ} where
  pub pair-append : {first more : List Clause} → Pair m n first lower upper → Pair m n more lower upper → Pair m n (first ++ more) lower upper
  pair-append {first} {more} p q =
      record {
        here = p.here;
        there = p.there;
        under = p.under;
        satisfied = all_append _ first more p.satisfied q.satisfied;
        kept = all_append _ first more p.kept q.kept;
      }

  module _ (first more : List Clause) (p : Pair m n (first ++ more) lower upper) where
    pub pair_left : Pair m n first lower upper
    pair_left =
        record {
          here = p.here;
          there = p.there;
          under = p.under;
          satisfied = all_left _ first more p.satisfied;
          kept = all_left _ first more p.kept;
        }

    pub pair_right : Pair m n more lower upper
    pair_right =
        record {
          here = p.here;
          there = p.there;
          under = p.under;
          satisfied = all_right _ first more p.satisfied;
          kept = all_right _ first more p.kept;
        }

module _ {m : Meaning} (laws : Laws m) {n : ℕ} {row : List ℕ} (setting : Setting m n row) (cs : List Clause) where
  -- a setting at which all rules hold makes a pair with itself
  pub pair_with_itself : AllByRecursion (λ c. holds m (at row) (at row) c ≡ true) cs → Pair m n cs row row
  pair_with_itself all =
      record {
        here = setting;
        there = setting;
        under = λ s. laws.below_refl (at row s) (setting.degrees s);
        satisfied = all;
        kept = all_map (statement_part m (at row) (at row)) cs all;
      }

  module _ (lawful : AllByRecursion (Lawful m.levels n) cs) where
    -- where raising stands still is the least row
    least_row : (r : ℕ) → raised m cs n row (suc r) ≡ raised m cs n row r → LeastUnder m n cs row (raised m cs n row r)
    least_row = least_under laws n cs (all_within m.levels n cs lawful) row setting.degrees

    pub equilibrium_from_scene : Scene m cs n row → Equilibrium m n cs row
    equilibrium_from_scene scene =
        let least : LeastUnder m n cs row row = subst (λ x. LeastUnder m n cs row x) scene.1.least (least_row scene.0 scene.1.rounds.still) in
        record {
          pair = pair_with_itself (scene_holds laws n cs (all_within m.levels n cs lawful) setting scene.1);
          alone = λ lower p. under_antisym laws p.here setting p.under (least.least lower p.here p.kept);
        }

    pub scene_from_equilibrium : Equilibrium m n cs row → Scene m cs n row
    scene_from_equilibrium e =
        let stands = stands_still laws n cs (all_within m.levels n cs lawful) row setting.degrees in
        let found = raised m cs n row stands.0 in
        let least : LeastUnder m n cs row found = least_row stands.0 stands.1.still in
        let is_row = e.alone found (record {
          here = least.setting;
          there = setting;
          under = least.least row setting e.pair.kept;
          satisfied = e.pair.satisfied;
          kept = least.satisfied;
        }) in
        (stands.0, scene_from e.pair.satisfied stands.1 is_row)

module _ {m : Meaning} (laws : Laws m) (n : ℕ) where
  -- rules with the same pairs: whatever is added, a scene of the first is one of the second
  scene_moves : (first second more : List Clause) → AllByRecursion (Lawful m.levels n) first → AllByRecursion (Lawful m.levels n) second → AllByRecursion (Lawful m.levels n) more → SamePairs m n first second → (row : List ℕ) → Setting m n row → Scene m (first ++ more) n row → Scene m (second ++ more) n row
  scene_moves first second more lawful-first lawful-second lawful same row setting scene =
      let e = equilibrium_from_scene laws setting (first ++ more) (all_append _ first more lawful-first lawful) scene in
      scene_from_equilibrium laws setting (second ++ more) (all_append _ second more lawful-second lawful) (record {
        pair = pair-append ((same row row).0 (pair_left first more e.pair)) (pair_right first more e.pair);
        alone = λ lower p. e.alone lower (pair-append ((same lower row).1 (pair_left second more p)) (pair_right second more p));
      })

  pub strongly_equivalent : (first second : List Clause) → AllByRecursion (Lawful m.levels n) first → AllByRecursion (Lawful m.levels n) second → SamePairs m n first second → StronglyEquivalent m n first second
  strongly_equivalent first second lawful-first lawful-second same more lawful row setting = (
    scene_moves first second more lawful-first lawful-second lawful same row setting,
    scene_moves second first more lawful-second lawful-first lawful (λ lower upper. ((same lower upper).1, (same lower upper).0)) row setting,
  )
