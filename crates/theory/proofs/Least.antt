-- Where raising stands still is the least setting at which the rules with a statement for their head hold, and the scenes by what holds at them.
use Rattle.std.proofs.Common.{◌≡◌, ℕ, zero, suc, true, List, sym, ap, ◌∙◌, subst}
use Rattle.scale.specs.Meaning.{Meaning, Laws}
use Rattle.book.specs.Ledger.{Clause}
use Rattle.theory.specs.Semantics.{at, AllByRecursion, Setting, holds, raise, raised, Rounds, BoundHolds, StatementHolds, SceneAfter}
use Rattle.theory.specs.AnswerSet.{Under, LeastUnder}
use Rattle.theory.proofs.Order.{Le, le_refl, le_trans, le_antisym, bottom_le}
use Rattle.theory.proofs.Ranges.{Within, Degrees, all_map, all_both, by_head}
use Rattle.theory.proofs.Values.{Rows, gain_mono, gain_met, met_from_gain}
use Rattle.theory.proofs.Raising.{same_rows, zeros_at, at_raise, raised_setting}

-- that a rule holds, taken apart by its head and put together again
pub statement_part : (m : Meaning) (l u : ℕ → ℕ) (c : Clause) → holds m l u c ≡ true → StatementHolds m l u c
statement_part m l u c h = by_head (λ b. holds m l u b ≡ true → StatementHolds m l u b) c (λ s k. k) (λ d k. tt) h

pub bound_part : (m : Meaning) (l u : ℕ → ℕ) (c : Clause) → holds m l u c ≡ true → BoundHolds m l u c
bound_part m l u c h = by_head (λ b. holds m l u b ≡ true → BoundHolds m l u b) c (λ s k. tt) (λ d k. k) h

pub both_parts : (m : Meaning) (l u : ℕ → ℕ) (c : Clause) → StatementHolds m l u c → BoundHolds m l u c → holds m l u c ≡ true
both_parts m l u c h g =
    by_head (λ b. StatementHolds m l u b → BoundHolds m l u b → holds m l u b ≡ true) c (λ s k j. k) (λ d k j. j) h g

-- the order of settings with its ranges, and two settings each below the other
pub rows_from : {m : Meaning} {n k : ℕ} {a b : List ℕ} → Setting m n a → Setting m k b → Under m a b → Rows m (at a) (at b)
rows_from ha hb h s = record { lo = ha.degrees s; hi = hb.degrees s; is = h s }

pub under_antisym : {m : Meaning} (laws : Laws m) {n : ℕ} {a b : List ℕ} → Setting m n a → Setting m n b → Under m a b → Under m b a → a ≡ b
under_antisym laws {a = a} {b = b} ha hb p q =
    same_rows a b (ha.long ∙ sym hb.long) (λ s. le_antisym laws (rows_from ha hb p s) (rows_from hb ha q s))

-- a scene is left alone by a raising
pub scene_still : {m : Meaning} {cs : List Clause} {n : ℕ} {row : List ℕ} {r : ℕ} → SceneAfter m cs n row r → raise m cs n row row ≡ row
scene_still {m} {cs} {n} {row} scene = subst (λ (x : List ℕ). raise m cs n row x ≡ x) scene.least scene.rounds.still

-- a setting at which every rule holds is a scene if raising under it ends there
pub scene_from : {m : Meaning} {cs : List Clause} {n : ℕ} {row : List ℕ} {r : ℕ} → AllByRecursion (λ c. holds m (at row) (at row) c ≡ true) cs → Rounds m cs n row r → raised m cs n row r ≡ row → SceneAfter m cs n row r
scene_from {m} {cs} {row = row} all rounds least = record { rounds = rounds; least = least; bounds = all_map (bound_part m (at row) (at row)) cs all }

module _ {m : Meaning} (laws : Laws m) (n : ℕ) (cs : List Clause) (hs : AllByRecursion (Within m.levels n) cs) where
  -- where the rules hold a raising lifts nothing, and where it leaves a row alone they hold
  pub raise_met : (upper row : List ℕ) → Degrees m (at upper) → Degrees m (at row) → AllByRecursion (StatementHolds m (at row) (at upper)) cs → Rows m (at (raise m cs n upper row)) (at row)
  raise_met upper row du dr met s = rw (at_raise laws n cs hs upper row s) (gain_met laws dr du n cs hs met s)

  pub met_where_still : (upper row : List ℕ) → Degrees m (at upper) → Degrees m (at row) → raise m cs n upper row ≡ row → AllByRecursion (StatementHolds m (at row) (at upper)) cs
  met_where_still upper row du dr e =
      met_from_gain laws dr du n cs hs
      (λ s. subst (λ (x : ℕ). Le m x (at row s)) (sym (ap (λ x. at x s) e) ∙ at_raise laws n cs hs upper row s) (le_refl laws (dr s)))

  -- raising stays below every setting at which the rules hold
  pub raised_below : (upper other : List ℕ) → Degrees m (at upper) → Degrees m (at other) → AllByRecursion (StatementHolds m (at other) (at upper)) cs → (r : ℕ) → Rows m (at (raised m cs n upper r)) (at other)
  raised_below upper other du dt met zero = λ s. rw (zeros_at n s) (bottom_le laws (dt s))
  raised_below upper other du dt met (suc r) = λ s.
      rw (at_raise laws n cs hs upper (raised m cs n upper r) s)
      (le_trans laws (gain_mono laws (raised_below upper other du dt met r) (λ t. le_refl laws (du t)) n cs hs s) (gain_met laws dt du n cs hs met s))

  pub least_under : (upper : List ℕ) → Degrees m (at upper) → (r : ℕ) → raised m cs n upper (suc r) ≡ raised m cs n upper r → LeastUnder m n cs upper (raised m cs n upper r)
  least_under upper du r still =
      let setting = raised_setting laws n cs hs upper du r in
      record {
        setting = setting;
        satisfied = met_where_still upper (raised m cs n upper r) du setting.degrees still;
        least = λ other ho met s. (raised_below upper other du ho.degrees met r s).is;
      }

  -- every rule holds at a scene
  pub scene_holds : {row : List ℕ} {r : ℕ} → Setting m n row → SceneAfter m cs n row r → AllByRecursion (λ c. holds m (at row) (at row) c ≡ true) cs
  scene_holds {row} setting scene =
      all_both (both_parts m (at row) (at row)) cs (met_where_still row row setting.degrees setting.degrees (scene_still scene)) scene.bounds
