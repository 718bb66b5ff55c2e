-- The answers of check and seek are determined: a setting has one verdict, and a search one answer.
use Rattle.std.proofs.Common.{◌≡◌, ℕ, ◌^◌, ◌<◌, ◌≤◌, List, length, get_or, take, Some, None, Option, sym, refl, ap, ◌∙◌, ap₂, inl, inr, arith}
use Rattle.std.proofs.lemmas.List.Elements.{All-from_recursion}
use Rattle.std.proofs.lemmas.List.{get_or_default, get_or-take, length-take}
use Rattle.std.proofs.lemmas.Bool.{both_ways, cases_order}
use Rattle.scale.specs.Meaning.{Meaning, Laws}
use Rattle.book.specs.Ledger.{Clause, Lawful}
use Rattle.theory.specs.Position.{position}
use Rattle.theory.specs.Semantics.{at, AllByRecursion, Setting, holds, raised, Rounds, SceneAfter}
use Rattle.theory.proofs.Least.{scene_holds}
use Rattle.theory.proofs.Positions.{position_fits, position_apart}
use Rattle.theory.proofs.Raising.{rounds_unique}
use Rattle.theory.proofs.Ranges.{all_within}
use Rattle.solve.specs.Searches.{NoSceneBetween, FirstScene, Sought}
use Rattle.solve.specs.Verdicts.{HoldsAt, FirstBroken, FirstUnsupported, Judged}
use Rattle.solve.specs.declared.judging.Verdict.{Verdict}
use Rattle.solve.specs.declared.judging.Verdict.TheVariants.{Scene, Broken, Unsupported}

-- k is the first number of which P does not hold
record First (P : ℕ → Type 0) (k : ℕ) : Type 0 where
  fails : P k → ⊥
  before : (j : ℕ) → j < k → P j

first_once : {P : ℕ → Type 0} {i j : ℕ} → First P i → First P j → i ≡ j
first_once {i = i} {j = j} f g =
    elim (cases_order i j) [
      | inl e ↦ e
      | inr o ↦ elim o [ inl b ↦ absurd (f.fails (g.before i b)) | inr b ↦ absurd (g.fails (f.before j b)) ]
    ]

-- rule k holds at the row
abbrev Kept : Meaning → List Clause → List ℕ → ℕ → Type 0
Kept m cs row k = (c : Clause) → HoldsAt m row (get_or cs k c)

module _ {m : Meaning} {cs : List Clause} {row : List ℕ} where
  broken_fails : {i d : ℕ} → FirstBroken m cs row i d → Kept m cs row i → ⊥
  broken_fails b kept = both_ways (holds m (at row) (at row) b.rule) b.breaks (rw b.is at (kept b.rule))

  broken_first : {i d : ℕ} → FirstBroken m cs row i d → First (Kept m cs row) i
  broken_first {i} b = record { fails = broken_fails b; before = before }
    where
      before : (k : ℕ) → k < i → Kept m cs row k
      before k h c =
          let short : k < length (take i cs) = simp length-take (omega arith) in
          rw (get_or-take i cs k c h) at (All-from_recursion (HoldsAt m row) (take i cs) b.before k c short)

  -- where every rule holds, none is broken
  broken_apart : {i d : ℕ} → AllByRecursion (HoldsAt m row) cs → FirstBroken m cs row i d → ⊥
  broken_apart {i} held b = broken_fails b (λ c. All-from_recursion (HoldsAt m row) cs held i c b.there)

  broken_once : {i j d e : ℕ} → FirstBroken m cs row i d → FirstBroken m cs row j e → Broken i d ≡ Broken j e
  broken_once {i} {j} b c =
      let same : i ≡ j = first_once (broken_first b) (broken_first c) in
      let rules = get_or_default cs i b.rule c.rule b.there in
      cc

module _ {m : Meaning} {cs : List Clause} {n : ℕ} {row : List ℕ} where
  -- there is one number of rounds, so after any r rounds s is the first statement whose degree differs
  unsupported_first : {s d r : ℕ} → FirstUnsupported m cs n row s d → Rounds m cs n row r → First (λ k. at (raised m cs n row r) k ≡ at row k) s
  unsupported_first u rounds =
      let same = rounds_unique u.rounds rounds in
      record { fails = λ e. u.differs (cc); before = λ k h. let earlier = u.before k h in cc }

  -- a scene supports every statement
  unsupported_apart : {r s d : ℕ} → SceneAfter m cs n row r → FirstUnsupported m cs n row s d → ⊥
  unsupported_apart {s = s} scene u = (unsupported_first u scene.rounds).fails (ap (λ x. at x s) scene.least)

  unsupported_once : {s t d e : ℕ} → FirstUnsupported m cs n row s d → FirstUnsupported m cs n row t e → Unsupported s d ≡ Unsupported t e
  unsupported_once {s} {t} u v =
      let rounds = rounds_unique u.rounds v.rounds in
      let same : s ≡ t = first_once (unsupported_first u v.rounds) (unsupported_first v v.rounds) in
      cc

module _ {m : Meaning} (laws : Laws m) (n : ℕ) (cs : List Clause) (lawful : AllByRecursion (Lawful m.levels n) cs) where
  -- a scene breaks no rule
  scene_apart : {row : List ℕ} {r i d : ℕ} → Setting m n row → SceneAfter m cs n row r → FirstBroken m cs row i d → ⊥
  scene_apart setting scene b =
      broken_apart (scene_holds laws n cs (all_within m.levels n cs lawful) setting scene) b

  -- a setting has one verdict
  pub judged_once : {row : List ℕ} → Setting m n row → (v w : Verdict) → Judged m cs n row v → Judged m cs n row w → v ≡ w
  judged_once setting (Scene r) (Scene q) x y = ap Scene (rounds_unique x.rounds y.rounds)
  judged_once setting (Scene r) (Broken i d) x y = absurd (scene_apart setting x y)
  judged_once setting (Scene r) (Unsupported s d) x y = absurd (unsupported_apart x y)
  judged_once setting (Broken i d) (Scene r) x y = absurd (scene_apart setting y x)
  judged_once setting (Broken i d) (Broken j e) x y = broken_once x y
  judged_once setting (Broken i d) (Unsupported s e) x y = absurd (broken_apart y.satisfied x)
  judged_once setting (Unsupported s d) (Scene r) x y = absurd (unsupported_apart y x)
  judged_once setting (Unsupported s d) (Broken i e) x y = absurd (broken_apart x.satisfied y)
  judged_once setting (Unsupported s d) (Unsupported t e) x y = unsupported_once x y

-- no scene from `start` on has position k
abbrev Vacant : Meaning → List Clause → ℕ → ℕ → ℕ → Type 0
Vacant m cs n start k = start ≤ k → (row : List ℕ) → Setting m n row → position m.levels row ≡ k → (r : ℕ) → SceneAfter m cs n row r → ⊥

module _ (m : Meaning) (n : ℕ) (cs : List Clause) (start : ℕ) where
  vacant_before : (end : ℕ) → NoSceneBetween m cs n start end → (k : ℕ) → k < end → Vacant m cs n start k
  vacant_before end none k h from row setting place r scene = none row setting (omega arith) (omega arith) (r, scene)

  scene_fails : {row : List ℕ} {p r : ℕ} → FirstScene m cs n start row p r → Vacant m cs n start p → ⊥
  scene_fails {row} {r = r} f vacant = vacant f.from row f.setting f.place r f.scene

  scene_first : {row : List ℕ} {p r : ℕ} → FirstScene m cs n start row p r → First (Vacant m cs n start) p
  scene_first {p = p} f = record { fails = scene_fails f; before = vacant_before p f.before }

  -- every position is below levels ^ n, so a scene that is found is one of those ruled out
  found_apart : {row : List ℕ} {p r : ℕ} → NoSceneBetween m cs n start (m.levels ^ n) → FirstScene m cs n start row p r → ⊥
  found_apart {row} {p} none f =
      let fits : position m.levels row < m.levels ^ n = rw f.setting.long at (position_fits m.levels row f.setting.degrees) in
      scene_fails f (vacant_before (m.levels ^ n) none p (omega arith))

  found_once : {a b : List ℕ} (f g : ℕ × ℕ) → FirstScene m cs n start a f.0 f.1 → FirstScene m cs n start b g.0 g.1 → (Some f ≡ Some g) × (a ≡ b)
  found_once {a} {b} f g x y =
      let same : f.0 ≡ g.0 = first_once (scene_first x) (scene_first y) in
      let rows : a ≡ b = position_apart m.levels a b (cc) x.setting.degrees y.setting.degrees (cc) in
      let rounds : f.1 ≡ g.1 = rounds_unique x.scene.rounds (rw (sym rows) at y.scene.rounds) in
      (ap₂ (λ (p r : ℕ). Some (p, r)) same rounds, rows)

  -- a search has one answer, and leaves one row in its place
  pub sought_once : (before : List ℕ) {a b : List ℕ} (f g : Option (ℕ × ℕ)) → Sought m cs n start before a f → Sought m cs n start before b g → (f ≡ g) × (a ≡ b)
  sought_once before None None x y = (refl, x.0 ∙ sym y.0)
  sought_once before None (Some g) x y = absurd (found_apart x.1 y)
  sought_once before (Some f) None x y = absurd (found_apart y.1 x)
  sought_once before (Some f) (Some g) x y = found_once f g x y
