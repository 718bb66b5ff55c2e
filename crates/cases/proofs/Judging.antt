-- Deciding the verdict on a setting, and which settings are scenes, by raising until it stands still.
use Rattle.std.proofs.Common.{◌≡◌, ℕ, zero, suc, ◌*◌, ◌<◌, Bool, true, false, cond, not, ◌&&◌, ◌||◌, eqb, ltb, ◌↔◌, List, [], ◌∷◌, length, get_or, replicate, sym, refl, ap, ◌∙◌, subst, inl, inr, arith}
use Rattle.std.specs.List.{ContainsAt}
use Rattle.std.specs.Str.{bytes_eq}
use Rattle.std.proofs.lemmas.Slice.Eq.{bytes_eq-Decides}
use Rattle.std.proofs.lemmas.Bool.{and_parts, and_from, or_cases, or_left, or_right, not-true, both_ways, cases_Bool, cases_eq, eq-eqb, eqb-true, eqb-false, ltb-true, false≢true}
use Rattle.scale.specs.Meaning.{Meaning}
use Rattle.book.specs.Ledger.{Clause}
use Rattle.std.specs.List.{list_all}
use Rattle.book.specs.declared.rule.Head.TheVariants.{Statement, Bound}
use Rattle.theory.specs.Position.{position}
use Rattle.theory.specs.Semantics.{at, Setting, body_value, head_value, holds, raise, raised, Rounds, BoundHolds, SceneAfter, Scene}
use Rattle.theory.proofs.Raising.{rounds_unique}
use Rattle.theory.proofs.Ranges.{by_head}
use Rattle.solve.specs.Verdicts.{FirstBroken, FirstUnsupported, Judged}
use Rattle.solve.specs.declared.judging.Verdict.{Verdict}
use Rattle.solve.specs.declared.judging.Verdict.TheVariants.{Scene as IsScene, Broken, Unsupported}
use Rattle.cases.proofs.Sweeps.{every_decides, every_below, below_passes, every_row, row_passes, agree, agree_same}

-- x stands in a list of numbers
abbrev member : List ℕ → ℕ → Bool
member [] x = false
member (y ∷ ys) x = eqb y x || member ys x

member_has : (ys : List ℕ) (x : ℕ) → member ys x ≡ true → ContainsAt ys x
member_has [] x e = absurd (false≢true e)
member_has (y ∷ ys) x e =
    elim (or_cases (eqb y x) (member ys x) e) [
      | inl here ↦ (0, omega arith, λ d. eqb-true y x here)
      | inr later ↦ let found = member_has ys x later in (suc found.0, omega (arith, found.1), λ d. found.2 d)
    ]

placed : (ys : List ℕ) (x k : ℕ) → k < length ys → ((d : ℕ) → get_or ys k d ≡ x) → member ys x ≡ true
placed [] x k h is = absurd (omega arith)
placed (y ∷ ys) x zero h is = or_left (eqb y x) (member ys x) (eq-eqb y x (is 0))
placed (y ∷ ys) x (suc k) h is = or_right (eqb y x) (member ys x) (placed ys x k (omega arith) is)

has_member : (ys : List ℕ) (x : ℕ) → ContainsAt ys x → member ys x ≡ true
has_member ys x h = placed ys x h.0 h.1 h.2

module _ (m : Meaning) (cs : List Clause) (n : ℕ) (upper : List ℕ) where
  -- Raises `low`, the row after r rounds, until it stands still, at most `fuel` times, and there asks f of the rounds and the row.
  abbrev settled : (ℕ → List ℕ → Bool) → ℕ → ℕ → List ℕ → Bool
  settled f zero r low = false
  settled f (suc fuel) r low =
      let next = raise m cs n upper low in
      cond (bytes_eq next low) (f r low) (settled f fuel (suc r) next)

  -- f passes at the least row, which raising reaches within statements × height rounds
  abbrev at_least_row : (ℕ → List ℕ → Bool) → Bool
  at_least_row f = settled f (suc (n * m.height)) 0 (replicate n 0)

  -- every one of the first r raisings changed the row
  abbrev Moved : ℕ → Type 0
  Moved r = (k : ℕ) → k < r → raised m cs n upper (suc k) ≡ raised m cs n upper k → ⊥

  -- what the test found
  record Settled (f : ℕ → List ℕ → Bool) : Type 0 where
    r : ℕ
    rounds : Rounds m cs n upper r
    passed : f r (raised m cs n upper r) ≡ true

  settles : (f : ℕ → List ℕ → Bool) (fuel r : ℕ) (low : List ℕ) → low ≡ raised m cs n upper r → Moved r → settled f fuel r low ≡ true → Settled f
  settles f zero r low is moved e = absurd (false≢true e)
  settles f (suc fuel) r low is moved e =
      elim (cases_Bool (bytes_eq (raise m cs n upper low) low)) [
        | inl t ↦ record {
          r = r;
          rounds = record { still = ap (raise m cs n upper) (sym is) ∙ (bytes_eq-Decides (raise m cs n upper low) low).0 t ∙ is; first = moved };
          passed = subst (λ x. f r x ≡ true) is (rw t at e);
        }
        | inr t ↦ settles f fuel (suc r) (raise m cs n upper low) (ap (raise m cs n upper) is) (more t) (rw t at e)
      ]
    where
      more : bytes_eq (raise m cs n upper low) low ≡ false → Moved (suc r)
      more t k h same =
          elim (cases_eq k r) [
            | inl p ↦
                let stands : raise m cs n upper low ≡ low = ap (raise m cs n upper) is ∙ subst (λ (j : ℕ). raised m cs n upper (suc j) ≡ raised m cs n upper j) p same ∙ sym is in
                both_ways (bytes_eq (raise m cs n upper low) low) t ((bytes_eq-Decides (raise m cs n upper low) low).1 stands)
            | inr p ↦ moved k (omega arith) same
          ]

  least_row : (f : ℕ → List ℕ → Bool) → at_least_row f ≡ true → Settled f
  least_row f e = settles f (suc (n * m.height)) 0 (replicate n 0) refl (λ k h. absurd (omega arith)) e

module _ (m : Meaning) (cs : List Clause) (n : ℕ) (row : List ℕ) where
  abbrev bound_holds : Clause → Bool
  bound_holds c = elim c.head [ Statement s ↦ true | Bound d ↦ holds m (at row) (at row) c ]

  bound_decides : (c : Clause) → (bound_holds c ≡ true) ↔ BoundHolds m (at row) (at row) c
  bound_decides c =
      by_head (λ k. (bound_holds k ≡ true) ↔ BoundHolds m (at row) (at row) k) c
      (λ s. (λ e. tt, λ h. refl)) (λ d. (λ e. e, λ e. e))

  -- the row is the least one under itself, and the bounds hold there
  abbrev is_scene : List ℕ → Bool
  is_scene low = bytes_eq low row && list_all bound_holds cs

  scene_after : (r : ℕ) → Rounds m cs n row r → (is_scene (raised m cs n row r) ≡ true) ↔ SceneAfter m cs n row r
  scene_after r rounds =
      let low = raised m cs n row r in
      let same = bytes_eq-Decides low row in
      let bounds = every_decides bound_holds bound_decides cs in (
        λ e.
            let parts = and_parts (bytes_eq low row) (list_all bound_holds cs) e in
            record { rounds = rounds; least = same.0 parts.0; bounds = bounds.0 parts.1 },
        λ s. and_from (bytes_eq low row) (list_all bound_holds cs) (same.1 s.least) (bounds.1 s.bounds),
      )

  abbrev is_broken : List Clause → ℕ → ℕ → Bool
  is_broken [] i d = false
  is_broken (c ∷ rest) zero d = not (holds m (at row) (at row) c) && eqb d (m.residuum (body_value m (at row) (at row) c.body) (head_value (at row) c.head))
  is_broken (c ∷ rest) (suc i) d = holds m (at row) (at row) c && is_broken rest i d

  first_broken : (rules : List Clause) (i d : ℕ) → is_broken rules i d ≡ true → FirstBroken m rules row i d
  first_broken [] i d e = absurd (false≢true e)
  first_broken (c ∷ rest) zero d e =
      let parts = and_parts (not (holds m (at row) (at row) c)) _ e in
      record { rule = c; there = omega arith; is = refl; breaks = not-true _ parts.0; before = tt; residuum = eqb-true d _ parts.1 }
  first_broken (c ∷ rest) (suc i) d e =
      let parts = and_parts (holds m (at row) (at row) c) (is_broken rest i d) e in
      let found = first_broken rest i d parts.1 in
      record {
        rule = found.rule;
        there = omega (arith, found.there);
        is = found.is;
        breaks = found.breaks;
        before = (parts.0, found.before);
        residuum = found.residuum;
      }

  abbrev is_unsupported : ℕ → ℕ → List ℕ → Bool
  is_unsupported s d low =
      list_all (holds m (at row) (at row)) cs
      && (ltb s n && (eqb d (at low s) && (not (eqb d (at row s)) && every_below s (λ k. eqb (at low k) (at row k)))))

  unsupported : (s d r : ℕ) → Rounds m cs n row r → is_unsupported s d (raised m cs n row r) ≡ true → FirstUnsupported m cs n row s d
  unsupported s d r rounds e =
      let low = raised m cs n row r in
      let all = and_parts (list_all (holds m (at row) (at row)) cs) _ e in
      let there = and_parts (ltb s n) _ all.1 in
      let degree = and_parts (eqb d (at low s)) _ there.1 in
      let differs = and_parts (not (eqb d (at row s))) _ degree.1 in
      record {
        satisfied = (every_decides (holds m (at row) (at row)) (λ c. (λ h. h, λ h. h)) cs).0 all.0;
        r = r;
        rounds = rounds;
        there = ltb-true s n there.0;
        degree = eqb-true d (at low s) degree.0;
        differs = eqb-false d (at row s) (not-true _ differs.0);
        before = λ k h. eqb-true (at low k) (at row k) (below_passes s _ differs.1 k h);
      }

  abbrev pub is_judged : Verdict → Bool
  is_judged (IsScene r) = at_least_row m cs n row (λ q low. eqb q r && is_scene low)
  is_judged (Broken i d) = is_broken cs i d
  is_judged (Unsupported s d) = at_least_row m cs n row (λ q low. is_unsupported s d low)

  pub judged : (v : Verdict) → is_judged v ≡ true → Judged m cs n row v
  judged (IsScene r) e =
      let found = least_row m cs n row (λ q low. eqb q r && is_scene low) e in
      let parts = and_parts (eqb found.r r) _ found.passed in
      subst (SceneAfter m cs n row) (eqb-true found.r r parts.0) ((scene_after found.r found.rounds).0 parts.1)
  judged (Broken i d) e = first_broken cs i d e
  judged (Unsupported s d) e =
      let found = least_row m cs n row (λ q low. is_unsupported s d low) e in
      unsupported s d found.r found.rounds found.passed

module _ (m : Meaning) (cs : List Clause) (n : ℕ) (positions : List ℕ) where
  -- the row is a scene, or not, as its position is listed
  abbrev as_listed : List ℕ → ℕ → List ℕ → Bool
  as_listed row r low = agree (is_scene m cs n row low) (member positions (position m.levels row))

  abbrev listed : List ℕ → Bool
  listed row = at_least_row m cs n row (as_listed row)

  abbrev pub scenes_listed : Bool
  scenes_listed = every_row m.levels n listed

  pub scenes_exactly : scenes_listed ≡ true → (row : List ℕ) → Setting m n row → Scene m cs n row ↔ ContainsAt positions (position m.levels row)
  scenes_exactly e row setting =
      let place = position m.levels row in
      let found = least_row m cs n row (as_listed row) (row_passes m.levels n listed e row setting.long setting.degrees) in
      let same : is_scene m cs n row (raised m cs n row found.r) ≡ member positions place = agree_same _ _ found.passed in
      let after = scene_after m cs n row found.r found.rounds in (
        λ scene.
            let alike : scene.0 ≡ found.r = rounds_unique scene.1.rounds found.rounds in
            member_has positions place (sym same ∙ after.1 (subst (SceneAfter m cs n row) alike scene.1)),
        λ has. (found.r, after.0 (same ∙ has_member positions place has)),
      )
