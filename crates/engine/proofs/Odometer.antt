-- The row of the next position: one degree up, with the carries.
use Rattle.std.proofs.Common.{◌≡◌, ℕ, zero, suc, ◌+◌, ◌-◌, ◌*◌, ◌^◌, ◌<◌, ◌≤◌, List, [], ◌∷◌, length, set, sym, refl, ap, ◌∙◌, subst, ap₂, ⊎_elim, le_of_suc-le-suc, not-suc-le-zero, arith}
use native.Mathlib.Nat.{pow-zero, pow-succ', sub_self}
use Rattle.std.proofs.lemmas.List.{length-set, get_or-set_same, get_or-set_other}
use Rattle.std.proofs.lemmas.Bool.{cases_eq}
use Rattle.engine.specs.Differences.{Advanced}
use Rattle.theory.proofs.Positions.{position_fits}
use Rattle.theory.specs.Position.{position}
use Rattle.theory.specs.Semantics.{at}

shift : (b p q r t : ℕ) → p + q ≡ r + t → (b + p) + q ≡ (b + r) + t
shift b p q r t e = omega arith

-- another degree at place s moves the position by the difference, in units of that place
pub position_set : (levels : ℕ) (row : List ℕ) (s x : ℕ) → s < length row → position levels (set row s x) + at row s * levels ^ (length row - suc s) ≡ position levels row + x * levels ^ (length row - suc s)
position_set levels [] s x h = absurd (not-suc-le-zero h)
position_set levels (d ∷ ds) zero x h =
    let unit : levels ^ (suc (length ds) - 1) ≡ levels ^ length ds = ap (λ (k : ℕ). levels ^ k) (omega arith) in
    rw unit (omega arith)
position_set levels (d ∷ ds) (suc s) x h =
    let later = position_set levels ds s x (le_of_suc-le-suc h) in
    let places : suc (length ds) - suc (suc s) ≡ length ds - suc s = omega arith in
    ap₂ (λ (k j : ℕ). (d * levels ^ k + position levels (set ds s x)) + at ds s * levels ^ j) (length-set ds s x) places ∙ shift (d * levels ^ length ds) (position levels (set ds s x)) (at ds s * levels ^ (length ds - suc s)) (position levels ds) (x * levels ^ (length ds - suc s)) later ∙ ap (λ (j : ℕ). (d * levels ^ length ds + position levels ds) + x * levels ^ j) (sym places)

-- From place t on the row's degrees were the top and are 0 now; a carry of one unit of that place is still to be added.
pub record Carrying (levels : ℕ) (before : List ℕ) (t : ℕ) (row : List ℕ) : Type 0 where
  pub within : t ≤ length row
  pub long : length row ≡ length before
  pub carry : position levels row + levels ^ (length row - t) ≡ position levels before + 1
  pub degrees : (s : ℕ) → at row s < levels

-- another degree at one place keeps a row's degrees
set_degrees : (levels s x : ℕ) (row : List ℕ) → s < length row → x < levels → ((k : ℕ) → at row k < levels) → (k : ℕ) → at (set row s x) k < levels
set_degrees levels s x row h small all k =
    ⊎_elim (λ e. subst (λ (j : ℕ). at (set row s x) j < levels) (sym e) (subst (λ (y : ℕ). y < levels) (sym (get_or-set_same row s x 0 h)) small))
    (λ ne. subst (λ (y : ℕ). y < levels) (sym (get_or-set_other row s k x 0 ne)) (all k))
    (cases_eq k s)

carried : (p q d u levels total : ℕ) → p + d * u ≡ q + 0 * u → d + 1 ≡ levels → q + u ≡ total → p + levels * u ≡ total
carried p q d u levels total e top f = subst (λ (k : ℕ). p + k * u ≡ total) top (omega (arith, e, f))

module _ (levels : ℕ) (before : List ℕ) (t : ℕ) (row : List ℕ) (more : 0 < t) (c : Carrying levels before t row) where
  -- the place at hand, and its unit
  here : t - 1 < length row
  here = omega (arith, c.within)

  unit : levels ^ (length row - suc (t - 1)) ≡ levels ^ (length row - t)
  unit = ap (λ (k : ℕ). levels ^ k) (omega (arith, c.within))

  -- the degree at hand goes up by one, and the carry is spent
  pub carry_spent : at row (t - 1) + 1 < levels → (position levels (set row (t - 1) (at row (t - 1) + 1)) ≡ position levels before + 1) × ((k : ℕ) → at (set row (t - 1) (at row (t - 1) + 1)) k < levels)
  carry_spent room =
      let moved = position_set levels row (t - 1) (at row (t - 1) + 1) here in
      (add_up (position levels (set row (t - 1) (at row (t - 1) + 1))) (position levels row) (at row (t - 1)) (levels ^ (length row - suc (t - 1))) (position levels before + 1) moved (ap (λ (k : ℕ). position levels row + k) unit ∙ c.carry), set_degrees levels (t - 1) (at row (t - 1) + 1) row here room c.degrees)
    where
      add_up : (p q d u total : ℕ) → p + d * u ≡ q + (d + 1) * u → q + u ≡ total → p ≡ total
      add_up p q d u total e f = omega arith

  -- the degree at hand was the top: it becomes 0, and the carry goes on
  pub carry_on : levels ≤ at row (t - 1) + 1 → Carrying levels before (t - 1) (set row (t - 1) 0)
  carry_on full =
      let size = length-set row (t - 1) 0 in
      let moved = position_set levels row (t - 1) 0 here in
      let top : at row (t - 1) + 1 ≡ levels = omega (arith, c.degrees (t - 1)) in
      let one_more : length (set row (t - 1) 0) - (t - 1) ≡ suc (length row - t) = omega (arith, size, c.within) in
      record {
        within = omega (arith, size, here);
        long = size ∙ c.long;
        carry =
            ap (λ (k : ℕ). position levels (set row (t - 1) 0) + levels ^ k) one_more
            ∙ ap (λ (k : ℕ). position levels (set row (t - 1) 0) + k) (pow-succ' levels (length row - t))
            ∙ carried (position levels (set row (t - 1) 0)) (position levels row) (at row (t - 1)) (levels ^ (length row - t)) levels (position levels before + 1) (subst (λ (u : ℕ). position levels (set row (t - 1) 0) + at row (t - 1) * u ≡ position levels row + 0 * u) unit moved) top c.carry;
        degrees = set_degrees levels (t - 1) 0 row here (omega (arith, top)) c.degrees;
      }

-- a row at the next position is no wrap
pub advanced : (levels : ℕ) (before after : List ℕ) → length after ≡ length before → position levels after ≡ position levels before + 1 → ((k : ℕ) → at after k < levels) → Advanced levels before after
advanced levels before after long next small = record {
  degrees = small;
  next = λ h. next;
  wrap = λ e. absurd (past (subst (λ (k : ℕ). position levels after < levels ^ k) long (position_fits levels after small)) e);
}
  where
    past : position levels after < levels ^ length before → position levels before + 1 ≡ levels ^ length before → ⊥
    past small e = omega (arith, next)
