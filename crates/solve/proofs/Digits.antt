-- The loop that writes a position's digits from the last.
use Rattle.std.proofs.Common.{◌≡◌, ℕ, zero, suc, ◌+◌, ◌-◌, ◌*◌, ◌/◌, ◌%◌, ◌^◌, ◌<◌, ◌≤◌, List, length, drop, set, sym, ap, ◌∙◌, subst, ap₂, ⊎_elim, mod-lt, arith}
use native.Mathlib.Nat.{pow-succ', mod-add-div, sub-zero}
use Rattle.std.proofs.lemmas.List.{drop-set, length-drop, length-set, get_or-set_same, get_or-set_other}
use Rattle.std.proofs.lemmas.Bool.{cases_eq}
use Rattle.theory.specs.Position.{position}
use Rattle.theory.specs.Semantics.{at}

-- a number is its last digit and the rest of its digits, at any unit
split : (digit others levels unit whole : ℕ) → digit + levels * others ≡ whole → digit * unit + others * (levels * unit) ≡ whole * unit
split digit others levels unit whole e = let grown = ap (λ (x : ℕ). x * unit) e in omega arith

-- one digit more, at place s
digit_step : (levels s rest total : ℕ) (row : List ℕ) → s < length row → position levels (drop (s + 1) row) + rest * levels ^ (length row - (s + 1)) ≡ total → position levels (drop s (set row s (rest % levels))) + rest / levels * levels ^ (length row - s) ≡ total
digit_step levels s rest total row h so_far =
    let later = drop (s + 1) row in
    let k = length row - (s + 1) in
    let front : position levels (drop s (set row s (rest % levels))) ≡ rest % levels * levels ^ k + position levels later =
    ap (position levels) (drop-set row s (rest % levels) h) ∙ ap (λ (j : ℕ). rest % levels * levels ^ j + position levels later) (length-drop (s + 1) row) in
    let one_more : length row - s ≡ suc k = omega arith in
    let unit : levels ^ (length row - s) ≡ levels * levels ^ k = ap (λ (j : ℕ). levels ^ j) one_more ∙ pow-succ' levels k in
    let whole = split (rest % levels) (rest / levels) levels (levels ^ k) rest (mod-add-div rest levels) in
    ap₂ (λ (x y : ℕ). x + rest / levels * y) front unit ∙ regroup (rest % levels * levels ^ k) (position levels later) (rest / levels * (levels * levels ^ k)) (rest * levels ^ k) total whole so_far
  where
    regroup : (a b c d e : ℕ) → a + c ≡ d → b + d ≡ e → (a + b) + c ≡ e
    regroup a b c d e p q = omega arith

-- the digits written so far are degrees
degree_step : (levels s x : ℕ) (row : List ℕ) → s < length row → x < levels → ((k : ℕ) → s + 1 ≤ k → at row k < levels) → (k : ℕ) → s ≤ k → at (set row s x) k < levels
degree_step levels s x row h small later k l =
    ⊎_elim (λ e. subst (λ (j : ℕ). at (set row s x) j < levels) (sym e) (subst (λ (y : ℕ). y < levels) (sym (get_or-set_same row s x 0 h)) small))
    (λ ne. subst (λ (y : ℕ). y < levels) (sym (get_or-set_other row s k x 0 ne)) (later k (omega (arith, ne))))
    (cases_eq k s)

-- the digits of `total` are written from place t on, and `rest` has the others
abbrev pub Writing : ℕ → ℕ → ℕ → ℕ → List ℕ → Type 0
Writing levels total t rest row = (t ≤ length row) × (position levels (drop t row) + rest * levels ^ (length row - t) ≡ total) × ((s : ℕ) → t ≤ s → at row s < levels)

pub writing_steps : (levels total t rest : ℕ) (row : List ℕ) → 0 < levels → 0 < t → Writing levels total t rest row → Writing levels total (t - 1) (rest / levels) (set row (t - 1) (rest % levels))
writing_steps levels total t rest row some more w =
    let s = t - 1 in
    let next : t ≡ s + 1 = omega arith in
    let so_far = subst (λ (k : ℕ). Writing levels total k rest row) next w in
    let here : s < length row = omega (arith, so_far.0) in
    let size = length-set row s (rest % levels) in
    (omega (arith, size), ap (λ (k : ℕ). position levels (drop s (set row s (rest % levels))) + rest / levels * levels ^ (k - s)) size ∙ digit_step levels s rest total row here so_far.1, degree_step levels s (rest % levels) row here (mod-lt rest some) so_far.2)

-- at the front nothing is left over
pub writing_ends : (levels total rest : ℕ) (row : List ℕ) → total < levels ^ length row → Writing levels total 0 rest row → position levels row ≡ total
writing_ends levels total zero row h w = omega (arith, w.1)
writing_ends levels total (suc rest) row h w = absurd (over (rw sub-zero at w.1))
  where
    over : position levels row + suc rest * levels ^ length row ≡ total → ⊥
    over e = omega (arith, e)
