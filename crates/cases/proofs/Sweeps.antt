-- Tests over every element of a list, every number below one, and every row of degrees: passed where each one passes.
use Rattle.std.proofs.Common.{◌≡◌, ℕ, zero, suc, ◌<◌, Bool, true, false, not, ◌&&◌, ◌↔◌, List, [], ◌∷◌, length, refl, ap, inl, inr, arith}
use Rattle.std.proofs.lemmas.Bool.{and_parts, and_from, cases_eq, false≢true}
use Rattle.std.specs.List.{list_all}
use Rattle.theory.specs.Semantics.{at, AllByRecursion}

-- a test that decides of each element what P says decides it of all
pub every_decides : {A : Type 0} {P : A → Type 0} (f : A → Bool) → ((x : A) → (f x ≡ true) ↔ P x) → (xs : List A) → (list_all f xs ≡ true) ↔ AllByRecursion P xs
every_decides f each [] = (λ e. tt, λ h. refl)
every_decides f each (x ∷ xs) =
    let rest = every_decides f each xs in (
      λ e. let parts = and_parts (f x) (list_all f xs) e in ((each x).0 parts.0, rest.0 parts.1),
      λ h. and_from (f x) (list_all f xs) ((each x).1 h.0) (rest.1 h.1),
    )

abbrev pub every_below : ℕ → (ℕ → Bool) → Bool
every_below zero f = true
every_below (suc n) f = f n && every_below n f

pub below_passes : (n : ℕ) (f : ℕ → Bool) → every_below n f ≡ true → (k : ℕ) → k < n → f k ≡ true
below_passes zero f e k h = absurd (omega arith)
below_passes (suc n) f e k h =
    let parts = and_parts (f n) (every_below n f) e in
    elim (cases_eq k n) [ inl same ↦ rw same parts.0 | inr other ↦ below_passes n f parts.1 k (omega arith) ]

below_pass : (n : ℕ) (f : ℕ → Bool) → ((k : ℕ) → k < n → f k ≡ true) → every_below n f ≡ true
below_pass zero f h = refl
below_pass (suc n) f h = and_from (f n) (every_below n f) (h n (omega arith)) (below_pass n f (λ k l. h k (omega arith)))

-- every row of n degrees below levels
abbrev pub every_row : ℕ → ℕ → (List ℕ → Bool) → Bool
every_row levels zero f = f []
every_row levels (suc n) f = every_below levels (λ d. every_row levels n (λ ds. f (d ∷ ds)))

pub row_passes : (levels n : ℕ) (f : List ℕ → Bool) → every_row levels n f ≡ true → (row : List ℕ) → length row ≡ n → ((s : ℕ) → at row s < levels) → f row ≡ true
row_passes levels zero f e [] long fits = e
row_passes levels zero f e (d ∷ ds) long fits = absurd (omega arith)
row_passes levels (suc n) f e [] long fits = absurd (omega arith)
row_passes levels (suc n) f e (d ∷ ds) long fits =
    row_passes levels n (λ xs. f (d ∷ xs)) (below_passes levels _ e d (fits 0)) ds (omega arith) (λ s. fits (suc s))

pub rows_pass : (levels n : ℕ) (f : List ℕ → Bool) → 0 < levels → ((row : List ℕ) → length row ≡ n → ((s : ℕ) → at row s < levels) → f row ≡ true) → every_row levels n f ≡ true
rows_pass levels zero f some h = h [] refl (λ s. some)
rows_pass levels (suc n) f some h =
    below_pass levels _ (λ d low. rows_pass levels n (λ ds. f (d ∷ ds)) some (λ ds long fits. h (d ∷ ds) (ap suc long) (front d low ds fits)))
  where
    front : (d : ℕ) → d < levels → (ds : List ℕ) → ((s : ℕ) → at ds s < levels) → (s : ℕ) → at (d ∷ ds) s < levels
    front d low ds fits zero = low
    front d low ds fits (suc s) = fits s

-- two tests come out alike
abbrev pub agree : Bool → Bool → Bool
agree true y = y
agree false y = not y

pub agree_same : (x y : Bool) → agree x y ≡ true → x ≡ y
agree_same true true e = refl
agree_same true false e = absurd (false≢true e)
agree_same false true e = absurd (false≢true e)
agree_same false false e = refl

pub agree_from : (x y : Bool) → (x ≡ true → y ≡ true) → (y ≡ true → x ≡ true) → agree x y ≡ true
agree_from true y f g = f refl
agree_from false true f g = absurd (false≢true (g refl))
agree_from false false f g = refl
