-- What holds of every element of a list: over joined lists, maps, filters and countings.
use Rattle.std.proofs.Common.{◌≡◌, ℕ, zero, suc, ◌+◌, ◌<◌, ◌≤◌, Bool, true, false, cond, ◌⊎◌, List, [], ◌∷◌, ◌++◌, map, filter, refl, subst, inl, inr, arith}
use Rattle.std.specs.List.{range_with_len}
use Rattle.std.proofs.lemmas.Bool.{cases_eq, false≢true}
use Rattle.theory.specs.Semantics.{AllByRecursion}

module _ {A : Type 0} (P : A → Type 0) where
  pub all_append : (xs ys : List A) → AllByRecursion P xs → AllByRecursion P ys → AllByRecursion P (xs ++ ys)
  all_append [] ys h k = k
  all_append (x ∷ xs) ys h k = (h.0, all_append xs ys h.1 k)

  pub all_left : (xs ys : List A) → AllByRecursion P (xs ++ ys) → AllByRecursion P xs
  all_left [] ys h = tt
  all_left (x ∷ xs) ys h = (h.0, all_left xs ys h.1)

  pub all_right : (xs ys : List A) → AllByRecursion P (xs ++ ys) → AllByRecursion P ys
  all_right [] ys h = h
  all_right (x ∷ xs) ys h = all_right xs ys h.1

  -- what is decided of each element is decided of all
  pub all_or_not : ((x : A) → P x ⊎ (P x → ⊥)) → (xs : List A) → AllByRecursion P xs ⊎ (AllByRecursion P xs → ⊥)
  all_or_not decide [] = inl tt
  all_or_not decide (x ∷ xs) =
      elim (decide x) [
        | inl here ↦ elim (all_or_not decide xs) [ inl rest ↦ inl (here, rest) | inr broken ↦ inr (λ h. broken h.1) ]
        | inr broken ↦ inr (λ h. broken h.0)
      ]

  pub all_to_map : {B : Type 0} (f : B → A) (xs : List B) → AllByRecursion (λ x. P (f x)) xs → AllByRecursion P (map f xs)
  all_to_map f [] h = tt
  all_to_map f (x ∷ xs) h = (h.0, all_to_map f xs h.1)

  pub all_from_map : {B : Type 0} (f : B → A) (xs : List B) → AllByRecursion P (map f xs) → AllByRecursion (λ x. P (f x)) xs
  all_from_map f [] h = tt
  all_from_map f (x ∷ xs) h = (h.0, all_from_map f xs h.1)

  -- a filter's step
  to_kept : (b : Bool) (x : A) (xs : List A) → (b ≡ true → P x) → AllByRecursion P xs → AllByRecursion P (cond b (x ∷ xs) xs)
  to_kept true x xs h k = (h refl, k)
  to_kept false x xs h k = k

  from_kept : (b : Bool) (x : A) (xs : List A) → AllByRecursion P (cond b (x ∷ xs) xs) → (b ≡ true → P x) × AllByRecursion P xs
  from_kept true x xs h = ((λ e. h.0), h.1)
  from_kept false x xs h = ((λ e. absurd (false≢true e)), h)

  -- all that a test keeps
  pub all_to_kept : (test : A → Bool) (xs : List A) → AllByRecursion (λ x. test x ≡ true → P x) xs → AllByRecursion P (filter test xs)
  all_to_kept test [] h = tt
  all_to_kept test (x ∷ xs) h = to_kept (test x) x (filter test xs) h.0 (all_to_kept test xs h.1)

  pub all_from_kept : (test : A → Bool) (xs : List A) → AllByRecursion P (filter test xs) → AllByRecursion (λ x. test x ≡ true → P x) xs
  all_from_kept test [] h = tt
  all_from_kept test (x ∷ xs) h =
      let parts = from_kept (test x) x (filter test xs) h in
      (parts.0, all_from_kept test xs parts.1)

module _ (P : ℕ → Type 0) where
  pub all_counting : (a n : ℕ) → ((s : ℕ) → s < a + n → P s) → AllByRecursion P (range_with_len a n)
  all_counting a zero f = tt
  all_counting a (suc n) f = (f a (omega arith), all_counting (a + 1) n (λ s h. f s (omega arith)))

  pub each_counted : (a n : ℕ) → AllByRecursion P (range_with_len a n) → (s : ℕ) → a ≤ s → s < a + n → P s
  each_counted a zero h s low high = absurd (omega arith)
  each_counted a (suc n) h s low high =
      elim (cases_eq a s) [ inl e ↦ subst P e h.0 | inr e ↦ each_counted (a + 1) n h.1 s (omega arith) (omega arith) ]
