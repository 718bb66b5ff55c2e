-- A partial function on the elements of a list, as a loop goes through them.
use Rattle.std.proofs.Common.{◌≡◌, ℕ, ◌+◌, ◌<◌, Bool, cond, List, [], ◌∷◌, ◌++◌, map, length, get_or, take, drop, Some, None, Option, sym, refl, ap, ◌∙◌, ⊎_elim}
use Rattle.std.specs.List.{slice_split, onto_first}
use Rattle.std.proofs.lemmas.Bool.{cond-true, cond-false, cases_Bool}
use Rattle.std.specs.Option.{option_map, option_and_then}
use Rattle.std.proofs.lemmas.List.{take-append-drop, take_more, at_drop_more}
use Rattle.text.specs.Lists.{traversed}

pub traversed-map : {A B C : Type 0} (f : B → Option C) (g : A → B) (xs : List A) → traversed f (map g xs) ≡ traversed (λ x. f (g x)) xs
traversed-map f g [] = refl
traversed-map f g (x ∷ xs) = ap (λ o. option_and_then (λ y. option_map (λ ys. y ∷ ys) o) (f (g x))) (traversed-map f g xs)

onto_first-map : {A B : Type 0} (g : A → B) (x : A) (ps : List (List A)) → onto_first (g x) (map (map g) ps) ≡ map (map g) (onto_first x ps)
onto_first-map g x [] = refl
onto_first-map g x (p ∷ ps) = refl

pub slice_split-map : {A B : Type 0} (p : B → Bool) (g : A → B) (xs : List A) → slice_split p (map g xs) ≡ map (map g) (slice_split (λ x. p (g x)) xs)
slice_split-map p g [] = refl
slice_split-map p g (x ∷ xs) =
    ap (λ l. cond (p (g x)) ([] ∷ l) (onto_first (g x) l)) (slice_split-map p g xs) ∙ ⊎_elim
    (λ y. cond-true (p (g x)) _ _ y ∙ sym (ap (map (map g)) (cond-true (p (g x)) _ _ y)))
    (λ n. cond-false (p (g x)) _ _ n ∙ onto_first-map g x (slice_split (λ z. p (g z)) xs) ∙ sym (ap (map (map g)) (cond-false (p (g x)) _ _ n)))
    (cases_Bool (p (g x)))

-- the answers of a front, with those of what follows
abbrev with_front : {B : Type 0} → Option (List B) → Option (List B) → Option (List B)
with_front front rest = option_and_then (λ ys. option_map (λ zs. ys ++ zs) rest) front

traversed-append : {A B : Type 0} (f : A → Option B) (xs zs : List A) → traversed f (xs ++ zs) ≡ with_front (traversed f xs) (traversed f zs)
traversed-append {A} {B} f [] zs = none (traversed f zs)
  where
    none : (o : Option (List B)) → o ≡ with_front (Some []) o
    none None = refl
    none (Some zs) = refl
traversed-append {A} {B} f (x ∷ xs) zs =
    ap (λ o. option_and_then (λ y. option_map (λ ys. y ∷ ys) o) (f x)) (traversed-append f xs zs) ∙ more (f x) (traversed f xs) (traversed f zs)
  where
    more : (a : Option B) (b c : Option (List B)) → option_and_then (λ y. option_map (λ ys. y ∷ ys) (with_front b c)) a ≡ with_front (option_and_then (λ y. option_map (λ ys. y ∷ ys) b) a) c
    more None b c = refl
    more (Some y) None c = refl
    more (Some y) (Some ys) None = refl
    more (Some y) (Some ys) (Some zs) = refl

module _ {A B : Type 0} (f : A → Option B) (xs : List A) (n : ℕ) (d : A) (ys : List B) (inside : n < length xs) (front : traversed f (take n xs) ≡ Some ys) where
  pub traversed_more : (y : B) → f (get_or xs n d) ≡ Some y → traversed f (take (n + 1) xs) ≡ Some (ys ++ y ∷ [])
  traversed_more y e =
      ap (traversed f) (take_more xs n d inside) ∙ traversed-append f (take n xs) (get_or xs n d ∷ []) ∙ ap (λ o. with_front o (traversed f (get_or xs n d ∷ []))) front ∙ ap (λ o. with_front (Some ys) (option_and_then (λ z. Some (z ∷ [])) o)) e

  pub traversed_stop : f (get_or xs n d) ≡ None → traversed f xs ≡ None
  traversed_stop e =
      let here = at_drop_more (traversed f) xs n d inside ∙ ap (option_and_then (λ y. option_map (λ zs. y ∷ zs) (traversed f (drop (n + 1) xs)))) e in
      sym (ap (traversed f) (take-append-drop n xs)) ∙ traversed-append f (take n xs) (drop n xs) ∙ ap (λ o. with_front o (traversed f (drop n xs))) front ∙ ap (with_front (Some ys)) here
