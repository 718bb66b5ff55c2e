-- A loop over the lines of a text.
use Rattle.std.proofs.Common.{◌≡◌, ℕ, ◌+◌, ◌<◌, Bool, List, [], ◌∷◌, length, get_or, drop, sym, refl, ap, ◌∙◌, ⊎_elim, arith}
use Rattle.std.specs.List.{slice_split, onto_first}
use Rattle.std.proofs.lemmas.Bool.{cond-true, cond-false, cases_Bool}
use Rattle.std.proofs.lemmas.List.{at_drop_more}
use Rattle.std.proofs.lemmas.List.Splits.{length-slice_split}

-- how many bytes some lines take, each with one that ends it
abbrev pub span : {A : Type 0} → List (List A) → ℕ
span [] = 0
span (p ∷ ps) = length p + 1 + span ps

span_onto : {A : Type 0} (x : A) (ps : List (List A)) → 0 < length ps → span (onto_first x ps) ≡ span ps + 1
span_onto x [] h = absurd (omega arith)
span_onto x (p ∷ ps) h = omega arith

pub span_split : {A : Type 0} (p : A → Bool) (xs : List A) → span (slice_split p xs) ≡ length xs + 1
span_split p [] = refl
span_split p (x ∷ xs) =
    let some : 0 < length (slice_split p xs) = omega (arith, length-slice_split p xs) in
    ⊎_elim
    (λ y. ap span (cond-true (p x) ([] ∷ slice_split p xs) (onto_first x (slice_split p xs)) y) ∙ omega (arith, span_split p xs))
    (λ n. ap span (cond-false (p x) ([] ∷ slice_split p xs) (onto_first x (slice_split p xs)) n) ∙ span_onto x (slice_split p xs) some ∙ omega (arith, span_split p xs))
    (cases_Bool (p x))

-- the element at hand, and those after it
pub drop_at : {X : Type 0} (xs : List X) (n : ℕ) (x : X) → n < length xs → x ≡ get_or xs n x → drop n xs ≡ x ∷ drop (n + 1) xs
drop_at xs n x h e = at_drop_more (λ l. l) xs n x h ∙ ap (λ y. y ∷ drop (n + 1) xs) (sym e)
