-- A partial function on each element of a list.
use Rattle.std.specs.Prelude.{List, [], ◌∷◌, Some, Option}
use Rattle.std.specs.Option.{option_map, option_and_then}

-- each element's answer, if each has one
abbrev pub traversed : {A B : Type 0} → (A → Option B) → List A → Option (List B)
traversed f [] = Some []
traversed f (x ∷ xs) = option_and_then (λ y. option_map (λ ys. y ∷ ys) (traversed f xs)) (f x)
