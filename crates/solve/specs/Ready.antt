-- What the functions of the solver ask of their rows, and the first difference of two rows.
use Rattle.std.specs.Prelude.{◌≡◌, ℕ, ◌<◌, List, length, Some, None, Option, ◌≢◌}
use Rattle.scale.specs.Meaning.{Meaning}
use Rattle.theory.specs.Semantics.{at}

-- every degree of the row is below a number of levels
abbrev pub AllBelow : ℕ → List ℕ → Type 0
AllBelow levels row = (s : ℕ) → at row s < levels

-- every degree of the row is one of the scale's
abbrev pub Degrees : Meaning → List ℕ → Type 0
Degrees m row = AllBelow m.levels row

-- the first statement at which two rows differ, or that they are the same
abbrev pub FirstDifference : List ℕ → List ℕ → Option ℕ → Type 0
FirstDifference a b None = a ≡ b
FirstDifference a b (Some s) = (s < length a) × (at a s ≢ at b s) × ((k : ℕ) → k < s → at a k ≡ at b k)
