-- What making a scale of some size answers.
use Rattle.std.specs.Prelude.{◌≡◌, ℕ, ◌≤◌, Ok, Err, Result}
use Rattle.scale.specs.declared.refusal.Refusal.{Refusal}
use Rattle.scale.specs.declared.refusal.Refusal.TheVariants.{ScaleSize}

-- A size from 1 to `most` makes a scale of that size; any other is refused as a size.
abbrev pub Made : {S : Type 0} → (S → ℕ) → ℕ → ℕ → Result S Refusal → Type 0
Made size_of most size (Ok s) = (1 ≤ size) × (size ≤ most) × (size_of s ≡ size)
Made size_of most size (Err e) = (1 ≤ size → size ≤ most → ⊥) × (e ≡ ScaleSize)
