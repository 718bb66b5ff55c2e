-- The sizes that a scale may have, what it means and its levels.
use Rattle.std.specs.Prelude.{ℕ, ◌||◌, [], ◌∷◌, Option, nat_lt}
use Rattle.scale.specs.Causes.{cause, first_met}
use Rattle.scale.specs.Kinds.{luk, godel, hours}
use Rattle.scale.specs.Meaning.{Meaning}
use Rattle.scale.specs.declared.refusal.Refusal.{Refusal}
use Rattle.scale.specs.declared.refusal.Refusal.TheVariants.{ScaleSize}
use Rattle.text.specs.declared.sizes.ScaleKind.{ScaleKind}
use Rattle.text.specs.declared.sizes.ScaleKind.TheVariants.{Luk, Godel, Hours}

abbrev pub largest : ScaleKind → ℕ
largest Luk = 63
largest Godel = 63
largest Hours = 6

abbrev pub meaning_of : ScaleKind → ℕ → Meaning
meaning_of Luk size = luk size
meaning_of Godel size = godel size
meaning_of Hours size = hours size

abbrev pub levels_of : ScaleKind → ℕ → ℕ
levels_of kind size = (meaning_of kind size).levels

abbrev pub size_refusal : ScaleKind → ℕ → Option Refusal
size_refusal kind size = first_met (cause (nat_lt size 1 || nat_lt (largest kind) size) ScaleSize ∷ [])
