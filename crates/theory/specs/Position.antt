-- The place of a setting among all settings.
use Rattle.std.specs.Prelude.{ℕ, ◌+◌, ◌*◌, ◌^◌, List, [], ◌∷◌, length}

-- The position of a row of degrees: its degrees read as digits in base `levels`, statement 0 the highest.
abbrev pub position : ℕ → List ℕ → ℕ
position levels [] = 0
position levels (d ∷ ds) = d * levels ^ length ds + position levels ds
