-- What a list of digits is worth.
use Rattle.std.specs.Prelude.{ℕ, ◌+◌, ◌-◌, ◌*◌, min, List, fold}

abbrev pub value_of : List ℕ → ℕ
value_of digits = fold (λ v b. v * 10 + (b - 48)) 0 digits

-- a number over 255 is handed on as 255, which every scale and book refuses alike
abbrev pub capped : List ℕ → ℕ
capped digits = min 255 (value_of digits)
