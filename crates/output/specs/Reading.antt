-- How the numbers in a line are read back: each longest run of digits is one number.
use Rattle.std.specs.Prelude.{ℕ, ◌+◌, ◌-◌, ◌*◌, cond, List, [], ◌∷◌, Some, None, Option}
use Rattle.std.specs.Char.{is_ascii_digit}

-- the numbers in some bytes, after those digits of the first number that were read already
abbrev pub numbers_after : Option ℕ → List ℕ → List ℕ
numbers_after None [] = []
numbers_after (Some n) [] = n ∷ []
numbers_after None (c ∷ cs) = cond (is_ascii_digit c) (numbers_after (Some (c - 48)) cs) (numbers_after None cs)
numbers_after (Some n) (c ∷ cs) = cond (is_ascii_digit c) (numbers_after (Some (n * 10 + (c - 48))) cs) (n ∷ numbers_after None cs)

abbrev pub numbers_in : List ℕ → List ℕ
numbers_in bytes = numbers_after None bytes
