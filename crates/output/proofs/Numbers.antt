-- The numbers in a line are read back.
use Rattle.std.proofs.Common.{◌≡◌, ℕ, ◌+◌, ◌^◌, ◌<◌, true, List, [], ◌∷◌, ◌++◌, Some, None, codes, decimal, refl, arith}
use Rattle.std.specs.Char.{is_ascii_digit}
use Rattle.std.proofs.lemmas.Fmt.{decimal_by_steps}
use Rattle.std.proofs.lemmas.List.{append_assoc}
use Rattle.output.specs.Reading.{numbers_after}
use Rattle.output.specs.Spelling.{spaced}
use Rattle.output.specs.Writing.{all_degrees}

digit_tells : (d : ℕ) → d < 10 → is_ascii_digit (48 + d) ≡ true
digit_tells d small = grind arith

-- a number's digits are read as that number
pub read_decimal : (n : ℕ) → n < 2 ^ 64 → (rest : List ℕ) → numbers_after None (decimal n ++ rest) ≡ numbers_after (Some n) rest
read_decimal =
    decimal_by_steps (λ n ds. (rest : List ℕ) → numbers_after None (ds ++ rest) ≡ numbers_after (Some n) rest)
    (λ n small rest. grind (arith, digit_tells))
    (λ n ds large front rest. grind (arith, append_assoc, front, digit_tells))

pub read_degrees : (n : ℕ) (ds : List ℕ) → all_degrees ds ≡ true → numbers_after (Some n) (spaced ds ++ codes "\n") ≡ n ∷ ds
read_degrees n [] e = refl
read_degrees n (d ∷ ds) e = grind (arith, append_assoc, read_decimal, read_degrees d ds)
