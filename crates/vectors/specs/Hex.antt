-- Bytes in hexadecimal: two digits each, the high one first.
use Rattle.std.specs.Prelude.{ℕ, Bool, cond, not, List, None, Option}
use Rattle.std.specs.Char.{is_ascii_uppercase}
use Rattle.std.specs.List.{list_all}
use Rattle.std.specs.Result.{result_ok}
use Rattle.hex.specs.Hex.{decode_of}

-- the decoder takes capital letters for digits too; the files have small ones only
abbrev pub no_capital : ℕ → Bool
no_capital b = not (is_ascii_uppercase b)

-- nothing where they are no digits, or odd
abbrev pub bytes_of : List ℕ → Option (List ℕ)
bytes_of digits = cond (list_all no_capital digits) (result_ok (decode_of digits)) None
