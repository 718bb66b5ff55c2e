-- The bytes that a line may have, and what each is for.
use Rattle.std.specs.Prelude.{ℕ, Bool, cond, ◌&&◌, ◌||◌, is_some, Some, None, Option, ◌==◌, nat_le}
use Rattle.text.specs.declared.tokens.Mark.{Mark}
use Rattle.text.specs.declared.tokens.Mark.TheVariants.{Colon, Comma, Above, Not}

-- a to z
abbrev pub letter : ℕ → Bool
letter b = nat_le 97 b && nat_le b 122

-- 0 to 9
abbrev pub digit : ℕ → Bool
digit b = nat_le 48 b && nat_le b 57

-- a letter, a digit or the underscore
abbrev pub wordly : ℕ → Bool
wordly b = letter b || (digit b || b == 95)

-- the marks are written : , > and ~
abbrev pub mark_byte : Mark → ℕ
mark_byte Colon = 58
mark_byte Comma = 44
mark_byte Above = 62
mark_byte Not = 126

-- the mark that a byte writes
abbrev pub sign_of : ℕ → Option Mark
sign_of b =
    cond (b == 58) (Some Colon) (cond (b == 44) (Some Comma) (cond (b == 62) (Some Above) (cond (b == 126) (Some Not) None)))

-- a byte of a word, the space, or a mark
abbrev pub allowed : ℕ → Bool
allowed b = wordly b || (b == 32 || is_some (sign_of b))
