-- The tokens of a line: its longest runs of word bytes, and its marks.
use Rattle.std.specs.Prelude.{ℕ, suc, Bool, true, cond, List, [], ◌∷◌, length, Some, None, Option, nat_le}
use Rattle.std.specs.List.{list_all}
use Rattle.text.specs.Bytes.{digit, wordly, sign_of}
use Rattle.text.specs.declared.tokens.Mark.{Mark}
use Rattle.text.specs.declared.tokens.Token.{Token}
use Rattle.text.specs.declared.tokens.Token.TheVariants.{Word, Number, Mark as Sign}

-- a word of digits is a number
pub data Spell : Type 0 where
  word : List ℕ → Spell
  number : List ℕ → Spell
  mark : Mark → Spell

-- a token, and the offset of its first byte
pub record Tok : Type 0 where
  pub spell : Spell
  pub place : ℕ

abbrev pub token : Spell → ℕ → Tok
token spell place = record { spell = spell; place = place }

-- what a token of the code stands for
abbrev pub said : Token → Spell
said (Word w i) = word w.now
said (Number w i) = number w.now
said (Sign m i) = mark m

abbrev pub place_of : Token → ℕ
place_of (Word w i) = i
place_of (Number w i) = i
place_of (Sign m i) = i

abbrev pub seen : Token → Tok
seen t = token (said t) (place_of t)

abbrev pub run_spell : List ℕ → Spell
run_spell w = cond (list_all digit w) (number w) (word w)

-- what stands in a line: runs of word bytes, marks, and what parts them
pub data Piece : Type 0 where
  run : List ℕ → ℕ → Piece
  sign : Mark → ℕ → Piece
  gap : Piece

-- a word byte at an offset, in front of pieces: it belongs to a run that begins right after it
abbrev pub grown : ℕ → ℕ → List Piece → List Piece
grown i b [] = run (b ∷ []) i ∷ []
grown i b (run w j ∷ ps) = run (b ∷ w) i ∷ ps
grown i b (sign m j ∷ ps) = run (b ∷ []) i ∷ sign m j ∷ ps
grown i b (gap ∷ ps) = run (b ∷ []) i ∷ gap ∷ ps

abbrev pub stopped : ℕ → Option Mark → List Piece → List Piece
stopped i None ps = gap ∷ ps
stopped i (Some m) ps = sign m i ∷ ps

-- the pieces of a line whose first byte has offset i
abbrev pub pieces : ℕ → List ℕ → List Piece
pieces i [] = []
pieces i (b ∷ bs) = cond (wordly b) (grown i b (pieces (suc i) bs)) (stopped i (sign_of b) (pieces (suc i) bs))

-- the pieces that are tokens
abbrev pub tokens_in : List Piece → List Tok
tokens_in [] = []
tokens_in (run w i ∷ ps) = token (run_spell w) i ∷ tokens_in ps
tokens_in (sign m i ∷ ps) = token (mark m) i ∷ tokens_in ps
tokens_in (gap ∷ ps) = tokens_in ps

abbrev pub tokens_of : ℕ → List ℕ → List Tok
tokens_of i bs = tokens_in (pieces i bs)

-- a number has at most three digits
abbrev pub short : Spell → Bool
short (word w) = true
short (number w) = nat_le (length w) 3
short (mark m) = true
