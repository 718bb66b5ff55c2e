-- The lines of a text.
use Rattle.std.specs.Prelude.{ℕ, ◌+◌, Bool, List, [], ◌∷◌, length, take, count_by, ◌==◌}
use Rattle.std.specs.List.{slice_split}
use Rattle.text.specs.declared.faults.Place.{Place}

-- byte 10 ends a line
abbrev pub ends_line : ℕ → Bool
ends_line b = b == 10

-- a line: where it is, and its bytes
pub record Row : Type 0 where
  pub place : Place
  pub bytes : List ℕ

abbrev pub at : ℕ → ℕ → Place
at line byte = record { line = line; byte = byte }

abbrev pub row : Place → List ℕ → Row
row place bytes = record { place = place; bytes = bytes }

-- lines that follow each other, the first with number n and offset i
abbrev pub rows : ℕ → ℕ → List (List ℕ) → List Row
rows n i [] = []
rows n i (p ∷ ps) = row (at n i) p ∷ rows (n + 1) (i + length p + 1) ps

abbrev pub lines_of : List ℕ → List Row
lines_of text = rows 1 0 (slice_split ends_line text)

-- the place of a byte: its line is 1 plus the bytes 10 before it
abbrev pub place_at : List ℕ → ℕ → Place
place_at text byte = at (1 + count_by ends_line (take byte text)) byte
