-- The names that a text declares, beside what it means.
use Rattle.std.specs.Prelude.{◌≡◌, ℕ, List, Ok, Err, Option, Result}
use Rattle.text.specs.Meaning.{start, after, rows_read}
use Rattle.text.specs.Rows.{lines_of}
use Rattle.text.specs.Shapes.{Content, Shaped}
use Rattle.text.specs.Tokens.{Spell}
use Rattle.text.specs.declared.drafts.ScaleSize.{ScaleSize}
use Rattle.text.specs.declared.faults.ReadFault.{ReadFault}
use Rattle.text.specs.declared.reading.Named.{Named}
use Rattle.text.specs.declared.reading.Reading.{Reading}

-- the names that the lines of a text declare, in their order, where each line is obeyed
abbrev pub names_by : (List Spell → Option Content) → List ℕ → Result (List (List ℕ)) ReadFault
names_by shape text = after (rows_read shape start (lines_of text)) (λ st. Ok st.names)

-- a text declares these names, by any account of which tokens have which shape
pub record Declares (text : List ℕ) (names : List (List ℕ)) : Type 0 where
  pub shape : List Spell → Option Content
  pub shaped : (ts : List Spell) → Shaped ts (shape ts)
  pub is : names_by shape text ≡ Ok names

-- a text declares one list of names
abbrev pub DeclaresOnce : List ℕ → Type 0
DeclaresOnce text = (xs ys : List (List ℕ)) → Declares text xs → Declares text ys → xs ≡ ys

-- what a text says of its scale, with so many names
abbrev pub reading_of : ScaleSize → ℕ → Reading
reading_of s statements = record { kind = s.kind; size = s.size; statements = statements }

abbrev pub less_names : Result Named ReadFault → Result Reading ReadFault
less_names (Ok n) = Ok n.reading
less_names (Err e) = Err e
