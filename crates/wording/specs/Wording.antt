-- A rule as a line of text, with the names of its statements.
use Rattle.std.specs.Prelude.{◌≡◌, ℕ, List, [], ◌∷◌, ◌++◌, map, codes, decimal, slice_index_or}
use Rattle.book.specs.Ledger.{Clause}
use Rattle.book.specs.declared.rule.Head.{Head}
use Rattle.book.specs.declared.rule.Head.TheVariants.{Statement, Bound}
use Rattle.book.specs.declared.rule.Literal.{Literal}
use Rattle.book.specs.declared.rule.Literal.TheVariants.{Plain, Above, Lacking}
use Rattle.wording.specs.declared.rules.Line.{Line}

-- the name of statement s; one that has no name is shown as a question mark
abbrev pub name_of : List (List ℕ) → ℕ → List ℕ
name_of names s = slice_index_or names s (codes "?")

abbrev pub literal_text : List (List ℕ) → Literal → List ℕ
literal_text names (Plain s) = name_of names s
literal_text names (Above s d) = name_of names s ++ (codes " > " ++ decimal d)
literal_text names (Lacking s) = codes "~" ++ name_of names s

-- literals, a comma before each but the first, and before that what `lead` is
abbrev pub literals_text : List (List ℕ) → List ℕ → List Literal → List ℕ
literals_text names lead [] = []
literals_text names lead (x ∷ xs) = lead ++ (literal_text names x ++ literals_text names (codes ", ") xs)

abbrev pub head_text : List (List ℕ) → Head → ℕ → List ℕ
head_text names (Statement s) weight = codes "rule " ++ (decimal weight ++ (codes " " ++ name_of names s))
head_text names (Bound d) weight = codes "bound " ++ (decimal d ++ (codes " " ++ decimal weight))

-- head and weight, and where there are literals a colon and the literals
abbrev pub rule_text : List (List ℕ) → Clause → List ℕ
rule_text names c = head_text names c.head c.weight ++ literals_text names (codes " : ") c.body

-- the names that a line is written with
abbrev pub names_of : Line → List (List ℕ)
names_of l = map (λ x. x.now) l.names.now

-- a text is put at the end of a line
abbrev pub Gains : List ℕ → Line → Line → Type 0
Gains text before after = (names_of after ≡ names_of before) × (after.text.items ≡ before.text.items ++ text)
