-- What a line says, and how it is spelled.
use Rattle.std.specs.Prelude.{◌≡◌, ℕ, Bool, true, false, ◌&&◌, List, [], ◌∷◌, ◌++◌, map, Some, None, vec_items, codes, Option, ◌≢◌}
use Rattle.std.specs.List.{list_all}
use Rattle.text.specs.Bytes.{letter}
use Rattle.text.specs.Tokens.{Spell, word, number, mark}
use Rattle.text.specs.declared.tokens.Mark.TheVariants.{Colon, Comma, Above, Not}
use Rattle.text.specs.declared.sizes.ScaleKind.{ScaleKind}
use Rattle.text.specs.declared.sizes.ScaleKind.TheVariants.{Luk, Godel, Hours}
use Rattle.text.specs.declared.shapes.Term.{Term}
use Rattle.text.specs.declared.shapes.Term.TheVariants.{Plain, Above as Over, Lacking}
use Rattle.text.specs.declared.shapes.Lead.{Lead}
use Rattle.text.specs.declared.shapes.Lead.TheVariants.{Statement, Bound}
use Rattle.text.specs.declared.shapes.Line.{Line}
use Rattle.text.specs.declared.shapes.Line.TheVariants.{Scale, Name, Rule}

-- a literal: how far a statement burns, whether it burns above a degree, or how far it does not burn
pub data Item : Type 0 where
  plain : List ℕ → Item
  over : List ℕ → List ℕ → Item
  lacking : List ℕ → Item

-- what a rule leads to: a statement, by its name, or a bound, by its degree
pub data Front : Type 0 where
  statement : List ℕ → Front
  bound : List ℕ → Front

-- a scale with its size, a name, or a rule with its weight and body; numbers are lists of digits
pub data Content : Type 0 where
  scale : ScaleKind → List ℕ → Content
  name : List ℕ → Content
  rule : Front → List ℕ → List Item → Content

abbrev pub seen_term : Term → Item
seen_term (Plain n) = plain n.now
seen_term (Over n d) = over n.now d.now
seen_term (Lacking n) = lacking n.now

abbrev pub seen_lead : Lead → Front
seen_lead (Statement n) = statement n.now
seen_lead (Bound d) = bound d.now

abbrev pub seen_line : Line → Content
seen_line (Scale k d) = scale k d.now
seen_line (Name n) = name n.now
seen_line (Rule l w body) = rule (seen_lead l) w.now (map seen_term (vec_items body))

-- a name begins with a letter
abbrev pub is_name : List ℕ → Bool
is_name [] = false
is_name (b ∷ bs) = letter b

abbrev pub kind_word : ScaleKind → List ℕ
kind_word Luk = codes "luk"
kind_word Godel = codes "godel"
kind_word Hours = codes "hours"

abbrev pub term_spelled : Item → List Spell
term_spelled (plain n) = word n ∷ []
term_spelled (over n d) = word n ∷ mark Above ∷ number d ∷ []
term_spelled (lacking n) = mark Not ∷ word n ∷ []

-- one literal or more, parted by commas
abbrev pub terms_spelled : Item → List Item → List Spell
terms_spelled t [] = term_spelled t
terms_spelled t (u ∷ us) = term_spelled t ++ mark Comma ∷ terms_spelled u us

-- nothing, or a colon and the literals
abbrev pub body_spelled : List Item → List Spell
body_spelled [] = []
body_spelled (t ∷ ts) = mark Colon ∷ terms_spelled t ts

-- the tokens of a line that says this
abbrev pub spelled : Content → List Spell
spelled (scale k d) = word (codes "scale") ∷ word (kind_word k) ∷ number d ∷ []
spelled (name n) = word (codes "name") ∷ word n ∷ []
spelled (rule (statement n) w body) = word (codes "rule") ∷ number w ∷ word n ∷ body_spelled body
spelled (rule (bound d) w body) = word (codes "bound") ∷ number d ∷ number w ∷ body_spelled body

abbrev pub term_named : Item → Bool
term_named (plain n) = is_name n
term_named (over n d) = is_name n
term_named (lacking n) = is_name n

-- its names are names
abbrev pub named : Content → Bool
named (scale k d) = true
named (name n) = is_name n
named (rule (statement n) w body) = is_name n && list_all term_named body
named (rule (bound d) w body) = list_all term_named body

-- what the tokens of a line say, if they are those of any line
abbrev pub Shaped : List Spell → Option Content → Type 0
Shaped ts None = (l : Content) → named l ≡ true → spelled l ≢ ts
Shaped ts (Some l) = (named l ≡ true) × (spelled l ≡ ts)
