-- The shape of a line worked out token by token.
use Rattle.std.specs.Prelude.{ℕ, Bool, false, cond, List, [], ◌∷◌, Some, None, codes, Option, ◌==◌}
use Rattle.std.specs.List.{slice_split}
use Rattle.std.specs.Option.{option_map, option_and_then}
use Rattle.std.specs.Str.{bytes_eq}
use Rattle.text.specs.Bytes.{mark_byte}
use Rattle.text.specs.Lists.{traversed}
use Rattle.text.specs.Shapes.{Item, plain, over, lacking, Front, statement, bound, Content, scale, name, rule, is_name}
use Rattle.text.specs.Tokens.{Spell, word, number, mark}
use Rattle.text.specs.declared.tokens.Mark.{Mark}
use Rattle.text.specs.declared.tokens.Mark.TheVariants.{Colon, Comma, Above, Not}
use Rattle.text.specs.declared.sizes.ScaleKind.{ScaleKind}
use Rattle.text.specs.declared.sizes.ScaleKind.TheVariants.{Luk, Godel, Hours}

-- whether it is this mark
abbrev pub is_mark : Mark → Spell → Bool
is_mark m (word w) = false
is_mark m (number w) = false
is_mark m (mark k) = mark_byte k == mark_byte m

abbrev pub name_of : Spell → Option (List ℕ)
name_of (word w) = cond (is_name w) (Some w) None
name_of (number w) = None
name_of (mark m) = None

abbrev pub number_of : Spell → Option (List ℕ)
number_of (word w) = None
number_of (number w) = Some w
number_of (mark m) = None

-- the kind of scale that a word names
abbrev pub worded : List ℕ → Option ScaleKind
worded w =
    cond (bytes_eq w (codes "luk")) (Some Luk) (cond (bytes_eq w (codes "godel")) (Some Godel) (cond (bytes_eq w (codes "hours")) (Some Hours) None))

abbrev pub kind_of : Spell → Option ScaleKind
kind_of (word w) = worded w
kind_of (number w) = None
kind_of (mark m) = None

abbrev pub term_of : List Spell → Option Item
term_of [] = None
term_of (a ∷ []) = option_map plain (name_of a)
term_of (a ∷ b ∷ []) = cond (is_mark Not a) (option_map lacking (name_of b)) None
term_of (a ∷ b ∷ c ∷ []) =
    cond (is_mark Above b) (option_and_then (λ n. option_map (over n) (number_of c)) (name_of a)) None
term_of (a ∷ b ∷ c ∷ d ∷ ts) = None

abbrev pub terms_of : List Spell → Option (List Item)
terms_of ts = traversed term_of (slice_split (is_mark Comma) ts)

abbrev pub body_of : List Spell → Option (List Item)
body_of [] = Some []
body_of (t ∷ ts) = cond (is_mark Colon t) (terms_of ts) None

abbrev pub scale_line_of : List Spell → Option Content
scale_line_of [] = None
scale_line_of (a ∷ []) = None
scale_line_of (a ∷ b ∷ []) = option_and_then (λ k. option_map (scale k) (number_of b)) (kind_of a)
scale_line_of (a ∷ b ∷ c ∷ ts) = None

abbrev pub name_line_of : List Spell → Option Content
name_line_of [] = None
name_line_of (a ∷ []) = option_map name (name_of a)
name_line_of (a ∷ b ∷ ts) = None

-- a rule, where its front, its weight and its body are all there
abbrev pub rule_with : Option Front → Option (List ℕ) → List Spell → Option Content
rule_with front weight body = option_and_then (λ f. option_and_then (λ w. option_map (rule f w) (body_of body)) weight) front

abbrev pub rule_line_of : List Spell → Option Content
rule_line_of [] = None
rule_line_of (a ∷ []) = None
rule_line_of (a ∷ b ∷ ts) = rule_with (option_map statement (name_of b)) (number_of a) ts

abbrev pub bound_line_of : List Spell → Option Content
bound_line_of [] = None
bound_line_of (a ∷ []) = None
bound_line_of (a ∷ b ∷ ts) = rule_with (option_map bound (number_of a)) (number_of b) ts

-- what a line says that begins with a word
abbrev pub line_by : List ℕ → List Spell → Option Content
line_by w ts =
    cond (bytes_eq w (codes "scale")) (scale_line_of ts) (cond (bytes_eq w (codes "name")) (name_line_of ts) (cond (bytes_eq w (codes "rule")) (rule_line_of ts) (cond (bytes_eq w (codes "bound")) (bound_line_of ts) None)))

abbrev pub line_of : List Spell → Option Content
line_of [] = None
line_of (word w ∷ ts) = line_by w ts
line_of (number w ∷ ts) = None
line_of (mark m ∷ ts) = None
