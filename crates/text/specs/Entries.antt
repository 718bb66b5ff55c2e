-- A rule over names, as a rule over the numbers of the statements.
use Rattle.std.specs.Prelude.{ℕ, List, map, Some, vec_items, Option}
use Rattle.std.specs.List.{position}
use Rattle.std.specs.Option.{option_map, option_and_then}
use Rattle.std.specs.Str.{bytes_eq}
use Rattle.book.specs.Ledger.{Clause, clause}
use Rattle.book.specs.declared.rule.Head.{Head}
use Rattle.book.specs.declared.rule.Head.TheVariants.{Statement, Bound}
use Rattle.book.specs.declared.rule.Literal.{Literal}
use Rattle.book.specs.declared.rule.Literal.TheVariants.{Plain, Above, Lacking}
use Rattle.text.specs.Lists.{traversed}
use Rattle.text.specs.Numerals.{capped}
use Rattle.text.specs.Shapes.{Item, plain, over, lacking, Front, statement, bound}
use Rattle.text.specs.declared.drafts.Names.{Names}

abbrev pub names_of : Names → List (List ℕ)
names_of n = map (λ x. x.now) (vec_items n.list)

-- where a name stands in the list of names
abbrev pub index_of : List (List ℕ) → List ℕ → Option ℕ
index_of names n = position (λ m. bytes_eq m n) names

abbrev pub head_of : List (List ℕ) → Front → Option Head
head_of names (statement n) = option_map Statement (index_of names n)
head_of names (bound d) = Some (Bound (capped d))

abbrev pub literal_of : List (List ℕ) → Item → Option Literal
literal_of names (plain n) = option_map Plain (index_of names n)
literal_of names (over n d) = option_map (λ s. Above s (capped d)) (index_of names n)
literal_of names (lacking n) = option_map Lacking (index_of names n)

-- the rule, if all its names are known
abbrev pub rule_of : List (List ℕ) → Front → List ℕ → List Item → Option Clause
rule_of names front weight body =
    option_and_then (λ h. option_map (clause h (capped weight)) (traversed (literal_of names) body)) (head_of names front)
