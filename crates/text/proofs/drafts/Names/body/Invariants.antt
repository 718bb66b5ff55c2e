use Rattle.std.proofs.Common.{◌≡◌, take, Some, vec_items}
use Rattle.text.specs.Entries.{names_of, literal_of}
use Rattle.text.specs.Lists.{traversed}
use Rattle.text.specs.Shapes.{seen_term}
use Rattle.text.proofs.drafts.Names.body.Given as goal

-- each term so far has a literal
abbrev pub invariant-loop-term : goal.invariant-loop-term
invariant-loop-term l = traversed (λ t. literal_of (names_of l.self) (seen_term t)) (take l.term-index l.terms) ≡ Some (vec_items l.body)
