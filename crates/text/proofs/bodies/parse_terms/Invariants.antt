use Rattle.std.proofs.Common.{◌≡◌, map, length, take, Some, vec_items}
use Rattle.std.specs.List.{slice_split}
use Rattle.text.specs.Lists.{traversed}
use Rattle.text.specs.Parsing.{is_mark, term_of}
use Rattle.text.specs.Shapes.{seen_term}
use Rattle.text.specs.Tokens.{said}
use Rattle.text.specs.declared.tokens.Mark.TheVariants.{Comma}
use Rattle.text.proofs.bodies.parse_terms.Given as goal

-- each part so far has a literal
abbrev pub invariant-loop-part : goal.invariant-loop-part
invariant-loop-part l = traversed (λ part. term_of (map said part)) (take (length l.yielded) (slice_split (λ t. is_mark Comma (said t)) l.tokens)) ≡ Some (map seen_term (vec_items l.terms))
