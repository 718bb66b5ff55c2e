use Rattle.std.proofs.Common.{◌≡◌, ◌+◌, ◌++◌, map, length, vec_items}
use Rattle.text.specs.Tokens.{seen, tokens_of}
use Rattle.text.proofs.cutting.cut.Given as goal

-- the tokens so far and those of the rest are the tokens of the line
abbrev pub invariant-loop-rest : goal.invariant-loop-rest
invariant-loop-rest l = (l.offset + length l.rest ≡ l.start + length l.line) × (map seen (vec_items l.tokens) ++ tokens_of l.offset l.rest ≡ tokens_of l.start l.line)

abbrev pub decreases-loop-rest : goal.decreases-loop-rest
decreases-loop-rest l = length l.rest
