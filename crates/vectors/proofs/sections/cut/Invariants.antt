use Rattle.std.proofs.Common.{length, vec_items}
use Rattle.vectors.proofs.Cutting.{CutTo}
use Rattle.vectors.proofs.sections.cut.Given as goal

abbrev pub invariant-loop-rest : goal.invariant-loop-rest
invariant-loop-rest l = CutTo l.bytes l.rest (vec_items l.sections)

abbrev pub decreases-loop-rest : goal.decreases-loop-rest
decreases-loop-rest l = length l.rest
