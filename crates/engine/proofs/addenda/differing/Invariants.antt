use Rattle.std.proofs.Common.{◌≡◌}
use Rattle.theory.specs.Equivalence.{differing}
use Rattle.engine.proofs.addenda.differing.Given as goal

abbrev pub invariant-loop-s : goal.invariant-loop-s
invariant-loop-s l = l.statements.items ≡ differing l.s l.lower l.upper
