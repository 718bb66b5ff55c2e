use Rattle.engine.proofs.Odometer.{Carrying}
use Rattle.engine.proofs.settings.advance.Given as goal

abbrev pub invariant-loop-statement : goal.invariant-loop-statement
invariant-loop-statement l = Carrying l.levels l.initial.row l.statement l.row
