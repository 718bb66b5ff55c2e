use Rattle.std.proofs.Common.{length, None}
use Rattle.std.specs.Fn.{FnReturnsAt}
use Rattle.engine.proofs.Passing.{Sweep}
use Rattle.engine.proofs.settings.first_answer.Given as goal

abbrev pub invariant-loop : goal.invariant-loop
invariant-loop g l = Sweep l.levels (length l.initial.row) l.counter (λ row. FnReturnsAt g.F.Fn l.test row None) l.row
