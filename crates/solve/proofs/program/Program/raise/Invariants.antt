use Rattle.std.proofs.Common.{◌≡◌, ℕ, ◌<◌}
use Rattle.theory.specs.Semantics.{at, gain}
use Rattle.solve.specs.Programs.{meaning_of, clauses_of}
use Rattle.solve.proofs.program.Program.raise.Given as goal

abbrev pub invariant-loop-statement : goal.invariant-loop-statement
invariant-loop-statement g l = (k : ℕ) → k < l.statement → at l.next k ≡ gain (meaning_of l.self) (at l.lower) (at l.upper) (clauses_of l.self) k
