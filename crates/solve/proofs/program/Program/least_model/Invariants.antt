use Rattle.std.proofs.Common.{◌≡◌, ◌-◌, ◌*◌, length}
use Rattle.theory.specs.Semantics.{raised}
use Rattle.solve.specs.Programs.{meaning_of, clauses_of, statements_of}
use Rattle.solve.proofs.Rounds.{Moving}
use Rattle.solve.proofs.program.Program.least_model.Given as goal

abbrev pub invariant-loop-next : goal.invariant-loop-next
invariant-loop-next g l =
    let m = meaning_of l.self in
    let n = statements_of l.self in
    (length l.next ≡ n) × (l.lower ≡ raised m (clauses_of l.self) n l.upper l.rounds) × Moving m (clauses_of l.self) n l.upper l.rounds

abbrev pub decreases-loop-next : goal.decreases-loop-next
decreases-loop-next g l = statements_of l.self * (meaning_of l.self).height - l.rounds
