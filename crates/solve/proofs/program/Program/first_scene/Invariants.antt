use Rattle.solve.specs.Programs.{meaning_of, clauses_of, statements_of}
use Rattle.solve.specs.Searches.{NoSceneBetween}
use Rattle.solve.proofs.program.Program.first_scene.Given as goal

abbrev pub invariant-loop-position : goal.invariant-loop-position
invariant-loop-position g l = NoSceneBetween (meaning_of l.self) (clauses_of l.self) (statements_of l.self) l.start l.position
