use Rattle.std.proofs.Common.{arith}
use Rattle.solve.specs.Programs.{clauses_of}
use Rattle.solve.proofs.Programs.{program_laws, program_within}
use Rattle.solve.proofs.Raises.{raise_from_gains}
use Rattle.solve.proofs.program.Program.raise.Goals as goal

pub returns : goal.returns
returns g c =
    let p = c.args.self.now in
    let m = g.S.Scale.meaning p.scale.now in
    let laws = program_laws p g.met.S.Scale.lawful in
    let within = program_within p in
    raise_from_gains laws p.statements (clauses_of p) within c.args.upper.now c.args.lower.now c.requires.upper.degrees c.requires.lower.degrees c.loop-statement.next (omega (arith, c.requires.room)) (λ k h. c.loop-statement.invariant k (omega (arith, c.requires.room)))
