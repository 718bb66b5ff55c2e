use Rattle.std.proofs.Common.{sym, subst, arith}
use Rattle.theory.specs.Semantics.{Setting}
use Rattle.theory.proofs.Raising.{raised_setting}
use Rattle.solve.specs.Programs.{meaning_of, clauses_of}
use Rattle.solve.proofs.Programs.{program_laws, program_within}
use Rattle.solve.proofs.Rounds.{goes_on, few_rounds}
use Rattle.solve.proofs.program.Program.least_model.Goals as goal

pub raise-requires-clause-lower : goal.raise-requires-clause-lower
raise-requires-clause-lower g c =
    let p = c.args.self.now in
    let row = raised_setting (program_laws p g.met.S.Scale.lawful) p.statements (clauses_of p) (program_within p) c.args.upper.now c.requires.upper.degrees c.loop-next.rounds in
    subst (Setting (meaning_of p) p.statements) (sym c.loop-next.invariant.1) row

pub overflow_add-rounds : goal.overflow_add-rounds
overflow_add-rounds g c =
    let p = c.args.self.now in
    let laws = program_laws p g.met.S.Scale.lawful in
    let more = goes_on laws p.statements (clauses_of p) (program_within p) c.args.upper.now c.requires.upper.degrees c.loop-next.rounds c.loop-next.invariant.2 c.loop-next.invariant.1 c.raise.ensures c.if-eq.ensures in
    omega (arith, more, few_rounds laws p.statements p.few)

pub loop-next-smaller : goal.loop-next-smaller
loop-next-smaller g c =
    let p = c.args.self.now in
    let more = goes_on (program_laws p g.met.S.Scale.lawful) p.statements (clauses_of p) (program_within p) c.args.upper.now c.requires.upper.degrees c.loop-next.rounds c.loop-next.invariant.2 c.loop-next.invariant.1 c.raise.ensures c.if-eq.ensures in
    omega (arith, more)
