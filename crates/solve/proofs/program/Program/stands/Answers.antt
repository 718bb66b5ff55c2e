use Rattle.std.proofs.Common.{rules, tests}
use Rattle.std.proofs.lemmas.Iterator.{cases_from_all, YieldsList-from_slice}
use Rattle.std.proofs.lemmas.Iterator.Consumers.{YieldsList-from_enumerate}
use Rattle.solve.specs.Programs.{meaning_of, clauses_of}
use Rattle.solve.proofs.Programs.{program_laws, program_within}
use Rattle.solve.proofs.Raises.{Stands, raise_decided}
use Rattle.solve.proofs.program.Program.stands.Goals as goal

pub returns : goal.returns
returns g c =
    let p = c.args.self.now in
    let m = meaning_of p in
    let row = c.args.row.now in
    let laws = program_laws p g.met.S.Scale.lawful in
    let within = program_within p in
    let Stays = Stands laws p.statements (clauses_of p) within row c.requires in
    let cases = cases_from_all _ _ _ Stays (λ q. Stays q → ⊥) c.all.ensures.ran (YieldsList-from_enumerate (YieldsList-from_slice row cc) c.enumerate.ensures.count) (λ x q k. search (rules, tests)) (λ x q k. search (rules, tests)) in
    raise_decided laws p.statements (clauses_of p) within row c.requires c.all.result cases
