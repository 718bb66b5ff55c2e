use Rattle.std.proofs.Common.{rules, tests}
use Rattle.std.proofs.lemmas.Iterator.{IsFirst-from_position, YieldsList-from_slice}
use Rattle.solve.specs.Verdicts.{HoldsAt}
use Rattle.solve.proofs.Findings.{first_breach}
use Rattle.solve.proofs.Programs.{Passes, Fails, first_lacking}
use Rattle.solve.proofs.program.Program.first_broken.Goals as goal

pub returns : goal.returns
returns g c d =
    let p = c.args.self.now in
    let m = g.S.Scale.meaning p.scale.now in
    let P = HoldsAt m c.args.row.now in
    let cases = IsFirst-from_position _ _ c.position.result (Fails m.levels P) (Passes m.levels P) c.position.ensures.ran (YieldsList-from_slice p.rules.now cc) (λ x q k. search (rules, tests)) (λ x q k. search (rules, tests)) in
    first_breach m p.rules.now c.args.row.now c.position.result (first_lacking m.levels p.statements P p.rules.now p.lawful c.position.result cases)
