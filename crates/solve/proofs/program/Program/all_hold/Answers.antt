use Rattle.std.proofs.Common.{rules}
use Rattle.solve.proofs.Findings.{none_broken}
use Rattle.solve.proofs.program.Program.all_hold.Goals as goal

pub returns : goal.returns
returns g c d =
    let p = c.args.self.now in
    none_broken (g.S.Scale.meaning p.scale.now) p.rules.now c.args.row.now c.first_broken.result c.is_none.result (search rules) (c.first_broken.ensures d)
