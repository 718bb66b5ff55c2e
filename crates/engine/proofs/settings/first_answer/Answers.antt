use Rattle.std.proofs.Common.{length, None, rules, arith}
use Rattle.std.specs.Fn.{FnReturnsAt}
use Rattle.engine.proofs.Passing.{sweep_goes_on, sweep_ends}
use Rattle.engine.proofs.settings.first_answer.Goals as goal

pub advance-requires : goal.advance-requires
advance-requires g c = (omega (arith, c.loop.invariant.degrees 0), c.loop.invariant.degrees)

pub loop-preserved : goal.loop-preserved
loop-preserved g c =
    let n = length c.args.row.now in
    let none : FnReturnsAt g.F.Fn c.args.test c.loop.row None = search rules in
    sweep_goes_on c.args.levels n (λ row. FnReturnsAt g.F.Fn c.args.test row None) c.loop.row c.loop.counter c.loop.invariant c.advance.new.row (omega arith) none c.advance.auto.row c.advance.ensures

pub returns : goal.returns
returns g c = sweep_ends c.args.levels (length c.args.row.now) (λ row. FnReturnsAt g.F.Fn c.args.test row None) c.loop.row c.loop.counter c.loop.invariant (omega arith)
