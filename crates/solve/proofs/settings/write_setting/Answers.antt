use Rattle.std.proofs.Common.{◌≡◌, ℕ, ◌-◌, ◌/◌, ◌%◌, ◌^◌, ◌<◌, length, set, sym, subst, arith}
use Rattle.solve.proofs.Digits.{Writing, writing_steps, writing_ends}
use Rattle.solve.proofs.settings.write_setting.Goals as goal

pub loop-statement-preserved : goal.loop-statement-preserved
loop-statement-preserved c =
    let t = c.loop-statement.statement in
    let rest = c.loop-statement.rest in
    let step = writing_steps c.args.levels c.args.place t rest c.loop-statement.row c.requires.some c.loop-statement-test.true c.loop-statement.invariant in
    subst (λ (base : ℕ). Writing c.args.levels c.args.place (t - 1) (rest / base) (set c.loop-statement.row (t - 1) (rest % base))) (sym c.from-base.ensures) step

pub returns-clause-position : goal.returns-clause-position
returns-clause-position c =
    let row = c.loop-statement.row in
    let front : c.loop-statement.statement ≡ 0 = omega arith in
    let written = subst (λ (t : ℕ). Writing c.args.levels c.args.place t c.loop-statement.rest row) front c.loop-statement.invariant in
    let small : c.args.place < c.args.levels ^ length row = subst (λ (n : ℕ). c.args.place < c.args.levels ^ n) (sym c.loop-statement.auto.row) c.requires.within in
    writing_ends c.args.levels c.args.place c.loop-statement.rest row small written
