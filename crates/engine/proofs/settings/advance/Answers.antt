use Rattle.std.proofs.Common.{◌∙◌}
use Rattle.std.proofs.lemmas.List.{length-set}
use Rattle.engine.proofs.Odometer.{carry_spent, carry_on, advanced}
use Rattle.engine.proofs.settings.advance.Goals as goal

pub returns-then-row-statement : goal.returns-then-row-statement
returns-then-row-statement c =
    let spent = carry_spent c.args.levels c.args.row.now c.loop-statement.statement c.loop-statement.row c.loop-statement-test.true c.loop-statement.invariant c.if-row-statement.true in
    advanced c.args.levels c.args.row.now _ (length-set c.loop-statement.row _ _ ∙ c.loop-statement.invariant.long) spent.0 spent.1

pub loop-statement-preserved : goal.loop-statement-preserved
loop-statement-preserved c = carry_on c.args.levels c.args.row.now c.loop-statement.statement c.loop-statement.row c.loop-statement-test.true c.loop-statement.invariant c.if-row-statement.false
