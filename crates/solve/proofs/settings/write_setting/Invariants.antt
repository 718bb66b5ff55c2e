use Rattle.solve.proofs.Digits.{Writing}
use Rattle.solve.proofs.settings.write_setting.Given as goal

abbrev pub invariant-loop-statement : goal.invariant-loop-statement
invariant-loop-statement l = Writing l.levels l.place l.statement l.rest l.row
