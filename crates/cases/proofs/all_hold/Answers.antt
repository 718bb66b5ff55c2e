use Rattle.cases.proofs.Worked.{worked}
use Rattle.cases.proofs.all_hold.Goals as goal

pub returns : goal.returns
returns c = worked
