use Rattle.std.proofs.Common.{arith}
use Rattle.std.proofs.lemmas.List.{append_assoc}
use Rattle.output.proofs.Numbers.{read_decimal, read_degrees}
use Rattle.output.proofs.lines.Line.text.Goals as goal

pub returns-clause-read_back : goal.returns-clause-read_back
returns-clause-read_back c low = grind (arith, append_assoc, read_decimal, read_degrees)
