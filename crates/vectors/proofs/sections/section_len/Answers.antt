use Rattle.vectors.proofs.Cutting.{first_ends, last_ends}
use Rattle.vectors.proofs.sections.section_len.Goals as goal

pub returns-in-Some : goal.returns-in-Some
returns-in-Some c = first_ends c.args.bytes.now c.in-Some.end c.in-Some.ensures.0.before c.in-Some.ensures.1

pub returns-in-None : goal.returns-in-None
returns-in-None c = last_ends c.args.bytes.now c.requires c.in-None.ensures
