use Rattle.std.proofs.Common.{◌<◌, length, arith}
use Rattle.engine.proofs.Writing.{facts_more, rest_more}
use Rattle.engine.proofs.addenda.write_facts.Goals as goal

pub loop-s-preserved : goal.loop-s-preserved
loop-s-preserved c =
    let place = c.loop-s.addendum in
    let room : c.loop-s.s < length place = omega arith in
    record {
      written = facts_more c.args.row.now place c.loop-s.s c.fact.result room c.fact.ensures c.loop-s.invariant.written;
      rest = rest_more c.args.addendum.now place c.loop-s.s _ c.loop-s.invariant.rest;
    }
