use Rattle.std.proofs.Common.{◌<◌, length, sym, ap, ◌∙◌, ◌∷◌, [], ◌++◌, List, ℕ, lit<, arith}
use Rattle.engine.proofs.Writing.{differing_here, differing_past, differing_few}
use Rattle.engine.proofs.addenda.differing.Goals as goal
use Rattle.engine.proofs.addenda.differing.Goals.{then-degree-upper, else-degree-upper}

pub push-requires : goal.push-requires
push-requires c =
    let few = differing_few c.args.lower.now c.args.upper.now c.loop-s.s in
    let room : length c.loop-s.statements.items < 16 = omega (arith, ap length c.loop-s.invariant) in
    (lit< tt, room)

pub loop-s-preserved : goal.loop-s-preserved
loop-s-preserved c =
    let lower = c.args.lower.now in
    let upper = c.args.upper.now in
    elim c.if-degree-upper.branch [
      | then-degree-upper w ↦ rw w.statements-is (w.push.ensures.items ∙ ap (λ (ts : List ℕ). ts ++ c.loop-s.s ∷ []) c.loop-s.invariant ∙ sym (differing_here lower upper c.loop-s.s w.if-degree-upper.true))
      | else-degree-upper w ↦ rw w.statements-is (c.loop-s.invariant ∙ sym (differing_past lower upper c.loop-s.s w.if-degree-upper.false))
    ]
