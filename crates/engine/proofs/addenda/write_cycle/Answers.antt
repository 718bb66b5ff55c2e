use Rattle.std.proofs.Common.{refl, ap, ◌∙◌}
use Rattle.std.specs.Option.{unwrap_or}
use Rattle.theory.specs.Equivalence.{chain}
use Rattle.engine.proofs.Writing.{last_is}
use Rattle.engine.proofs.addenda.write_cycle.Goals as goal

pub loop-i-init : goal.loop-i-init
loop-i-init c =
    let statements = c.args.statements.now in
    let last = c.unwrap_or-before.ensures ∙ ap (λ o. unwrap_or o 0) (c.copied.ensures ∙ c.last.ensures.value) ∙ last_is 0 statements in
    record { written = ap (λ s. chain c.args.lower.now c.args.upper.now s statements) last; rest = refl }
