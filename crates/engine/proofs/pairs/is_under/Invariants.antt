use Rattle.std.proofs.Common.{◌≡◌, ℕ, ◌<◌, true}
use Rattle.theory.specs.Semantics.{at}
use Rattle.engine.proofs.pairs.is_under.Given as goal

abbrev pub invariant-loop-statement : goal.invariant-loop-statement
invariant-loop-statement g l = (k : ℕ) → k < l.statement → (g.S.Scale.meaning l.scale).below (at l.lower k) (at l.upper k) ≡ true
