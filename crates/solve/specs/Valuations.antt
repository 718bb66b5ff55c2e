-- The rows at which rules are valued.
use Rattle.std.specs.Prelude.{ℕ}
use Rattle.scale.specs.Meaning.{Meaning}
use Rattle.theory.specs.Semantics.{at}
use Rattle.solve.specs.Ready.{Degrees}
use Rattle.solve.specs.declared.values.Valuation.{Valuation}

abbrev pub lower_of : {S : Type 0} → Valuation S → ℕ → ℕ
lower_of v = at v.lower.now

abbrev pub upper_of : {S : Type 0} → Valuation S → ℕ → ℕ
upper_of v = at v.upper.now

-- both rows have degrees of the scale only
abbrev pub Valued : {S : Type 0} → Meaning → Valuation S → Type 0
Valued m v = Degrees m v.lower.now × Degrees m v.upper.now
