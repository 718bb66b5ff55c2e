-- The refusal of a run.
use Rattle.std.proofs.Common.{◌≡◌, ℕ, Some, None, Err, Option, Result, arith}
use Rattle.scale.specs.declared.refusal.Refusal.{Refusal}
use Rattle.scale.specs.Causes.{answered, left}
use Rattle.engine.specs.Runs.{Ledgers}

-- a size that is refused refuses the run, which then leaves what there was
pub refused_run : (why : Option Refusal) (e : Refusal) (made before end : Ledgers) → ◌≡◌ {A = Result (Unit {0}) Refusal} (Err e) (answered why tt) → end ≡ left why made before → (why ≡ Some e) × (end ≡ before)
refused_run None e made before end answer changes = let z : ◌≡◌ {A = ℕ} 0 1 = cc in let none : ⊥ = omega arith in elim none [ ]
refused_run (Some why) e made before end answer changes = (cc, changes)
