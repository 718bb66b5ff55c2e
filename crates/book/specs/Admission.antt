-- Which rules get a row.
use Rattle.std.specs.Prelude.{◌≡◌, ℕ, true, Some, None, Ok, Err, Result}
use Rattle.scale.specs.declared.refusal.Refusal.{Refusal}
use Rattle.scale.specs.Causes.{first_met}
use Rattle.book.specs.Ledger.{Clause}
use Rattle.book.specs.Calls.{unlawful}
use Rattle.book.specs.Rows.{clause_of, kept}
use Rattle.book.specs.declared.rows.Rule.{Rule}

-- a lawful rule gets a row that stands for it; any other is refused by its first cause
abbrev pub Admitted : ℕ → ℕ → Clause → Result Rule Refusal → Type 0
Admitted levels statements c (Ok row) = (first_met (unlawful levels statements c) ≡ None) × (clause_of row ≡ c) × (kept levels statements row ≡ true)
Admitted levels statements c (Err e) = first_met (unlawful levels statements c) ≡ Some e
