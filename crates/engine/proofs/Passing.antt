-- Going through all settings in the order of their positions.
use Rattle.std.proofs.Common.{◌≡◌, ℕ, ◌+◌, ◌^◌, ◌<◌, ◌≤◌, List, length, sym, ap, ◌∙◌, subst, ⊎_elim, arith}
use Rattle.std.proofs.lemmas.Bool.{cases_lt}
use Rattle.scale.specs.Meaning.{Meaning}
use Rattle.book.specs.Ledger.{Clause}
use Rattle.theory.specs.Equivalence.{SamePairs}
use Rattle.theory.specs.Position.{position}
use Rattle.theory.specs.Semantics.{Setting}
use Rattle.theory.proofs.Positions.{position_apart, position_fits}
use Rattle.solve.specs.Ready.{AllBelow}
use Rattle.engine.specs.Differences.{Advanced, Agree}

-- Every row of n degrees before position k has the property T, and this row stands at position k, where there is one.
pub record Sweep (levels n k : ℕ) (T : List ℕ → Type 0) (row : List ℕ) : Type 0 where
  pub long : length row ≡ n
  pub degrees : AllBelow levels row
  pub inside : k < levels ^ n → position levels row ≡ k
  pub passed : (before : List ℕ) → length before ≡ n → AllBelow levels before → position levels before < k → T before

module _ (levels n : ℕ) (T : List ℕ → Type 0) (row : List ℕ) (k : ℕ) (sweep : Sweep levels n k T row) where
  pub sweep_goes_on : (next : List ℕ) → k < levels ^ n → T row → length next ≡ length row → Advanced levels row next → Sweep levels n (k + 1) T next
  sweep_goes_on next h holds same step =
      let now-at = sweep.inside h in
      let whole : levels ^ length row ≡ levels ^ n = ap (λ (j : ℕ). levels ^ j) sweep.long in
      record {
        long = same ∙ sweep.long;
        degrees = step.degrees;
        inside = λ l. step.next (omega (arith, now-at, whole)) ∙ ap (λ (j : ℕ). j + 1) now-at;
        passed = λ other long degrees until.
            ⊎_elim (sweep.passed other long degrees)
            (λ not-before.
            let level : position levels other ≡ position levels row = omega (arith, now-at) in
            subst T (sym (position_apart levels other row (long ∙ sym sweep.long) degrees sweep.degrees level)) holds)
            (cases_lt (position levels other) k);
      }

  pub sweep_ends : levels ^ n ≤ k → (other : List ℕ) → length other ≡ n → AllBelow levels other → T other
  sweep_ends all other long degrees =
      let fits = subst (λ (j : ℕ). position levels other < levels ^ j) long (position_fits levels other degrees) in
      sweep.passed other long degrees (omega arith)

-- every setting before position p has the property
abbrev pub Passed : Meaning → ℕ → ℕ → (List ℕ → Type 0) → Type 0
Passed m n p T = (row : List ℕ) → Setting m n row → position m.levels row < p → T row

-- the row stands at position k, or, past the last one, at the first again
pub record At (m : Meaning) (count k : ℕ) (row : List ℕ) : Type 0 where
  pub inside : k < count → position m.levels row ≡ k
  pub outside : count ≤ k → position m.levels row ≡ 0

pub passed_none : (m : Meaning) (n : ℕ) (T : List ℕ → Type 0) → Passed m n 0 T
passed_none m n T row setting h = absurd (omega (arith, h))

pub at_start : (m : Meaning) (count : ℕ) (row : List ℕ) → position m.levels row ≡ 0 → At m count 0 row
at_start m count row here = record { inside = λ h. here; outside = λ h. here }

-- where both books agree at every upper row, they have the same pairs
pub same_pairs_from : (m : Meaning) (n : ℕ) (first second : List Clause) → ((upper : List ℕ) → Setting m n upper → Agree m n first second upper) → SamePairs m n first second
same_pairs_from m n first second agree lower upper = (
  λ p. let a = agree upper p.there in record { here = p.here; there = p.there; under = p.under; satisfied = a.0.0 p.satisfied; kept = (a.1 p.satisfied lower p.here p.under).0 p.kept },
  λ p. let a = agree upper p.there in let sat = a.0.1 p.satisfied in record { here = p.here; there = p.there; under = p.under; satisfied = sat; kept = (a.1 sat lower p.here p.under).1 p.kept },
)
