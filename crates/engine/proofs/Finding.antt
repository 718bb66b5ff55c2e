-- The lower row that the search has found.
use Rattle.std.proofs.Common.{◌≡◌, ℕ, List, ◌++◌, length, take, Some, sym, ap, ◌∙◌}
use Rattle.std.proofs.Math.Seq.{take-append_seam}
use Rattle.scale.specs.Meaning.{Meaning}
use Rattle.book.specs.Ledger.{Clause}
use Rattle.theory.specs.Semantics.{Setting}
use Rattle.engine.specs.Differences.{KeptBy, LowerFound, UpperFound}
use Rattle.engine.specs.declared.answers.Which.{Which}
use Rattle.engine.specs.declared.answers.Which.TheVariants.{First, Second}
use Rattle.engine.specs.declared.pairs.Difference.TheVariants.{PairOf}

module _ (m : Meaning) (n : ℕ) (upper : List ℕ) (first second : List Clause) where
  -- the lower row stands in the first places of a longer one
  pub lower_found : (book : Which) (row rest : List ℕ) → Setting m n row → KeptBy m row upper first second (Some book) → LowerFound m n upper first second (Some (PairOf book (row ++ rest)))
  lower_found book row rest setting kept = found book kept
    where
      cut : take n (row ++ rest) ≡ row
      cut = ap (λ (j : ℕ). take j (row ++ rest)) (sym setting.long) ∙ take-append_seam row rest

      found : (book : Which) → KeptBy m row upper first second (Some book) → LowerFound m n upper first second (Some (PairOf book (row ++ rest)))
      found First kept = rw cut (setting, kept)
      found Second kept = rw cut (setting, kept)

  pub lower_long : (book : Which) (row : List ℕ) → UpperFound m n upper first second (Some (PairOf book row)) → length (take n row) ≡ n
  lower_long First row found = found.0.here.long
  lower_long Second row found = found.0.here.long
