-- The row that is 0 everywhere, at which the search begins.
use Rattle.std.proofs.Common.{◌≡◌, ℕ, zero, suc, ◌<◌, ◌≤◌, take, replicate, sym, refl, subst, arith}
use lib.ListN.{length-replicate}
use Rattle.std.proofs.lemmas.List.{take-replicate}
use Rattle.scale.specs.Meaning.{Meaning}
use Rattle.theory.specs.Position.{position}
use Rattle.theory.specs.Semantics.{at, Setting}
use Rattle.theory.proofs.Raising.{zeros_at}

zeros_position : (levels n : ℕ) → position levels (replicate n 0) ≡ 0
zeros_position levels zero = refl
zeros_position levels (suc n) = let later = zeros_position levels n in omega (arith, later)

-- the first places of a row of 16 zeros stand at position 0, and are a setting where there is a degree
module _ (n : ℕ) (few : n ≤ 16) where
  pub zeros_start : (levels : ℕ) → position levels (take {A = ℕ} n (replicate 16 0)) ≡ 0
  zeros_start levels = rw (take-replicate {X = ℕ} n 16 0 few) (zeros_position levels n)

  pub zeros_setting : (m : Meaning) → 1 ≤ m.levels → Setting m n (take {A = ℕ} n (replicate 16 0))
  zeros_setting m some =
      let degree : (s : ℕ) → at (replicate n 0) s < m.levels = λ s. subst (λ (d : ℕ). d < m.levels) (sym (zeros_at n s)) some in
      let setting : Setting m n (replicate n 0) = record { long = length-replicate n 0; degrees = degree } in
      rw (take-replicate {X = ℕ} n 16 0 few) setting
