-- Raising goes on for at most statements × height rounds.
use Rattle.std.proofs.Common.{◌≡◌, ℕ, true, false, suc, ◌-◌, ◌*◌, ◌<◌, ◌≤◌, List, take, replicate, sym, ap, ◌∙◌, ⊎_elim, mul-le-mul, arith}
use native.Mathlib.Nat.{sub-zero}
use Rattle.std.proofs.lemmas.Slice.Eq.{bytes_eq-Decides}
use Rattle.std.specs.Str.{bytes_eq}
use Rattle.std.proofs.lemmas.List.{take-replicate}
use Rattle.std.proofs.lemmas.Bool.{cases_order, true≢false}
use Rattle.scale.specs.Meaning.{Meaning, Laws}
use Rattle.book.specs.Ledger.{Clause}
use Rattle.theory.specs.Semantics.{AllByRecursion, at, raise, raised}
use Rattle.theory.proofs.Ranges.{Within, Degrees}
use Rattle.theory.proofs.Raising.{stands_still}

-- none of the first r raisings stood still
abbrev pub Moving : Meaning → List Clause → ℕ → List ℕ → ℕ → Type 0
Moving m cs n upper r = (k : ℕ) → k < r → raised m cs n upper (suc k) ≡ raised m cs n upper k → ⊥

-- rows that test equal are one row, and rows that do not are two
pub rows_alike : (a b : List ℕ) → true ≡ bytes_eq a b → a ≡ b
rows_alike a b e = (bytes_eq-Decides a b).0 (sym e)

rows_apart : (a b : List ℕ) → false ≡ bytes_eq a b → a ≡ b → ⊥
rows_apart a b e same = true≢false (sym ((bytes_eq-Decides a b).1 same) ∙ sym e)

-- one raising more of what r raisings gave, where none stood still before it and it does not either
module _ {m : Meaning} (laws : Laws m) (n : ℕ) (cs : List Clause) (within : AllByRecursion (Within m.levels n) cs) (upper : List ℕ) (degrees : Degrees m (at upper)) where
  pub goes_on : {lower next : List ℕ} (r : ℕ) → Moving m cs n upper r → lower ≡ raised m cs n upper r → next ≡ raise m cs n upper lower → false ≡ bytes_eq next lower → r < n * m.height
  goes_on {lower} {next} r moving so_far more apart =
      let found = stands_still laws n cs within upper degrees in
      let one_more : next ≡ raised m cs n upper (suc r) = more ∙ ap (raise m cs n upper) so_far in
      let moves : raised m cs n upper (suc r) ≡ raised m cs n upper r → ⊥ = λ e. rows_apart next lower apart (one_more ∙ e ∙ sym so_far) in
      ⊎_elim (λ e. absurd (moves (rw e found.1.still))) (⊎_elim (λ lt. omega (arith, found.2)) (λ gt. absurd (moving found.0 gt found.1.still))) (cases_order r found.0)

-- statements × height is small
pub few_rounds : {m : Meaning} (laws : Laws m) (n : ℕ) → n ≤ 16 → n * m.height ≤ 1008
few_rounds {m} laws n h =
    let low : m.height ≤ 63 = omega (arith, laws.height_bound, laws.levels_most) in
    mul-le-mul h low
