-- Deciding strong equivalence, by the here-and-there pairs of all settings.
use Rattle.std.proofs.Common.{◌≡◌, ℕ, zero, suc, Bool, true, false, ◌&&◌, ◌↔◌, List, [], ◌∷◌, length, sym, refl, ◌∙◌, arith}
use Rattle.std.proofs.lemmas.Bool.{and_parts, and_from, false≢true}
use Rattle.scale.specs.Meaning.{Meaning, Laws}
use Rattle.book.specs.Ledger.{Clause, Lawful}
use Rattle.std.specs.List.{list_all}
use Rattle.book.specs.declared.rule.Head.TheVariants.{Statement, Bound}
use Rattle.theory.specs.AnswerSet.{Under}
use Rattle.theory.specs.Equivalence.{Pair, SamePairs, StronglyEquivalent}
use Rattle.theory.specs.Semantics.{at, AllByRecursion, Setting, holds, StatementHolds}
use Rattle.theory.proofs.Apart.{same_pairs}
use Rattle.theory.proofs.Order.{zero_degree}
use Rattle.theory.proofs.Pairs.{strongly_equivalent}
use Rattle.theory.proofs.Ranges.{by_head}
use Rattle.cases.proofs.Sweeps.{every_decides, every_row, row_passes, rows_pass, agree, agree_same, agree_from}

-- if the first test passes, the second does
abbrev implies : Bool → Bool → Bool
implies true y = y
implies false y = true

implied : (x y : Bool) → implies x y ≡ true → x ≡ true → y ≡ true
implied true y e t = e
implied false y e t = absurd (false≢true t)

implies_from : (x y : Bool) → (x ≡ true → y ≡ true) → implies x y ≡ true
implies_from true y h = h refl
implies_from false y h = refl

module _ (m : Meaning) where
  abbrev is_under : List ℕ → List ℕ → Bool
  is_under [] [] = true
  is_under [] (y ∷ ys) = false
  is_under (x ∷ xs) [] = false
  is_under (x ∷ xs) (y ∷ ys) = m.below x y && is_under xs ys

  under_passes : (lower upper : List ℕ) → length lower ≡ length upper → Under m lower upper → is_under lower upper ≡ true
  under_passes [] [] long under = refl
  under_passes [] (y ∷ ys) long under = absurd (omega arith)
  under_passes (x ∷ xs) [] long under = absurd (omega arith)
  under_passes (x ∷ xs) (y ∷ ys) long under = and_from (m.below x y) (is_under xs ys) (under 0) (under_passes xs ys (omega arith) (λ s. under (suc s)))

  passes_under : m.below 0 0 ≡ true → (lower upper : List ℕ) → is_under lower upper ≡ true → Under m lower upper
  passes_under least [] [] e s = least
  passes_under least [] (y ∷ ys) e s = absurd (false≢true e)
  passes_under least (x ∷ xs) [] e s = absurd (false≢true e)
  passes_under least (x ∷ xs) (y ∷ ys) e zero = (and_parts (m.below x y) (is_under xs ys) e).0
  passes_under least (x ∷ xs) (y ∷ ys) e (suc s) = passes_under least xs ys (and_parts (m.below x y) (is_under xs ys) e).1 s

  module _ (lower upper : List ℕ) where
    abbrev statement_holds : Clause → Bool
    statement_holds c = elim c.head [ Statement s ↦ holds m (at lower) (at upper) c | Bound d ↦ true ]

    statement_decides : (c : Clause) → (statement_holds c ≡ true) ↔ StatementHolds m (at lower) (at upper) c
    statement_decides c =
        by_head (λ k. (statement_holds k ≡ true) ↔ StatementHolds m (at lower) (at upper) k) c
        (λ s. (λ e. e, λ e. e)) (λ d. (λ e. tt, λ h. refl))

    -- of two rows, one under the other, whether they are a pair of the rules
    abbrev is_pair : List Clause → Bool
    is_pair cs = list_all (holds m (at upper) (at upper)) cs && list_all statement_holds cs

    pair_passes : {n : ℕ} (cs : List Clause) → Pair m n cs lower upper → is_pair cs ≡ true
    pair_passes cs p =
        and_from (list_all (holds m (at upper) (at upper)) cs) (list_all statement_holds cs)
        ((every_decides (holds m (at upper) (at upper)) (λ c. (λ h. h, λ h. h)) cs).1 p.satisfied)
        ((every_decides statement_holds statement_decides cs).1 p.kept)

    passes_pair : {n : ℕ} (cs : List Clause) → Setting m n lower → Setting m n upper → Under m lower upper → is_pair cs ≡ true → Pair m n cs lower upper
    passes_pair cs here there under e =
        let parts = and_parts (list_all (holds m (at upper) (at upper)) cs) (list_all statement_holds cs) e in
        record {
          here = here;
          there = there;
          under = under;
          satisfied = (every_decides (holds m (at upper) (at upper)) (λ c. (λ h. h, λ h. h)) cs).0 parts.0;
          kept = (every_decides statement_holds statement_decides cs).0 parts.1;
        }

module _ (m : Meaning) (n : ℕ) (first second : List Clause) where
  abbrev alike : List ℕ → List ℕ → Bool
  alike upper lower = implies (is_under m lower upper) (agree (is_pair m lower upper first) (is_pair m lower upper second))

  -- any two rows, one under the other, are a pair of both lists of rules or of neither
  abbrev pub pairs_alike : Bool
  pairs_alike = every_row m.levels n (λ upper. every_row m.levels n (alike upper))

  -- where the test passes, a pair of any rules tests alike for both
  tested : pairs_alike ≡ true → {cs : List Clause} {lower upper : List ℕ} → Pair m n cs lower upper → is_pair m lower upper first ≡ is_pair m lower upper second
  tested e {lower = lower} {upper = upper} p =
      let each = row_passes m.levels n (λ above. every_row m.levels n (alike above)) e upper p.there.long p.there.degrees in
      let these = row_passes m.levels n (alike upper) each lower p.here.long p.here.degrees in
      agree_same _ _ (implied (is_under m lower upper) _ these (under_passes m lower upper (p.here.long ∙ sym p.there.long) p.under))

  alike_same : pairs_alike ≡ true → SamePairs m n first second
  alike_same e lower upper = (
    λ p. passes_pair m lower upper second p.here p.there p.under (sym (tested e p) ∙ pair_passes m lower upper first p),
    λ p. passes_pair m lower upper first p.here p.there p.under (tested e p ∙ pair_passes m lower upper second p),
  )

  module _ (laws : Laws m) where
    same_alike : SamePairs m n first second → pairs_alike ≡ true
    same_alike same =
        let some = zero_degree laws in
        rows_pass m.levels n _ some (λ upper above-long above. rows_pass m.levels n (alike upper) some (λ lower long fits.
        implies_from (is_under m lower upper) _ (λ passed.
        let under = passes_under m (laws.below_refl 0 some) lower upper passed in
        let here : Setting m n lower = record { long = long; degrees = fits } in
        let there : Setting m n upper = record { long = above-long; degrees = above } in
        agree_from _ _
        (λ e. pair_passes m lower upper second ((same lower upper).0 (passes_pair m lower upper first here there under e)))
        (λ e. pair_passes m lower upper first ((same lower upper).1 (passes_pair m lower upper second here there under e))))))

    pub pairs_decide : AllByRecursion (Lawful m.levels n) first → AllByRecursion (Lawful m.levels n) second → (pairs_alike ≡ true) ↔ StronglyEquivalent m n first second
    pairs_decide lawful-first lawful-second = (
      λ e. strongly_equivalent laws n first second lawful-first lawful-second (alike_same e),
      λ equivalent. same_alike (same_pairs laws n first second lawful-first lawful-second equivalent),
    )
