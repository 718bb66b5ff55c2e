-- Writing an addendum rule by rule: the steps of the loops over the statements, and their ends.
use Rattle.std.proofs.Common.{◌≡◌, ℕ, suc, ◌+◌, ◌-◌, ◌<◌, ◌≤◌, List, [], ◌∷◌, ◌++◌, map, length, take, drop, set, sym, refl, ap, ap₂, ◌∙◌, cond, arith}
use Rattle.std.specs.List.{range_with_len, slice_get}
use Rattle.std.specs.Option.{unwrap_or}
use Rattle.std.proofs.lemmas.List.{append-nil, length-map, length-take-le, map-append, take_more_set, map_push, drop-set-lt, drop-drop}
use Rattle.std.proofs.lemmas.List.FromFn.{map-range_with_len_more, filter_of_map_range_with_len_more, length-range_with_len}
use Rattle.std.proofs.lemmas.List.Sums.{length-filter, count_by-le-length}
use Rattle.std.proofs.Math.Seq.{take-length, take-append-add, drop-append-add}
use Rattle.std.proofs.lemmas.Bool.{cond-true, cond-false, eq-eqb, ne_eqb, not_from_true, not_from_false}
use Rattle.book.specs.Ledger.{Clause}
use Rattle.book.specs.Rows.{clause_of}
use Rattle.book.specs.declared.rows.Rule.{Rule}
use Rattle.theory.specs.Semantics.{at}
use Rattle.theory.specs.Equivalence.{fact, facts, differs, differing, last_of}

-- one more fact is written
pub facts_more : (row : List ℕ) (place : List Rule) (i : ℕ) (rule : Rule) → i < length place → clause_of rule ≡ fact row i → map clause_of (take i place) ≡ facts i row → map clause_of (take (i + 1) (set place i rule)) ≡ facts (i + 1) row
facts_more row place i rule room is so_far =
    ap (map clause_of) (take_more_set place i rule room) ∙ map_push clause_of (take i place) rule ∙ ap (λ front. front ++ clause_of rule ∷ []) so_far ∙ ap (λ c. facts i row ++ c ∷ []) is ∙ sym (map-range_with_len_more (fact row) 0 i i (omega arith))

-- the rows past one more rule are those past the rules so far
pub rest_more : (before place : List Rule) (i : ℕ) (rule : Rule) → drop i place ≡ drop i before → drop (i + 1) (set place i rule) ≡ drop (i + 1) before
rest_more before place i rule rest =
    drop-set-lt (i + 1) place i rule (omega arith) ∙ sym (drop-drop 1 i place) ∙ ap (drop 1) rest ∙ drop-drop 1 i before

module _ (lower upper : List ℕ) (n : ℕ) where
  more : differing (n + 1) lower upper ≡ differing n lower upper ++ cond (differs lower upper n) (n ∷ []) []
  more = simp same at (filter_of_map_range_with_len_more (differs lower upper) (λ s. s) 0 n n (omega arith))
    where
      same : (xs : List ℕ) → map (λ s. s) xs ≡ xs
      same [] = refl
      same (x ∷ xs) = ap (λ ys. x ∷ ys) (same xs)

  pub differing_here : (at lower n ≡ at upper n → ⊥) → differing (n + 1) lower upper ≡ differing n lower upper ++ n ∷ []
  differing_here apart = more ∙ ap (λ ts. differing n lower upper ++ ts) (cond-true _ _ _ (not_from_false _ (ne_eqb (at lower n) (at upper n) apart)))

  pub differing_past : at lower n ≡ at upper n → differing (n + 1) lower upper ≡ differing n lower upper
  differing_past same = more ∙ ap (λ ts. differing n lower upper ++ ts) (cond-false _ _ _ (not_from_true _ (eq-eqb (at lower n) (at upper n) same))) ∙ append-nil (differing n lower upper)

  pub differing_few : length (differing n lower upper) ≤ n
  differing_few = omega (arith, length-filter (differs lower upper) (range_with_len 0 n), count_by-le-length (differs lower upper) (range_with_len 0 n), length-range_with_len 0 n)

some_last : (s u t : ℕ) (ts : List ℕ) → unwrap_or (slice_get (t ∷ ts) (length ts)) s ≡ last_of u (t ∷ ts)
some_last s u t [] = refl
some_last s u t (v ∷ ts) = some_last s t v ts

-- the last statement, or s
pub last_is : (s : ℕ) (ts : List ℕ) → unwrap_or (slice_get ts (length ts - 1)) s ≡ last_of s ts
last_is s [] = refl
last_is s (t ∷ ts) = let e : suc (length ts) - 1 ≡ length ts = omega arith in rw e (some_last s s t ts)

-- n rules in front and k behind them
module _ (n k : ℕ) (front back : List Rule) (long : length front ≡ n) where
  pub both_written : (first then : List Clause) → map clause_of (take n front) ≡ first → map clause_of (take k back) ≡ then → map clause_of (take (n + k) (front ++ back)) ≡ first ++ then
  both_written first then is-first is-then =
      let whole : take n front ≡ front = ap (λ j. take j front) (sym long) ∙ take-length front in
      let cut : take (n + k) (front ++ back) ≡ front ++ take k back = ap (λ j. take (j + k) (front ++ back)) (sym long) ∙ take-append-add front back k in
      ap (map clause_of) cut ∙ map-append clause_of front (take k back) ∙ ap₂ ◌++◌ (ap (map clause_of) (sym whole) ∙ is-first) is-then

  pub rest_after : (before : List Rule) → drop k back ≡ drop k (drop n before) → drop (n + k) (front ++ back) ≡ drop (n + k) before
  rest_after before rest =
      ap (λ j. drop (j + k) (front ++ back)) (sym long) ∙ drop-append-add front back k ∙ rest ∙ drop-drop k n before

-- as many rules as rows
pub written_count : (place : List Rule) (k : ℕ) (whole : List Clause) → k ≤ length place → map clause_of (take k place) ≡ whole → k ≡ length whole
written_count place k whole room written =
    sym (length-take-le k place room) ∙ sym (length-map (take k place) clause_of) ∙ ap length written
