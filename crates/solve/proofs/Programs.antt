-- The rules of a program are lawful.
use Rattle.std.proofs.Common.{◌≡◌, ℕ, ◌<◌, Bool, true, false, List, [], ◌∷◌, map, length, get_or, take, Some, None, Option, MatchBool, MatchOption, refl, sym, subst, arith}
use Rattle.std.proofs.lemmas.List.Elements.{All-from_recursion, recursion_from_All}
use Rattle.std.proofs.lemmas.List.{length-take, get_or-take}
use Rattle.std.proofs.lemmas.Bool.{and_parts, le-leb}
use Rattle.std.specs.List.{list_all, AllWithin, HoldsAt}
use Rattle.scale.specs.Meaning.{Laws}
use Rattle.book.proofs.Reweighing.{blank}
use Rattle.book.specs.Ledger.{Clause, Lawful, known, fits}
use Rattle.book.specs.Rows.{clause_of, kept}
use Rattle.book.specs.declared.rows.Rule.{Rule}
use Rattle.theory.proofs.Lists.{all_to_map, all_from_map}
use Rattle.theory.proofs.Ranges.{Within, all_within}
use Rattle.theory.specs.Semantics.{AllByRecursion}
use Rattle.solve.specs.Programs.{meaning_of, clauses_of, statements_of}
use Rattle.solve.specs.declared.program.Program.{Program}

row_lawful : (levels n : ℕ) (r : Rule) → kept levels n r ≡ true → Lawful levels n (clause_of r)
row_lawful levels n r k =
    let parts = and_parts (known n (clause_of r)) (fits levels (clause_of r)) k in
    record { knows = parts.0; degrees = parts.1; short = le-leb _ 4 (omega (arith, length-take r.body.len r.body.literals, r.body.short)) }

pub kept_lawful : (levels n : ℕ) (rows : List Rule) → list_all (kept levels n) rows ≡ true → AllByRecursion (λ r. Lawful levels n (clause_of r)) rows
kept_lawful levels n [] e = tt
kept_lawful levels n (r ∷ rows) e =
    let parts = and_parts (kept levels n r) (list_all (kept levels n) rows) e in
    (row_lawful levels n r parts.0, kept_lawful levels n rows parts.1)

pub lawful_kept : (levels n : ℕ) (rows : List Rule) → AllByRecursion (Lawful levels n) (map clause_of rows) → list_all (kept levels n) rows ≡ true
lawful_kept levels n [] h = refl
lawful_kept levels n (r ∷ rows) h = rw (h.0.knows, h.0.degrees, lawful_kept levels n rows h.1) refl

pub clauses_lawful : (levels n : ℕ) (rows : List Rule) → list_all (kept levels n) rows ≡ true → AllByRecursion (Lawful levels n) (map clause_of rows)
clauses_lawful levels n rows e = all_to_map (Lawful levels n) clause_of rows (kept_lawful levels n rows e)

module _ {S : Type 0} {members : _} (p : Program S members) where
  pub program_laws : ((s : S) → 0 < (members.meaning s).levels → Laws (members.meaning s)) → Laws (meaning_of p)
  program_laws laws = laws p.scale.now (omega (arith, p.some))

  pub program_lawful : AllByRecursion (Lawful (meaning_of p).levels (statements_of p)) (clauses_of p)
  program_lawful = clauses_lawful (meaning_of p).levels p.statements p.rules.now p.lawful

  pub program_within : AllByRecursion (Within (meaning_of p).levels (statements_of p)) (clauses_of p)
  program_within = all_within (meaning_of p).levels p.statements (clauses_of p) program_lawful

-- what a test that needs a rule's degrees to fit says of a row that passes it, and of one that fails it
abbrev pub Passes : ℕ → (Clause → Type 0) → Rule → Type 0
Passes levels P r = fits levels (clause_of r) ≡ true → P (clause_of r)

abbrev pub Fails : ℕ → (Clause → Type 0) → Rule → Type 0
Fails levels P r = fits levels (clause_of r) ≡ true → P (clause_of r) → ⊥

module _ (levels n : ℕ) (rows : List Rule) (kept_all : list_all (kept levels n) rows ≡ true) where
  pub row_fits : (k : ℕ) (d : Rule) → k < length rows → fits levels (clause_of (get_or rows k d)) ≡ true
  row_fits k d h = (All-from_recursion (λ r. Lawful levels n (clause_of r)) rows (kept_lawful levels n rows kept_all) k d h).degrees

module _ (levels n : ℕ) (P : Clause → Type 0) (rows : List Rule) (kept_all : list_all (kept levels n) rows ≡ true) where
  -- a test of all rows decides whether P holds of every rule
  pub decided : (r : Bool) → MatchBool r (AllWithin (Passes levels P) rows 0 (length rows)) ((k : ℕ) × (k < length rows) × HoldsAt (Fails levels P) rows k) → MatchBool r (AllByRecursion P (map clause_of rows)) (AllByRecursion P (map clause_of rows) → ⊥)
  decided true passed =
      all_to_map P clause_of rows (recursion_from_All (λ r. P (clause_of r)) rows (λ k d h. passed k d (omega arith) h (row_fits levels n rows kept_all k d h)))
  decided false failed =
      let k = failed.0 in
      λ held. failed.2 blank (row_fits levels n rows kept_all k blank failed.1) (All-from_recursion (λ r. P (clause_of r)) rows (all_from_map P clause_of rows held) k blank failed.1)

  -- the first row that failed a test is the first whose rule lacks P
  pub first_lacking : (r : Option ℕ) → MatchOption r (AllWithin (Passes levels P) rows 0 (length rows)) (λ i. (i < length rows) × HoldsAt (Fails levels P) rows i × AllWithin (Passes levels P) rows 0 i) → MatchOption r (AllByRecursion (λ x. P (clause_of x)) rows) (λ i. (i < length rows) × ((d : Rule) → P (clause_of (get_or rows i d)) → ⊥) × AllByRecursion (λ x. P (clause_of x)) (take i rows))
  first_lacking None passed = recursion_from_All (λ x. P (clause_of x)) rows (λ k d h. passed k d (omega arith) h (row_fits levels n rows kept_all k d h))
  first_lacking (Some i) found =
      let front : (k : ℕ) (d : Rule) → k < length (take i rows) → P (clause_of (get_or (take i rows) k d)) =
      λ k d h. let short : k < i = omega (arith, length-take i rows) in subst (λ (x : Rule). P (clause_of x)) (sym (get_or-take i rows k d short)) (found.2 k d (omega arith) short (row_fits levels n rows kept_all k d (omega (arith, found.0)))) in
      (found.0, λ d. found.1 d (row_fits levels n rows kept_all i d found.0), recursion_from_All (λ x. P (clause_of x)) (take i rows) front)
