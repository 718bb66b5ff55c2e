-- One test of a whole case: where it passes, the case holds.
use Rattle.std.proofs.Common.{◌≡◌, ℕ, Bool, true, not, ◌&&◌, eqb, ltb, leb, ◌↔◌, List, [], ◌∷◌, length}
use Rattle.std.proofs.lemmas.Bool.{and_parts, and_from, not-true, both_ways, eqb-true, ltb-true}
use Rattle.scale.specs.Meaning.{Meaning, Laws}
use Rattle.book.specs.Ledger.{Clause, Lawful, known, fits}
use Rattle.std.specs.List.{list_all}
use Rattle.theory.specs.Semantics.{AllByRecursion, Setting}
use Rattle.solve.proofs.Books.{degrees_from}
use Rattle.cases.specs.Claims.{Claim, scenes_at, verdict_on, equivalent_to, not_equivalent_to, Case, LawfulOn, Says, Holds}
use Rattle.cases.proofs.Comparing.{pairs_alike, pairs_decide}
use Rattle.cases.proofs.Judging.{is_judged, judged, scenes_listed, scenes_exactly}
use Rattle.cases.proofs.Sweeps.{every_decides}

abbrev is_setting : Meaning → ℕ → List ℕ → Bool
is_setting m n row = ltb 0 m.levels && (eqb (length row) n && list_all (λ d. ltb d m.levels) row)

setting_from : (m : Meaning) (n : ℕ) (row : List ℕ) → is_setting m n row ≡ true → Setting m n row
setting_from m n row e =
    let some = and_parts (ltb 0 m.levels) _ e in
    let parts = and_parts (eqb (length row) n) _ some.1 in
    record { long = eqb-true (length row) n parts.0; degrees = degrees_from m.levels row (ltb-true 0 m.levels some.0) parts.1 }

module _ (c : Case) where
  abbrev is_lawful : Clause → Bool
  is_lawful r = known c.statements r && (fits c.scale.levels r && leb (length r.body) 4)

  lawful_decides : (r : Clause) → (is_lawful r ≡ true) ↔ Lawful c.scale.levels c.statements r
  lawful_decides r = (
    λ e.
        let parts = and_parts (known c.statements r) _ e in
        let rest = and_parts (fits c.scale.levels r) _ parts.1 in
        record { knows = parts.0; degrees = rest.0; short = rest.1 },
    λ l. and_from (known c.statements r) _ l.knows (and_from (fits c.scale.levels r) _ l.degrees l.short),
  )

  lawful_from : (rules : List Clause) → list_all is_lawful rules ≡ true → LawfulOn c rules
  lawful_from rules = (every_decides is_lawful lawful_decides rules).0

  abbrev is_so : Claim → Bool
  is_so (scenes_at positions) = scenes_listed c.scale c.rules c.statements positions
  is_so (verdict_on row verdict) = is_setting c.scale c.statements row && is_judged c.scale c.rules c.statements row verdict
  is_so (equivalent_to others) = list_all is_lawful others && pairs_alike c.scale c.statements c.rules others
  is_so (not_equivalent_to others) = list_all is_lawful others && not (pairs_alike c.scale c.statements c.rules others)

  -- only strong equivalence is decided by the laws
  abbrev Grounds : Claim → Type 0
  Grounds (scenes_at positions) = Unit {0}
  Grounds (verdict_on row verdict) = Unit {0}
  Grounds (equivalent_to others) = Laws c.scale
  Grounds (not_equivalent_to others) = Laws c.scale

  says : LawfulOn c c.rules → (claim : Claim) → Grounds claim → is_so claim ≡ true → Says c claim
  says lawful (scenes_at positions) grounds e = scenes_exactly c.scale c.rules c.statements positions e
  says lawful (verdict_on row verdict) grounds e =
      let parts = and_parts (is_setting c.scale c.statements row) _ e in
      (setting_from c.scale c.statements row parts.0, judged c.scale c.rules c.statements row verdict parts.1)
  says lawful (equivalent_to others) laws e =
      let parts = and_parts (list_all is_lawful others) _ e in
      let too = lawful_from others parts.0 in
      (too, (pairs_decide c.scale c.statements c.rules others laws lawful too).0 parts.1)
  says lawful (not_equivalent_to others) laws e =
      let parts = and_parts (list_all is_lawful others) _ e in
      let too = lawful_from others parts.0 in
      (too, λ equivalent. both_ways (pairs_alike c.scale c.statements c.rules others) (not-true _ parts.1) ((pairs_decide c.scale c.statements c.rules others laws lawful too).1 equivalent))

  all_say : LawfulOn c c.rules → (claims : List Claim) → AllByRecursion Grounds claims → list_all is_so claims ≡ true → AllByRecursion (Says c) claims
  all_say lawful [] grounds e = tt
  all_say lawful (claim ∷ claims) grounds e =
      let parts = and_parts (is_so claim) (list_all is_so claims) e in
      (says lawful claim grounds.0 parts.0, all_say lawful claims grounds.1 parts.1)

  abbrev pub passes : Bool
  passes = list_all is_lawful c.rules && list_all is_so c.claims

  pub holds : AllByRecursion Grounds c.claims → passes ≡ true → Holds c
  holds grounds e =
      let parts = and_parts (list_all is_lawful c.rules) (list_all is_so c.claims) e in
      let lawful = lawful_from c.rules parts.0 in
      record { lawful = lawful; claimed = all_say lawful c.claims grounds parts.1 }
