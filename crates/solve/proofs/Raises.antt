-- A row is one raising of another exactly when each of its degrees is what the rules demand.
use Rattle.std.proofs.Common.{◌≡◌, ◌≢◌, ℕ, ◌<◌, Bool, true, false, MatchBool, List, length, get_or, sym, subst, zero-add, ap, ◌∙◌, arith}
use Rattle.std.proofs.lemmas.List.{ext_get_or}
use Rattle.std.proofs.lemmas.List.FromFn.{get_or-enumerate_from, length-enumerate_from}
use Rattle.std.specs.List.{AllWithin, HoldsAt, enumerate_from}
use Rattle.scale.specs.Meaning.{Meaning, Laws}
use Rattle.book.specs.Ledger.{Clause}
use Rattle.theory.specs.Semantics.{AllByRecursion, Setting, at, gain, raise}
use Rattle.theory.proofs.Raising.{raise_setting, at_raise}
use Rattle.theory.proofs.Ranges.{Within, Degrees}

module _ {m : Meaning} (laws : Laws m) (n : ℕ) (cs : List Clause) (within : AllByRecursion (Within m.levels n) cs) (upper lower : List ℕ) where
  pub raise_from_gains : Degrees m (at upper) → Degrees m (at lower) → (next : List ℕ) → length next ≡ n → ((k : ℕ) → k < n → at next k ≡ gain m (at lower) (at upper) cs k) → next ≡ raise m cs n upper lower
  raise_from_gains du dl next size gains =
      let long = (raise_setting laws n cs within upper du lower dl).long in
      ext_get_or 0 next _ (size ∙ sym long) (λ k h. gains k (omega (arith, size)) ∙ sym (at_raise laws n cs within upper lower k))

  pub gain_from_raise : {next : List ℕ} → raise m cs n upper lower ≡ next → (s : ℕ) → gain m (at lower) (at upper) cs s ≡ at next s
  gain_from_raise e s = sym (at_raise laws n cs within upper lower s) ∙ ap (λ row. at row s) e

module _ {m : Meaning} (laws : Laws m) (n : ℕ) (cs : List Clause) (within : AllByRecursion (Within m.levels n) cs) (row : List ℕ) (setting : Setting m n row) where
  abbrev pub Stands : ℕ × ℕ → Type 0
  Stands q = gain m (at row) (at row) cs q.0 ≡ q.1

  placed : (k : ℕ) → k < length row → get_or (enumerate_from 0 row) k (0, 0) ≡ (k, at row k)
  placed k h = get_or-enumerate_from 0 row k (0, 0) h ∙ ap (λ (j : ℕ). (j, at row k)) (zero-add k)

  -- a test of each statement's degree decides whether a raising leaves a setting alone
  pub raise_decided : (r : Bool) → MatchBool r (AllWithin Stands (enumerate_from 0 row) 0 (length (enumerate_from 0 row))) ((k : ℕ) × (k < length (enumerate_from 0 row)) × HoldsAt (λ q. Stands q → ⊥) (enumerate_from 0 row) k) → MatchBool r (raise m cs n row row ≡ row) (raise m cs n row row ≢ row)
  raise_decided true passed =
      sym (raise_from_gains laws n cs within row row setting.degrees setting.degrees row setting.long (λ k h.
      let short : k < length row = omega (arith, setting.long) in
      sym (subst Stands (placed k short) (passed k (0, 0) (omega arith) (omega (arith, short, length-enumerate_from 0 row))))))
  raise_decided false failed =
      let k = failed.0 in
      let short : k < length row = omega (arith, failed.1, length-enumerate_from 0 row) in
      λ e. failed.2 (0, 0) (subst Stands (sym (placed k short)) (gain_from_raise laws n cs within row row e k))
