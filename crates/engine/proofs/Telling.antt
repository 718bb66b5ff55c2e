-- From a difference that the search found to what compare answers.
use Rattle.std.proofs.Common.{◌≡◌, ℕ, ◌*◌, ◌≤◌, true, ◌↔◌, List, map, length, take, drop, Some, sym, refl, subst, subst₂, arith}
use Rattle.std.proofs.lemmas.Bool.{false≢true}
use Rattle.scale.specs.Meaning.{Meaning, Laws}
use Rattle.book.specs.Ledger.{Clause, Lawful}
use Rattle.book.specs.Rows.{clause_of}
use Rattle.theory.specs.Equivalence.{StronglyEquivalent, TellsApart, facts, addendum}
use Rattle.theory.specs.Semantics.{AllByRecursion}
use Rattle.theory.proofs.Apart.{facts_tell_apart, addendum_tells_apart, same_pairs}
use Rattle.theory.proofs.Pairs.{strongly_equivalent}
use Rattle.solve.specs.Programs.{meaning_of, clauses_of, statements_of}
use Rattle.solve.specs.declared.program.Program.{Program}
use Rattle.solve.proofs.Programs.{clauses_lawful}
use Rattle.engine.specs.Comparisons.{Places, Apart, Told, Compared, is_equal, other_of}
use Rattle.engine.specs.Differences.{Differs}
use Rattle.engine.specs.declared.answers.Comparison.{Comparison}
use Rattle.engine.specs.declared.answers.Comparison.TheVariants.{Equal, Unequal}
use Rattle.engine.specs.declared.answers.Which.{Which}
use Rattle.engine.specs.declared.answers.Which.TheVariants.{First, Second}
use Rattle.engine.specs.declared.pairs.Difference.TheVariants.{ModelOf, PairOf}

-- the rules of a program are lawful
pub program_lawful : {S : Type 0} {members : _} (m : Meaning) (n : ℕ) (p : Program S members) → meaning_of p ≡ m → statements_of p ≡ n → AllByRecursion (Lawful m.levels n) (clauses_of p)
program_lawful m n p scale size =
    subst₂ (λ (k : Meaning) (j : ℕ). AllByRecursion (Lawful k.levels j) (clauses_of p)) scale size (clauses_lawful _ _ p.rules.now p.lawful)

-- the scale of a program has a degree
pub program_some : {S : Type 0} {members : _} (m : Meaning) (p : Program S members) → meaning_of p ≡ m → 1 ≤ m.levels
program_some m p scale = let some : 1 ≤ (meaning_of p).levels = omega (arith, p.some) in subst (λ (k : Meaning). 1 ≤ k.levels) scale some

-- what was written: the rules in the first rows, the setting, and the other rows as they were
pub record Written (before after : Places) (rules : List Clause) (row : List ℕ) (count : ℕ) : Type 0 where
  pub rows : map clause_of (take count after.addendum) ≡ rules
  pub setting : after.setting ≡ row
  pub size : length after.addendum ≡ length before.addendum
  pub rest : drop count after.addendum ≡ drop count before.addendum

module _ {m : Meaning} {n : ℕ} where
  pub apart : {one other rules : List Clause} {row : List ℕ} {before after : Places} {count : ℕ} → TellsApart m n one other rules row → count ≤ 2 * n → Written before after rules row count → Apart m n one other before after count
  apart {one} {other} tells few w = record {
    tells = subst₂ (λ (r : List Clause) (s : List ℕ). TellsApart m n one other r s) (sym w.rows) (sym w.setting) tells;
    few = few;
    length = w.size;
    rest = w.rest;
  }

module _ {m : Meaning} (laws : Laws m) (n : ℕ) (first second : List Clause) (one : AllByRecursion (Lawful m.levels n) first) (two : AllByRecursion (Lawful m.levels n) second) where
  pub told_model : (book : Which) (upper : List ℕ) (before after : Places) → Differs m n first second upper (Some (ModelOf book)) → Written before after (facts n upper) upper n → Told m n first second before after (Unequal book n)
  told_model First upper before after found w = apart (facts_tell_apart laws n first second one two found.0 found.1.0 found.1.1) (omega arith) w
  told_model Second upper before after found w = apart (facts_tell_apart laws n second first two one found.0 found.1.0 found.1.1) (omega arith) w

  pub told_pair : (book : Which) (row upper : List ℕ) (before after : Places) (count : ℕ) → Differs m n first second upper (Some (PairOf book row)) → count ≤ 2 * n → Written before after (addendum n (take n row) upper) upper count → Told m n first second before after (Unequal (other_of book) count)
  told_pair First row upper before after count found few w = apart (addendum_tells_apart laws n first second one two found.1.0 found.1.1 found.1.2) few w
  told_pair Second row upper before after count found few w = apart (addendum_tells_apart laws n second first two one found.1.0 found.1.1 found.1.2) few w

  -- an answer is "equal" exactly where the books are strongly equivalent
  exact : (before after : Places) (answer : Comparison) → Told m n first second before after answer → (is_equal answer ≡ true) ↔ StronglyEquivalent m n first second
  exact before after Equal told = (λ e. told.1, λ same. refl)
  exact before after (Unequal First count) told = (λ e. absurd (false≢true e), λ same. absurd (told.tells.none ((same _ told.tells.lawful _ told.tells.setting).0 told.tells.scene)))
  exact before after (Unequal Second count) told = (λ e. absurd (false≢true e), λ same. absurd (told.tells.none ((same _ told.tells.lawful _ told.tells.setting).1 told.tells.scene)))

  pub compared : (before after : Places) (answer : Comparison) → Told m n first second before after answer → Compared m n first second before after answer
  compared before after answer told = record {
    told = told;
    exactly = exact before after answer told;
    pairs = (same_pairs laws n first second one two, strongly_equivalent laws n first second one two);
  }
