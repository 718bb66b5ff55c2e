-- What a call on a book gets from the program that it makes.
use Rattle.std.proofs.Common.{◌≡◌, ℕ, ◌<◌, eqb, ltb, length, sym, ap, ◌∙◌, ⊎_elim, Bool, true, false, not, List, [], ◌∷◌, Ok, refl, subst, subst₂}
use Rattle.std.proofs.lemmas.List.{get_or_past}
use Rattle.std.proofs.lemmas.Bool.{cases_lt, eqb-true, ltb-true}
use Rattle.std.specs.List.{list_all}
use Rattle.scale.specs.Causes.{Answers, cause, first_met}
use Rattle.scale.specs.declared.refusal.Refusal.{Refusal}
use Rattle.scale.specs.Meaning.{Meaning}
use Rattle.book.specs.Ledger.{Clause, Ledger, Lawful}
use Rattle.book.specs.View.{ledger_of}
use Rattle.book.specs.declared.books.Book.{Book}
use Rattle.book.proofs.Lawfulness.{book_lawful}
use Rattle.std.proofs.lemmas.List.Sums.{AllPass-from_list_all}
use Rattle.theory.specs.Semantics.{AllByRecursion, Setting, at}
use Rattle.solve.specs.Programs.{ProgramOf, meaning_of, clauses_of, statements_of}
use Rattle.solve.specs.declared.program.Program.{Program}

-- a book's rules are lawful on a scale of the book's levels
pub scale_lawful : (m : Meaning) (b : Book) → m.levels ≡ b.levels → AllByRecursion (Lawful m.levels b.statements) (ledger_of b).rules
scale_lawful m b levels = subst (λ (k : ℕ). AllByRecursion (Lawful k b.statements) (ledger_of b).rules) (sym levels) (book_lawful b)

-- a call that tests one cause and grants its answer has not met the cause
pub granted : {A : Type 0} (passes : Bool) (e : Refusal) (P : A → Type 0) (x : A) → Answers (first_met (cause (not passes) e ∷ [])) (Ok x) P → (passes ≡ true) × P x
granted true e P x h = (refl, h)
granted false e P x h = cc

-- what holds of a program holds of the scale and the book that it was made of
pub of_book : {S : Type 0} {members : _} (scale : S) (l : Ledger) (p : Program S members) → ProgramOf scale l p → (P : Meaning → List Clause → ℕ → Type 0) → P (meaning_of p) (clauses_of p) (statements_of p) → P (members.meaning scale) l.rules l.statements
of_book {S} {members} scale l p of P h = subst₂ (λ (cs : List Clause) (n : ℕ). P (members.meaning scale) cs n) of.1 of.2 (subst (λ (s : S). P (members.meaning s) (clauses_of p) (statements_of p)) of.0 h)

-- a program's scale has the book's levels
pub program_levels : {S : Type 0} {members : _} (scale : S) (l : Ledger) (p : Program S members) → ProgramOf scale l p → eqb (members.meaning scale).levels l.levels ≡ true → (meaning_of p).levels ≡ l.levels
program_levels {S} {members} scale l p of same = ap (λ (s : S). (members.meaning s).levels) of.0 ∙ eqb-true _ _ same

pub degrees_from : (levels : ℕ) (row : List ℕ) → 0 < levels → list_all (λ d. ltb d levels) row ≡ true → (s : ℕ) → at row s < levels
degrees_from levels row some passed s =
    ⊎_elim (λ h. ltb-true (at row s) levels (AllPass-from_list_all (λ d. ltb d levels) row passed s 0 h)) (λ h. subst (λ (x : ℕ). x < levels) (sym (get_or_past row s 0 h)) some)
    (cases_lt s (length row))

-- a row that passed the tests is a setting
pub tested : (m : Meaning) (n levels : ℕ) (row : List ℕ) → m.levels ≡ levels → 0 < m.levels → list_all (λ d. ltb d levels) row ≡ true → length row ≡ n → Setting m n row
tested m n levels row is some passed long = record {
  long = long;
  degrees = degrees_from m.levels row some (subst (λ (k : ℕ). list_all (λ d. ltb d k) row ≡ true) (sym is) passed);
}
