-- What a program is made of, and when it can be made.
use Rattle.std.specs.Prelude.{◌≡◌, ℕ, not, List, [], ◌∷◌, map, Option, ◌==◌}
use Rattle.scale.specs.declared.refusal.Refusal.{Refusal}
use Rattle.scale.specs.declared.refusal.Refusal.TheVariants.{LevelsDiffer}
use Rattle.scale.specs.Causes.{cause, first_met}
use Rattle.scale.specs.Meaning.{Meaning}
use Rattle.book.specs.Ledger.{Clause, Ledger}
use Rattle.book.specs.Rows.{clause_of}
use Rattle.solve.specs.declared.program.Program.{Program}

-- the meaning of its scale
abbrev pub meaning_of : {S : Type 0} {members : _} → Program S members → Meaning
meaning_of {members = members} p = members.meaning p.scale.now

-- its rules, in their order
abbrev pub clauses_of : {S : Type 0} {members : _} → Program S members → List Clause
clauses_of p = map clause_of p.rules.now

abbrev pub statements_of : {S : Type 0} {members : _} → Program S members → ℕ
statements_of p = p.statements

-- a scale has to have the levels of the book
abbrev pub program_refusal : Meaning → Ledger → Option Refusal
program_refusal m l = first_met (cause (not (m.levels == l.levels)) LevelsDiffer ∷ [])

-- a program on this scale, of the rules and statements of a book with this ledger
abbrev pub ProgramOf : {S : Type 0} {members : _} → S → Ledger → Program S members → Type 0
ProgramOf scale l p = (p.scale.now ≡ scale) × (clauses_of p ≡ l.rules) × (statements_of p ≡ l.statements)
