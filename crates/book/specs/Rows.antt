-- What a row of the rule table stands for.
use Rattle.std.specs.Prelude.{◌≡◌, ℕ, Bool, true, false, ◌&&◌, List, length, take, Ok, Err, Result, nat_lt}
use Rattle.scale.specs.declared.refusal.Refusal.{Refusal}
use Rattle.scale.specs.declared.refusal.Refusal.TheVariants.{BodyTooLong}
use Rattle.book.specs.Ledger.{Clause, known, fits}
use Rattle.book.specs.declared.rule.Literal.{Literal}
use Rattle.book.specs.declared.rows.Body.{Body}
use Rattle.book.specs.declared.rows.Rule.{Rule}

-- the literals of a body; the places past its length do not count
abbrev pub literals_of : Body → List Literal
literals_of b = take b.len b.literals

-- the rule that a row of the table stands for
abbrev pub clause_of : Rule → Clause
clause_of r = record { head = r.head; weight = r.weight; body = literals_of r.body }

-- the row keeps within levels and statements
abbrev pub kept : ℕ → ℕ → Rule → Bool
kept levels statements r = known statements (clause_of r) && fits levels (clause_of r)

abbrev pub row_reweighed : ℕ → Rule → Rule
row_reweighed weight r = record { head = r.head; weight = weight; body = r.body }

-- a body is made of a list of literals, or refused where there are more than 4
abbrev pub Built : List Literal → Result Body Refusal → Type 0
Built literals (Ok b) = (nat_lt 4 (length literals) ≡ false) × (literals_of b ≡ literals)
Built literals (Err e) = (nat_lt 4 (length literals) ≡ true) × (e ≡ BodyTooLong)
