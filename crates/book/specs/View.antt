-- The ledger that a book shows.
use Rattle.std.specs.Prelude.{◌≡◌, ℕ, ◌<◌, ◌≤◌, map, length, Ok, Err, vec_items, Result, slice_index_or}
use Rattle.scale.specs.declared.refusal.Refusal.{Refusal}
use Rattle.scale.specs.declared.refusal.Refusal.TheVariants.{NoSuchRule}
use Rattle.book.specs.Ledger.{Ledger}
use Rattle.book.specs.Rows.{clause_of}
use Rattle.book.specs.declared.books.Book.{Book}
use Rattle.book.specs.declared.rows.Rule.{Rule}

-- what a book shows: its levels, its number of statements and its rules in their order
abbrev pub ledger_of : Book → Ledger
ledger_of b = record { levels = b.levels; statements = b.statements; rules = map clause_of (vec_items b.table.rows) }

-- the answer to a question for rule i: the rule at that place, or that there is none
abbrev pub Shown : Ledger → ℕ → Result Rule Refusal → Type 0
Shown l i (Ok row) = (i < length l.rules) × (clause_of row ≡ slice_index_or l.rules i (clause_of row))
Shown l i (Err e) = (length l.rules ≤ i) × (e ≡ NoSuchRule)
