-- Every rule of a book is lawful on the book's levels and statements.
use Rattle.std.proofs.Common.{◌≡◌, ℕ, true, get_or, vec_items, arith}
use Rattle.std.specs.List.{AllByRecursion}
use Rattle.std.proofs.ByRecursion.{All-from_get_or, All-map}
use Rattle.std.proofs.lemmas.List.{length-take}
use Rattle.std.proofs.lemmas.List.Elements.{All-get_or}
use Rattle.std.proofs.lemmas.Bool.{and_parts, le-leb}
use Rattle.book.specs.Ledger.{Lawful, known, fits}
use Rattle.book.specs.Rows.{clause_of, kept}
use Rattle.book.specs.View.{ledger_of}
use Rattle.book.specs.declared.books.Book.{Book}
use Rattle.book.specs.declared.rows.Rule.{Rule}
use Rattle.book.proofs.Reweighing.{blank}

row_lawful : (levels statements : ℕ) (r : Rule) → kept levels statements r ≡ true → Lawful levels statements (clause_of r)
row_lawful levels statements r k =
    let parts = and_parts (known statements (clause_of r)) (fits levels (clause_of r)) k in
    record { knows = parts.0; degrees = parts.1; short = le-leb _ 4 (omega (arith, length-take r.body.len r.body.literals, r.body.short)) }

pub book_lawful : (b : Book) → AllByRecursion (Lawful b.levels b.statements) (ledger_of b).rules
book_lawful b =
    let rows = vec_items b.table.rows in
    All-map (Lawful b.levels b.statements) clause_of rows
    (All-from_get_or (λ r. Lawful b.levels b.statements (clause_of r)) rows blank (λ i h. row_lawful b.levels b.statements (get_or rows i blank) (All-get_or (λ r. kept b.levels b.statements r ≡ true) rows i blank h b.lawful)))
