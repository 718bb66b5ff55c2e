use Rattle.std.proofs.Common.{vec_items, arith}
use Rattle.std.proofs.lemmas.Grind.{common_steps}
use Rattle.book.proofs.Reweighing.{blank, rows_kept, ledger_reweighed}
use Rattle.book.proofs.books.Book.reweigh.Goals as goal

pub invariant_of-self-clause-lawful : goal.invariant_of-self-clause-lawful
invariant_of-self-clause-lawful c = rw (c.reweigh.ensures.rows blank) (rows_kept _ _ c.args.weight c.args.i (vec_items c.args.self.now.table.rows) blank (omega arith) (omega arith) c.args.self.now.lawful)

pub returns-clause-after : goal.returns-clause-after
returns-clause-after c = grind (arith, common_steps, c.reweigh.ensures.rows blank, ledger_reweighed c.args.weight (vec_items c.args.self.now.table.rows) c.args.i blank)
