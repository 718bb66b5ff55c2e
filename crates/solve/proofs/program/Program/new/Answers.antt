use Rattle.std.proofs.Common.{◌≡◌, ℕ, List, sym, ◌∙◌, subst₂, arith}
use Rattle.book.specs.Ledger.{Clause, Lawful}
use Rattle.theory.specs.Semantics.{AllByRecursion}
use Rattle.solve.proofs.Books.{scale_lawful}
use Rattle.solve.proofs.Programs.{lawful_kept}
use Rattle.solve.proofs.program.Program.new.Goals as goal

pub invariant_of-result : goal.invariant_of-result
invariant_of-result g c =
    let m = g.S.Scale.meaning c.args.scale.now in
    let book = c.args.book.now in
    let levels : m.levels ≡ book.levels = sym c.levels.ensures ∙ c.if-levels.false ∙ c.levels-2.ensures in
    let statements : c.statements.result ≡ book.statements = c.statements.ensures in
    let lawful = subst₂ (λ (n : ℕ) (cs : List Clause). AllByRecursion (Lawful m.levels n) cs) (sym statements) (sym c.rules.ensures) (scale_lawful m book levels) in
    record {
      some = omega (arith, levels, book.least);
      few = omega (arith, statements, book.few);
      lawful = lawful_kept m.levels c.statements.result c.rules.result.now lawful;
    }
