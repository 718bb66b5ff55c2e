use Rattle.std.proofs.Common.{◌≡◌, ◌++◌, map, take, drop}
use Rattle.book.specs.Rows.{clause_of}
use Rattle.theory.specs.Equivalence.{chain, cycle}
use Rattle.engine.proofs.addenda.write_cycle.Given as goal

abbrev pub invariant-loop-i : goal.invariant-loop-i
invariant-loop-i l = record {
  written : map clause_of (take l.i l.addendum) ++ chain l.lower l.upper l.before (drop l.i l.statements) ≡ cycle l.lower l.upper l.statements;
  rest : drop l.i l.addendum ≡ drop l.i l.initial.addendum;
}
