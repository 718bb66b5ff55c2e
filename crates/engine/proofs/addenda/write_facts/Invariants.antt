use Rattle.std.proofs.Common.{◌≡◌, map, take, drop}
use Rattle.book.specs.Rows.{clause_of}
use Rattle.theory.specs.Equivalence.{facts}
use Rattle.engine.proofs.addenda.write_facts.Given as goal

abbrev pub invariant-loop-s : goal.invariant-loop-s
invariant-loop-s l = record {
  written : map clause_of (take l.s l.addendum) ≡ facts l.s l.row;
  rest : drop l.s l.addendum ≡ drop l.s l.initial.addendum;
}
