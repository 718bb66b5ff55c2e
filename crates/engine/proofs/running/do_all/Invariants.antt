use Rattle.std.proofs.Common.{◌≡◌, ◌+◌, ◌≤◌, List, ◌++◌, length, vec_items, vec_len, vec_capacity}
use Rattle.std.specs.Vec.Iter.{into_iter_items, into_iter_len}
use Rattle.engine.specs.Runs.{ledgers_of, after_all, OutcomesOf}
use Rattle.engine.specs.declared.calls.Outcome.{Outcome}
use Rattle.engine.proofs.running.do_all.Given as goal

abbrev pub invariant-loop-call : goal.invariant-loop-call
invariant-loop-call g l = record {
  can_next : (goal.iterator-loop-call g).can_next l.call-iterator;
  is_finite : (goal.iterator-loop-call g).is_finite l.call-iterator;
  room : vec_len l.outcomes + into_iter_len l.call-iterator ≤ vec_capacity l.outcomes;
  left : into_iter_len l.call-iterator ≡ length (into_iter_items l.call-iterator);
  answers : (os : List Outcome) → OutcomesOf (g.S.Scale.meaning l.scale) (ledgers_of l.first l.second) (into_iter_items l.call-iterator) os → OutcomesOf (g.S.Scale.meaning l.scale) (ledgers_of l.initial.first l.initial.second) (into_iter_items l.initial.call-iterator) (vec_items l.outcomes ++ os);
  changes : after_all (into_iter_items l.call-iterator) (ledgers_of l.first l.second) ≡ after_all (into_iter_items l.initial.call-iterator) (ledgers_of l.initial.first l.initial.second);
}
