use Rattle.std.proofs.Common.{◌≡◌, List, [], ◌++◌, length, vec_items, sym, ◌∙◌, subst}
use Rattle.std.proofs.lemmas.List.{append-nil, nil_from_length}
use Rattle.std.specs.Vec.Iter.{into_iter_items}
use Rattle.scale.specs.Meaning.{Meaning}
use Rattle.engine.specs.Runs.{Ledgers, ledgers_of, OutcomesOf}
use Rattle.engine.specs.declared.calls.Call.{Call}
use Rattle.engine.specs.declared.calls.Outcome.{Outcome}
use Rattle.engine.proofs.running.do_all.Goals as goal

-- where no call is left, the outcomes so far are those of all calls
outcomes_end : (m : Meaning) (start l : Ledgers) (all calls s : List Call) (done : List Outcome) → length s ≡ 0 → all ≡ calls → ((os : List Outcome) → OutcomesOf m l s os → OutcomesOf m start all (done ++ os)) → OutcomesOf m start calls done
outcomes_end m start l all calls s done none ea k =
    let P : List Call → Type 0 = λ x. OutcomesOf m l x [] in
    let Q : List Outcome → Type 0 = OutcomesOf m start all in
    let R : List Call → Type 0 = λ x. OutcomesOf m start x done in
    subst R ea (subst Q (append-nil done) (k [] (subst P (sym (nil_from_length s none)) tt)))

pub returns-clause-answers : goal.returns-clause-answers
returns-clause-answers g c =
    let loop = c.loop-call in
    outcomes_end (g.S.Scale.meaning c.args.scale.now) (ledgers_of c.args.first.now c.args.second.now) (ledgers_of loop.first loop.second) (into_iter_items c.into_iter-call-iterator.result) (vec_items c.args.calls) (into_iter_items loop.call-iterator) (vec_items loop.outcomes) (sym loop.invariant.left ∙ c.in-None.ensures.steps.0) c.into_iter-call-iterator.ensures.into_iter_gives.0 loop.invariant.answers
