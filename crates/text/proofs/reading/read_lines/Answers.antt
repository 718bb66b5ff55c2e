use Rattle.std.proofs.Common.{◌≡◌, ◌+◌, ◌≤◌, List, ◌∷◌, length, drop, Ok, Err, sym, refl, ap, ◌∙◌, arith, rules, tests}
use Rattle.std.specs.List.{slice_split}
use Rattle.std.proofs.lemmas.Iterator.Consumers.{YieldsList-at, YieldsList-turn, YieldsList-end}
use Rattle.std.proofs.lemmas.Iterator.Splits.{YieldsList-from_slice_split}
use Rattle.std.proofs.lemmas.List.{length_push, at_drop_all}
use Rattle.std.proofs.lemmas.Result.{err_from_is_err_and}
use Rattle.text.specs.Drafting.{state_of}
use Rattle.text.specs.Meaning.{rows_read}
use Rattle.text.specs.Parsing.{line_of}
use Rattle.text.specs.Rows.{Row, ends_line, row, rows, at, lines_of}
use Rattle.text.proofs.Lines.{span, span_split, drop_at}
use Rattle.text.proofs.Obeying.{rows_stop, rows_go}
use Rattle.text.proofs.reading.read_lines.Goals as goal
use Rattle.text.proofs.reading.read_lines.Goals.{In-Some}

-- the lines that are left begin with the one at hand
left : (c : In-Some) → drop (length c.loop-line.yielded) (slice_split ends_line c.args.text.now) ≡ c.in-Some.line.now ∷ drop (length c.loop-line.yielded + 1) (slice_split ends_line c.args.text.now)
left c =
    let turn = YieldsList-turn (YieldsList-at c.into_iter-line-iterator.ensures.into_iter_gives (YieldsList-from_slice_split _ ends_line c.args.text.now c.split-line-items.ensures.rest c.split-line-items.ensures.done c.split-line-items.ensures.closure (λ x b q k. search (rules, tests)))) c.loop-line.yielded _ c.loop-line.yielded_by _ _ c.in-Some.line c.in-Some.is c.next.ensures.steps in
    drop_at (slice_split ends_line c.args.text.now) (length c.loop-line.yielded) c.in-Some.line.now turn.0 turn.1

within : (c : In-Some) → c.loop-line.place.byte + length c.in-Some.line.now ≤ length c.args.text.now
within c = omega (arith, c.loop-line.invariant.1, ap span (left c))

abbrev here : In-Some → Row
here c = row (at c.loop-line.place.line c.loop-line.place.byte) c.in-Some.line.now

abbrev others : In-Some → List Row
others c = rows (c.loop-line.place.line + 1) (c.loop-line.place.byte + length c.in-Some.line.now + 1) (drop (length c.loop-line.yielded + 1) (slice_split ends_line c.args.text.now))

begun : (c : In-Some) → rows_read line_of (state_of c.loop-line.draft) (here c ∷ others c) ≡ rows_read line_of (state_of c.args.draft.now) (lines_of c.args.text.now)
begun c =
    sym (ap (λ l. rows_read line_of (state_of c.loop-line.draft) (rows c.loop-line.place.line c.loop-line.place.byte l)) (left c)) ∙ c.loop-line.invariant.2

pub loop-line-init : goal.loop-line-init
loop-line-init c = (omega arith, omega (arith, span_split ends_line c.args.text.now), refl)

pub read_line-requires : goal.read_line-requires
read_line-requires c = omega (arith, within (goal.at.read_line-requires c).In-Some, c.requires)

pub returns-in_err-read_line : goal.returns-in_err-read_line
returns-in_err-read_line c =
    let now = (goal.at.returns-in_err-read_line c).In-Some in
    let p = err_from_is_err_and c.from_residual.result c.from_residual.ensures.1 in
    rows_stop _ line_of (state_of c.loop-line.draft) (state_of c.read_line.new.self) (here now) (others now) c.read_line.result c.in_err-read_line.field-0.0 c.from_residual.result _ (begun now) c.read_line.ensures c.in_err-read_line.was (p.1 ∙ ap Err p.2)

pub overflow_add-place : goal.overflow_add-place
overflow_add-place c = let h = within (goal.at.overflow_add-place c).In-Some in let k = c.loop-line.invariant.0 in let m = c.requires in search rules

pub overflow_add-place-in-loop-line : goal.overflow_add-place-in-loop-line
overflow_add-place-in-loop-line c = let h = within (goal.at.overflow_add-place-in-loop-line c).In-Some in let m = c.requires in search rules

pub overflow_add-place-in-loop-line-2 : goal.overflow_add-place-in-loop-line-2
overflow_add-place-in-loop-line-2 c = let h = within (goal.at.overflow_add-place-in-loop-line-2 c).In-Some in let m = c.requires in search rules

pub loop-line-preserved : goal.loop-line-preserved
loop-line-preserved c =
    let now = (goal.at.loop-line-preserved c).In-Some in
    let lines = slice_split ends_line c.args.text.now in
    let count = length_push c.loop-line.yielded c.in-Some.line in
    let was : c.read_line.result ≡ Ok c.in_ok-read_line.field-0 = c.in_ok-read_line.was in
    let span_is = ap (λ n. span (drop n lines)) count in
    (omega (arith, c.loop-line.invariant.0), omega (arith, span_is, c.loop-line.invariant.1, ap span (left now)), ap (λ n. rows_read line_of (state_of c.read_line.new.self) (rows (c.loop-line.place.line + 1) (c.loop-line.place.byte + length c.in-Some.line.now + 1) (drop n lines))) count ∙ rows_go _ line_of (state_of c.loop-line.draft) (state_of c.read_line.new.self) (here now) (others now) c.read_line.result c.in_ok-read_line.field-0 (begun now) c.read_line.ensures was)

pub returns : goal.returns
returns c =
    let end = YieldsList-end (YieldsList-at c.into_iter-line-iterator.ensures.into_iter_gives (YieldsList-from_slice_split _ ends_line c.args.text.now c.split-line-items.ensures.rest c.split-line-items.ensures.done c.split-line-items.ensures.closure (λ x b q k. search (rules, tests)))) c.loop-line.yielded _ c.loop-line.yielded_by _ _ c.in-None.is c.next.ensures.steps in
    sym c.loop-line.invariant.2 ∙ at_drop_all (λ l. rows_read line_of (state_of c.loop-line.draft) (rows c.loop-line.place.line c.loop-line.place.byte l)) (slice_split ends_line c.args.text.now) (length c.loop-line.yielded) (omega (arith, end.1))
