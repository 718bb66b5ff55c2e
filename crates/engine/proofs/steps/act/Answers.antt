use Rattle.std.proofs.Common.{◌∙◌}
use Rattle.book.specs.View.{ledger_of}
use Rattle.engine.proofs.Stepping.{check_outcome, seek_outcome, compare_outcome}
use Rattle.engine.proofs.steps.act.Goals as goal

pub returns-in-Check-clause-answer : goal.returns-in-Check-clause-answer
returns-in-Check-clause-answer g c =
    let m = g.S.Scale.meaning c.args.scale.now in
    rw c.in-Check.is (check_outcome m (ledger_of c.args.named.now) c.in-Check.setting _ _ c.deref-in-Check.ensures.value c.check-verdict.ensures)

pub returns-in-Seek-clause-answer : goal.returns-in-Seek-clause-answer
returns-in-Seek-clause-answer g c =
    let m = g.S.Scale.meaning c.args.scale.now in
    rw c.in-Seek.is (seek_outcome m (ledger_of c.args.named.now) c.in-Seek.start c.in-Seek.place c.deref_mut.result.now c.seek-found.new.place _ c.deref_mut.ensures.value (c.seek-found.auto.place ∙ c.deref_mut.ensures.len) c.seek-found.ensures.answer c.seek-found.ensures.refused)

pub returns-in-Compare-clause-answer : goal.returns-in-Compare-clause-answer
returns-in-Compare-clause-answer g c =
    let m = g.S.Scale.meaning c.args.scale.now in
    let rules = c.deref_mut-in-Compare in
    let setting = c.deref_mut-in-Compare-2 in
    let compared = c.compare-comparison in
    rw c.in-Compare.is (compare_outcome m (ledger_of c.args.named.now) (ledger_of c.args.other.now) c.in-Compare.addendum c.in-Compare.setting rules.result.now compared.new.addendum setting.result.now compared.new.setting _ rules.ensures.value setting.ensures.value (compared.auto.addendum ∙ rules.ensures.len) (compared.auto.setting ∙ setting.ensures.len) compared.ensures.answer compared.ensures.refused)
