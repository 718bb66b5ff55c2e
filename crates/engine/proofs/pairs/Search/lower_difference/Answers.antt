use Rattle.std.proofs.Common.{◌∙◌, Some, subst, rules, arith, ℕ}
use Rattle.solve.specs.Programs.{clauses_of}
use Rattle.solve.specs.Ready.{AllBelow}
use Rattle.theory.specs.Semantics.{Setting}
use Rattle.engine.specs.Differences.{KeptBy}
use Rattle.engine.proofs.Finding.{lower_found}
use Rattle.engine.proofs.Telling.{program_some}
use Rattle.engine.proofs.Zeros.{zeros_start, zeros_setting}
use Rattle.engine.proofs.pairs.Search.lower_difference.Goals as goal

pub first_answer-requires-clause-start : goal.first_answer-requires-clause-start
first_answer-requires-clause-start g c = zeros_start c.args.self.now.statements (omega (arith, c.args.self.now.first.few, c.args.self.now.first_size)) c.levels.result

pub returns : goal.returns
returns g c =
    let p = c.args.self.now in
    let m = g.S.Scale.meaning p.scale.now in
    let n = p.statements in
    let row = c.first_answer.new.row in
    let zeros = zeros_setting n (omega (arith, p.first.few, p.first_size)) m (program_some m p.first p.first_scale) in
    let setting : Setting m n row = record { long = c.first_answer.auto.row ∙ zeros.long; degrees = subst (λ (k : ℕ). AllBelow k row) c.levels.ensures c.in_ok-book.ensures.0 } in
    let kept : KeptBy m row c.args.upper.now (clauses_of p.first) (clauses_of p.second) (Some c.in_ok-book.book) = search rules in
    lower_found m n c.args.upper.now (clauses_of p.first) (clauses_of p.second) c.in_ok-book.book row _ setting kept
