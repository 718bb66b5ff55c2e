use Rattle.std.proofs.Common.{rules, sym, ◌∙◌}
use Rattle.theory.proofs.Least.{scene_from}
use Rattle.solve.specs.Programs.{clauses_of}
use Rattle.solve.proofs.Findings.{first_from_breach, all_hold, first_unsupported}
use Rattle.solve.proofs.Programs.{row_fits}
use Rattle.solve.proofs.program.Program.judge.Goals as goal

pub returns-in-Some : goal.returns-in-Some
returns-in-Some g c =
    let p = c.args.self.now in
    let m = g.S.Scale.meaning p.scale.now in
    let breach = c.in-Some.ensures c.requires.degrees in
    let fit = row_fits m.levels p.statements p.rules.now p.lawful c.in-Some.rule c.index-self-rule.result breach.0 in
    first_from_breach m p.rules.now c.args.row.now c.in-Some.rule c.rule_residuum-residuum.result c.index-self-rule.result breach (c.rule_residuum-residuum.ensures (c.requires.degrees, c.requires.degrees) fit)

pub returns-in-Some-first_difference : goal.returns-in-Some-first_difference
returns-in-Some-first_difference g c =
    let p = c.args.self.now in
    let m = g.S.Scale.meaning p.scale.now in
    let row = c.args.row.now in
    let made = c.least_model-rounds.ensures in
    first_unsupported m (clauses_of p) p.statements row c.least_model-rounds.result c.in-Some-first_difference.statement (all_hold m p.rules.now row (c.in_default.ensures c.requires.degrees)) made.rounds made.after (search rules) c.in-Some-first_difference.ensures

pub returns-in-None : goal.returns-in-None
returns-in-None g c =
    let p = c.args.self.now in
    let m = g.S.Scale.meaning p.scale.now in
    let made = c.least_model-rounds.ensures in
    scene_from (all_hold m p.rules.now c.args.row.now (c.in_default.ensures c.requires.degrees)) made.rounds (sym made.after ∙ c.in-None.ensures)
