use Rattle.std.proofs.Common.{sym, ◌∙◌}
use Rattle.theory.proofs.Least.{scene_still, scene_holds, scene_from}
use Rattle.solve.specs.Programs.{clauses_of}
use Rattle.solve.proofs.Programs.{program_laws, program_within}
use Rattle.solve.proofs.Rounds.{rows_alike}
use Rattle.solve.proofs.program.Program.scene_rounds.Goals as goal
use Rattle.solve.proofs.program.Program.scene_rounds.Goals.{then-not-stands-via-then-not-stands, then-not-stands-via-else-not-stands+then-not-all_hold}

pub returns-then-not-stands : goal.returns-then-not-stands
returns-then-not-stands g c scene =
    let p = c.args.self.now in
    let m = g.S.Scale.meaning p.scale.now in
    let laws = program_laws p g.met.S.Scale.lawful in
    let within = program_within p in
    elim c.then-not-stands.branch [
      | then-not-stands-via-then-not-stands w ↦ w.if-not-stands.ensures (scene_still scene.1)
      | then-not-stands-via-else-not-stands+then-not-all_hold w ↦ w.if-not-all_hold.ensures c.requires.degrees (scene_holds laws p.statements (clauses_of p) within c.requires scene.1)
    ]

pub returns-then-eq : goal.returns-then-eq
returns-then-eq g c =
    let p = c.args.self.now in
    let m = g.S.Scale.meaning p.scale.now in
    let made = c.least_model-rounds.ensures in
    scene_from (c.if-not-all_hold.ensures c.requires.degrees) made.rounds (sym made.after ∙ rows_alike _ _ c.if-eq.ensures)
