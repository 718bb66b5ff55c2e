use Rattle.std.proofs.Common.{◌≡◌, ℕ, ◌<◌, sym, ap, ◌∙◌, subst}
use Rattle.theory.specs.Position.{position}
use Rattle.theory.specs.Semantics.{at, Setting}
use Rattle.solve.specs.Programs.{meaning_of, clauses_of}
use Rattle.solve.proofs.Searching.{passed_one}
use Rattle.solve.proofs.program.Program.first_scene.Goals as goal

pub loop-position-preserved : goal.loop-position-preserved
loop-position-preserved g c =
    let p = c.args.self.now in
    let m = meaning_of p in
    let row = c.write_setting.new.row in
    let levels = c.levels-levels.ensures in
    let setting : Setting m p.statements row = record { long = c.write_setting.auto.row ∙ c.loop-position.auto.row ∙ c.requires.room; degrees = λ s. subst (λ (k : ℕ). at row s < k) levels (c.write_setting.ensures.degrees s) } in
    let here : position m.levels row ≡ c.loop-position.position = ap (λ (k : ℕ). position k row) (sym levels) ∙ c.write_setting.ensures.position in
    passed_one m (clauses_of p) p.statements c.args.start c.loop-position.position row setting here c.in_default.ensures c.loop-position.invariant
