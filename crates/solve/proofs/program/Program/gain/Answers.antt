use Rattle.std.proofs.Common.{rules}
use Rattle.scale.specs.Meaning.{Meaning}
use Rattle.theory.specs.Semantics.{at}
use Rattle.theory.proofs.Order.{zero_degree, join_zero_left}
use Rattle.solve.proofs.Folds.{folds}
use Rattle.solve.proofs.Gains.{demands}
use Rattle.solve.proofs.Parts.{gains}
use Rattle.solve.proofs.Programs.{program_laws, kept_lawful}
use Rattle.solve.proofs.program.Program.gain.Goals as goal

pub returns : goal.returns
returns g c =
    let p = c.args.self.now in
    let m : Meaning = g.S.Scale.meaning p.scale.now in
    let laws = program_laws p g.met.S.Scale.lawful in
    let s = c.args.statement in
    let lawful = kept_lawful m.levels p.statements p.rules.now p.lawful in
    let way = demands laws c.requires.lower c.requires.upper p.statements s in
    let whole = join_zero_left laws (way.worths p.rules.now lawful) in
    folds way p.rules.now lawful (gains m (at c.args.lower.now) (at c.args.upper.now) s p.rules.now) _ _ (λ a x b d k. (λ good. let fit = good.degrees in search rules, search rules)) c.iter.result c.iter.ensures.rest 0 c.fold.result (zero_degree laws) whole c.fold.ensures.ran
