use Rattle.std.proofs.Common.{◌∙◌, ap₂, arith}
use Rattle.scale.specs.Meaning.{Laws, clip}
use Rattle.book.specs.Rows.{clause_of}
use Rattle.theory.proofs.Ranges.{yield_degree}
use Rattle.solve.proofs.Clips.{clip_both}
use Rattle.solve.proofs.Parts.{fits_weight, fits_head}
use Rattle.solve.proofs.values.Valuation.rule_holds.Goals as goal

pub returns : goal.returns
returns g c valued fit =
    let scale = c.args.self.now.scale.now in
    let m = g.S.Scale.meaning scale in
    let rule = clause_of c.args.rule.now in
    let weight = fits_weight m.levels rule fit in
    let laws : Laws m = g.met.S.Scale.lawful scale (omega (arith, weight)) in
    c.below.ensures ∙ ap₂ (λ a b. m.below (clip m a) (clip m b)) (c.rule_yield.ensures valued fit) c.head.ensures ∙ clip_both m m.below (yield_degree laws valued.0 valued.1 rule weight) (fits_head m valued.0 rule fit)
