use Rattle.std.proofs.Common.{rules, refl, arith}
use Rattle.scale.specs.Meaning.{Laws}
use Rattle.book.specs.Ledger.{literal_fits}
use Rattle.theory.specs.Semantics.{body_value}
use Rattle.theory.proofs.Ranges.{every_all}
use Rattle.solve.specs.Valuations.{lower_of, upper_of}
use Rattle.solve.proofs.Folds.{folds}
use Rattle.solve.proofs.Gains.{bodies}
use Rattle.solve.proofs.values.Valuation.times_body.Goals as goal

pub returns : goal.returns
returns g c valued first fit =
    let v = c.args.self.now in
    let m = g.S.Scale.meaning v.scale.now in
    let laws : Laws m = g.met.S.Scale.lawful v.scale.now (omega (arith, first)) in
    let body = c.args.body.now in
    folds (bodies laws valued.0 valued.1) body (every_all (literal_fits m.levels) body fit) (m.product c.args.start (body_value m (lower_of v) (upper_of v) body)) _ _ (λ a x b d k. (search rules, search rules)) c.iter.result c.iter.ensures.rest c.args.start c.fold.result first refl c.fold.ensures.ran
