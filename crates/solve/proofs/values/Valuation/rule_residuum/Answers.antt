use Rattle.std.proofs.Common.{◌≡◌, ℕ, ◌<◌, true, List, sym, ◌∙◌, subst, ap₂, arith}
use Rattle.scale.specs.Meaning.{Laws, clip}
use Rattle.book.specs.Ledger.{literal_fits}
use Rattle.std.specs.List.{list_all}
use Rattle.book.specs.declared.rule.Literal.{Literal}
use Rattle.book.specs.Rows.{clause_of}
use Rattle.theory.specs.Semantics.{body_value}
use Rattle.solve.specs.Valuations.{lower_of, upper_of}
use Rattle.theory.proofs.Order.{top_degree}
use Rattle.theory.proofs.Ranges.{body_degree}
use Rattle.solve.proofs.Clips.{clip_both}
use Rattle.solve.proofs.Parts.{fits_weight, fits_head, fits_body}
use Rattle.solve.proofs.values.Valuation.rule_residuum.Goals as goal

pub returns : goal.returns
returns g c valued fit =
    let v = c.args.self.now in
    let m = g.S.Scale.meaning v.scale.now in
    let rule = clause_of c.args.rule.now in
    let weight = fits_weight m.levels rule fit in
    let laws : Laws m = g.met.S.Scale.lawful v.scale.now (omega (arith, weight)) in
    let worth = body_degree laws valued.0 valued.1 rule.body in
    let product : c.times_body-body.result ≡ body_value m (lower_of v) (upper_of v) rule.body = c.times_body-body.ensures valued (subst (λ (k : ℕ). k < m.levels) (sym c.top.ensures) (top_degree laws)) (subst (λ (xs : List Literal). list_all (literal_fits m.levels) xs ≡ true) (sym c.literals.ensures) (fits_body m.levels rule fit)) ∙ ap₂ (λ a xs. m.product a (body_value m (lower_of v) (upper_of v) xs)) c.top.ensures c.literals.ensures ∙ laws.product_top _ worth in
    c.residuum.ensures ∙ ap₂ (λ a b. m.residuum (clip m a) (clip m b)) product c.head.ensures ∙ clip_both m m.residuum worth (fits_head m valued.0 rule fit)
