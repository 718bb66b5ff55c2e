use Rattle.std.proofs.Common.{sym, vec_items, ◌∙◌, rules, tests}
use Rattle.std.specs.Str.{bytes_eq}
use Rattle.std.proofs.lemmas.Iterator.{YieldsList-from_slice}
use Rattle.std.proofs.lemmas.Iterator.Search.{position_from_yields_List}
use Rattle.text.proofs.Lookups.{position-map}
use Rattle.text.proofs.drafts.Names.number.Goals as goal

pub returns-in_err-number : goal.returns-in_err-number
returns-in_err-number c =
    c.from_residual.ensures ∙ sym c.in_err-number.was ∙ position_from_yields_List (λ k. bytes_eq k.now c.args.name.now) _ _ c.position.result c.position.ensures.ran (YieldsList-from_slice (vec_items c.args.self.now.list) (search rules)) (λ x b q k. search (rules, tests)) ∙ sym (position-map (λ k. bytes_eq k c.args.name.now) (λ x. x.now) (vec_items c.args.self.now.list))

pub returns : goal.returns
returns c =
    sym c.in_ok-number.was ∙ position_from_yields_List (λ k. bytes_eq k.now c.args.name.now) _ _ c.position.result c.position.ensures.ran (YieldsList-from_slice (vec_items c.args.self.now.list) (search rules)) (λ x b q k. search (rules, tests)) ∙ sym (position-map (λ k. bytes_eq k c.args.name.now) (λ x. x.now) (vec_items c.args.self.now.list))
