use Rattle.std.proofs.Common.{[], Some, vec_items, sym, ap, ◌∙◌, rules}
use Rattle.std.proofs.lemmas.List.{take_all}
use Rattle.text.specs.Entries.{names_of, literal_of}
use Rattle.text.specs.Lists.{traversed}
use Rattle.text.specs.Shapes.{seen_term}
use Rattle.text.specs.declared.shapes.Term.{Term}
use Rattle.text.specs.declared.shapes.Term.TheVariants.{Plain}
use Rattle.text.proofs.Traversals.{traversed-map, traversed_more, traversed_stop}
use Rattle.text.proofs.drafts.Names.body.Goals as goal

-- what a term is read at, past the end
abbrev nothing : Term
nothing = Plain (record { ref_ptr = (0, 0); now = [] })

pub loop-term-init : goal.loop-term-init
loop-term-init c = sym (ap Some c.new-body.ensures.items)

pub returns-in-None : goal.returns-in-None
returns-in-None c =
    let names = names_of c.args.self.now in
    sym (traversed_stop (λ t. literal_of names (seen_term t)) c.args.terms.now c.loop-term.term-index nothing (vec_items c.loop-term.body) c.loop-term-test.true c.loop-term.invariant (sym c.in-None.ensures)) ∙ sym (traversed-map (literal_of names) seen_term c.args.terms.now)

pub loop-term-preserved : goal.loop-term-preserved
loop-term-preserved c =
    let names = names_of c.args.self.now in
    traversed_more (λ t. literal_of names (seen_term t)) c.args.terms.now c.loop-term.term-index nothing (vec_items c.loop-term.body) c.loop-term-test.true c.loop-term.invariant c.in-Some.literal (sym c.in-Some.ensures) ∙ sym (ap Some c.in_ok-push-in-Some.ensures.items)

pub returns : goal.returns
returns c =
    let names = names_of c.args.self.now in
    sym c.loop-term.invariant ∙ ap (traversed (λ t. literal_of names (seen_term t))) (take_all c.loop-term.term-index c.args.terms.now (search rules)) ∙ sym (traversed-map (literal_of names) seen_term c.args.terms.now)
