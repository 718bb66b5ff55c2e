use Rattle.std.proofs.Common.{◌≡◌, map, length, take, Some, vec_items, List, sym, ap, ◌∙◌, arith, rules, tests}
use Rattle.std.specs.List.{slice_split}
use Rattle.std.proofs.lemmas.Iterator.Consumers.{YieldsList-at, YieldsList-turn, YieldsList-end}
use Rattle.std.proofs.lemmas.Iterator.Splits.{YieldsList-from_slice_split}
use Rattle.std.proofs.lemmas.List.{map_push, length_push, take_all}
use Rattle.text.specs.Lists.{traversed}
use Rattle.text.specs.Parsing.{is_mark, term_of, terms_of}
use Rattle.text.specs.Shapes.{seen_term}
use Rattle.text.specs.Tokens.{said}
use Rattle.text.specs.declared.tokens.Mark.TheVariants.{Comma}
use Rattle.text.specs.declared.tokens.Token.{Token}
use Rattle.text.proofs.Traversals.{traversed-map, slice_split-map, traversed_more, traversed_stop}
use Rattle.text.proofs.bodies.parse_terms.Goals as goal

abbrev parts : List Token → List (List Token)
parts ts = slice_split (λ t. is_mark Comma (said t)) ts

-- the parts of the tokens spell those of the spelling
terms_in : (ts : List Token) → traversed (λ part. term_of (map said part)) (parts ts) ≡ terms_of (map said ts)
terms_in ts = sym (ap (traversed term_of) (slice_split-map (is_mark Comma) said ts) ∙ traversed-map term_of (map said) (parts ts))

pub loop-part-init : goal.loop-part-init
loop-part-init c = sym (ap (λ l. Some (map seen_term l)) c.new-terms.ensures.items)

pub loop-part-preserved : goal.loop-part-preserved
loop-part-preserved c =
    let turn = YieldsList-turn (YieldsList-at c.into_iter-part-iterator.ensures.into_iter_gives (YieldsList-from_slice_split _ (λ t. is_mark Comma (said t)) c.args.tokens.now c.split-part-items.ensures.rest c.split-part-items.ensures.done c.split-part-items.ensures.closure (λ x b q k. search (rules, tests)))) c.loop-part.yielded _ c.loop-part.yielded_by _ _ c.in-Some.part c.in-Some.is c.next.ensures.steps in
    ap (λ n. traversed (λ part. term_of (map said part)) (take n (parts c.args.tokens.now))) (length_push c.loop-part.yielded c.in-Some.part) ∙ traversed_more (λ part. term_of (map said part)) (parts c.args.tokens.now) (length c.loop-part.yielded) c.in-Some.part.now (map seen_term (vec_items c.loop-part.terms)) turn.0 c.loop-part.invariant (seen_term c.in-Some-parse_term.term) (sym (ap (λ part. term_of (map said part)) turn.1) ∙ sym c.in-Some-parse_term.ensures) ∙ sym (ap (λ l. Some (map seen_term l)) c.in_ok-push-in-Some-parse_term.ensures.items ∙ ap Some (map_push seen_term (vec_items c.loop-part.terms) c.in-Some-parse_term.term))

pub returns-in-None-parse_term : goal.returns-in-None-parse_term
returns-in-None-parse_term c =
    let turn = YieldsList-turn (YieldsList-at c.into_iter-part-iterator.ensures.into_iter_gives (YieldsList-from_slice_split _ (λ t. is_mark Comma (said t)) c.args.tokens.now c.split-part-items.ensures.rest c.split-part-items.ensures.done c.split-part-items.ensures.closure (λ x b q k. search (rules, tests)))) c.loop-part.yielded _ c.loop-part.yielded_by _ _ c.in-Some.part c.in-Some.is c.next.ensures.steps in
    sym (traversed_stop (λ part. term_of (map said part)) (parts c.args.tokens.now) (length c.loop-part.yielded) c.in-Some.part.now (map seen_term (vec_items c.loop-part.terms)) turn.0 c.loop-part.invariant (sym (ap (λ part. term_of (map said part)) turn.1) ∙ sym c.in-None-parse_term.ensures)) ∙ terms_in c.args.tokens.now

pub returns : goal.returns
returns c =
    let end = YieldsList-end (YieldsList-at c.into_iter-part-iterator.ensures.into_iter_gives (YieldsList-from_slice_split _ (λ t. is_mark Comma (said t)) c.args.tokens.now c.split-part-items.ensures.rest c.split-part-items.ensures.done c.split-part-items.ensures.closure (λ x b q k. search (rules, tests)))) c.loop-part.yielded _ c.loop-part.yielded_by _ _ c.in-None.is c.next.ensures.steps in
    sym c.loop-part.invariant ∙ ap (traversed (λ part. term_of (map said part))) (take_all (length c.loop-part.yielded) (parts c.args.tokens.now) (omega (arith, end.1))) ∙ terms_in c.args.tokens.now
