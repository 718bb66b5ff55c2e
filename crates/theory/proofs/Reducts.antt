-- The scenes are the fuzzy answer sets: the reduct asks of a row what the rules ask of it under the setting of the reduct.
use Rattle.std.proofs.Common.{◌≡◌, ℕ, ◌<◌, true, List, [], ◌∷◌, map, sym, refl, ap, ◌∙◌, subst}
use Rattle.scale.specs.Meaning.{Meaning, Laws}
use Rattle.book.specs.Ledger.{Clause}
use Rattle.book.specs.declared.rule.Literal.{Literal}
use Rattle.book.specs.declared.rule.Literal.TheVariants.{Plain, Above, Lacking}
use Rattle.theory.specs.Semantics.{at, AllByRecursion, Setting, body_value, yield, head_value, holds, raised, Scene, BoundHolds}
use Rattle.theory.specs.AnswerSet.{positive, weighed, reduct, Under, AnswerSet}
use Rattle.theory.proofs.Order.{Le, le_refl, le_trans, product_left_comm}
use Rattle.theory.proofs.Ranges.{Within, HeadWithin, Degrees, all_map, all_both, by_head, value_degree, body_degree}
use Rattle.theory.proofs.Values.{Rows, yield_mono}
use Rattle.theory.proofs.Raising.{stands_still}
use Rattle.theory.proofs.Least.{statement_part, both_parts, rows_from, under_antisym, least_under, scene_holds, scene_from}

module _ {m : Meaning} (laws : Laws m) where
  weighed_degree : {u : ℕ → ℕ} → Degrees m u → (w : ℕ) → w < m.levels → (xs : List Literal) → weighed m u w xs < m.levels
  weighed_degree du w h [] = h
  weighed_degree du w h (Plain s ∷ xs) = weighed_degree du w h xs
  weighed_degree du w h (Above s d ∷ xs) = weighed_degree du w h xs
  weighed_degree {u} du w h (Lacking s ∷ xs) = laws.product_degree (m.lack (u s)) (weighed m u w xs) (laws.lack_degree (u s) (du s)) (weighed_degree du w h xs)

  -- a factor x of the body taken to the front on both sides, over what is shown of the rest
  factor : {x w a b c : ℕ} → x < m.levels → w < m.levels → a < m.levels → b < m.levels → c < m.levels → m.product a b ≡ m.product w c → m.product a (m.product x b) ≡ m.product w (m.product x c)
  factor {x} {w} {a} {b} {c} hx hw ha hb hc e =
      product_left_comm laws ha hx hb ∙ ap (m.product x) e ∙ product_left_comm laws hx hw hc

  module _ {l v u : ℕ → ℕ} (dl : Degrees m l) (dv : Degrees m v) (du : Degrees m u) where
    -- the lacks may stand in the weight as well as in the body
    weighed_body : (w : ℕ) → w < m.levels → (xs : List Literal) → m.product (weighed m u w xs) (body_value m l v (positive xs)) ≡ m.product w (body_value m l u xs)
    weighed_body w h [] = refl
    weighed_body w h (Plain s ∷ xs) =
        factor (dl s) h (weighed_degree du w h xs) (body_degree laws dl dv (positive xs)) (body_degree laws dl du xs) (weighed_body w h xs)
    weighed_body w h (Above s d ∷ xs) =
        factor (value_degree laws dl du (Above s d)) h (weighed_degree du w h xs) (body_degree laws dl dv (positive xs)) (body_degree laws dl du xs) (weighed_body w h xs)
    weighed_body w h (Lacking s ∷ xs) =
        let k = laws.lack_degree (u s) (du s) in
        laws.product_assoc (m.lack (u s)) (weighed m u w xs) (body_value m l v (positive xs)) k (weighed_degree du w h xs) (body_degree laws dl dv (positive xs))
        ∙ ap (m.product (m.lack (u s))) (weighed_body w h xs)
        ∙ product_left_comm laws k h (body_degree laws dl du xs)

    pub reduct_yield : (c : Clause) → c.weight < m.levels → yield m l v (reduct m u c) ≡ yield m l u c
    reduct_yield c h = weighed_body c.weight h c.body

    pub reduct_holds : (c : Clause) → c.weight < m.levels → holds m l v (reduct m u c) ≡ holds m l u c
    reduct_holds c h = ap (λ y. m.below y (head_value l c.head)) (reduct_yield c h)

    pub to_reduct : (n : ℕ) (cs : List Clause) → AllByRecursion (Within m.levels n) cs → AllByRecursion (λ c. holds m l u c ≡ true) cs → AllByRecursion (λ c. holds m l v c ≡ true) (map (reduct m u) cs)
    to_reduct n [] hs h = tt
    to_reduct n (c ∷ cs) hs h = (reduct_holds c hs.0.weight_within ∙ h.0, to_reduct n cs hs.1 h.1)

    pub from_reduct : (n : ℕ) (cs : List Clause) → AllByRecursion (Within m.levels n) cs → AllByRecursion (λ c. holds m l v c ≡ true) (map (reduct m u) cs) → AllByRecursion (λ c. holds m l u c ≡ true) cs
    from_reduct n [] hs h = tt
    from_reduct n (c ∷ cs) hs h = (sym (reduct_holds c hs.0.weight_within) ∙ h.0, from_reduct n cs hs.1 h.1)

  -- a bound that holds at a row holds at every lower one, since its yield is no greater there
  pub bound_below : {l k u : ℕ → ℕ} → Rows m l k → Degrees m u → {n : ℕ} (c : Clause) → Within m.levels n c → holds m k u c ≡ true → BoundHolds m l u c
  bound_below {l} {k} {u} lower du {n} c h held =
      by_head (λ b. HeadWithin m.levels n b.head → Le m (yield m l u b) (yield m k u b) → holds m k u b ≡ true → BoundHolds m l u b) c
      (λ s w y e. tt)
      (λ d w y e. (le_trans laws y (record { lo = y.hi; hi = w; is = e })).is)
      h.head_within
      (yield_mono laws lower (λ s. le_refl laws (du s)) n c h)
      held

  module _ (n : ℕ) (cs : List Clause) (hs : AllByRecursion (Within m.levels n) cs) (row : List ℕ) (setting : Setting m n row) where
    degrees : Degrees m (at row)
    degrees = setting.degrees

    pub scene_answers : Scene m cs n row → AnswerSet m n cs row
    scene_answers (r, scene) =
        let all = scene_holds laws n cs hs setting scene in
        record {
          satisfies = record { setting = setting; satisfied = all };
          least =
              record {
                model = record { setting = setting; satisfied = to_reduct degrees degrees degrees n cs hs all };
                least = λ other model.
                    let dt = model.setting.degrees in
                    let met = all_map (statement_part m (at other) (at row)) cs (from_reduct dt dt degrees n cs hs model.satisfied) in
                    subst (λ (x : List ℕ). Under m x other) scene.least ((least_under laws n cs hs row degrees r scene.rounds.still).least other model.setting met);
              };
        }

    pub answers_scene : AnswerSet m n cs row → Scene m cs n row
    answers_scene answer =
        let found = stands_still laws n cs hs row degrees in
        let r = found.0 in
        let low = raised m cs n row r in
        let under = least_under laws n cs hs row degrees r found.1.still in
        let all = answer.satisfies.satisfied in
        let below : Under m low row = under.least row setting (all_map (statement_part m (at row) (at row)) cs all) in
        let dw = under.setting.degrees in
        let bounds = all_both (λ c. bound_below (rows_from under.setting setting below) degrees c) cs hs all in
        let held = all_both (both_parts m (at low) (at row)) cs under.satisfied bounds in
        let above : Under m row low = answer.least.least low (record { setting = under.setting; satisfied = to_reduct dw dw degrees n cs hs held }) in
        (r, scene_from all found.1 (under_antisym laws under.setting setting below above))
