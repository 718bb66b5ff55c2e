-- The addendum that tells two lists of rules apart: that it is lawful and short, and that it leaves nothing strictly
-- between its two rows.
use Rattle.std.proofs.Common.{◌≡◌, ℕ, suc, ◌*◌, ◌<◌, ◌≤◌, Bool, true, false, cond, ◌⊎◌, List, [], ◌∷◌, length, sym, refl, ap, ◌∙◌, inl, inr, arith}
use Rattle.std.specs.List.{range_with_len}
use Rattle.std.proofs.lemmas.List.{length-append, get_or_past}
use Rattle.std.proofs.lemmas.List.FromFn.{length-range_with_len, length-map-range_with_len}
use Rattle.std.proofs.lemmas.List.Sums.{length-filter, count_by-le-length}
use Rattle.std.proofs.lemmas.Bool.{lt-ltb, and_from, cond_both, cond-true, cond-false, cases_Bool, cases_eq, cases_lt, eqb-false, ne_eqb, not-true, not_from_false}
use Rattle.scale.specs.Meaning.{Meaning, Laws, top}
use Rattle.book.specs.Ledger.{Clause, Lawful}
use Rattle.theory.specs.Semantics.{at, Setting, holds, AllByRecursion, StatementHolds}
use Rattle.theory.specs.AnswerSet.{Under}
use Rattle.theory.specs.Equivalence.{Pair, fact, facts, differs, differing, link, chain, last_of, cycle, addendum}
use Rattle.theory.proofs.Order.{zero_degree, top_degree, le_refl, le_top, le_antisym, bottom_le, product_mono, product_top_right}
use Rattle.theory.proofs.Least.{under_antisym}
use Rattle.theory.proofs.Lists.{all_append, all_left, all_right, all_to_map, all_from_map, all_to_kept, all_from_kept, all_counting, each_counted}

-- what holds of each fact holds of all
all_facts : (P : Clause → Type 0) (n : ℕ) (row : List ℕ) → ((s : ℕ) → s < n → P (fact row s)) → AllByRecursion P (facts n row)
all_facts P n row each = all_to_map P (fact row) (range_with_len 0 n) (all_counting _ 0 n (λ s h. each s (omega arith)))

pub length-facts : (n : ℕ) (row : List ℕ) → length (facts n row) ≤ 2 * n
length-facts n row = omega (arith, length-map-range_with_len (fact row) 0 n)

-- the last of statements below n is below n
last_below : (n s : ℕ) (ts : List ℕ) → s < n → AllByRecursion (λ t. t < n) ts → last_of s ts < n
last_below n s [] h all = h
last_below n s (t ∷ ts) h all = last_below n t ts all.0 all.1

module _ (n : ℕ) (lower upper : List ℕ) where
  differing_below : AllByRecursion (λ t. t < n) (differing n lower upper)
  differing_below = all_to_kept _ _ (range_with_len 0 n) (all_counting _ 0 n (λ s h _. omega arith))

  differing_differ : AllByRecursion (λ t. at lower t ≡ at upper t → ⊥) (differing n lower upper)
  differing_differ = all_to_kept _ _ (range_with_len 0 n) (all_counting _ 0 n (λ s h t. eqb-false (at lower s) (at upper s) (not-true _ t)))

  -- what holds of the statements that differ, and of those that do not, holds of all
  from_differing : (P : ℕ → Type 0) → AllByRecursion P (differing n lower upper) → ((s : ℕ) → at lower s ≡ at upper s → P s) → (s : ℕ) → s < n → P s
  from_differing P all same s h =
      elim (cases_eq (at lower s) (at upper s)) [
        | inl e ↦ same s e
        | inr e ↦ each_counted _ 0 n (all_from_kept P _ (range_with_len 0 n) all) s (omega arith) (omega arith) (not_from_false _ (ne_eqb (at lower s) (at upper s) e))
      ]

  -- what holds of every link between statements below n holds of the whole cycle
  all_chain : (P : Clause → Type 0) → ((s t : ℕ) → s < n → t < n → P (link lower upper s t)) → (s : ℕ) (ts : List ℕ) → s < n → AllByRecursion (λ t. t < n) ts → AllByRecursion P (chain lower upper s ts)
  all_chain P each s [] h below = tt
  all_chain P each s (t ∷ ts) h below = (each s t h below.0, all_chain P each t ts below.0 below.1)

  all_cycle : (P : Clause → Type 0) → ((s t : ℕ) → s < n → t < n → P (link lower upper s t)) → (ts : List ℕ) → AllByRecursion (λ t. t < n) ts → AllByRecursion P (cycle lower upper ts)
  all_cycle P each [] below = tt
  all_cycle P each (t ∷ ts) below = all_chain P each (last_of t ts) (t ∷ ts) (last_below n t ts below.0 below.1) below

  all_addendum : (P : Clause → Type 0) → ((s : ℕ) → s < n → P (fact lower s)) → ((s t : ℕ) → s < n → t < n → P (link lower upper s t)) → AllByRecursion P (addendum n lower upper)
  all_addendum P of-fact of-link =
      let ts = differing n lower upper in
      all_append P (facts n lower) (cycle lower upper ts) (all_facts P n lower of-fact) (all_cycle P of-link ts differing_below)

  length-chain : (s : ℕ) (ts : List ℕ) → length (chain lower upper s ts) ≡ length ts
  length-chain s [] = refl
  length-chain s (t ∷ ts) = ap suc (length-chain t ts)

  pub length-addendum : length (addendum n lower upper) ≤ 2 * n
  length-addendum =
      let test = differs lower upper in
      let all = range_with_len 0 n in
      simp (length-append, length-map-range_with_len, length-chain) (omega (arith, length-filter test all, count_by-le-length test all, length-range_with_len 0 n))

module _ {m : Meaning} (laws : Laws m) where
  product_zero_right : {a : ℕ} → a < m.levels → m.product a 0 ≡ 0
  product_zero_right h =
      let zero = zero_degree laws in
      le_antisym laws (rw (laws.product_top 0 zero) at (product_mono laws (le_top laws h) (le_refl laws zero))) (bottom_le laws (laws.product_degree _ 0 h zero))

  -- the order of settings is that of their first n statements
  under_from : {n : ℕ} {a b : List ℕ} → Setting m n a → Setting m n b → ((s : ℕ) → s < n → m.below (at a s) (at b s) ≡ true) → Under m a b
  under_from {n} {a} {b} low high each s =
      elim (cases_lt s n) [
        | inl within ↦ each s within
        | inr past ↦ rw (get_or_past a s 0 (rw low.long past)) (laws.bottom_least (at b s) (high.degrees s))
      ]

  module _ {n : ℕ} {row : List ℕ} (setting : Setting m n row) where
    fact_lawful : (s : ℕ) → s < n → Lawful m.levels n (fact row s)
    fact_lawful s h =
        record {
          knows = and_from _ _ (lt-ltb s n h) refl;
          degrees = and_from _ _ (lt-ltb (at row s) m.levels (setting.degrees s)) refl;
          short = refl;
        }

    -- a fact holds where its statement is at or over its degree
    fact_holds : (l u : ℕ → ℕ) (s : ℕ) → holds m l u (fact row s) ≡ m.below (at row s) (l s)
    fact_holds l u s = ap (λ x. m.below x (l s)) (product_top_right laws (setting.degrees s))

    pub facts_lawful : AllByRecursion (Lawful m.levels n) (facts n row)
    facts_lawful = all_facts _ n row fact_lawful

    pub facts_hold : (u : ℕ → ℕ) → AllByRecursion (λ c. holds m (at row) u c ≡ true) (facts n row)
    facts_hold u = all_facts _ n row (λ s _. fact_holds (at row) u s ∙ laws.below_refl (at row s) (setting.degrees s))

    -- a setting at which the facts hold is at or over their row
    pub facts_demand : {other : List ℕ} → Setting m n other → (u : ℕ → ℕ) → AllByRecursion (StatementHolds m (at other) u) (facts n row) → Under m row other
    facts_demand {other} degrees u all =
        let each = each_counted _ 0 n (all_from_map (StatementHolds m (at other) u) (fact row) (range_with_len 0 n) all) in
        under_from setting degrees (λ s h. sym (fact_holds (at other) u s) ∙ each s (omega arith) (omega arith))

  module _ {n : ℕ} {lower upper : List ℕ} (low : Setting m n lower) (high : Setting m n upper) where
    link_lawful : (s t : ℕ) → s < n → t < n → Lawful m.levels n (link lower upper s t)
    link_lawful s t hs ht =
        record {
          knows = and_from _ _ (lt-ltb t n ht) (and_from _ _ (lt-ltb s n hs) refl);
          degrees = and_from _ _ (lt-ltb (at upper t) m.levels (high.degrees t)) (and_from _ _ (lt-ltb (at lower s) m.levels (low.degrees s)) refl);
          short = refl;
        }

    -- a link demands its upper degree, and nothing while the statement before it has not risen
    link_holds : (l u : ℕ → ℕ) (s t : ℕ) → holds m l u (link lower upper s t) ≡ m.below (cond (m.below (l s) (at lower s)) 0 (at upper t)) (l t)
    link_holds l u s t = ap (λ x. m.below x (l t)) (demand (m.below (l s) (at lower s)))
      where
        demand : (b : Bool) → m.product (at upper t) (m.product (cond b 0 (top m)) (top m)) ≡ cond b 0 (at upper t)
        demand true = ap (m.product (at upper t)) (product_top_right laws (zero_degree laws)) ∙ product_zero_right (high.degrees t)
        demand false = ap (m.product (at upper t)) (product_top_right laws (top_degree laws)) ∙ product_top_right laws (high.degrees t)

    -- so it holds at either row
    link_at_upper : (u : ℕ → ℕ) (s t : ℕ) → holds m (at upper) u (link lower upper s t) ≡ true
    link_at_upper u s t =
        let d = high.degrees t in
        link_holds (at upper) u s t ∙ cond_both _ 0 (at upper t) (λ x. m.below x (at upper t) ≡ true) (λ _. laws.bottom_least _ d) (λ _. laws.below_refl _ d)

    link_at_lower : (u : ℕ → ℕ) (s t : ℕ) → holds m (at lower) u (link lower upper s t) ≡ true
    link_at_lower u s t =
        let nothing = cond-true _ 0 (at upper t) (laws.below_refl (at lower s) (low.degrees s)) in
        link_holds (at lower) u s t ∙ ap (λ x. m.below x (at lower t)) nothing ∙ laws.bottom_least (at lower t) (low.degrees t)

    pub addendum_lawful : AllByRecursion (Lawful m.levels n) (addendum n lower upper)
    addendum_lawful = all_addendum n lower upper _ (fact_lawful low) link_lawful

    -- its two rows are a pair of it
    pub addendum_pair : Under m lower upper → Pair m n (addendum n lower upper) lower upper
    addendum_pair under =
        record {
          here = low;
          there = high;
          under = under;
          satisfied = all_addendum n lower upper _ (λ s _. fact_holds low (at upper) (at upper) s ∙ under s) (λ s t _ _. link_at_upper (at upper) s t);
          kept = all_addendum n lower upper _ (λ s _. fact_holds low (at lower) (at upper) s ∙ laws.below_refl (at lower s) (low.degrees s)) (λ s t _ _. link_at_lower (at upper) s t);
        }

    module _ {mid : List ℕ} (between : Setting m n mid) (under : Under m lower upper) (u : ℕ → ℕ) where
      -- a statement of mid has not risen over its lower degree, has, or is at or over its upper one
      abbrev Still : ℕ → Type 0
      Still s = m.below (at mid s) (at lower s) ≡ true

      abbrev Risen : ℕ → Type 0
      Risen s = m.below (at mid s) (at lower s) ≡ false

      abbrev Lifted : ℕ → Type 0
      Lifted s = m.below (at upper s) (at mid s) ≡ true

      abbrev Differ : ℕ → Type 0
      Differ s = at lower s ≡ at upper s → ⊥

      lifted_risen : (t : ℕ) → Differ t → Lifted t → Risen t
      lifted_risen t differ lifted =
          elim (cases_Bool (m.below (at mid t) (at lower t))) [
            | inl still ↦
                let back = laws.below_trans (at upper t) (at mid t) (at lower t) (high.degrees t) (between.degrees t) (low.degrees t) lifted still in
                absurd (differ (laws.below_antisym (at lower t) (at upper t) (low.degrees t) (high.degrees t) (under t) back))
            | inr risen ↦ risen
          ]

      -- once the statement before a chain has risen, the whole chain is lifted, its last statement too
      chain_lifted : (s : ℕ) (ts : List ℕ) → AllByRecursion Differ ts → AllByRecursion (StatementHolds m (at mid) u) (chain lower upper s ts) → Risen s → AllByRecursion Lifted ts × Risen (last_of s ts)
      chain_lifted s [] differ all risen = (tt, risen)
      chain_lifted s (t ∷ ts) differ all risen =
          let demand = cond-false _ 0 (at upper t) risen in
          let lifted : Lifted t = ap (λ x. m.below x (at mid t)) (sym demand) ∙ sym (link_holds (at mid) u s t) ∙ all.0 in
          let rest = chain_lifted t ts differ.1 all.1 (lifted_risen t differ.0 lifted) in
          ((lifted, rest.0), rest.1)

      -- if any statement of a chain has risen, its last one has
      chain_last : (s : ℕ) (ts : List ℕ) → AllByRecursion Differ ts → AllByRecursion (StatementHolds m (at mid) u) (chain lower upper s ts) → AllByRecursion Still ts ⊎ Risen (last_of s ts)
      chain_last s [] differ all = inl tt
      chain_last s (t ∷ ts) differ all =
          elim (cases_Bool (m.below (at mid t) (at lower t))) [
            | inl still ↦ elim (chain_last t ts differ.1 all.1) [ inl rest ↦ inl (still, rest) | inr risen ↦ inr risen ]
            | inr risen ↦ inr (chain_lifted t ts differ.1 all.1 risen).1
          ]

      cycle_all_or_none : (ts : List ℕ) → AllByRecursion Differ ts → AllByRecursion (StatementHolds m (at mid) u) (cycle lower upper ts) → AllByRecursion Still ts ⊎ AllByRecursion Lifted ts
      cycle_all_or_none [] differ all = inl tt
      cycle_all_or_none (t ∷ ts) differ all =
          let last = last_of t ts in
          elim (chain_last last (t ∷ ts) differ all) [ inl still ↦ inl still | inr risen ↦ inr (chain_lifted last (t ∷ ts) differ all risen).0 ]

    -- nothing is strictly between the two rows
    pub addendum_between : Under m lower upper → {mid : List ℕ} → Pair m n (addendum n lower upper) mid upper → (mid ≡ lower) ⊎ (mid ≡ upper)
    addendum_between under {mid} p =
        let ts = differing n lower upper in
        let over : Under m lower mid = facts_demand low p.here (at upper) (all_left _ (facts n lower) (cycle lower upper ts) p.kept) in
        elim (cycle_all_or_none p.here under (at upper) ts (differing_differ n lower upper) (all_right _ (facts n lower) (cycle lower upper ts) p.kept)) [
          | inl still ↦ inl (under_antisym laws p.here low (under_from p.here low (from_differing n lower upper _ still (λ s e. rw e (p.under s)))) over)
          | inr lifted ↦ inr (under_antisym laws p.here high p.under (under_from high p.here (from_differing n lower upper _ lifted (λ s e. rw (← e) (over s)))))
        ]
