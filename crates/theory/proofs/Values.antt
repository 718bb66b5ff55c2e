-- What rules demand grows with the lower row and shrinks with the upper one, and the rules hold where no more is demanded than given.
use Rattle.std.proofs.Common.{◌≡◌, ℕ, ◌<◌, Bool, true, false, cond, eqb, List, [], ◌∷◌, sym, refl, ◌∙◌, subst}
use mathlib.Core.Bool.{false≢true}
use Rattle.std.proofs.lemmas.Bool.{eqb-true, cond-true, eq-eqb}
use Rattle.scale.specs.Meaning.{Meaning, Laws, top}
use Rattle.book.specs.Ledger.{Clause}
use Rattle.book.specs.declared.rule.Literal.{Literal}
use Rattle.book.specs.declared.rule.Literal.TheVariants.{Plain, Above, Lacking}
use Rattle.theory.specs.Semantics.{AllByRecursion, value, body_value, yield, share, gain, StatementHolds}
use Rattle.theory.proofs.Order.{Le, zero_degree, top_degree, le_refl, le_trans, bottom_le, join_upper_left, join_upper_right, join_lub, join_mono, product_mono, lack_anti}
use Rattle.theory.proofs.Ranges.{Within, LiteralWithin, Degrees, by_head, yield_degree, share_degree, gain_degree}

-- one row is below another, statement by statement
abbrev pub Rows : Meaning → (ℕ → ℕ) → (ℕ → ℕ) → Type 0
Rows m l k = (s : ℕ) → Le m (l s) (k s)

module _ {m : Meaning} (laws : Laws m) where
  -- the value of an above: if it fails at the higher row it fails at the lower one
  above_mono : {a b d : ℕ} → Le m a b → d < m.levels → Le m (cond (m.below a d) 0 (top m)) (cond (m.below b d) 0 (top m))
  above_mono {a} {b} {d} p h = go (m.below a d) (m.below b d) refl refl
    where
      go : (x y : Bool) → m.below a d ≡ x → m.below b d ≡ y → Le m (cond x 0 (top m)) (cond y 0 (top m))
      go true true e f = le_refl laws (zero_degree laws)
      go true false e f = bottom_le laws (top_degree laws)
      go false false e f = le_refl laws (top_degree laws)
      go false true e f = absurd (false≢true (sym e ∙ laws.below_trans a b d p.lo p.hi h p.is f))

  module _ {l k u v : ℕ → ℕ} (lower : Rows m l k) (upper : Rows m v u) (n : ℕ) where
    pub value_mono : (x : Literal) → LiteralWithin m.levels n x → Le m (value m l u x) (value m k v x)
    value_mono (Plain s) h = lower s
    value_mono (Above s d) h = above_mono (lower s) h.1
    value_mono (Lacking s) h = lack_anti laws (upper s)

    pub body_mono : (xs : List Literal) → AllByRecursion (LiteralWithin m.levels n) xs → Le m (body_value m l u xs) (body_value m k v xs)
    body_mono [] h = le_refl laws (top_degree laws)
    body_mono (x ∷ xs) h = product_mono laws (value_mono x h.0) (body_mono xs h.1)

    pub yield_mono : (c : Clause) → Within m.levels n c → Le m (yield m l u c) (yield m k v c)
    yield_mono c h = product_mono laws (le_refl laws h.weight_within) (body_mono c.body h.body_within)

    pub share_mono : (c : Clause) → Within m.levels n c → (s : ℕ) → Le m (share m l u c s) (share m k v c s)
    share_mono c h s =
        by_head (λ b. Le m (yield m l u b) (yield m k v b) → Le m (share m l u b s) (share m k v b s)) c
        (λ t y. elim (eqb t s) as (λ e. Le m (cond e (yield m l u c) 0) (cond e (yield m k v c) 0)) [ true ↦ y | false ↦ le_refl laws (zero_degree laws) ])
        (λ d y. le_refl laws (zero_degree laws))
        (yield_mono c h)

    pub gain_mono : (cs : List Clause) → AllByRecursion (Within m.levels n) cs → (s : ℕ) → Le m (gain m l u cs s) (gain m k v cs s)
    gain_mono [] hs s = le_refl laws (zero_degree laws)
    gain_mono (c ∷ cs) hs s = join_mono laws (share_mono c hs.0 s) (gain_mono cs hs.1 s)

  module _ {l u : ℕ → ℕ} (dl : Degrees m l) (du : Degrees m u) where
    -- a rule that holds demands of no statement more than it has
    pub share_met : (c : Clause) → c.weight < m.levels → StatementHolds m l u c → (s : ℕ) → Le m (share m l u c s) (l s)
    share_met c h met s =
        by_head (λ b. (b.weight < m.levels) → StatementHolds m l u b → Le m (share m l u b s) (l s)) c
        (λ t w k. go t k (eqb t s) refl)
        (λ d w k. bottom_le laws (dl s))
        h met
      where
        go : (t : ℕ) → m.below (yield m l u c) (l t) ≡ true → (e : Bool) → eqb t s ≡ e → Le m (cond e (yield m l u c) 0) (l s)
        go t k true e = subst (λ (x : ℕ). Le m (yield m l u c) (l x)) (eqb-true t s e) (record { lo = yield_degree laws dl du c h; hi = dl t; is = k })
        go t k false e = bottom_le laws (dl s)

    pub met_from_share : (c : Clause) → ((s : ℕ) → Le m (share m l u c s) (l s)) → StatementHolds m l u c
    met_from_share c h =
        by_head (λ b. ((s : ℕ) → Le m (share m l u b s) (l s)) → StatementHolds m l u b) c
        (λ t k. subst (λ (x : ℕ). m.below x (l t) ≡ true) (cond-true (eqb t t) (yield m l u c) 0 (eq-eqb t t refl)) (k t).is)
        (λ d k. tt)
        h

    -- the rules with statements for their heads hold exactly where no statement is to gain
    pub gain_met : (n : ℕ) (cs : List Clause) → AllByRecursion (Within m.levels n) cs → AllByRecursion (StatementHolds m l u) cs → Rows m (gain m l u cs) l
    gain_met n [] hs met s = bottom_le laws (dl s)
    gain_met n (c ∷ cs) hs met s = join_lub laws (share_met c hs.0.weight_within met.0 s) (gain_met n cs hs.1 met.1 s)

    pub met_from_gain : (n : ℕ) (cs : List Clause) → AllByRecursion (Within m.levels n) cs → Rows m (gain m l u cs) l → AllByRecursion (StatementHolds m l u) cs
    met_from_gain n [] hs h = tt
    met_from_gain n (c ∷ cs) hs h =
        let here = share_degree laws dl du c hs.0.weight_within in
        let rest = gain_degree laws n dl du cs hs.1 in (
          met_from_share c (λ s. le_trans laws (join_upper_left laws (here s) (rest s)) (h s)),
          met_from_gain n cs hs.1 (λ s. le_trans laws (join_upper_right laws (here s) (rest s)) (h s)),
        )
