-- Rules that keep within a scale and its statements, and the ranges of what they demand.
use Rattle.std.proofs.Common.{◌≡◌, ℕ, ◌<◌, ◌≤◌, Bool, true, ◌&&◌, eqb, ltb, List, [], ◌∷◌, refl, ◌∙◌, ap₂, arith, ltb-true}
use Rattle.std.proofs.lemmas.Bool.{and_parts, cond_both, cond-false, ne_eqb}
use Rattle.scale.specs.Meaning.{Meaning, Laws, top}
use Rattle.book.specs.Ledger.{Clause, Lawful, head_known, head_fits, literal_known, literal_fits}
use Rattle.std.specs.List.{list_all}
use Rattle.book.specs.declared.rule.Head.{Head}
use Rattle.book.specs.declared.rule.Head.TheVariants.{Statement, Bound}
use Rattle.book.specs.declared.rule.Literal.{Literal}
use Rattle.book.specs.declared.rule.Literal.TheVariants.{Plain, Above, Lacking}
use Rattle.theory.specs.Semantics.{AllByRecursion, value, body_value, yield, share, gain}
use Rattle.theory.proofs.Order.{zero_degree, top_degree, join_zero_left}

abbrev pub HeadWithin : ℕ → ℕ → Head → Type 0
HeadWithin levels statements (Statement s) = s < statements
HeadWithin levels statements (Bound d) = d < levels

abbrev pub LiteralWithin : ℕ → ℕ → Literal → Type 0
LiteralWithin levels statements (Plain s) = s < statements
LiteralWithin levels statements (Above s d) = (s < statements) × (d < levels)
LiteralWithin levels statements (Lacking s) = s < statements

-- a rule with only statements and degrees that there are
pub record Within (levels statements : ℕ) (c : Clause) : Type 0 where
  pub head_within : HeadWithin levels statements c.head
  pub weight_within : c.weight < levels
  pub body_within : AllByRecursion (LiteralWithin levels statements) c.body

-- a row of degrees, read as a function
abbrev pub Degrees : Meaning → (ℕ → ℕ) → Type 0
Degrees m l = (s : ℕ) → l s < m.levels

-- what holds of every element goes over by what holds of each
pub all_map : {A : Type 0} {P Q : A → Type 0} → ((x : A) → P x → Q x) → (xs : List A) → AllByRecursion P xs → AllByRecursion Q xs
all_map f [] h = tt
all_map f (x ∷ xs) h = (f x h.0, all_map f xs h.1)

pub all_both : {A : Type 0} {P Q R : A → Type 0} → ((x : A) → P x → Q x → R x) → (xs : List A) → AllByRecursion P xs → AllByRecursion Q xs → AllByRecursion R xs
all_both f [] h k = tt
all_both f (x ∷ xs) h k = (f x h.0 k.0, all_both f xs h.1 k.1)

-- a rule with another head
abbrev pub headed : Head → Clause → Clause
headed h c = record { head = h; weight = c.weight; body = c.body }

-- the cases of a rule by its head
pub by_head : (P : Clause → Type 0) (c : Clause) → ((s : ℕ) → P (headed (Statement s) c)) → ((d : ℕ) → P (headed (Bound d) c)) → P c
by_head P c f g = elim c.head as (λ h. P (headed h c)) [ Statement s ↦ f s | Bound d ↦ g d ]

pub every_all : {A : Type 0} (f : A → Bool) (xs : List A) → list_all f xs ≡ true → AllByRecursion (λ x. f x ≡ true) xs
every_all f [] e = tt
every_all f (x ∷ xs) e = let p = and_parts (f x) (list_all f xs) e in (p.0, every_all f xs p.1)

head_within_from : (levels statements : ℕ) (h : Head) → head_known statements h ≡ true → head_fits levels h ≡ true → HeadWithin levels statements h
head_within_from levels statements (Statement s) k f = ltb-true s statements k
head_within_from levels statements (Bound d) k f = ltb-true d levels f

literal_within_from : (levels statements : ℕ) (x : Literal) → literal_known statements x ≡ true → literal_fits levels x ≡ true → LiteralWithin levels statements x
literal_within_from levels statements (Plain s) k f = ltb-true s statements k
literal_within_from levels statements (Above s d) k f = (ltb-true s statements k, ltb-true d levels f)
literal_within_from levels statements (Lacking s) k f = ltb-true s statements k

pub within : {levels statements : ℕ} {c : Clause} → Lawful levels statements c → Within levels statements c
within {levels} {statements} {c} lawful =
    let k = and_parts (head_known statements c.head) (list_all (literal_known statements) c.body) lawful.knows in
    let f = and_parts (ltb c.weight levels) (head_fits levels c.head && list_all (literal_fits levels) c.body) lawful.degrees in
    let g = and_parts (head_fits levels c.head) (list_all (literal_fits levels) c.body) f.1 in
    record {
      head_within = head_within_from levels statements c.head k.0 g.0;
      weight_within = ltb-true c.weight levels f.0;
      body_within =
          all_both (literal_within_from levels statements) c.body (every_all (literal_known statements) c.body k.1) (every_all (literal_fits levels) c.body g.1);
    }

pub all_within : (levels statements : ℕ) (cs : List Clause) → AllByRecursion (Lawful levels statements) cs → AllByRecursion (Within levels statements) cs
all_within levels statements cs h = all_map (λ c. within {c = c}) cs h

module _ {m : Meaning} (laws : Laws m) where
  pub value_degree : {l u : ℕ → ℕ} → Degrees m l → Degrees m u → (x : Literal) → value m l u x < m.levels
  value_degree dl du (Plain s) = dl s
  value_degree {l} dl du (Above s d) = cond_both (m.below (l s) d) 0 (top m) (λ x. x < m.levels) (λ e. zero_degree laws) (λ e. top_degree laws)
  value_degree {l} {u} dl du (Lacking s) = laws.lack_degree (u s) (du s)

  pub body_degree : {l u : ℕ → ℕ} → Degrees m l → Degrees m u → (xs : List Literal) → body_value m l u xs < m.levels
  body_degree dl du [] = top_degree laws
  body_degree {l} {u} dl du (x ∷ xs) =
      laws.product_degree (value m l u x) (body_value m l u xs) (value_degree dl du x) (body_degree dl du xs)

  pub yield_degree : {l u : ℕ → ℕ} → Degrees m l → Degrees m u → (c : Clause) → c.weight < m.levels → yield m l u c < m.levels
  yield_degree {l} {u} dl du c h = laws.product_degree c.weight (body_value m l u c.body) h (body_degree dl du c.body)

  pub share_degree : {l u : ℕ → ℕ} → Degrees m l → Degrees m u → (c : Clause) → c.weight < m.levels → (s : ℕ) → share m l u c s < m.levels
  share_degree {l} {u} dl du c h s =
      by_head (λ k. (k.weight < m.levels) → share m l u k s < m.levels) c
      (λ t w. cond_both (eqb t s) (yield m l u c) 0 (λ x. x < m.levels) (λ e. yield_degree dl du c h) (λ e. zero_degree laws))
      (λ d w. zero_degree laws)
      h

  pub gain_degree : (n : ℕ) {l u : ℕ → ℕ} → Degrees m l → Degrees m u → (cs : List Clause) → AllByRecursion (Within m.levels n) cs → (s : ℕ) → gain m l u cs s < m.levels
  gain_degree n dl du [] hs s = zero_degree laws
  gain_degree n {l} {u} dl du (c ∷ cs) hs s =
      laws.join_degree (share m l u c s) (gain m l u cs s) (share_degree dl du c hs.0.weight_within s) (gain_degree n dl du cs hs.1 s)

  -- past the statements no rule demands anything
  pub share_past : (l u : ℕ → ℕ) {n : ℕ} (c : Clause) → Within m.levels n c → (s : ℕ) → n ≤ s → share m l u c s ≡ 0
  share_past l u {n} c h s past =
      by_head (λ k. HeadWithin m.levels n k.head → share m l u k s ≡ 0) c
      (λ t w. cond-false (eqb t s) (yield m l u c) 0 (ne_eqb t s (λ e. omega arith)))
      (λ d w. refl)
      h.head_within

  pub gain_past : (l u : ℕ → ℕ) (n : ℕ) (cs : List Clause) → AllByRecursion (Within m.levels n) cs → (s : ℕ) → n ≤ s → gain m l u cs s ≡ 0
  gain_past l u n [] hs s past = refl
  gain_past l u n (c ∷ cs) hs s past =
      ap₂ m.join (share_past l u c hs.0 s past) (gain_past l u n cs hs.1 s past) ∙ join_zero_left laws (zero_degree laws)
