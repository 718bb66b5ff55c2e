-- The order of a scale, carrying the ranges of its two sides, and what the laws give of join, product and lack in it.
use Rattle.std.proofs.Common.{◌≡◌, ℕ, ◌<◌, true, sym, ap, ◌∙◌, subst, arith}
use Rattle.scale.specs.Meaning.{Meaning, Laws, top}

-- a is below b, and both are degrees
pub record Le (m : Meaning) (a b : ℕ) : Type 0 where
  pub lo : a < m.levels
  pub hi : b < m.levels
  pub is : m.below a b ≡ true

module _ {m : Meaning} (laws : Laws m) where
  pub zero_degree : 0 < m.levels
  zero_degree = omega (arith, laws.levels_least)

  pub top_degree : top m < m.levels
  top_degree = omega (arith, laws.levels_least)

  pub le_refl : {a : ℕ} → a < m.levels → Le m a a
  le_refl {a} h = record { lo = h; hi = h; is = laws.below_refl a h }

  pub le_same : {a b : ℕ} → a < m.levels → a ≡ b → Le m a b
  le_same {a} h e = subst (λ (x : ℕ). Le m a x) e (le_refl h)

  pub le_trans : {a b c : ℕ} → Le m a b → Le m b c → Le m a c
  le_trans {a} {b} {c} p q = record { lo = p.lo; hi = q.hi; is = laws.below_trans a b c p.lo p.hi q.hi p.is q.is }

  pub le_antisym : {a b : ℕ} → Le m a b → Le m b a → a ≡ b
  le_antisym {a} {b} p q = laws.below_antisym a b p.lo p.hi p.is q.is

  pub bottom_le : {a : ℕ} → a < m.levels → Le m 0 a
  bottom_le {a} h = record { lo = zero_degree; hi = h; is = laws.bottom_least a h }

  pub le_top : {a : ℕ} → a < m.levels → Le m a (top m)
  le_top {a} h = record { lo = h; hi = top_degree; is = laws.top_greatest a h }

  pub join_upper_left : {a b : ℕ} → a < m.levels → b < m.levels → Le m a (m.join a b)
  join_upper_left {a} {b} p q = record { lo = p; hi = laws.join_degree a b p q; is = laws.join_left a b p q }

  pub join_upper_right : {a b : ℕ} → a < m.levels → b < m.levels → Le m b (m.join a b)
  join_upper_right {a} {b} p q = record { lo = q; hi = laws.join_degree a b p q; is = laws.join_right a b p q }

  pub join_lub : {a b c : ℕ} → Le m a c → Le m b c → Le m (m.join a b) c
  join_lub {a} {b} {c} p q =
      record { lo = laws.join_degree a b p.lo q.lo; hi = p.hi; is = laws.join_least a b c p.lo q.lo p.hi p.is q.is }

  pub join_mono : {a b c d : ℕ} → Le m a c → Le m b d → Le m (m.join a b) (m.join c d)
  join_mono p q = join_lub (le_trans p (join_upper_left p.hi q.hi)) (le_trans q (join_upper_right p.hi q.hi))

  pub join_zero_left : {a : ℕ} → a < m.levels → m.join 0 a ≡ a
  join_zero_left h = le_antisym (join_lub (bottom_le h) (le_refl h)) (join_upper_right zero_degree h)

  pub join_zero_right : {a : ℕ} → a < m.levels → m.join a 0 ≡ a
  join_zero_right h = le_antisym (join_lub (le_refl h) (bottom_le h)) (join_upper_left h zero_degree)

  pub join_comm : {a b : ℕ} → a < m.levels → b < m.levels → m.join a b ≡ m.join b a
  join_comm p q =
      le_antisym (join_lub (join_upper_right q p) (join_upper_left q p)) (join_lub (join_upper_right p q) (join_upper_left p q))

  pub join_assoc : {a b c : ℕ} → a < m.levels → b < m.levels → c < m.levels → m.join (m.join a b) c ≡ m.join a (m.join b c)
  join_assoc {a} {b} {c} p q r =
      let left = laws.join_degree a b p q in
      let right = laws.join_degree b c q r in
      le_antisym
      (join_lub (join_mono (le_refl p) (join_upper_left q r)) (le_trans (join_upper_right q r) (join_upper_right p right)))
      (join_lub (le_trans (join_upper_left p q) (join_upper_left left r)) (join_mono (join_upper_right p q) (le_refl r)))

  -- by residuation: a degree is below the residuum of what it gives
  product_mono_left : {a b c : ℕ} → Le m a b → c < m.levels → Le m (m.product a c) (m.product b c)
  product_mono_left {a} {b} {c} p h =
      let bc = laws.product_degree b c p.hi h in
      let r = laws.residuum_degree c (m.product b c) h bc in
      let unit : m.below b (m.residuum c (m.product b c)) ≡ true = sym (laws.residuation c (m.product b c) b h bc p.hi) ∙ laws.below_refl (m.product b c) bc in
      record {
        lo = laws.product_degree a c p.lo h;
        hi = bc;
        is = laws.residuation c (m.product b c) a h bc p.lo ∙ laws.below_trans a b (m.residuum c (m.product b c)) p.lo p.hi r p.is unit;
      }

  product_mono_right : {a b c : ℕ} → c < m.levels → Le m a b → Le m (m.product c a) (m.product c b)
  product_mono_right {a} {b} {c} h p =
      let step : Le m (m.product a c) (m.product b c) = product_mono_left p h in
      rw (laws.product_comm a c p.lo h, laws.product_comm b c p.hi h) at step

  pub product_mono : {a b c d : ℕ} → Le m a c → Le m b d → Le m (m.product a b) (m.product c d)
  product_mono p q = le_trans (product_mono_left p q.lo) (product_mono_right p.hi q)

  pub product_top_right : {a : ℕ} → a < m.levels → m.product a (top m) ≡ a
  product_top_right {a} h = laws.product_comm a (top m) h top_degree ∙ laws.product_top a h

  pub product_left_comm : {a b c : ℕ} → a < m.levels → b < m.levels → c < m.levels → m.product a (m.product b c) ≡ m.product b (m.product a c)
  product_left_comm {a} {b} {c} p q r =
      sym (laws.product_assoc a b c p q r) ∙ ap (λ x. m.product x c) (laws.product_comm a b p q) ∙ laws.product_assoc b a c q p r

  pub lack_anti : {a b : ℕ} → Le m a b → Le m (m.lack b) (m.lack a)
  lack_anti {a} {b} p =
      record { lo = laws.lack_degree b p.hi; hi = laws.lack_degree a p.lo; is = laws.lack_antitone a b p.lo p.hi p.is }
