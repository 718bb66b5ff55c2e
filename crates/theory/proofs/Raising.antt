-- Raising: it keeps to settings, ascends, and stands still within statements × height rounds.
use Rattle.std.proofs.Common.{◌≡◌, ℕ, zero, suc, ◌+◌, ◌*◌, ◌<◌, ◌≤◌, ◌⊎◌, List, [], ◌∷◌, map, length, replicate, sym, refl, ap, ◌∙◌, subst, ap₂, inl, inr, suc-mul, suc-add, zero-add, arith}
use Rattle.std.proofs.lemmas.List.{ext_get_or, get_or_past, length-replicate}
use Rattle.std.proofs.lemmas.List.FromFn.{get_or-map-range_with_len, length-map-range_with_len}
use Rattle.std.specs.List.{range_with_len}
use Rattle.std.proofs.lemmas.Bool.{cases_eq, cases_lt, cases_order}
use Rattle.scale.specs.Meaning.{Meaning, Laws}
use Rattle.book.specs.Ledger.{Clause}
use Rattle.theory.specs.Semantics.{at, AllByRecursion, Setting, gain, raise, raised, Rounds}
use Rattle.theory.proofs.Order.{zero_degree, bottom_le, le_refl}
use Rattle.theory.proofs.Ranges.{Within, Degrees, gain_degree, gain_past}
use Rattle.theory.proofs.Values.{Rows, gain_mono}

pub zeros_at : (n s : ℕ) → at (replicate n 0) s ≡ 0
zeros_at zero s = refl
zeros_at (suc n) zero = refl
zeros_at (suc n) (suc s) = zeros_at n s

-- two rows of the same length with the same degrees are the same
pub same_rows : (a b : List ℕ) → length a ≡ length b → ((s : ℕ) → at a s ≡ at b s) → a ≡ b
same_rows a b e h = ext_get_or 0 a b e (λ s k. h s)

-- the ranks of a row added up
abbrev pub ranks : Meaning → List ℕ → ℕ
ranks m [] = 0
ranks m (d ∷ ds) = m.rank d + ranks m ds

-- r rounds, each of which changed the row and raised its ranks
record Rising (m : Meaning) (cs : List Clause) (n : ℕ) (upper : List ℕ) (r : ℕ) : Type 0 where
  moved : (k : ℕ) → k < r → raised m cs n upper (suc k) ≡ raised m cs n upper k → ⊥
  grown : r ≤ ranks m (raised m cs n upper r)

-- where raising stands still it stays
pub stays : (m : Meaning) (cs : List Clause) (n : ℕ) (upper : List ℕ) (r k : ℕ) → raised m cs n upper (suc r) ≡ raised m cs n upper r → raised m cs n upper (k + r) ≡ raised m cs n upper r
stays m cs n upper r zero e = rw zero-add refl
stays m cs n upper r (suc k) e = ap (raised m cs n upper) (suc-add k r) ∙ ap (raise m cs n upper) (stays m cs n upper r k e) ∙ e

-- there is one number of rounds
pub rounds_unique : {m : Meaning} {cs : List Clause} {n : ℕ} {upper : List ℕ} {r q : ℕ} → Rounds m cs n upper r → Rounds m cs n upper q → r ≡ q
rounds_unique {r = r} {q = q} h k =
    elim (cases_order r q) [
      | inl e ↦ e
      | inr o ↦ elim o [ inl b ↦ absurd (k.first r b h.still) | inr b ↦ absurd (h.first q b k.still) ]
    ]

module _ {m : Meaning} (laws : Laws m) where
  pub ranks_most : (row : List ℕ) → Degrees m (at row) → ranks m row ≤ length row * m.height
  ranks_most [] h = omega arith
  ranks_most (d ∷ ds) h =
      let here = laws.rank_most d (h 0) in
      let rest = ranks_most ds (λ s. h (suc s)) in
      rw suc-mul (omega arith)

  -- of two rows one below the other, they are the same or the ranks have grown
  pub ranks_grow : (a b : List ℕ) → length a ≡ length b → Rows m (at a) (at b) → (a ≡ b) ⊎ (ranks m a < ranks m b)
  ranks_grow [] [] e h = inl refl
  ranks_grow [] (y ∷ b) e h = absurd (omega arith)
  ranks_grow (x ∷ a) [] e h = absurd (omega arith)
  ranks_grow (x ∷ a) (y ∷ b) e h = go (cases_eq x y) (ranks_grow a b (omega arith) (λ s. h (suc s)))
    where
      go : ((x ≡ y) ⊎ (x ≡ y → ⊥)) → ((a ≡ b) ⊎ (ranks m a < ranks m b)) → (x ∷ a ≡ y ∷ b) ⊎ (m.rank x + ranks m a < m.rank y + ranks m b)
      go (inl p) (inl q) = inl (ap₂ ◌∷◌ p q)
      go (inl p) (inr q) = let k = ap m.rank p in inr (omega arith)
      go (inr p) (inl q) =
          let k = laws.rank_strict x y (h 0).lo (h 0).hi (h 0).is p in
          let r = ap (ranks m) q in
          inr (omega arith)
      go (inr p) (inr q) = let k = laws.rank_strict x y (h 0).lo (h 0).hi (h 0).is p in inr (omega arith)

  -- the setting that is 0 everywhere
  pub zeros_setting : (n : ℕ) → Setting m n (replicate n 0)
  zeros_setting n = record { long = length-replicate n 0; degrees = λ s. rw (zeros_at n s) (zero_degree laws) }

  module _ (n : ℕ) (cs : List Clause) (hs : AllByRecursion (Within m.levels n) cs) where
    -- a raised row gives each statement what the rules want of it
    pub at_raise : (upper lower : List ℕ) (s : ℕ) → at (raise m cs n upper lower) s ≡ gain m (at lower) (at upper) cs s
    at_raise upper lower s = go (cases_lt s n)
      where
        wanted : ℕ → ℕ
        wanted t = gain m (at lower) (at upper) cs t

        go : ((s < n) ⊎ (n ≤ s)) → at (map wanted (range_with_len 0 n)) s ≡ wanted s
        go (inl h) = get_or-map-range_with_len wanted 0 n s s 0 h (zero-add s)
        go (inr h) = get_or_past (map wanted (range_with_len 0 n)) s 0 (rw (length-map-range_with_len wanted 0 n) h) ∙ sym (gain_past laws (at lower) (at upper) n cs hs s h)

    module _ (upper : List ℕ) (du : Degrees m (at upper)) where
      pub raise_setting : (lower : List ℕ) → Degrees m (at lower) → Setting m n (raise m cs n upper lower)
      raise_setting lower dl =
          record {
            long = length-map-range_with_len (gain m (at lower) (at upper) cs) 0 n;
            degrees = λ s. subst (λ (x : ℕ). x < m.levels) (sym (at_raise upper lower s)) (gain_degree laws n dl du cs hs s);
          }

      pub raised_setting : (r : ℕ) → Setting m n (raised m cs n upper r)
      raised_setting zero = zeros_setting n
      raised_setting (suc r) = raise_setting (raised m cs n upper r) (raised_setting r).degrees

      pub raise_mono : (a b : List ℕ) → Rows m (at a) (at b) → Rows m (at (raise m cs n upper a)) (at (raise m cs n upper b))
      raise_mono a b h s =
          rw (at_raise upper a s, at_raise upper b s) (gain_mono laws h (λ t. le_refl laws (du t)) n cs hs s)

      pub ascends : (r : ℕ) → Rows m (at (raised m cs n upper r)) (at (raised m cs n upper (suc r)))
      ascends zero = λ s. rw (zeros_at n s) (bottom_le laws ((raised_setting 1).degrees s))
      ascends (suc r) = raise_mono (raised m cs n upper r) (raised m cs n upper (suc r)) (ascends r)

      length-raised : (r : ℕ) → length (raised m cs n upper r) ≡ n
      length-raised r = (raised_setting r).long

      ranks_raised : (r : ℕ) → ranks m (raised m cs n upper r) ≤ n * m.height
      ranks_raised r = rw (length-raised r) at (ranks_most (raised m cs n upper r) (raised_setting r).degrees)

      -- every round that changes the row adds to its ranks
      rises : (r : ℕ) → Rising m cs n upper r → Rounds m cs n upper r ⊎ Rising m cs n upper (suc r)
      rises r h = go (ranks_grow (raised m cs n upper r) (raised m cs n upper (suc r)) (length-raised r ∙ sym (length-raised (suc r))) (ascends r))
        where
          go : ((raised m cs n upper r ≡ raised m cs n upper (suc r)) ⊎ (ranks m (raised m cs n upper r) < ranks m (raised m cs n upper (suc r)))) → Rounds m cs n upper r ⊎ Rising m cs n upper (suc r)
          go (inl e) = inl (record { still = sym e; first = h.moved })
          go (inr l) = let g = h.grown in inr (record { moved = λ k b e. other k b e (cases_eq k r); grown = omega arith })
            where
              other : (k : ℕ) → k < suc r → raised m cs n upper (suc k) ≡ raised m cs n upper k → ((k ≡ r) ⊎ (k ≡ r → ⊥)) → ⊥
              other k b e (inl p) =
                  let same = subst (λ (j : ℕ). ranks m (raised m cs n upper (suc j)) ≡ ranks m (raised m cs n upper j)) p (ap (ranks m) e) in
                  omega arith
              other k b e (inr p) = h.moved k (omega arith) e

      -- so only so many can
      settles : (fuel r : ℕ) → Rising m cs n upper r → n * m.height < fuel + r → (q : ℕ) × Rounds m cs n upper q × (q ≤ n * m.height)
      settles zero r h room = let most = ranks_raised r in let g = h.grown in absurd (omega arith)
      settles (suc fuel) r h room =
          elim (rises r h) [
            | inl e ↦ let most = ranks_raised r in let g = h.grown in (r, e, omega arith)
            | inr k ↦ settles fuel (suc r) k (omega arith)
          ]

      pub stands_still : (r : ℕ) × Rounds m cs n upper r × (r ≤ n * m.height)
      stands_still =
          settles (suc (n * m.height)) 0 (record { moved = λ k b. absurd (omega arith); grown = omega arith }) (omega arith)

      pub rounds_most : (r : ℕ) → Rounds m cs n upper r → r ≤ n * m.height
      rounds_most r h = let s = stands_still in subst (λ (q : ℕ). q ≤ n * m.height) (rounds_unique s.1 h) s.2
