-- Positions: a setting's degrees are the digits of its position, so it stays below levels ^ statements and tells settings apart.
use Rattle.std.proofs.Common.{◌≡◌, ℕ, suc, ◌+◌, ◌*◌, ◌^◌, ◌<◌, ◌≤◌, ◌⊎◌, List, [], ◌∷◌, length, refl, ap, subst, ap₂, inl, inr, mul-le-mul_right, suc-mul, arith}
use native.Mathlib.Nat.{pow-zero, pow-succ'}
use Rattle.std.proofs.lemmas.Bool.{cases_order}
use Rattle.theory.specs.Semantics.{at}
use Rattle.theory.specs.Position.{position}

pub position_fits : (levels : ℕ) (row : List ℕ) → ((s : ℕ) → at row s < levels) → position levels row < levels ^ length row
position_fits levels [] h = omega (arith, pow-zero levels)
position_fits levels (d ∷ ds) h =
    let rest = position_fits levels ds (λ s. h (suc s)) in
    let more = suc-mul d (levels ^ length ds) in
    let most : suc d * levels ^ length ds ≤ levels * levels ^ length ds = mul-le-mul_right (levels ^ length ds) (h 0) in
    rw pow-succ' (omega arith)

-- the higher leading digit wins, whatever follows
leading : (a b unit p q : ℕ) → a < b → p < unit → a * unit + p < b * unit + q
leading a b unit p q h k =
    let more = suc-mul a unit in
    let most : suc a * unit ≤ b * unit = mul-le-mul_right unit h in
    omega arith

pub position_apart : (levels : ℕ) (a b : List ℕ) → length a ≡ length b → ((s : ℕ) → at a s < levels) → ((s : ℕ) → at b s < levels) → position levels a ≡ position levels b → a ≡ b
position_apart levels [] [] e ha hb same = refl
position_apart levels [] (y ∷ b) e ha hb same = absurd (omega arith)
position_apart levels (x ∷ a) [] e ha hb same = absurd (omega arith)
position_apart levels (x ∷ a) (y ∷ b) e ha hb same = go (cases_order x y) (position_apart levels a b tails (λ s. ha (suc s)) (λ s. hb (suc s)))
  where
    tails : length a ≡ length b
    tails = omega arith

    left : position levels a < levels ^ length b
    left = rw tails at (position_fits levels a (λ s. ha (suc s)))

    right : position levels b < levels ^ length b
    right = position_fits levels b (λ s. hb (suc s))

    digits : x * levels ^ length b + position levels a ≡ y * levels ^ length b + position levels b
    digits = subst (λ (k : ℕ). x * levels ^ k + position levels a ≡ y * levels ^ length b + position levels b) tails same

    go : ((x ≡ y) ⊎ ((x < y) ⊎ (y < x))) → (position levels a ≡ position levels b → a ≡ b) → x ∷ a ≡ y ∷ b
    go (inl p) f = let k = ap (λ z. z * levels ^ length b) p in ap₂ ◌∷◌ p (f (omega (arith, digits)))
    go (inr (inl p)) f = let k = leading x y (levels ^ length b) (position levels a) (position levels b) p left in absurd (omega (arith, digits))
    go (inr (inr p)) f = let k = leading y x (levels ^ length b) (position levels b) (position levels a) p right in absurd (omega (arith, digits))
