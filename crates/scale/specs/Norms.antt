-- What a product and a residuum owe on the chain of degrees 0 to k.
use Rattle.std.specs.Prelude.{◌≡◌, ℕ, ◌≤◌, nat_le}

-- The product is a commutative monoid with k as its unit, and the residuum is its adjoint.
pub record NormLaws (k : ℕ) (product residuum : ℕ → ℕ → ℕ) : Type 0 where
  pub product_degree : (a b : ℕ) → a ≤ k → b ≤ k → product a b ≤ k
  pub residuum_degree : (a b : ℕ) → a ≤ k → b ≤ k → residuum a b ≤ k
  pub comm : (a b : ℕ) → a ≤ k → b ≤ k → product a b ≡ product b a
  pub assoc : (a b c : ℕ) → a ≤ k → b ≤ k → c ≤ k → product (product a b) c ≡ product a (product b c)
  pub unit : (a : ℕ) → a ≤ k → product k a ≡ a
  pub residuation : (a b c : ℕ) → a ≤ k → b ≤ k → c ≤ k → nat_le (product c a) b ≡ nat_le c (residuum a b)
