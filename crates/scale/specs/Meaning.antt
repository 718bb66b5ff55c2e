-- A scale of degrees: what it means, and the laws that it keeps.
-- A degree is a number below `levels`; 0 is the bottom and `levels - 1` the top.
use Rattle.std.specs.Prelude.{◌≡◌, ℕ, ◌-◌, ◌<◌, ◌≤◌, min, Bool, true, ◌≢◌}

pub record Meaning : Type 0 where
  pub levels : ℕ
  pub height : ℕ
  pub below : ℕ → ℕ → Bool
  pub join : ℕ → ℕ → ℕ
  pub product : ℕ → ℕ → ℕ
  pub residuum : ℕ → ℕ → ℕ
  pub lack : ℕ → ℕ
  pub rank : ℕ → ℕ

abbrev pub top : Meaning → ℕ
top m = m.levels - 1

-- an argument at or over `levels` is read as the top
abbrev pub clip : Meaning → ℕ → ℕ
clip m a = min a (top m)

-- What a scale answers, whatever the arguments: the meaning of the clipped ones.
abbrev pub clipped : Meaning → Meaning
clipped m = record {
  levels = m.levels;
  height = m.height;
  below = λ a b. m.below (clip m a) (clip m b);
  join = λ a b. m.join (clip m a) (clip m b);
  product = λ a b. m.product (clip m a) (clip m b);
  residuum = λ a b. m.residuum (clip m a) (clip m b);
  lack = λ a. m.lack (clip m a);
  rank = λ a. m.rank (clip m a);
}

-- A residuated lattice with a negation (`lack`) that turns the order round, and a rank that strictly grows along the order.
pub record Laws (m : Meaning) : Type 0 where
  pub levels_least : 2 ≤ m.levels
  pub levels_most : m.levels ≤ 64
  pub height_bound : m.height < m.levels
  pub join_degree : (a b : ℕ) → a < m.levels → b < m.levels → m.join a b < m.levels
  pub product_degree : (a b : ℕ) → a < m.levels → b < m.levels → m.product a b < m.levels
  pub residuum_degree : (a b : ℕ) → a < m.levels → b < m.levels → m.residuum a b < m.levels
  pub lack_degree : (a : ℕ) → a < m.levels → m.lack a < m.levels
  pub below_refl : (a : ℕ) → a < m.levels → m.below a a ≡ true
  pub below_antisym : (a b : ℕ) → a < m.levels → b < m.levels → m.below a b ≡ true → m.below b a ≡ true → a ≡ b
  pub below_trans : (a b c : ℕ) → a < m.levels → b < m.levels → c < m.levels → m.below a b ≡ true → m.below b c ≡ true → m.below a c ≡ true
  pub bottom_least : (a : ℕ) → a < m.levels → m.below 0 a ≡ true
  pub top_greatest : (a : ℕ) → a < m.levels → m.below a (top m) ≡ true
  pub join_left : (a b : ℕ) → a < m.levels → b < m.levels → m.below a (m.join a b) ≡ true
  pub join_right : (a b : ℕ) → a < m.levels → b < m.levels → m.below b (m.join a b) ≡ true
  pub join_least : (a b c : ℕ) → a < m.levels → b < m.levels → c < m.levels → m.below a c ≡ true → m.below b c ≡ true → m.below (m.join a b) c ≡ true
  pub product_comm : (a b : ℕ) → a < m.levels → b < m.levels → m.product a b ≡ m.product b a
  pub product_assoc : (a b c : ℕ) → a < m.levels → b < m.levels → c < m.levels → m.product (m.product a b) c ≡ m.product a (m.product b c)
  pub product_top : (a : ℕ) → a < m.levels → m.product (top m) a ≡ a
  pub residuation : (a b c : ℕ) → a < m.levels → b < m.levels → c < m.levels → m.below (m.product c a) b ≡ m.below c (m.residuum a b)
  pub lack_antitone : (a b : ℕ) → a < m.levels → b < m.levels → m.below a b ≡ true → m.below (m.lack b) (m.lack a) ≡ true
  pub lack_bottom : m.lack 0 ≡ top m
  pub lack_top : m.lack (top m) ≡ 0
  pub rank_bottom : m.rank 0 ≡ 0
  pub rank_most : (a : ℕ) → a < m.levels → m.rank a ≤ m.height
  pub rank_strict : (a b : ℕ) → a < m.levels → b < m.levels → m.below a b ≡ true → (a ≢ b) → m.rank a < m.rank b
