-- The three kinds of scale that come with the engine, over plain numbers.
use Rattle.std.specs.Prelude.{ℕ, ◌+◌, ◌-◌, ◌^◌, min, max, cond, ◌==◌, bit_and, bit_or, count_ones, nat_le}
use Rattle.scale.specs.Meaning.{Meaning}

-- A chain of degrees 0 to k: below is ≤, join is the greater, lack is k - a, rank is the degree.
abbrev pub chain : ℕ → (ℕ → ℕ → ℕ) → (ℕ → ℕ → ℕ) → Meaning
chain k product residuum = record {
  levels = k + 1;
  height = k;
  below = λ a b. nat_le a b;
  join = λ a b. max a b;
  product = product;
  residuum = residuum;
  lack = λ a. k - a;
  rank = λ a. a;
}

-- Łukasiewicz: shortfalls from the top add up.
abbrev pub luk : ℕ → Meaning
luk k = chain k (λ a b. a + b - k) (λ a b. min k (k - a + b))

-- Gödel: the weakest counts.
abbrev pub godel : ℕ → Meaning
godel k = chain k (λ a b. min a b) (λ a b. cond (nat_le a b) k b)

-- Sets of the hours 0 to h - 1, hour i being the bit worth 2 ^ i.
abbrev pub hours : ℕ → Meaning
hours h = record {
  levels = 2 ^ h;
  height = h;
  below = λ a b. (bit_and a b == a);
  join = λ a b. bit_or a b;
  product = λ a b. bit_and a b;
  residuum = λ a b. bit_or b (2 ^ h - 1 - a);
  lack = λ a. 2 ^ h - 1 - a;
  rank = λ a. count_ones a;
}
