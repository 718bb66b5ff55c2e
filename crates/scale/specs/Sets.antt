-- Sets of hours as masks: inclusion, complements and the number of members. The proof of the law of `Hours` cites them.
use Rattle.std.specs.Prelude.{◌≡◌, ℕ, zero, suc, ◌+◌, ◌-◌, ◌/◌, ◌%◌, ◌^◌, ◌<◌, ◌≤◌, ◌≢◌, ◌==◌, bit_and, bit_or, count_ones}
use Rattle.std.specs.Int.{bit_at}
use Rattle.std.specs.Int.Bits.{and_self, or_add_and}
use Rattle.std.specs.Int.Count.{ones_step}
use Rattle.std.proofs.Common.{sym, ap, ◌∙◌, ⊎_elim, pow-suc, mod-eq_of_lt, arith}
use Rattle.std.proofs.lemmas.Bool.{cases_eq}
use Rattle.std.proofs.lemmas.Bool.Decides.{Decides-eqb, Decides-like, same_from_decides}
use Rattle.std.proofs.lemmas.Nat.{and_comm, and_shr, and_mask, and-not}
use Rattle.std.proofs.lemmas.Nat.Bits.{bit_at_and, bit_at_or, bit_at-lt, same_from_bits}

-- a is within b
infixl 20 ◌⊑◌
abbrev pub ◌⊑◌ : ℕ → ℕ → Type 0
a ⊑ b = bit_and a b ≡ a

-- two tests of equality agree if each equality gives the other
pub same_test : (p q r s : ℕ) → (p ≡ q → r ≡ s) → (r ≡ s → p ≡ q) → (p == q) ≡ (r == s)
same_test p q r s to from = same_from_decides _ _ (Decides-eqb _ _) (Decides-like _ from to (Decides-eqb _ _))

-- that is ≤ at each bit
bits : (a b : ℕ) → a ⊑ b → (i : ℕ) → bit_at a i ≤ bit_at b i
bits a b p i = omega (arith, bit_at_and a b i, ap (λ x. bit_at x i) p)

within : (a b : ℕ) → ((i : ℕ) → bit_at a i ≤ bit_at b i) → a ⊑ b
within a b le = same_from_bits (bit_and a b) a (λ i. omega (arith, bit_at_and a b i, le i))

pub antisym : (a b : ℕ) → a ⊑ b → b ⊑ a → a ≡ b
antisym a b p q = same_from_bits a b (λ i. omega (arith, bits a b p i, bits b a q i))

pub trans : (a b c : ℕ) → a ⊑ b → b ⊑ c → a ⊑ c
trans a b c p q = within a c (λ i. omega (arith, bits a b p i, bits b c q i))

pub or_left : (a b : ℕ) → a ⊑ bit_or a b
or_left a b = within a (bit_or a b) (λ i. omega (arith, bit_at_or a b i))

pub or_right : (a b : ℕ) → b ⊑ bit_or a b
or_right a b = within b (bit_or a b) (λ i. omega (arith, bit_at_or a b i))

pub or_least : (a b c : ℕ) → a ⊑ c → b ⊑ c → bit_or a b ⊑ c
or_least a b c p q = within (bit_or a b) c (λ i. omega (arith, bit_at_or a b i, bits a c p i, bits b c q i))

and_right : (a b : ℕ) → bit_and a b ⊑ b
and_right a b = within (bit_and a b) b (λ i. omega (arith, bit_at_and a b i))

and_left : (a b : ℕ) → bit_and a b ⊑ a
and_left a b = within (bit_and a b) a (λ i. omega (arith, bit_at_and a b i))

and_greatest : (a b c : ℕ) → a ⊑ b → a ⊑ c → a ⊑ bit_and b c
and_greatest a b c p q = within a (bit_and b c) (λ i. omega (arith, bit_at_and b c i, bits a b p i, bits a c q i))

-- joining and meeting distribute
pub or_and : (a b c : ℕ) → bit_and (bit_or a b) c ≡ bit_or (bit_and a c) (bit_and b c)
or_and a b c =
    same_from_bits (bit_and (bit_or a b) c) (bit_or (bit_and a c) (bit_and b c)) (λ i. omega (arith, bit_at_and (bit_or a b) c i, bit_at_or a b i, bit_at_or (bit_and a c) (bit_and b c) i, bit_at_and a c i, bit_at_and b c i))

-- the set of all h hours
abbrev all : ℕ → ℕ
all h = 2 ^ h - 1

pub in_all : (h a : ℕ) → a < 2 ^ h → a ⊑ all h
in_all h a p = and_mask a h ∙ mod-eq_of_lt p

-- a set and its complement share no hour, and make up all of them
apart : (h a : ℕ) → a < 2 ^ h → bit_and a (all h - a) ≡ 0
apart h a p = and_comm a (all h - a) ∙ omega (arith, and-not h a a p p, and_self a)

whole : (h a : ℕ) → a < 2 ^ h → bit_or a (all h - a) ≡ all h
whole h a p = omega (arith, or_add_and a (all h - a), apart h a p)

-- an hour is in the complement where it is in all and not in the set
lack_bit : (h a : ℕ) → a < 2 ^ h → (i : ℕ) → bit_at (all h - a) i ≡ bit_at (all h) i - bit_at a i
lack_bit h a p i =
    omega (arith, ap (λ x. bit_at x i) (apart h a p), bit_at_and a (all h - a) i, ap (λ x. bit_at x i) (whole h a p), bit_at_or a (all h - a) i, bit_at-lt (all h) i)

-- c is within b joined with the complement of a exactly when its hours in a are in b
pub to_residuum : (h a b c : ℕ) → a < 2 ^ h → c < 2 ^ h → bit_and c a ⊑ b → c ⊑ bit_or b (all h - a)
to_residuum h a b c ha hc p =
    within c (bit_or b (all h - a)) (λ i. omega (arith, bits (bit_and c a) b p i, bit_at_and c a i, bit_at_or b (all h - a) i, lack_bit h a ha i, bits c (all h) (in_all h c hc) i, bit_at-lt (all h) i))

pub from_residuum : (h a b c : ℕ) → a < 2 ^ h → c ⊑ bit_or b (all h - a) → bit_and c a ⊑ b
from_residuum h a b c ha p =
    within (bit_and c a) b (λ i. omega (arith, bits c (bit_or b (all h - a)) p i, bit_at_and c a i, bit_at_or b (all h - a) i, lack_bit h a ha i, bit_at-lt (all h) i, bit_at-lt c i))

-- the complement turns inclusion round
pub lack_turns : (h a b : ℕ) → a < 2 ^ h → b < 2 ^ h → a ⊑ b → (all h - b) ⊑ (all h - a)
lack_turns h a b ha hb p = within (all h - b) (all h - a) (λ i. omega (arith, lack_bit h a ha i, lack_bit h b hb i, bits a b p i))

-- a set has fewer hours than another that it is within
fewer_up_to : (n a b : ℕ) → a + b ≤ n → a ⊑ b → (a ≢ b) → count_ones a < count_ones b
fewer_up_to zero a b h p ne = absurd (ne (omega arith))
fewer_up_to (suc n) a b h p ne =
    let lowest : a % 2 ≤ b % 2 = omega (arith, bits a b p 0) in
    let rest : (a / 2) ⊑ (b / 2) = sym (and_shr a b 1) ∙ ap (λ x. x / 2) p in
    ⊎_elim
    (λ same. omega (arith, ones_step a, ones_step b, ap count_ones same, lowest, ne))
    (λ other. omega (arith, ones_step a, ones_step b, lowest, fewer_up_to n (a / 2) (b / 2) (omega arith) rest other))
    (cases_eq (a / 2) (b / 2))

pub fewer : (a b : ℕ) → a ⊑ b → (a ≢ b) → count_ones a < count_ones b
fewer a b = fewer_up_to (a + b) a b (omega arith)

-- a set has no more hours than one that it is within, and fewer unless they are the same
grown : (n a b : ℕ) → a + b ≤ n → a ⊑ b → (count_ones a ≤ count_ones b) × (count_ones b ≤ count_ones a → a ≡ b)
grown n a b h p =
    ⊎_elim
    (λ same. (omega (arith, ap count_ones same), λ q. same))
    (λ other. let less = fewer a b p other in (omega (arith, less), λ q. absurd (omega (arith, less, q))))
    (cases_eq a b)

-- there are more sets than hours
pub below_pow : (h : ℕ) → h < 2 ^ h
below_pow zero = omega arith
below_pow (suc h) = omega (arith, below_pow h, pow-suc 2 h)
