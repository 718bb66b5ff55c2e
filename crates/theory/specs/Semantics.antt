-- What rules mean on a scale: values, yields, raisings, rounds, least models and scenes.
use Rattle.std.specs.Prelude.{◌≡◌, ℕ, zero, suc, ◌<◌, Bool, true, cond, List, [], ◌∷◌, map, length, replicate, ◌==◌, ◌≢◌, slice_index}
use Rattle.std.specs.List.{range_with_len}
pub use Rattle.std.specs.List.{AllByRecursion}
use Rattle.scale.specs.Meaning.{Meaning, top}
use Rattle.book.specs.Ledger.{Clause}
use Rattle.book.specs.declared.rule.Head.{Head}
use Rattle.book.specs.declared.rule.Head.TheVariants.{Statement, Bound}
use Rattle.book.specs.declared.rule.Literal.{Literal}
use Rattle.book.specs.declared.rule.Literal.TheVariants.{Plain, Above, Lacking}

-- the degree that a row of degrees gives statement s; past its end, 0
abbrev pub at : List ℕ → ℕ → ℕ
at row s = slice_index row s

-- a setting gives each of n statements a degree (past the end a row reads as 0, which is one too)
pub record Setting (m : Meaning) (n : ℕ) (row : List ℕ) : Type 0 where
  pub long : length row ≡ n
  pub degrees : (s : ℕ) → at row s < m.levels

-- Literals are valued at a lower setting l and an upper setting u.
abbrev pub value : Meaning → (ℕ → ℕ) → (ℕ → ℕ) → Literal → ℕ
value m l u (Plain s) = l s
value m l u (Above s d) = cond (m.below (l s) d) 0 (top m)
value m l u (Lacking s) = m.lack (u s)

abbrev pub body_value : Meaning → (ℕ → ℕ) → (ℕ → ℕ) → List Literal → ℕ
body_value m l u [] = top m
body_value m l u (x ∷ xs) = m.product (value m l u x) (body_value m l u xs)

-- how far a rule demands its head
abbrev pub yield : Meaning → (ℕ → ℕ) → (ℕ → ℕ) → Clause → ℕ
yield m l u c = m.product c.weight (body_value m l u c.body)

-- the degree of a head; a bound is its own degree
abbrev pub head_value : (ℕ → ℕ) → Head → ℕ
head_value l (Statement s) = l s
head_value l (Bound d) = d

-- a rule holds at (l, u) when its yield is below its head
abbrev pub holds : Meaning → (ℕ → ℕ) → (ℕ → ℕ) → Clause → Bool
holds m l u c = m.below (yield m l u c) (head_value l c.head)

-- what a rule demands of statement s: its yield where s is its head, otherwise nothing
abbrev pub share : Meaning → (ℕ → ℕ) → (ℕ → ℕ) → Clause → ℕ → ℕ
share m l u c s = elim c.head [ Statement t ↦ cond (t == s) (yield m l u c) 0 | Bound d ↦ 0 ]

-- the join of what all rules demand of statement s
abbrev pub gain : Meaning → (ℕ → ℕ) → (ℕ → ℕ) → List Clause → ℕ → ℕ
gain m l u [] s = 0
gain m l u (c ∷ cs) s = m.join (share m l u c s) (gain m l u cs s)

-- one raising of the lower row under the upper one
abbrev pub raise : Meaning → List Clause → ℕ → List ℕ → List ℕ → List ℕ
raise m cs n upper lower = map (λ s. gain m (at lower) (at upper) cs s) (range_with_len 0 n)

-- r raisings from the setting that is 0 everywhere
abbrev pub raised : Meaning → List Clause → ℕ → List ℕ → ℕ → List ℕ
raised m cs n upper zero = replicate n 0
raised m cs n upper (suc r) = raise m cs n upper (raised m cs n upper r)

-- r is the number of rounds: r raisings and one more agree, and no fewer do
pub record Rounds (m : Meaning) (cs : List Clause) (n : ℕ) (upper : List ℕ) (r : ℕ) : Type 0 where
  pub still : raised m cs n upper (suc r) ≡ raised m cs n upper r
  pub first : (k : ℕ) → k < r → raised m cs n upper (suc k) ≢ raised m cs n upper k

-- a rule with a bound for its head holds; of the others nothing is asked
abbrev pub BoundHolds : Meaning → (ℕ → ℕ) → (ℕ → ℕ) → Clause → Type 0
BoundHolds m l u c = elim c.head [ Statement s ↦ Unit {0} | Bound d ↦ holds m l u c ≡ true ]

-- a rule with a statement for its head holds; of the bounds nothing is asked
abbrev pub StatementHolds : Meaning → (ℕ → ℕ) → (ℕ → ℕ) → Clause → Type 0
StatementHolds m l u c = elim c.head [ Statement s ↦ holds m l u c ≡ true | Bound d ↦ Unit {0} ]

-- A setting is a scene of the rules, after r rounds: it is the least model under itself, and every bound holds there.
pub record SceneAfter (m : Meaning) (cs : List Clause) (n : ℕ) (row : List ℕ) (r : ℕ) : Type 0 where
  pub rounds : Rounds m cs n row r
  pub least : raised m cs n row r ≡ row
  pub bounds : AllByRecursion (BoundHolds m (at row) (at row)) cs

abbrev pub Scene : Meaning → List Clause → ℕ → List ℕ → Type 0
Scene m cs n row = (r : ℕ) × SceneAfter m cs n row r
