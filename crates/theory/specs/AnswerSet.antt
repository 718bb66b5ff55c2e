-- The fuzzy answer set, by the order of the lattice and not by iteration.
use Rattle.std.specs.Prelude.{◌≡◌, ℕ, true, List, [], ◌∷◌, map}
use Rattle.scale.specs.Meaning.{Meaning}
use Rattle.book.specs.Ledger.{Clause}
use Rattle.book.specs.declared.rule.Literal.{Literal}
use Rattle.book.specs.declared.rule.Literal.TheVariants.{Plain, Above, Lacking}
use Rattle.theory.specs.Semantics.{at, Setting, holds, AllByRecursion, StatementHolds}

-- the literals of a body that are not lackings
abbrev pub positive : List Literal → List Literal
positive [] = []
positive (Plain s ∷ xs) = Plain s ∷ positive xs
positive (Above s d ∷ xs) = Above s d ∷ positive xs
positive (Lacking s ∷ xs) = positive xs

-- a weight with the lacks of a body at u multiplied in
abbrev pub weighed : Meaning → (ℕ → ℕ) → ℕ → List Literal → ℕ
weighed m u w [] = w
weighed m u w (Plain s ∷ xs) = weighed m u w xs
weighed m u w (Above s d ∷ xs) = weighed m u w xs
weighed m u w (Lacking s ∷ xs) = m.product (m.lack (u s)) (weighed m u w xs)

-- The reduct of a rule at u: each lacking literal's degree at u goes into the weight.
abbrev pub reduct : Meaning → (ℕ → ℕ) → Clause → Clause
reduct m u c = record { head = c.head; weight = weighed m u c.weight c.body; body = positive c.body }

-- a setting is a model of rules when every one of them holds there
pub record Model (m : Meaning) (n : ℕ) (cs : List Clause) (row : List ℕ) : Type 0 where
  pub setting : Setting m n row
  pub satisfied : AllByRecursion (λ c. holds m (at row) (at row) c ≡ true) cs

-- one setting is below another, statement by statement
abbrev pub Under : Meaning → List ℕ → List ℕ → Type 0
Under m lower upper = (s : ℕ) → m.below (at lower s) (at upper s) ≡ true

-- a model that is below every model
pub record LeastModel (m : Meaning) (n : ℕ) (cs : List Clause) (row : List ℕ) : Type 0 where
  pub model : Model m n cs row
  pub least : (other : List ℕ) → Model m n cs other → Under m row other

-- A fuzzy answer set: it satisfies every rule, and it is the least model of the rules' reduct at itself.
pub record AnswerSet (m : Meaning) (n : ℕ) (cs : List Clause) (row : List ℕ) : Type 0 where
  pub satisfies : Model m n cs row
  pub least : LeastModel m n (map (reduct m (at row)) cs) row

-- the least setting at which, under an upper one, every rule with a statement for its head holds
pub record LeastUnder (m : Meaning) (n : ℕ) (cs : List Clause) (upper row : List ℕ) : Type 0 where
  pub setting : Setting m n row
  pub satisfied : AllByRecursion (StatementHolds m (at row) (at upper)) cs
  pub least : (other : List ℕ) → Setting m n other → AllByRecursion (StatementHolds m (at other) (at upper)) cs → Under m row other
