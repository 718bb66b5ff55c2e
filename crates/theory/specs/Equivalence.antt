-- Here-and-there pairs, strong equivalence, and the further rules that tell two lists of rules apart.
use Rattle.std.specs.Prelude.{◌≡◌, ℕ, ◌*◌, ◌≤◌, Bool, true, not, ◌↔◌, List, [], ◌∷◌, ◌++◌, map, length, filter, ◌==◌}
use Rattle.std.specs.List.{range_with_len}
use Rattle.scale.specs.Meaning.{Meaning}
use Rattle.book.specs.Ledger.{Clause, Lawful}
use Rattle.book.specs.declared.rule.Head.TheVariants.{Statement}
use Rattle.book.specs.declared.rule.Literal.TheVariants.{Above}
use Rattle.theory.specs.Semantics.{at, Setting, holds, AllByRecursion, StatementHolds, Scene}
use Rattle.theory.specs.AnswerSet.{Under}

-- A here-and-there pair of rules: there, at `upper`, all of them hold; here, at `lower` with the lacks read at `upper`,
-- those with a statement for their head do.
pub record Pair (m : Meaning) (n : ℕ) (cs : List Clause) (lower upper : List ℕ) : Type 0 where
  pub here : Setting m n lower
  pub there : Setting m n upper
  pub under : Under m lower upper
  pub satisfied : AllByRecursion (λ c. holds m (at upper) (at upper) c ≡ true) cs
  pub kept : AllByRecursion (StatementHolds m (at lower) (at upper)) cs

-- An equilibrium: a pair with itself, and with nothing else below it.
pub record Equilibrium (m : Meaning) (n : ℕ) (cs : List Clause) (row : List ℕ) : Type 0 where
  pub pair : Pair m n cs row row
  pub alone : (lower : List ℕ) → Pair m n cs lower row → lower ≡ row

-- two lists of rules have the same here-and-there pairs
abbrev pub SamePairs : Meaning → ℕ → List Clause → List Clause → Type 0
SamePairs m n first second = (lower upper : List ℕ) → Pair m n first lower upper ↔ Pair m n second lower upper

-- whichever lawful rules are added to both, both have the same scenes
abbrev pub StronglyEquivalent : Meaning → ℕ → List Clause → List Clause → Type 0
StronglyEquivalent m n first second =
    (more : List Clause) → AllByRecursion (Lawful m.levels n) more → (row : List ℕ) → Setting m n row →
    Scene m (first ++ more) n row ↔ Scene m (second ++ more) n row

-- with `more` added, `row` is a scene of the first rules and not of the second
pub record TellsApart (m : Meaning) (n : ℕ) (first second more : List Clause) (row : List ℕ) : Type 0 where
  pub lawful : AllByRecursion (Lawful m.levels n) more
  pub short : length more ≤ 2 * n
  pub setting : Setting m n row
  pub scene : Scene m (first ++ more) n row
  pub none : Scene m (second ++ more) n row → ⊥

-- the rule that demands for statement s the degree that a row gives it
abbrev pub fact : List ℕ → ℕ → Clause
fact row s = record { head = Statement s; weight = at row s; body = [] }

abbrev pub facts : ℕ → List ℕ → List Clause
facts n row = map (fact row) (range_with_len 0 n)

-- the rows give statement s two degrees
abbrev pub differs : List ℕ → List ℕ → ℕ → Bool
differs lower upper s = not (at lower s == at upper s)

-- the statements at which two rows differ, in their order
abbrev pub differing : ℕ → List ℕ → List ℕ → List ℕ
differing n lower upper = filter (differs lower upper) (range_with_len 0 n)

-- once statement s is above its lower degree, t is demanded up to its upper one
abbrev pub link : List ℕ → List ℕ → ℕ → ℕ → Clause
link lower upper s t = record { head = Statement t; weight = at upper t; body = Above s (at lower s) ∷ [] }

-- a link into each of ts from the one before it, and from s into the first
abbrev pub chain : List ℕ → List ℕ → ℕ → List ℕ → List Clause
chain lower upper s [] = []
chain lower upper s (t ∷ ts) = link lower upper s t ∷ chain lower upper t ts

-- the last of ts; s where there is none
abbrev pub last_of : ℕ → List ℕ → ℕ
last_of s [] = s
last_of s (t ∷ ts) = last_of t ts

-- the chain that starts from its own last statement
abbrev pub cycle : List ℕ → List ℕ → List ℕ → List Clause
cycle lower upper ts = chain lower upper (last_of 0 ts) ts

-- Rules that leave nothing strictly between two rows: the lower row as facts, and the cycle of the statements at which
-- the rows differ, so that where one of them rises all of them reach their upper degree.
abbrev pub addendum : ℕ → List ℕ → List ℕ → List Clause
addendum n lower upper = facts n lower ++ cycle lower upper (differing n lower upper)
