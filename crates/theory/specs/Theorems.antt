-- The theorems on what rules mean, for every scale that keeps the laws. Each stands on the contract of a public call of the crates above.
use Rattle.std.specs.Prelude.{◌≡◌, ℕ, suc, ◌*◌, ◌≤◌, ◌↔◌, List}
use Rattle.scale.specs.Meaning.{Meaning, Laws}
use Rattle.book.specs.Ledger.{Clause, Lawful}
use Rattle.theory.specs.Semantics.{Setting, AllByRecursion, raised, Rounds, Scene}
use Rattle.theory.specs.AnswerSet.{Under, LeastUnder, AnswerSet}

-- every raising ends at or over where it began
abbrev pub RaisingAscends : Type 0
RaisingAscends = (m : Meaning) → Laws m → (n : ℕ) (cs : List Clause) → AllByRecursion (Lawful m.levels n) cs → (upper : List ℕ) → Setting m n upper → (r : ℕ) → Under m (raised m cs n upper r) (raised m cs n upper (suc r))

-- raising stands still within statements × height rounds, and there is one number of rounds
abbrev pub RaisingStandsStill : Type 0
RaisingStandsStill = (m : Meaning) → Laws m → (n : ℕ) (cs : List Clause) → AllByRecursion (Lawful m.levels n) cs → (upper : List ℕ) → Setting m n upper → (r : ℕ) × Rounds m cs n upper r × (r ≤ n * m.height) × ((q : ℕ) → Rounds m cs n upper q → q ≡ r)

-- where raising stands still is the least setting at which the rules with a statement for their head hold
abbrev pub LeastModelStands : Type 0
LeastModelStands = (m : Meaning) → Laws m → (n : ℕ) (cs : List Clause) → AllByRecursion (Lawful m.levels n) cs → (upper : List ℕ) → Setting m n upper → (r : ℕ) → Rounds m cs n upper r → LeastUnder m n cs upper (raised m cs n upper r)

-- the scenes are the fuzzy answer sets
abbrev pub ScenesAreAnswerSets : Type 0
ScenesAreAnswerSets = (m : Meaning) → Laws m → (n : ℕ) (cs : List Clause) → AllByRecursion (Lawful m.levels n) cs → (row : List ℕ) → Setting m n row → Scene m cs n row ↔ AnswerSet m n cs row
