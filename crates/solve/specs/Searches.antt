-- What seek answers: the first scene at or after a start, and its place afterwards.
use Rattle.std.specs.Prelude.{◌≡◌, ℕ, ◌^◌, ◌<◌, ◌≤◌, not, ◌↔◌, List, [], ◌∷◌, length, Some, None, Option, ◌==◌, nat_lt}
use Rattle.scale.specs.declared.refusal.Refusal.{Refusal}
use Rattle.scale.specs.declared.refusal.Refusal.TheVariants.{LevelsDiffer, PlaceLength, TooManySettings}
use Rattle.scale.specs.Causes.{cause, first_met}
use Rattle.scale.specs.Meaning.{Meaning}
use Rattle.book.specs.Ledger.{Clause, Ledger}
use Rattle.theory.specs.AnswerSet.{AnswerSet}
use Rattle.theory.specs.Position.{position}
use Rattle.theory.specs.Semantics.{Setting, Scene, SceneAfter}

abbrev pub seek_refusal : Meaning → Ledger → List ℕ → Option Refusal
seek_refusal m l place =
    first_met
    (cause (not (m.levels == l.levels)) LevelsDiffer
    ∷ cause (not (length place == l.statements)) PlaceLength
    ∷ cause (nat_lt 65536 (l.levels ^ l.statements)) TooManySettings
    ∷ [])

-- no scene has a position from `start` on and before `end`
abbrev pub NoSceneBetween : Meaning → List Clause → ℕ → ℕ → ℕ → Type 0
NoSceneBetween m cs n start end = (row : List ℕ) → Setting m n row → start ≤ position m.levels row → position m.levels row < end → Scene m cs n row → ⊥

-- The row is the first scene at or after `start`; p is its position, and r its rounds.
pub record FirstScene (m : Meaning) (cs : List Clause) (n start : ℕ) (row : List ℕ) (p r : ℕ) : Type 0 where
  pub setting : Setting m n row
  pub place : position m.levels row ≡ p
  pub from : start ≤ p
  pub scene : SceneAfter m cs n row r
  pub before : NoSceneBetween m cs n start p

-- the answer of seek, with what stood in its place before the call and after it
abbrev pub Sought : Meaning → List Clause → ℕ → ℕ → List ℕ → List ℕ → Option (ℕ × ℕ) → Type 0
Sought m cs n start before after None = (after ≡ before) × NoSceneBetween m cs n start (m.levels ^ n)
Sought m cs n start before after (Some found) = FirstScene m cs n start after found.0 found.1

-- What a granted seek says: its answer and its place afterwards, which are the only ones; and that the scenes it goes
-- through are exactly the fuzzy answer sets.
pub record Found (m : Meaning) (cs : List Clause) (n start : ℕ) (before after : List ℕ) (found : Option (ℕ × ℕ)) : Type 0 where
  pub sought : Sought m cs n start before after found
  pub only : (row : List ℕ) (other : Option (ℕ × ℕ)) → Sought m cs n start before row other → (other ≡ found) × (row ≡ after)
  pub answer_sets : (row : List ℕ) → Setting m n row → Scene m cs n row ↔ AnswerSet m n cs row
