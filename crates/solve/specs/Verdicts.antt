-- What check answers: the verdict on a setting.
use Rattle.std.specs.Prelude.{◌≡◌, ℕ, ◌*◌, ◌<◌, ◌≤◌, Bool, true, false, not, ◌↔◌, List, [], ◌∷◌, length, get_or, take, Some, None, Option, ◌==◌, nat_le, nat_lt, slice_index_or}
use Rattle.scale.specs.declared.refusal.Refusal.{Refusal}
use Rattle.scale.specs.declared.refusal.Refusal.TheVariants.{DegreeTooHigh, NoSuchRule, LevelsDiffer, PlaceLength}
use Rattle.scale.specs.Causes.{cause, first_met}
use Rattle.scale.specs.Meaning.{Meaning}
use Rattle.book.specs.Ledger.{Clause, Ledger}
use Rattle.std.specs.List.{list_all}
use Rattle.book.specs.Rows.{clause_of}
use Rattle.book.specs.declared.rows.Rule.{Rule}
use Rattle.theory.specs.Semantics.{at, AllByRecursion, holds, yield, body_value, head_value, raised, Rounds, SceneAfter}
use Rattle.theory.specs.AnswerSet.{AnswerSet}
use Rattle.solve.specs.declared.judging.Verdict.{Verdict}
use Rattle.solve.specs.declared.judging.Verdict.TheVariants.{Scene, Broken, Unsupported}

abbrev pub check_refusal : Meaning → Ledger → List ℕ → Option Refusal
check_refusal m l row =
    first_met
    (cause (not (list_all (λ d. nat_lt d l.levels) row)) DegreeTooHigh
    ∷ cause (not (m.levels == l.levels)) LevelsDiffer
    ∷ cause (not (length row == l.statements)) PlaceLength
    ∷ [])

-- the same, and after the degrees whether there is a rule i
abbrev pub yield_refusal : Meaning → Ledger → ℕ → List ℕ → Option Refusal
yield_refusal m l i row =
    first_met
    (cause (not (list_all (λ d. nat_lt d l.levels) row)) DegreeTooHigh
    ∷ cause (nat_le (length l.rules) i) NoSuchRule
    ∷ cause (not (m.levels == l.levels)) LevelsDiffer
    ∷ cause (not (length row == l.statements)) PlaceLength
    ∷ [])

-- d is how far rule i, which is there, demands its head at the setting; the default of `slice_index_or` does not matter then
abbrev pub YieldAt : Meaning → List Clause → ℕ → List ℕ → ℕ → Type 0
YieldAt m cs i row d = (none : Clause) → d ≡ yield m (at row) (at row) (slice_index_or cs i none)

-- the rule holds at the setting, read as both the lower and the upper one
abbrev pub HoldsAt : Meaning → List ℕ → Clause → Type 0
HoldsAt m row c = holds m (at row) (at row) c ≡ true

-- the first row of a table whose rule does not hold, or that all hold
abbrev pub FirstBreach : Meaning → List Rule → List ℕ → Option ℕ → Type 0
FirstBreach m rows row None = AllByRecursion (λ r. HoldsAt m row (clause_of r)) rows
FirstBreach m rows row (Some i) = (i < length rows) × ((d : Rule) → holds m (at row) (at row) (clause_of (slice_index_or rows i d)) ≡ false) × AllByRecursion (λ r. HoldsAt m row (clause_of r)) (take i rows)

-- Rule i is the first that does not hold at the setting, and d is the residuum of its body and its head. (`rule` is what
-- stands at i, by its being there whatever the default.)
pub record FirstBroken (m : Meaning) (cs : List Clause) (row : List ℕ) (i d : ℕ) : Type 0 where
  pub rule : Clause
  pub there : i < length cs
  pub is : get_or cs i rule ≡ rule
  pub breaks : holds m (at row) (at row) rule ≡ false
  pub before : AllByRecursion (HoldsAt m row) (take i cs)
  pub residuum : d ≡ m.residuum (body_value m (at row) (at row) rule.body) (head_value (at row) rule.head)

-- Every rule holds, but s is the first statement whose degree in the least model, d, differs from the setting's.
pub record FirstUnsupported (m : Meaning) (cs : List Clause) (n : ℕ) (row : List ℕ) (s d : ℕ) : Type 0 where
  pub satisfied : AllByRecursion (HoldsAt m row) cs
  pub r : ℕ
  pub rounds : Rounds m cs n row r
  pub there : s < n
  pub degree : d ≡ at (raised m cs n row r) s
  pub differs : d ≡ at row s → ⊥
  pub before : (k : ℕ) → k < s → at (raised m cs n row r) k ≡ at row k

-- the verdict on a setting is right
abbrev pub Judged : Meaning → List Clause → ℕ → List ℕ → Verdict → Type 0
Judged m cs n row (Scene r) = SceneAfter m cs n row r
Judged m cs n row (Broken i d) = FirstBroken m cs row i d
Judged m cs n row (Unsupported s d) = FirstUnsupported m cs n row s d

abbrev pub is_scene : Verdict → Bool
is_scene (Scene r) = true
is_scene (Broken i d) = false
is_scene (Unsupported s d) = false

-- What a granted check says of a setting: its verdict, which is the only one; that it is "scene" exactly when the setting
-- is a fuzzy answer set; and that a scene's rounds are at most statements × height.
pub record Checked (m : Meaning) (cs : List Clause) (n : ℕ) (row : List ℕ) (v : Verdict) : Type 0 where
  pub judged : Judged m cs n row v
  pub only : (w : Verdict) → Judged m cs n row w → w ≡ v
  pub answer_set : (is_scene v ≡ true) ↔ AnswerSet m n cs row
  pub brief : (r : ℕ) → v ≡ Scene r → r ≤ n * m.height
