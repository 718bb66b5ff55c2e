-- What the search for a differing pair has found.
use Rattle.std.specs.Prelude.{◌≡◌, ℕ, ◌+◌, ◌^◌, ◌<◌, ◌↔◌, List, length, take, Some, None, Option}
use Rattle.scale.specs.Meaning.{Meaning}
use Rattle.book.specs.Ledger.{Clause}
use Rattle.theory.specs.AnswerSet.{Under}
use Rattle.theory.specs.Equivalence.{Pair, SamePairs}
use Rattle.theory.specs.Position.{position}
use Rattle.theory.specs.Semantics.{AllByRecursion, at, Setting, StatementHolds}
use Rattle.solve.specs.Ready.{AllBelow}
use Rattle.solve.specs.Verdicts.{HoldsAt}
use Rattle.engine.specs.declared.answers.Which.{Which}
use Rattle.engine.specs.declared.answers.Which.TheVariants.{First, Second}
use Rattle.engine.specs.declared.pairs.Difference.{Difference}
use Rattle.engine.specs.declared.pairs.Difference.TheVariants.{ModelOf, PairOf}

-- the row of the next position; the last position is followed by the first
pub record Advanced (levels : ℕ) (before after : List ℕ) : Type 0 where
  pub degrees : (s : ℕ) → at after s < levels
  pub next : position levels before + 1 < levels ^ length before → position levels after ≡ position levels before + 1
  pub wrap : position levels before + 1 ≡ levels ^ length before → position levels after ≡ 0

-- an answer of a test, and a row of degrees below `levels` at which it gives it; or that it gives none at any row of n such degrees
abbrev pub Answered : {T : Type 0} → ℕ → ℕ → (List ℕ → Option T → Type 0) → List ℕ → Option T → Type 0
Answered levels n answers row None = (other : List ℕ) → length other ≡ n → AllBelow levels other → answers other None
Answered levels n answers row (Some x) = AllBelow levels row × answers row (Some x)

-- every rule holds at the row
abbrev pub Holds : Meaning → List ℕ → List Clause → Type 0
Holds m row cs = AllByRecursion (HoldsAt m row) cs

-- every rule with a statement for its head holds at the two rows
abbrev pub Kept : Meaning → List ℕ → List ℕ → List Clause → Type 0
Kept m lower upper cs = AllByRecursion (StatementHolds m (at lower) (at upper)) cs

-- one book is satisfied at the row and the other is not
abbrev pub ModelsOne : Meaning → List ℕ → List Clause → List Clause → Type 0
ModelsOne m row one other = Holds m row one × (Holds m row other → ⊥)

-- a lower row below the upper one keeps the rules of one book and not those of the other
abbrev pub KeepsOne : Meaning → List ℕ → List ℕ → List Clause → List Clause → Type 0
KeepsOne m lower upper one other = Under m lower upper × Kept m lower upper one × (Kept m lower upper other → ⊥)

-- where the lower row is below the upper one, both books' rules are kept or neither's
abbrev pub AgreeBelow : Meaning → List Clause → List Clause → List ℕ → List ℕ → Type 0
AgreeBelow m first second upper lower = Under m lower upper → Kept m lower upper first ↔ Kept m lower upper second

abbrev pub KeptBy : Meaning → List ℕ → List ℕ → List Clause → List Clause → Option Which → Type 0
KeptBy m lower upper first second None = AgreeBelow m first second upper lower
KeptBy m lower upper first second (Some First) = KeepsOne m lower upper first second
KeptBy m lower upper first second (Some Second) = KeepsOne m lower upper second first

-- what the search of the lower rows under one upper row has found
abbrev pub LowerFound : Meaning → ℕ → List ℕ → List Clause → List Clause → Option Difference → Type 0
LowerFound m n upper first second None = (row : List ℕ) → Setting m n row → AgreeBelow m first second upper row
LowerFound m n upper first second (Some (ModelOf book)) = ⊥
LowerFound m n upper first second (Some (PairOf First row)) = Setting m n (take n row) × KeepsOne m (take n row) upper first second
LowerFound m n upper first second (Some (PairOf Second row)) = Setting m n (take n row) × KeepsOne m (take n row) upper second first

-- Agreement at an upper row: both books are satisfied there or neither, and then both keep the same lower rows.
abbrev pub Agree : Meaning → ℕ → List Clause → List Clause → List ℕ → Type 0
Agree m n first second upper =
    (Holds m upper first ↔ Holds m upper second) × (Holds m upper first → (lower : List ℕ) → Setting m n lower → AgreeBelow m first second upper lower)

-- a pair of one book whose upper row satisfies the other too, and that is no pair of the other
abbrev pub PairsOne : Meaning → ℕ → List ℕ → List ℕ → List Clause → List Clause → Type 0
PairsOne m n lower upper one other = Pair m n one lower upper × Holds m upper other × (Kept m lower upper other → ⊥)

-- what the search at one upper row has found
abbrev pub UpperFound : Meaning → ℕ → List ℕ → List Clause → List Clause → Option Difference → Type 0
UpperFound m n upper first second None = Agree m n first second upper
UpperFound m n upper first second (Some (ModelOf First)) = ModelsOne m upper first second
UpperFound m n upper first second (Some (ModelOf Second)) = ModelsOne m upper second first
UpperFound m n upper first second (Some (PairOf First row)) = PairsOne m n (take n row) upper first second
UpperFound m n upper first second (Some (PairOf Second row)) = PairsOne m n (take n row) upper second first

-- what the whole search has found
abbrev pub Differs : Meaning → ℕ → List Clause → List Clause → List ℕ → Option Difference → Type 0
Differs m n first second upper None = SamePairs m n first second
Differs m n first second upper (Some difference) = Setting m n upper × UpperFound m n upper first second (Some difference)
