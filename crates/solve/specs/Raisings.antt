-- What raising does under every setting, and how long it can go on.
use Rattle.std.specs.Prelude.{◌≡◌, ℕ, suc, ◌*◌, ◌≤◌, ◌↔◌, List, Option}
use Rattle.scale.specs.declared.refusal.Refusal.{Refusal}
use Rattle.scale.specs.Meaning.{Meaning}
use Rattle.book.specs.Ledger.{Clause, Ledger}
use Rattle.theory.specs.AnswerSet.{Under, LeastUnder, AnswerSet}
use Rattle.theory.specs.Semantics.{Setting, raised, Rounds, Scene}
use Rattle.solve.specs.Programs.{program_refusal}

abbrev pub most_rounds_refusal : Meaning → Ledger → Option Refusal
most_rounds_refusal m l = program_refusal m l

-- Under one upper setting: raising ascends; it stands still after at most `most` rounds, at one number of rounds; there
-- it is the least setting at which the rules with a statement for their head hold; and the setting is a scene exactly when it is a fuzzy answer set.
pub record RaisingUnder (m : Meaning) (cs : List Clause) (n : ℕ) (upper : List ℕ) (most : ℕ) : Type 0 where
  pub ascends : (r : ℕ) → Under m (raised m cs n upper r) (raised m cs n upper (suc r))
  pub rounds : ℕ
  pub stands : Rounds m cs n upper rounds
  pub brief : rounds ≤ most
  pub once : (r : ℕ) → Rounds m cs n upper r → r ≡ rounds
  pub least : LeastUnder m n cs upper (raised m cs n upper rounds)
  pub answer_set : Scene m cs n upper ↔ AnswerSet m n cs upper

-- the most rounds are statements × height, and they suffice under every setting
pub record Raisings (m : Meaning) (cs : List Clause) (n most : ℕ) : Type 0 where
  pub limit : most ≡ n * m.height
  pub every : (upper : List ℕ) → Setting m n upper → RaisingUnder m cs n upper most
