-- What compare answers: strong equivalence, or what tells the two books apart.
use Rattle.std.specs.Prelude.{◌≡◌, ℕ, ◌*◌, ◌^◌, ◌≤◌, Bool, true, false, not, ◌↔◌, List, [], ◌∷◌, ◌++◌, map, length, take, drop, Option, ◌==◌, nat_lt, codes, decimal}
use Rattle.scale.specs.declared.refusal.Refusal.{Refusal}
use Rattle.scale.specs.declared.refusal.Refusal.TheVariants.{LevelsDiffer, StatementsDiffer, PlaceLength, TooManySettings}
use Rattle.scale.specs.Causes.{cause, first_met}
use Rattle.scale.specs.Meaning.{Meaning}
use Rattle.book.specs.Ledger.{Clause, Ledger}
use Rattle.book.specs.Rows.{clause_of}
use Rattle.book.specs.declared.rows.Rule.{Rule}
use Rattle.theory.specs.Equivalence.{SamePairs, StronglyEquivalent, TellsApart}
use Rattle.engine.specs.declared.answers.Comparison.{Comparison}
use Rattle.engine.specs.declared.answers.Comparison.TheVariants.{Equal, Unequal}
use Rattle.engine.specs.declared.answers.Which.{Which}
use Rattle.engine.specs.declared.answers.Which.TheVariants.{First, Second}

abbrev pub other_of : Which → Which
other_of First = Second
other_of Second = First

-- how a book is named to users
abbrev pub word_of : Which → List ℕ
word_of First = codes "first"
word_of Second = codes "second"

-- how users see the answer
abbrev pub words_of : Comparison → List ℕ
words_of Equal = codes "equal"
words_of (Unequal book count) = codes "unequal " ++ word_of book ++ codes " " ++ decimal count

-- the causes that compare tests, with the rows of the addendum's place and of the setting's
abbrev pub compare_refusal : Meaning → Ledger → Ledger → List Rule → List ℕ → Option Refusal
compare_refusal m first second addendum setting =
    first_met
    (cause (not (m.levels == first.levels)) LevelsDiffer
    ∷ cause (not (m.levels == second.levels)) LevelsDiffer
    ∷ cause (not (first.statements == second.statements)) StatementsDiffer
    ∷ cause (not (length setting == first.statements)) PlaceLength
    ∷ cause (nat_lt (length addendum) (2 * first.statements)) PlaceLength
    ∷ cause (nat_lt 4096 (first.levels ^ first.statements)) TooManySettings
    ∷ [])

-- The places of a compare: the addendum's rows and the setting.
pub record Places : Type 0 where
  pub addendum : List Rule
  pub setting : List ℕ

abbrev pub places : List Rule → List ℕ → Places
places addendum setting = record { addendum = addendum; setting = setting }

-- The first `count` rows of the addendum's place are an addendum with which the setting is a scene of `one` and not of
-- `other`; the other rows stay.
pub record Apart (m : Meaning) (n : ℕ) (one other : List Clause) (before after : Places) (count : ℕ) : Type 0 where
  pub tells : TellsApart m n one other (map clause_of (take count after.addendum)) after.setting
  pub few : count ≤ 2 * n
  pub length : length after.addendum ≡ length before.addendum
  pub rest : drop count after.addendum ≡ drop count before.addendum

-- the answer of compare is right, with what stood in its places before the call and after it
abbrev pub Told : Meaning → ℕ → List Clause → List Clause → Places → Places → Comparison → Type 0
Told m n first second before after Equal = (after ≡ before) × StronglyEquivalent m n first second
Told m n first second before after (Unequal First count) = Apart m n first second before after count
Told m n first second before after (Unequal Second count) = Apart m n second first before after count

abbrev pub is_equal : Comparison → Bool
is_equal Equal = true
is_equal (Unequal book count) = false

-- What a granted compare says: its answer and its places afterwards; that it is "equal" exactly when the books are strongly
-- equivalent; and that they are so exactly when they have the same here-and-there pairs.
pub record Compared (m : Meaning) (n : ℕ) (first second : List Clause) (before after : Places) (answer : Comparison) : Type 0 where
  pub told : Told m n first second before after answer
  pub exactly : (is_equal answer ≡ true) ↔ StronglyEquivalent m n first second
  pub pairs : StronglyEquivalent m n first second ↔ SamePairs m n first second
