-- What a run of calls on two books does: how each call changes the two ledgers, and what it answers.
use Rattle.std.specs.Prelude.{◌≡◌, ℕ, List, [], ◌∷◌, Some, None, Ok, Err, vec_items, Option, Result, Vec, codes}
use Rattle.std.specs.declared.alloc.Global.{Global}
use Rattle.scale.specs.declared.refusal.Refusal.{Refusal}
use Rattle.scale.specs.Causes.{answered, Answers}
use Rattle.scale.specs.Meaning.{Meaning}
use Rattle.book.specs.Calls.{empty, make_refusal, enter_refusal, entered, strike_refusal, struck, reweigh_refusal, reweighed}
use Rattle.book.specs.Ledger.{Ledger, clause}
use Rattle.book.specs.View.{ledger_of}
use Rattle.book.specs.declared.books.Book.{Book}
use Rattle.book.specs.declared.rows.Rule.{Rule}
use Rattle.solve.specs.Searches.{seek_refusal, Found}
use Rattle.solve.specs.Verdicts as verdicts
use Rattle.solve.specs.declared.judging.Verdict.{Verdict}
use Rattle.engine.specs.Comparisons as comparisons
use Rattle.engine.specs.declared.answers.Comparison.{Comparison}
use Rattle.engine.specs.declared.answers.Which.{Which}
use Rattle.engine.specs.declared.answers.Which.TheVariants.{First, Second}
use Rattle.engine.specs.declared.calls.Call.{Call}
use Rattle.engine.specs.declared.calls.Call.TheVariants.{Enter, Strike, Reweigh, Check, Seek, Compare}
use Rattle.engine.specs.declared.calls.Outcome.{Outcome}
use Rattle.engine.specs.declared.calls.Outcome.TheVariants.{Entered, Struck, Reweighed, Checked, Sought, Compared}
use Rattle.engine.specs.declared.calls.RunError.{RunError}
use Rattle.engine.specs.declared.calls.RunError.TheVariants.{Refused, NoMemory}
use Rattle.engine.specs.declared.calls.Size.{Size}

-- the ledgers of the two books
pub record Ledgers : Type 0 where
  pub first : Ledger
  pub second : Ledger

abbrev pub ledgers : Ledger → Ledger → Ledgers
ledgers one two = record { first = one; second = two }

abbrev pub ledgers_of : Book → Book → Ledgers
ledgers_of one two = ledgers (ledger_of one) (ledger_of two)

-- the ledger of the book named
abbrev pub named : Which → Ledgers → Ledger
named First l = l.first
named Second l = l.second

-- the ledger of the other book
abbrev pub unnamed : Which → Ledgers → Ledger
unnamed First l = l.second
unnamed Second l = l.first

-- the two ledgers with another one for the book named
abbrev pub with_named : Which → Ledgers → Ledger → Ledgers
with_named First l changed = ledgers changed l.second
with_named Second l changed = ledgers l.first changed

-- the book that a call names
abbrev pub book_of : Call → Which
book_of (Enter book head weight body) = book
book_of (Strike book rule) = book
book_of (Reweigh book rule weight) = book
book_of (Check book setting) = book
book_of (Seek book start place) = book
book_of (Compare book addendum setting) = book

-- how a call changes the ledger of the book that it names: check, seek and compare leave it
abbrev pub changed : Call → Ledger → Ledger
changed (Enter book head weight body) l = entered l (clause head weight (vec_items body))
changed (Strike book rule) l = struck l rule
changed (Reweigh book rule weight) l = reweighed l rule weight
changed (Check book setting) l = l
changed (Seek book start place) l = l
changed (Compare book addendum setting) l = l

-- how a call changes the ledgers: that of the other book stays
abbrev pub after : Call → Ledgers → Ledgers
after c l = with_named (book_of c) l (changed c (named (book_of c) l))

-- the same of a list of calls, one after another
abbrev pub after_all : List Call → Ledgers → Ledgers
after_all [] l = l
after_all (c ∷ cs) l = after_all cs (after c l)

-- A check answers its verdict, and gives the setting back as it was.
pub record CheckOutcome (m : Meaning) (l : Ledger) (setting : List ℕ) (o : Outcome) : Type 0 where
  pub answer : Result Verdict Refusal
  pub back : Vec ℕ Global
  pub is : o ≡ Checked answer back
  pub answers : Answers (verdicts.check_refusal m l setting) answer (verdicts.Checked m l.rules l.statements setting)
  pub same : vec_items back ≡ setting

-- what a refused call gives back is as it was
abbrev pub Unchanged : {A P : Type 0} → Result A Refusal → P → P → Type 0
Unchanged (Ok x) before after = Unit {0}
Unchanged (Err e) before after = after ≡ before

-- A seek answers what it found, and gives its place back with the setting found, or else as it was.
pub record SeekOutcome (m : Meaning) (l : Ledger) (start : ℕ) (place : List ℕ) (o : Outcome) : Type 0 where
  pub answer : Result (Option (ℕ × ℕ)) Refusal
  pub back : Vec ℕ Global
  pub is : o ≡ Sought answer back
  pub answers : Answers (seek_refusal m l place) answer (Found m l.rules l.statements start place (vec_items back))
  pub refused : Unchanged answer place (vec_items back)

-- A compare answers which book has a scene that the other lacks, if any has, and gives its places back with what tells the
-- books apart, or else as they were.
pub record CompareOutcome (m : Meaning) (one two : Ledger) (before : comparisons.Places) (o : Outcome) : Type 0 where
  pub answer : Result Comparison Refusal
  pub addendum : Vec Rule Global
  pub setting : Vec ℕ Global
  pub is : o ≡ Compared answer addendum setting
  pub answers : Answers (comparisons.compare_refusal m one two before.addendum before.setting) answer (comparisons.Compared m one.statements one.rules two.rules before (comparisons.places (vec_items addendum) (vec_items setting)))
  pub refused : Unchanged answer before (comparisons.places (vec_items addendum) (vec_items setting))

-- the outcome of a call on a book with the ledger `one`, where the other book has the ledger `two`
abbrev pub OutcomeOn : Meaning → Ledger → Ledger → Call → Outcome → Type 0
OutcomeOn m one two (Enter book head weight body) o = o ≡ Entered (answered (enter_refusal one (clause head weight (vec_items body))) tt)
OutcomeOn m one two (Strike book rule) o = o ≡ Struck (answered (strike_refusal one rule) tt)
OutcomeOn m one two (Reweigh book rule weight) o = o ≡ Reweighed (answered (reweigh_refusal one rule weight) tt)
OutcomeOn m one two (Check book setting) o = CheckOutcome m one (vec_items setting) o
OutcomeOn m one two (Seek book start place) o = SeekOutcome m one start (vec_items place) o
OutcomeOn m one two (Compare book addendum setting) o = CompareOutcome m one two (comparisons.places (vec_items addendum) (vec_items setting)) o

-- the outcome of a call on books with these ledgers
abbrev pub OutcomeOf : Meaning → Ledgers → Call → Outcome → Type 0
OutcomeOf m l c o = OutcomeOn m (named (book_of c) l) (unnamed (book_of c) l) c o

-- each call has its outcome, on the ledgers as the calls before it left them
abbrev pub OutcomesOf : Meaning → Ledgers → List Call → List Outcome → Type 0
OutcomesOf m l [] [] = Unit {0}
OutcomesOf m l [] (o ∷ os) = ⊥
OutcomesOf m l (c ∷ cs) [] = ⊥
OutcomesOf m l (c ∷ cs) (o ∷ os) = OutcomeOf m l c o × OutcomesOf m (after c l) cs os

-- the first of two refusals
abbrev pub earlier : Option Refusal → Option Refusal → Option Refusal
earlier None later = later
earlier (Some e) later = Some e

-- why two books cannot be made of these sizes: the first book's cause comes first
abbrev pub sizes_refusal : Size → Size → Option Refusal
sizes_refusal one two = earlier (make_refusal one.levels one.statements) (make_refusal two.levels two.statements)

-- the ledgers of two books just made
abbrev pub empties : Size → Size → Ledgers
empties one two = ledgers (empty one.levels one.statements) (empty two.levels two.statements)

-- What a run of calls on two books of these sizes answers, and which ledgers it leaves: where it is refused, or has no
-- memory, those that there were.
abbrev pub Ran : Meaning → Size → Size → List Call → Ledgers → Ledgers → Result (Vec Outcome Global) RunError → Type 0
Ran m one two calls before end (Ok outcomes) = (sizes_refusal one two ≡ None) × OutcomesOf m (empties one two) calls (vec_items outcomes) × (end ≡ after_all calls (empties one two))
Ran m one two calls before end (Err (Refused e)) = (sizes_refusal one two ≡ Some e) × (end ≡ before)
Ran m one two calls before end (Err NoMemory) = end ≡ before

-- how a run that did nothing says why
abbrev pub text_of : RunError → List ℕ
text_of (Refused e) = codes "a book was refused"
text_of NoMemory = codes "there is no memory for the outcomes"
