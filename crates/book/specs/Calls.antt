-- The calls on a book, as changes of its ledger: which causes each tests, in their order, and what it leaves.
use Rattle.std.specs.Prelude.{ℕ, zero, suc, not, List, [], ◌∷◌, ◌++◌, length, Option, nat_le, nat_lt}
use Rattle.std.specs.List.{remove}
use Rattle.scale.specs.declared.refusal.Refusal.{Refusal}
use Rattle.scale.specs.declared.refusal.Refusal.TheVariants.{BookSize, UnknownStatement, DegreeTooHigh, BodyTooLong, BookFull, NoSuchRule}
use Rattle.scale.specs.Causes.{Cause, cause, first_met, left}
use Rattle.book.specs.Ledger.{Clause, Ledger, known, fits}

-- the ledger of given sizes that has no rule
abbrev pub empty : ℕ → ℕ → Ledger
empty levels statements = record { levels = levels; statements = statements; rules = [] }

-- a ledger with other rules
abbrev pub with_rules : Ledger → List Clause → Ledger
with_rules l rules = record { levels = l.levels; statements = l.statements; rules = rules }

abbrev pub make_refusal : ℕ → ℕ → Option Refusal
make_refusal levels statements =
    first_met
    (cause (nat_lt levels 2) BookSize ∷ cause (nat_lt 64 levels) BookSize ∷ cause (nat_lt 16 statements) BookSize ∷ [])

abbrev pub remade : Ledger → ℕ → ℕ → Ledger
remade l levels statements = left (make_refusal levels statements) (empty levels statements) l

-- why a rule cannot stand in a book of these levels and statements
abbrev pub unlawful : ℕ → ℕ → Clause → List Cause
unlawful levels statements c =
    cause (not (known statements c)) UnknownStatement
    ∷ cause (not (fits levels c)) DegreeTooHigh
    ∷ cause (nat_lt 4 (length c.body)) BodyTooLong
    ∷ []

abbrev pub enter_refusal : Ledger → Clause → Option Refusal
enter_refusal l c = first_met (unlawful l.levels l.statements c ++ cause (nat_le 64 (length l.rules)) BookFull ∷ [])

-- the rule comes last in the list
abbrev pub entered : Ledger → Clause → Ledger
entered l c = left (enter_refusal l c) (with_rules l (l.rules ++ c ∷ [])) l

abbrev pub strike_refusal : Ledger → ℕ → Option Refusal
strike_refusal l i = first_met (cause (nat_le (length l.rules) i) NoSuchRule ∷ [])

-- rule i is gone, and the later rules move down by one
abbrev pub struck : Ledger → ℕ → Ledger
struck l i = left (strike_refusal l i) (with_rules l (remove l.rules i)) l

abbrev pub reweigh_refusal : Ledger → ℕ → ℕ → Option Refusal
reweigh_refusal l i weight =
    first_met
    (cause (nat_le l.levels weight) DegreeTooHigh ∷ cause (nat_le (length l.rules) i) NoSuchRule ∷ [])

abbrev pub with_weight : ℕ → Clause → Clause
with_weight weight c = record { head = c.head; weight = weight; body = c.body }

-- rule i has another weight, and all else is as it was
abbrev pub weight_changed : List Clause → ℕ → ℕ → List Clause
weight_changed [] i weight = []
weight_changed (c ∷ cs) zero weight = with_weight weight c ∷ cs
weight_changed (c ∷ cs) (suc i) weight = c ∷ weight_changed cs i weight

abbrev pub reweighed : Ledger → ℕ → ℕ → Ledger
reweighed l i weight = left (reweigh_refusal l i weight) (with_rules l (weight_changed l.rules i weight)) l
