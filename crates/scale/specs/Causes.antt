-- How a call is refused: the causes that it tests, in order, and the first that is met decides.
use Rattle.std.specs.Prelude.{◌≡◌, Bool, cond, List, [], ◌∷◌, Some, None, Ok, Err, Option, Result}
use Rattle.scale.specs.declared.refusal.Refusal.{Refusal}

-- a cause of refusal, and whether the arguments meet it
pub record Cause : Type 0 where
  pub met : Bool
  pub refusal : Refusal

abbrev pub cause : Bool → Refusal → Cause
cause met refusal = record { met = met; refusal = refusal }

abbrev pub first_met : List Cause → Option Refusal
first_met [] = None
first_met (c ∷ cs) = cond c.met (Some c.refusal) (first_met cs)

-- what a call answers: its refusal, or what it grants
abbrev pub answered : {A : Type 0} → Option Refusal → A → Result A Refusal
answered None granted = Ok granted
answered (Some e) granted = Err e

-- what a call leaves: a refusal leaves what there was
abbrev pub left : {A : Type 0} → Option Refusal → A → A → A
left None changed before = changed
left (Some e) changed before = before

-- a call is refused by its first cause, or it grants an answer of which P holds
abbrev pub Answers : {A : Type 0} → Option Refusal → Result A Refusal → (A → Type 0) → Type 0
Answers (Some e) r P = r ≡ Err e
Answers None (Ok x) P = P x
Answers None (Err e) P = ⊥
