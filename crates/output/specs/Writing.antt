-- What writing a line answers and leaves.
use Rattle.std.specs.Prelude.{ℕ, Bool, not, List, [], ◌∷◌, ◌++◌, length, drop, Option, nat_le, nat_lt}
use Rattle.std.specs.List.{list_all}
use Rattle.scale.specs.declared.refusal.Refusal.{Refusal}
use Rattle.scale.specs.declared.refusal.Refusal.TheVariants.{DegreeTooHigh, PlaceLength}
use Rattle.scale.specs.Causes.{cause, first_met, left}
use Rattle.output.specs.declared.lines.Line.{Line}
use Rattle.output.specs.Spelling.{spelled, degrees_of}

-- is every degree at most 63?
abbrev pub all_degrees : List ℕ → Bool
all_degrees degrees = list_all (λ degree. nat_le degree 63) degrees

abbrev pub refusal_of : Line → List ℕ → Option Refusal
refusal_of line place =
    first_met
    (cause (not (all_degrees (degrees_of line))) DegreeTooHigh
    ∷ cause (nat_lt 16 (length (degrees_of line))) PlaceLength
    ∷ cause (nat_lt (length place) 96) PlaceLength
    ∷ [])

-- the line stands at the front, and the rest is as it was
abbrev pub written : Line → List ℕ → List ℕ
written line place = left (refusal_of line place) (spelled line ++ drop (length (spelled line)) place) place
