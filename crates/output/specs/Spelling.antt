-- The lines of output: the bytes of each, and the numbers in it.
use Rattle.std.specs.Prelude.{ℕ, List, [], ◌∷◌, ◌++◌, codes, decimal, flat_map}
use Rattle.output.specs.declared.lines.Line.{Line}
use Rattle.output.specs.declared.lines.Line.TheVariants.{Scene, Count, Refused}

-- each degree after a space
abbrev pub spaced : List ℕ → List ℕ
spaced degrees = flat_map (λ degree. codes " " ++ decimal degree) degrees

abbrev pub spelled : Line → List ℕ
spelled (Scene position rounds degrees) = decimal position ++ codes " " ++ decimal rounds ++ spaced degrees.now ++ codes "\n"
spelled (Count scenes) = codes "scenes " ++ decimal scenes ++ codes "\n"
spelled (Refused number line byte) = codes "refused " ++ decimal number ++ codes " line " ++ decimal line ++ codes " byte " ++ decimal byte ++ codes "\n"

-- the numbers that a line tells, in their order
abbrev pub numbers_of : Line → List ℕ
numbers_of (Scene position rounds degrees) = position ∷ rounds ∷ degrees.now
numbers_of (Count scenes) = scenes ∷ []
numbers_of (Refused number line byte) = number ∷ line ∷ byte ∷ []

abbrev pub degrees_of : Line → List ℕ
degrees_of (Scene position rounds degrees) = degrees.now
degrees_of (Count scenes) = []
degrees_of (Refused number line byte) = []
