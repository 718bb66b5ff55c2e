-- The worked books. Statements are a, b and c, or p alone; `rule W N` and `bound C W` go before the literals of a body.
use Rattle.std.specs.Prelude.{ℕ, List, [], ◌∷◌, ◌++◌}
use Rattle.scale.specs.Meaning.{Meaning}
use Rattle.scale.specs.Kinds.{luk, godel, hours}
use Rattle.book.specs.Ledger.{Clause, clause}
use Rattle.book.specs.declared.rule.Head.TheVariants.{Statement, Bound}
use Rattle.book.specs.declared.rule.Literal.{Literal}
use Rattle.book.specs.declared.rule.Literal.TheVariants.{Plain, Lacking}
use Rattle.solve.specs.declared.judging.Verdict.TheVariants.{Scene, Broken, Unsupported}
use Rattle.cases.specs.Claims.{Claim, scenes_at, verdict_on, equivalent_to, not_equivalent_to, Case}

abbrev a : ℕ
a = 0

abbrev b : ℕ
b = 1

abbrev c : ℕ
c = 2

abbrev p : ℕ
p = 0

abbrev rule : ℕ → ℕ → List Literal → Clause
rule weight statement body = clause (Statement statement) weight body

abbrev bound : ℕ → ℕ → List Literal → Clause
bound degree weight body = clause (Bound degree) weight body

abbrev on : Meaning → ℕ → List Clause → List Claim → Case
on scale statements rules claims = record { scale = scale; statements = statements; rules = rules; claims = claims }

-- each as far as the other is lacking
abbrev two_lamps : List Clause
two_lamps = rule 4 a (Lacking b ∷ []) ∷ rule 4 b (Lacking a ∷ []) ∷ []

-- the same, and never both together
abbrev two_lamps_apart : List Clause
two_lamps_apart = two_lamps ++ bound 0 4 (Plain a ∷ Plain b ∷ []) ∷ []

-- each holds the other up
abbrev loop : List Clause
loop = rule 4 a (Plain b ∷ []) ∷ rule 4 b (Plain a ∷ []) ∷ []

abbrev steps : List Clause
steps = rule 3 a (Plain b ∷ []) ∷ rule 3 b (Plain c ∷ []) ∷ []

-- the same, and what both steps together give
abbrev steps_and_both : List Clause
steps_and_both = steps ++ rule 2 a (Plain c ∷ []) ∷ []

abbrev once : List Clause
once = rule 4 a (Plain b ∷ []) ∷ []

abbrev twice : List Clause
twice = rule 4 a (Plain b ∷ Plain b ∷ []) ∷ []

abbrev pub cases : List Case
cases =
    on (luk 4) 2 two_lamps (scenes_at (4 ∷ 8 ∷ 12 ∷ 16 ∷ 20 ∷ []) ∷ [])
    ∷ on (luk 4) 1 (rule 4 p (Lacking p ∷ []) ∷ []) (scenes_at (2 ∷ []) ∷ [])
    ∷ on (luk 3) 1 (rule 3 p (Lacking p ∷ []) ∷ []) (scenes_at [] ∷ [])
    ∷ on (luk 4) 1 (rule 3 p (Lacking p ∷ []) ∷ []) (scenes_at [] ∷ [])
    ∷ on (godel 4) 1 (rule 3 p (Lacking p ∷ []) ∷ []) (scenes_at (2 ∷ []) ∷ [])
    ∷ on (luk 4) 1 (rule 4 a (Plain a ∷ []) ∷ []) (scenes_at (0 ∷ []) ∷ verdict_on (4 ∷ []) (Unsupported a 0) ∷ [])
    ∷ on (luk 4) 2 (rule 4 a (Plain b ∷ []) ∷ rule 4 b [] ∷ []) (scenes_at (24 ∷ []) ∷ verdict_on (4 ∷ 4 ∷ []) (Scene 2) ∷ [])
    ∷ on (luk 4) 2 two_lamps_apart (scenes_at (4 ∷ 8 ∷ 12 ∷ 16 ∷ 20 ∷ []) ∷ [])
    ∷ on (godel 4) 2 two_lamps_apart (scenes_at (4 ∷ 20 ∷ []) ∷ [])
    ∷ on (hours 2) 1 (rule 1 a [] ∷ rule 2 a [] ∷ []) (scenes_at (3 ∷ []) ∷ [])
    ∷ on (luk 4) 2 [] (scenes_at (0 ∷ []) ∷ [])
    ∷ on (luk 4) 2 loop (scenes_at (0 ∷ []) ∷ not_equivalent_to [] ∷ [])
    ∷ on (luk 4) 2 twice (not_equivalent_to once ∷ [])
    ∷ on (godel 4) 2 twice (equivalent_to once ∷ [])
    ∷ on (luk 4) 3 steps_and_both (equivalent_to steps ∷ [])
    ∷ on (luk 4) 2 (rule 3 a (Plain b ∷ []) ∷ []) (verdict_on (1 ∷ 3 ∷ []) (Broken 0 2) ∷ [])
    ∷ []
