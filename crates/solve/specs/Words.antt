-- How a verdict reads: a word, and then its numbers.
use Rattle.std.specs.Prelude.{ℕ, List, ◌∷◌, ◌++◌, codes, decimal}
use Rattle.solve.specs.declared.judging.Verdict.{Verdict}
use Rattle.solve.specs.declared.judging.Verdict.TheVariants.{Scene, Broken, Unsupported}

-- two numbers with a space between them
abbrev pub two_numbers : ℕ → ℕ → List ℕ
two_numbers a b = decimal a ++ 32 ∷ decimal b

abbrev pub words_of : Verdict → List ℕ
words_of (Scene rounds) = codes "scene " ++ decimal rounds
words_of (Broken rule residuum) = codes "broken " ++ two_numbers rule residuum
words_of (Unsupported statement degree) = codes "unsupported " ++ two_numbers statement degree
