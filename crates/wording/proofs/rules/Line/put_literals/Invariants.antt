use Rattle.std.proofs.Common.{◌≡◌, ◌++◌, drop, codes}
use Rattle.wording.specs.Wording.{names_of, literals_text}
use Rattle.wording.proofs.rules.Line.put_literals.Given as goal

-- the line so far and the literals still to come make the whole
abbrev pub invariant-loop-literal : goal.invariant-loop-literal
invariant-loop-literal l = record {
  names : names_of l.self ≡ names_of l.initial.self;
  text : l.self.text.items ++ literals_text (names_of l.self) l.lead (drop l.literal-index l.literals) ≡ l.initial.self.text.items ++ literals_text (names_of l.initial.self) (codes " : ") l.literals;
}
