use Rattle.std.proofs.Common.{◌≡◌, ◌+◌, ◌*◌, ◌≤◌, ◌++◌, take}
use Rattle.arrayvec.specs.ArrayString.{array_string_len}
use Rattle.output.specs.Spelling.{spaced}
use Rattle.output.proofs.texts.push_degrees.Given as goal

abbrev pub invariant-loop-degree : goal.invariant-loop-degree
invariant-loop-degree l =
    (l.text.bytes ≡ l.initial.text.bytes ++ spaced (take l.degree-index l.degrees))
    × (array_string_len l.text ≤ array_string_len l.initial.text + 4 * l.degree-index)
