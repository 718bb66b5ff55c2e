use Rattle.std.proofs.Common.{◌≡◌, ◌+◌, ◌≤◌, length, drop}
use Rattle.std.specs.List.{slice_split}
use Rattle.text.specs.Drafting.{state_of}
use Rattle.text.specs.Meaning.{rows_read}
use Rattle.text.specs.Parsing.{line_of}
use Rattle.text.specs.Rows.{ends_line, rows, lines_of}
use Rattle.text.proofs.Lines.{span}
use Rattle.text.proofs.reading.read_lines.Given as goal

-- the lines that are left, read from here, do what all lines should
abbrev pub invariant-loop-line : goal.invariant-loop-line
invariant-loop-line l = (l.place.line ≤ l.place.byte + 1) × (l.place.byte + span (drop (length l.yielded) (slice_split ends_line l.text)) ≡ length l.text + 1) × (rows_read line_of (state_of l.draft) (rows l.place.line l.place.byte (drop (length l.yielded) (slice_split ends_line l.text))) ≡ rows_read line_of (state_of l.initial.draft) (lines_of l.text))
