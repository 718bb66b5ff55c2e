-- The number, place and layer of a fault, and what it says.
use Rattle.std.specs.Prelude.{ℕ, List, codes}
use Rattle.scale.specs.Refusals.{number_of as refusal_number, words_of as refusal_words}
use Rattle.text.specs.declared.faults.Place.{Place}
use Rattle.text.specs.declared.faults.TextFault.{TextFault}
use Rattle.text.specs.declared.faults.TextFault.TheVariants.{TooLong, BadByte, LongNumber}
use Rattle.text.specs.declared.faults.LineFault.{LineFault}
use Rattle.text.specs.declared.faults.LineFault.TheVariants.{Text, Shape, Name}
use Rattle.text.specs.declared.faults.ReadFault.{ReadFault}
use Rattle.text.specs.declared.faults.ReadFault.TheVariants.{Line, Engine, NoMemory}
use Rattle.text.specs.declared.faults.Layer.{Layer}
use Rattle.text.specs.declared.faults.Layer.TheVariants.{Text as InText, Line as InLine, Engine as InEngine}

abbrev pub text_number : TextFault → ℕ
text_number (TooLong p) = 1
text_number (BadByte p) = 2
text_number (LongNumber p) = 3

abbrev pub line_number : LineFault → ℕ
line_number (Text e) = text_number e
line_number (Shape p) = 4
line_number (Name p) = 5

abbrev pub number_of : ReadFault → ℕ
number_of (Line e) = line_number e
number_of (Engine e p) = refusal_number e
number_of NoMemory = 0

abbrev pub text_place : TextFault → Place
text_place (TooLong p) = p
text_place (BadByte p) = p
text_place (LongNumber p) = p

abbrev pub line_place : LineFault → Place
line_place (Text e) = text_place e
line_place (Shape p) = p
line_place (Name p) = p

-- want of memory has no place: its line and byte are 0
abbrev pub place_of : ReadFault → Place
place_of (Line e) = line_place e
place_of (Engine e p) = p
place_of NoMemory = record { line = 0; byte = 0 }

abbrev pub line_of : ReadFault → ℕ
line_of e = (place_of e).line

abbrev pub byte_of : ReadFault → ℕ
byte_of e = (place_of e).byte

abbrev pub layer_of : ReadFault → Layer
layer_of (Line (Text e)) = InText
layer_of (Line (Shape p)) = InLine
layer_of (Line (Name p)) = InLine
layer_of (Engine e p) = InEngine
layer_of NoMemory = InEngine

abbrev pub text_words : TextFault → List ℕ
text_words (TooLong p) = codes "a text has at most 8192 bytes"
text_words (BadByte p) = codes "a byte that is not allowed: a text has a to z, 0 to 9, underscore, space, : , > ~ and ends of lines"
text_words (LongNumber p) = codes "a number has at most three digits"

abbrev pub line_words : LineFault → List ℕ
line_words (Text e) = text_words e
line_words (Shape p) = codes "a line of no known form, or out of order: first the scale, then the names, then the rules and bounds"
line_words (Name p) = codes "a name that no line declares, that is declared twice, or that has more than 12 bytes"

abbrev pub words_of : ReadFault → List ℕ
words_of (Line e) = line_words e
words_of (Engine e p) = refusal_words e
words_of NoMemory = codes "there is no memory for the book"
