-- The number of each refusal, and what it says.
use Rattle.std.specs.Prelude.{ℕ, List, codes}
use Rattle.scale.specs.declared.refusal.Refusal.{Refusal}
use Rattle.scale.specs.declared.refusal.Refusal.TheVariants.{ScaleSize, BookSize, UnknownStatement, DegreeTooHigh, BodyTooLong, BookFull, NoSuchRule, LevelsDiffer, StatementsDiffer, PlaceLength, TooManySettings}

abbrev pub number_of : Refusal → ℕ
number_of ScaleSize = 6
number_of BookSize = 7
number_of UnknownStatement = 8
number_of DegreeTooHigh = 9
number_of BodyTooLong = 10
number_of BookFull = 11
number_of NoSuchRule = 12
number_of LevelsDiffer = 13
number_of StatementsDiffer = 14
number_of PlaceLength = 15
number_of TooManySettings = 16

abbrev pub words_of : Refusal → List ℕ
words_of ScaleSize = codes "the size of the scale is out of range: 1 to 63 for luk and godel, 1 to 6 for hours"
words_of BookSize = codes "a book has at most 16 statements"
words_of UnknownStatement = codes "a rule speaks of a statement that the book does not have"
words_of DegreeTooHigh = codes "a degree is not below the number of levels of the scale"
words_of BodyTooLong = codes "a body has more than four literals"
words_of BookFull = codes "a book has at most 64 rules"
words_of NoSuchRule = codes "the book has no rule of that number"
words_of LevelsDiffer = codes "the scale and a book do not have the same number of levels"
words_of StatementsDiffer = codes "the two books do not have the same number of statements"
words_of PlaceLength = codes "a setting has exactly one degree for each statement of the book"
words_of TooManySettings = codes "levels to the power of statements is too large: at most 65536 for scenes, 4096 for compare"
