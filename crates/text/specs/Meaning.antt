-- What a text means: its lines are obeyed one after another, and the first that is faulty decides.
use Rattle.std.specs.Prelude.{◌≡◌, ℕ, ◌+◌, Bool, cond, not, ◌&&◌, ◌||◌, List, [], ◌∷◌, ◌++◌, map, length, is_some, Some, None, Ok, Err, Option, Result, ok_or, ◌==◌, nat_lt}
use Rattle.scale.specs.declared.refusal.Refusal.{Refusal}
use Rattle.std.specs.List.{list_all}
use Rattle.book.specs.Ledger.{Clause, Ledger}
use Rattle.book.specs.Calls.{empty, make_refusal, enter_refusal, entered}
use Rattle.text.specs.Bytes.{allowed}
use Rattle.text.specs.Entries.{index_of, rule_of}
use Rattle.text.specs.Numerals.{capped}
use Rattle.text.specs.Rows.{Row, lines_of, place_at}
use Rattle.text.specs.Shapes.{Content, scale, name, rule, Shaped}
use Rattle.text.specs.Sizes.{levels_of, size_refusal}
use Rattle.text.specs.Tokens.{Spell, short, tokens_of}
use Rattle.text.specs.declared.drafts.ScaleSize.{ScaleSize}
use Rattle.text.specs.declared.faults.Place.{Place}
use Rattle.text.specs.declared.faults.TextFault.{TextFault}
use Rattle.text.specs.declared.faults.TextFault.TheVariants.{TooLong, BadByte, LongNumber}
use Rattle.text.specs.declared.faults.LineFault.{LineFault}
use Rattle.text.specs.declared.faults.LineFault.TheVariants.{Text, Shape, Name}
use Rattle.text.specs.declared.faults.ReadFault.{ReadFault}
use Rattle.text.specs.declared.faults.ReadFault.TheVariants.{Line, Engine, NoMemory}
use Rattle.text.specs.declared.reading.Reading.{Reading}
use Rattle.text.specs.declared.sizes.ScaleKind.{ScaleKind}

abbrev pub is_space : ℕ → Bool
is_space b = b == 32

-- the bytes of a line are tested before its numbers
abbrev pub unlettered : List ℕ → List Spell → Place → Result (Unit {0}) TextFault
unlettered bytes tokens place =
    cond (list_all allowed bytes) (cond (list_all short tokens) (Ok tt) (Err (LongNumber place))) (Err (BadByte place))

abbrev pub in_line : {A B : Type 0} → Result A TextFault → Result B LineFault → Result B LineFault
in_line (Ok a) r = r
in_line (Err e) r = Err (Text e)

-- what a line says, or its text fault, or that it has no shape
abbrev pub told : List ℕ → List Spell → Option Content → Place → Result Content LineFault
told bytes tokens shape place = in_line (unlettered bytes tokens place) (ok_or shape (Shape place))

-- what has been read so far: the scale, the names in their order, and the book's ledger
pub record State : Type 0 where
  pub scale : Option ScaleSize
  pub names : List (List ℕ)
  pub ledger : Ledger

abbrev pub state : Option ScaleSize → List (List ℕ) → Ledger → State
state size names ledger = record { scale = size; names = names; ledger = ledger }

abbrev pub start : State
start = state None [] (empty 2 0)

-- a cause of refusal that comes before the others
abbrev pub unless : {A : Type 0} → Bool → ReadFault → Result A ReadFault → Result A ReadFault
unless met fault later = cond met (Err fault) later

-- the refusal of an engine's call comes before what follows
abbrev pub granted : {A : Type 0} → Option Refusal → Place → Result A ReadFault → Result A ReadFault
granted None place later = later
granted (Some e) place later = Err (Engine e place)

-- a scale line comes first, and once
abbrev pub scaled : State → Place → ScaleKind → ℕ → Result State ReadFault
scaled st place kind size =
    unless (is_some st.scale) (Line (Shape place)) (granted (size_refusal kind size) place (granted (make_refusal (levels_of kind size) 0) place (Ok (state (Some (record { kind = kind; size = size })) st.names (empty (levels_of kind size) 0)))))

-- there is a scale, and no rule yet
abbrev pub may_declare : State → Bool
may_declare st = is_some st.scale && length st.ledger.rules == 0

-- a name line comes after the scale and before every rule; its name is short and new
abbrev pub declared : State → Place → List ℕ → Result State ReadFault
declared st place n =
    unless (not (may_declare st)) (Line (Shape place)) (unless (nat_lt 12 (length n) || is_some (index_of st.names n)) (Line (Name place)) (granted (make_refusal st.ledger.levels (length st.names + 1)) place (Ok (state st.scale (st.names ++ n ∷ []) (empty st.ledger.levels (length st.names + 1))))))

abbrev pub entering : State → Place → Option Clause → Result State ReadFault
entering st place None = Err (Line (Name place))
entering st place (Some c) = granted (enter_refusal st.ledger c) place (Ok (state st.scale st.names (entered st.ledger c)))

-- a rule comes after the scale; its names are known
abbrev pub ruled : State → Place → Option Clause → Result State ReadFault
ruled st place found = unless (not (is_some st.scale)) (Line (Shape place)) (entering st place found)

-- what a line does
abbrev pub obeyed : State → Place → Content → Result State ReadFault
obeyed st place (scale kind digits) = scaled st place kind (capped digits)
obeyed st place (name n) = declared st place n
obeyed st place (rule front weight body) = ruled st place (rule_of st.names front weight body)

abbrev pub obeying : State → Place → Result Content LineFault → Result State ReadFault
obeying st place (Ok l) = obeyed st place l
obeying st place (Err e) = Err (Line e)

-- one line, with the shape of each list of tokens; a line of spaces only is skipped
abbrev pub row_read : (List Spell → Option Content) → State → Row → Result State ReadFault
row_read shape st r =
    cond (list_all is_space r.bytes) (Ok st) (obeying st r.place (told r.bytes (map (λ t. t.spell) (tokens_of r.place.byte r.bytes)) (shape (map (λ t. t.spell) (tokens_of r.place.byte r.bytes))) r.place))

abbrev pub after : {A B E : Type 0} → Result A E → (A → Result B E) → Result B E
after (Ok a) f = f a
after (Err e) f = Err e

abbrev pub rows_read : (List Spell → Option Content) → State → List Row → Result State ReadFault
rows_read shape st [] = Ok st
rows_read shape st (r ∷ rs) = after (row_read shape st r) (λ s. rows_read shape s rs)

-- what is read, and the ledger that it leaves
pub record Grant : Type 0 where
  pub reading : Reading
  pub ledger : Ledger

-- a text that has no scale line has no other line either: the fault is at its end
abbrev pub finished : List ℕ → Option ScaleSize → State → Result Grant ReadFault
finished text None st = Err (Line (Shape (place_at text (length text))))
finished text (Some s) st = Ok (record { reading = record { kind = s.kind; size = s.size; statements = length st.names }; ledger = st.ledger })

-- a text may have 8,192 bytes
abbrev pub fitting : List ℕ → Result (Unit {0}) TextFault
fitting text = cond (nat_lt 8192 (length text)) (Err (TooLong (place_at text 8192))) (Ok tt)

abbrev pub in_text : {A B : Type 0} → Result A TextFault → Result B ReadFault → Result B ReadFault
in_text (Ok a) r = r
in_text (Err e) r = Err (Line (Text e))

abbrev pub outcome : (List Spell → Option Content) → List ℕ → Result Grant ReadFault
outcome shape text =
    in_text (fitting text) (after (rows_read shape start (lines_of text)) (λ st. finished text st.scale st))

-- what a text means, by any account of which tokens have which shape
pub record Means (text : List ℕ) (result : Result Grant ReadFault) : Type 0 where
  pub shape : List Spell → Option Content
  pub shaped : (ts : List Spell) → Shaped ts (shape ts)
  pub is : outcome shape text ≡ result

-- a text means one thing
abbrev pub Once : List ℕ → Type 0
Once text = (r q : Result Grant ReadFault) → Means text r → Means text q → r ≡ q

-- what a step of the reader did: what it should, unless it wanted memory
abbrev pub Did : Result State ReadFault → Result (Unit {0}) ReadFault → State → Type 0
Did should (Ok u) st = should ≡ Ok st
Did should (Err (Line e)) st = should ≡ Err (Line e)
Did should (Err (Engine e p)) st = should ≡ Err (Engine e p)
Did should (Err NoMemory) st = Unit {0}

-- what reading answers, and the ledger that it leaves: where it refuses or wants memory, the ledger is as it was
abbrev pub Reads : List ℕ → Ledger → Result Reading ReadFault → Ledger → Type 0
Reads text before (Ok r) left = Means text (Ok (record { reading = r; ledger = left }))
Reads text before (Err (Line e)) left = Means text (Err (Line e)) × (left ≡ before)
Reads text before (Err (Engine e p)) left = Means text (Err (Engine e p)) × (left ≡ before)
Reads text before (Err NoMemory) left = left ≡ before
