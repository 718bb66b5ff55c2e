-- What each line does, step by step.
use Rattle.std.proofs.Common.{◌≡◌, ℕ, false, List, [], ◌∷◌, map, Ok, Err, Option, Result, sym, refl, ap, ◌∙◌, subst}
use Rattle.std.specs.List.{list_all}
use Rattle.std.proofs.lemmas.Bool.{cond-false}
use Rattle.text.specs.Meaning.{State, obeying, row_read, rows_read, after, told, is_space, Did}
use Rattle.text.specs.Parsing.{line_of}
use Rattle.text.specs.Rows.{Row, row}
use Rattle.text.specs.Shapes.{Content}
use Rattle.text.specs.Tokens.{Spell, Tok, said, seen, tokens_of}
use Rattle.text.specs.declared.faults.Place.{Place}
use Rattle.text.specs.declared.faults.LineFault.{LineFault}
use Rattle.text.specs.declared.faults.ReadFault.{ReadFault}
use Rattle.text.specs.declared.faults.ReadFault.TheVariants.{Line, Engine, NoMemory}
use Rattle.text.specs.declared.tokens.Token.{Token}

pub did_same : (should before : Result State ReadFault) (result : Result (Unit {0}) ReadFault) (st : State) → should ≡ before → Did before result st → Did should result st
did_same should before result st e d = subst (λ x. Did x result st) (sym e) d

pub did_line : (should : Result State ReadFault) (e : LineFault) (result : Result (Unit {0}) ReadFault) (st : State) → should ≡ Err (Line e) → result ≡ Err (Line e) → Did should result st
did_line should e result st p q = subst (λ x. Did should x st) (sym q) p

spells : (ts : List Token) → map said ts ≡ map (λ (t : Tok). t.spell) (map seen ts)
spells [] = refl
spells (t ∷ ts) = ap (λ l. said t ∷ l) (spells ts)

-- a line that is not blank is obeyed as it is told
pub row_told : (st : State) (place : Place) (bytes : List ℕ) (ts : List Token) (shape : Option Content) (heard : Result Content LineFault) → list_all is_space bytes ≡ false → map seen ts ≡ tokens_of place.byte bytes → shape ≡ line_of (map said ts) → told bytes (map said ts) shape place ≡ heard → row_read line_of st (row place bytes) ≡ obeying st place heard
row_told st place bytes ts shape heard busy tokens parsed is =
    let same : map said ts ≡ map (λ (t : Tok). t.spell) (tokens_of place.byte bytes) = spells ts ∙ ap (map (λ (t : Tok). t.spell)) tokens in
    cond-false (list_all is_space bytes) _ _ busy ∙ sym (ap (λ l. obeying st place (told bytes l (line_of l) place)) same) ∙ sym (ap (λ o. obeying st place (told bytes (map said ts) o place)) parsed) ∙ ap (obeying st place) is

-- the first of some rows
pub rows_stop : (should : Result State ReadFault) (shape : List Spell → Option Content) (st next : State) (r : Row) (rs : List Row) (result : Result (Unit {0}) ReadFault) (y : ReadFault) (last : Result (Unit {0}) ReadFault) (end : State) → rows_read shape st (r ∷ rs) ≡ should → Did (row_read shape st r) result next → result ≡ Err y → last ≡ Err y → Did should last end
rows_stop should shape st next r rs result y last end e d p q =
    subst (λ x. Did should x end) (sym q) (go y (subst (λ x. Did (row_read shape st r) x next) p d))
  where
    go : (f : ReadFault) → Did (row_read shape st r) (Err f) next → Did should (Err f) end
    go (Line f) h = sym e ∙ ap (λ x. after x (λ s. rows_read shape s rs)) h
    go (Engine f place) h = sym e ∙ ap (λ x. after x (λ s. rows_read shape s rs)) h
    go NoMemory h = tt

pub rows_go : (should : Result State ReadFault) (shape : List Spell → Option Content) (st next : State) (r : Row) (rs : List Row) (result : Result (Unit {0}) ReadFault) (u : Unit {0}) → rows_read shape st (r ∷ rs) ≡ should → Did (row_read shape st r) result next → result ≡ Ok u → rows_read shape next rs ≡ should
rows_go should shape st next r rs result u e d p =
    let went : row_read shape st r ≡ Ok next = subst (λ x. Did (row_read shape st r) x next) p d in
    sym (ap (λ x. after x (λ s. rows_read shape s rs)) went) ∙ e
