-- The names that a text declares: those of the state in which its lines leave the reader, and no others.
use Rattle.std.proofs.Common.{◌≡◌, ℕ, List, Ok, Err, Result, IfOk, sym, ap, ◌∙◌, subst}
use Rattle.text.specs.Meaning.{State, start, after, rows_read}
use Rattle.text.specs.Naming.{names_by, Declares, DeclaresOnce}
use Rattle.text.specs.Parsing.{line_of}
use Rattle.text.specs.Rows.{lines_of}
use Rattle.text.specs.Tokens.{Spell}
use Rattle.text.specs.declared.faults.ReadFault.{ReadFault}
use Rattle.text.specs.declared.reading.Named.{Named}
use Rattle.text.proofs.Spelling.{line_shaped, shaped_once}

pub declares : (text : List ℕ) (st : State) → rows_read line_of start (lines_of text) ≡ Ok st → Declares text st.names
declares text st ran = record { shape = line_of; shaped = line_shaped; is = ap (λ r. after r (λ s. Ok s.names)) ran }

-- a refusal names nothing
pub none_named : (P : Named → Type 0) (result : Result Named ReadFault) (e : ReadFault) → result ≡ Err e → IfOk result P
none_named P result e q = subst (λ r. IfOk r P) (sym q) tt

pub declares_once : (text : List ℕ) → DeclaresOnce text
declares_once text xs ys m n =
    let one : (ts : List Spell) → m.shape ts ≡ line_of ts = λ ts. shaped_once ts (m.shape ts) (m.shaped ts) in
    let two : (ts : List Spell) → n.shape ts ≡ line_of ts = λ ts. shaped_once ts (n.shape ts) (n.shaped ts) in
    let same : ◌≡◌ {A = Result (List (List ℕ)) ReadFault} (Ok xs) (Ok ys) = sym m.is ∙ (λ i. names_by (λ ts. one ts i) text) ∙ sym (λ i. names_by (λ ts. two ts i) text) ∙ n.is in
    cc
