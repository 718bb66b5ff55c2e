-- What a whole text means, from what its length, its lines and its end give.
use Rattle.std.proofs.Common.{◌≡◌, ℕ, ◌≤◌, ltb, List, length, Some, None, Ok, Err, Result, sym, ap, ◌∙◌, subst, ⊎_elim, arith}
use Rattle.std.proofs.lemmas.Bool.{cond-true, cases_Bool, ltb-false}
use Rattle.book.specs.Ledger.{Ledger}
use Rattle.text.specs.Meaning.{State, start, rows_read, after, finished, fitting, in_text, Grant, Means, Did, Reads, Once, outcome}
use Rattle.text.specs.Parsing.{line_of}
use Rattle.text.specs.Rows.{lines_of, place_at}
use Rattle.text.specs.Tokens.{Spell}
use Rattle.text.specs.declared.drafts.ScaleSize.{ScaleSize}
use Rattle.text.specs.declared.faults.TextFault.{TextFault}
use Rattle.text.specs.declared.faults.LineFault.TheVariants.{Text, Shape}
use Rattle.text.specs.declared.faults.ReadFault.{ReadFault}
use Rattle.text.specs.declared.faults.ReadFault.TheVariants.{Line, Engine, NoMemory}
use Rattle.text.specs.declared.reading.Reading.{Reading}
use Rattle.text.proofs.Spelling.{line_shaped, shaped_once}

ok_err : {A E : Type 0} {a : A} {e : E} → ◌≡◌ {A = Result A E} (Ok a) (Err e) → ⊥
ok_err p = let z : ◌≡◌ {A = ℕ} 0 1 = cc in omega arith

meant : (text : List ℕ) (result : Result Grant ReadFault) → outcome line_of text ≡ result → Means text result
meant text result e = record { shape = line_of; shaped = line_shaped; is = e }

pub fit : (text : List ℕ) (u : Unit {0}) → Ok u ≡ fitting text → length text ≤ 8192
fit text u e =
    ⊎_elim (λ t. absurd (ok_err (e ∙ cond-true (ltb 8192 (length text)) _ _ t))) (λ f. ltb-false 8192 (length text) f) (cases_Bool (ltb 8192 (length text)))

module _ (text : List ℕ) (before left : Ledger) (same : left ≡ before) where
  pub reads_long : (e : TextFault) (result : Result Reading ReadFault) → Err e ≡ fitting text → result ≡ Err (Line (Text e)) → Reads text before result left
  reads_long e result p q =
      subst (λ x. Reads text before x left) (sym q) (meant text (Err (Line (Text e))) (sym (ap (λ f. in_text f (after (rows_read line_of start (lines_of text)) (λ st. finished text st.scale st))) p)), same)

  pub reads_unread : (result : Result Reading ReadFault) → result ≡ Err NoMemory → Reads text before result left
  reads_unread result q = subst (λ x. Reads text before x left) (sym q) same

  module _ (u : Unit {0}) (fits : Ok u ≡ fitting text) where
    short : outcome line_of text ≡ after (rows_read line_of start (lines_of text)) (λ st. finished text st.scale st)
    short = sym (ap (λ f. in_text f (after (rows_read line_of start (lines_of text)) (λ st. finished text st.scale st))) fits)

    stopped : (y : ReadFault) (st : State) → Did (rows_read line_of start (lines_of text)) (Err y) st → Reads text before (Err y) left
    stopped (Line e) st d = (meant text (Err (Line e)) (short ∙ ap (λ r. after r (λ s. finished text s.scale s)) d), same)
    stopped (Engine e place) st d = (meant text (Err (Engine e place)) (short ∙ ap (λ r. after r (λ s. finished text s.scale s)) d), same)
    stopped NoMemory st d = same

    pub reads_stopped : (y : ReadFault) (st : State) (result : Result Reading ReadFault) → Did (rows_read line_of start (lines_of text)) (Err y) st → result ≡ Err y → Reads text before result left
    reads_stopped y st result d q = subst (λ x. Reads text before x left) (sym q) (stopped y st d)

module _ (text : List ℕ) (u : Unit {0}) (fits : Ok u ≡ fitting text) (st : State) (ran : rows_read line_of start (lines_of text) ≡ Ok st) where
  ended : outcome line_of text ≡ finished text st.scale st
  ended =
      sym (ap (λ f. in_text f (after (rows_read line_of start (lines_of text)) (λ s. finished text s.scale s))) fits) ∙ ap (λ r. after r (λ s. finished text s.scale s)) ran

  pub means_none : st.scale ≡ None → Means text (Err (Line (Shape (place_at text (length text)))))
  means_none e = meant text _ (ended ∙ ap (λ o. finished text o st) e)

  pub means_some : (s : ScaleSize) → st.scale ≡ Some s → Means text (Ok (record { reading = record { kind = s.kind; size = s.size; statements = length st.names }; ledger = st.ledger }))
  means_some s e = meant text _ (ended ∙ ap (λ o. finished text o st) e)

-- a text means one thing
pub means_once : (text : List ℕ) → Once text
means_once text r q m n =
    let one : (ts : List Spell) → m.shape ts ≡ line_of ts = λ ts. shaped_once ts (m.shape ts) (m.shaped ts) in
    let two : (ts : List Spell) → n.shape ts ≡ line_of ts = λ ts. shaped_once ts (n.shape ts) (n.shaped ts) in
    sym m.is ∙ (λ i. outcome (λ ts. one ts i) text) ∙ sym (λ i. outcome (λ ts. two ts i) text) ∙ n.is
