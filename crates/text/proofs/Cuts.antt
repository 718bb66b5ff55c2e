-- One turn of the cut of a line into tokens.
use Rattle.std.proofs.Common.{◌≡◌, ℕ, zero, suc, ◌+◌, ◌<◌, true, false, List, [], ◌∷◌, ◌++◌, length, get_or, take, drop, Some, None, Option, max, sym, refl, ap, ap₂, ◌∙◌, ⊎_elim, append_assoc, arith}
use Rattle.std.specs.List.{prefix_len}
use Rattle.std.proofs.lemmas.List.{at_drop_more}
use Rattle.std.proofs.lemmas.List.Sums.{prefix_len-drop_yes, prefix_len-drop_no}
use Rattle.std.proofs.lemmas.Bool.{cond-true, cond-false, cases_Bool}
use Rattle.text.specs.Bytes.{wordly, sign_of}
use Rattle.text.specs.Tokens.{Tok, token, mark, Piece, run, run_spell, grown, stopped, pieces, tokens_in, tokens_of}
use Rattle.text.specs.declared.tokens.Mark.{Mark}

grown_stopped : (i b j : ℕ) (o : Option Mark) (ps : List Piece) → grown i b (stopped j o ps) ≡ run (b ∷ []) i ∷ stopped j o ps
grown_stopped i b j None ps = refl
grown_stopped i b j (Some m) ps = refl

-- a word byte that no word byte follows is a run of its own
grown_alone : (i b j : ℕ) (bs : List ℕ) → prefix_len wordly bs ≡ 0 → grown i b (pieces j bs) ≡ run (b ∷ []) i ∷ pieces j bs
grown_alone i b j [] e = refl
grown_alone i b j (c ∷ cs) e =
    ⊎_elim
    (λ t. absurd (omega (arith, sym (cond-true (wordly c) (1 + prefix_len wordly cs) 0 t) ∙ e)))
    (λ f.
    let is : pieces j (c ∷ cs) ≡ stopped j (sign_of c) (pieces (suc j) cs) = cond-false (wordly c) _ _ f in
    ap (grown i b) is ∙ grown_stopped i b j (sign_of c) (pieces (suc j) cs) ∙ ap (λ l. run (b ∷ []) i ∷ l) (sym is))
    (cases_Bool (wordly c))

-- the longest run at the front is one piece
run_first : (i : ℕ) (bs : List ℕ) (k : ℕ) → suc k ≡ prefix_len wordly bs → pieces i bs ≡ run (take (suc k) bs) i ∷ pieces (i + suc k) (drop (suc k) bs)
run_first i [] k e = absurd (omega arith)
run_first i (b ∷ bs) zero e =
    ⊎_elim
    (λ t.
    let none : prefix_len wordly bs ≡ 0 = omega (arith, e ∙ cond-true (wordly b) (1 + prefix_len wordly bs) 0 t) in
    let is : pieces i (b ∷ bs) ≡ grown i b (pieces (suc i) bs) = cond-true (wordly b) _ _ t in
    let at : suc i ≡ i + suc zero = omega arith in
    is ∙ grown_alone i b (suc i) bs none ∙ ap (λ n. run (b ∷ []) i ∷ pieces n bs) at)
    (λ f. absurd (omega (arith, e ∙ cond-false (wordly b) (1 + prefix_len wordly bs) 0 f)))
    (cases_Bool (wordly b))
run_first i (b ∷ bs) (suc k) e =
    ⊎_elim
    (λ t.
    let more : suc k ≡ prefix_len wordly bs = omega (arith, e ∙ cond-true (wordly b) (1 + prefix_len wordly bs) 0 t) in
    let is : pieces i (b ∷ bs) ≡ grown i b (pieces (suc i) bs) = cond-true (wordly b) _ _ t in
    let at : suc i + suc k ≡ i + suc (suc k) = omega arith in
    is ∙ ap (grown i b) (run_first (suc i) bs k more) ∙ ap (λ n. run (b ∷ take (suc k) bs) i ∷ pieces n (drop (suc k) bs)) at)
    (λ f. absurd (omega (arith, e ∙ cond-false (wordly b) (1 + prefix_len wordly bs) 0 f)))
    (cases_Bool (wordly b))

run_there : (i : ℕ) (bs : List ℕ) (k : ℕ) → 0 < k → k ≡ prefix_len wordly bs → pieces i bs ≡ run (take k bs) i ∷ pieces (i + k) (drop k bs)
run_there i bs zero h e = absurd (omega arith)
run_there i bs (suc k) h e = run_first i bs k e

-- the piece at the front takes k bytes: a run of word bytes, or one other byte
module _ (i : ℕ) (bs : List ℕ) (k : ℕ) (inside : 0 < length bs) (piece : k ≡ max (prefix_len wordly bs) 1) (done all : List Tok) (inv : done ++ tokens_of i bs ≡ all) where
  pub word_more : wordly (get_or bs 0 0) ≡ true → (done ++ token (run_spell (take k bs)) i ∷ []) ++ tokens_of (i + k) (drop k bs) ≡ all
  word_more w =
      let some : 0 < prefix_len wordly bs = omega (arith, prefix_len-drop_yes wordly bs 0 0 inside w) in
      append_assoc done (token (run_spell (take k bs)) i ∷ []) (tokens_of (i + k) (drop k bs)) ∙ sym (ap (λ ps. done ++ tokens_in ps) (run_there i bs k (omega (arith, piece)) (omega (arith, piece, some)))) ∙ inv

  module _ (w : wordly (get_or bs 0 0) ≡ false) where
    between : (o : Option Mark) → sign_of (get_or bs 0 0) ≡ o → tokens_of i bs ≡ tokens_in (stopped i o (pieces (i + k) (drop k bs)))
    between o e =
        let one : k ≡ 1 = omega (arith, piece, prefix_len-drop_no wordly bs 0 0 inside w) in
        let next : suc i ≡ i + k = omega (arith, one) in
        ap tokens_in (at_drop_more (pieces i) bs 0 0 inside ∙ cond-false (wordly (get_or bs 0 0)) _ _ w) ∙ ap (λ x. tokens_in (stopped i x (pieces (suc i) (drop 1 bs)))) e ∙ ap₂ (λ n l. tokens_in (stopped i o (pieces n l))) next (sym (ap (λ n. drop n bs) one))

    pub mark_more : (m : Mark) → sign_of (get_or bs 0 0) ≡ Some m → (done ++ token (mark m) i ∷ []) ++ tokens_of (i + k) (drop k bs) ≡ all
    mark_more m e =
        append_assoc done (token (mark m) i ∷ []) (tokens_of (i + k) (drop k bs)) ∙ sym (ap (λ l. done ++ l) (between (Some m) e)) ∙ inv

    pub gap_more : sign_of (get_or bs 0 0) ≡ None → done ++ tokens_of (i + k) (drop k bs) ≡ all
    gap_more e = sym (ap (λ l. done ++ l) (between None e)) ∙ inv
