-- What one call answers and leaves, from what the book that it names answers and leaves.
use Rattle.std.proofs.Common.{◌≡◌, ℕ, false, List, length, is_ok, Ok, Err, vec_items, Option, Result, Vec, sym, refl, ◌∙◌, subst, ap₂}
use Rattle.std.specs.Vec.{with_items}
use Rattle.std.proofs.lemmas.List.{with_items_is}
use Rattle.std.specs.declared.alloc.Global.{Global}
use Rattle.scale.specs.declared.refusal.Refusal.{Refusal}
use Rattle.scale.specs.Causes.{Answers}
use Rattle.scale.specs.Meaning.{Meaning}
use Rattle.book.specs.Ledger.{Ledger}
use Rattle.book.specs.declared.rows.Rule.{Rule}
use Rattle.solve.specs.Searches.{seek_refusal, Found}
use Rattle.solve.specs.Verdicts as verdicts
use Rattle.solve.specs.declared.judging.Verdict.{Verdict}
use Rattle.engine.specs.Comparisons.{Places, places, compare_refusal, Compared}
use Rattle.engine.specs.Runs.{Unchanged, CheckOutcome, SeekOutcome, CompareOutcome}
use Rattle.engine.specs.declared.answers.Comparison.{Comparison}
use Rattle.engine.specs.declared.calls.Outcome.TheVariants as outcome

abbrev Judged : Meaning → Ledger → List ℕ → Result Verdict Refusal → Type 0
Judged m l setting r =
    Answers (verdicts.check_refusal m l setting) r (verdicts.Checked m l.rules l.statements setting)

pub check_outcome : (m : Meaning) (l : Ledger) (v : Vec ℕ Global) (setting : List ℕ) (r : Result Verdict Refusal) → setting ≡ vec_items v → Judged m l setting r → CheckOutcome m l (vec_items v) (outcome.Checked r v)
check_outcome m l v setting r same answers =
    let Q : List ℕ → Type 0 = λ x. Judged m l x r in
    record {
      answer = r;
      back = v;
      is = refl;
      answers = subst Q same answers;
      same = refl;
    }

unchanged : {A P : Type 0} (r : Result A Refusal) (x y : P) → (is_ok r ≡ false → y ≡ x) → Unchanged r x y
unchanged (Ok v) x y h = tt
unchanged (Err e) x y h = h refl

abbrev Sought : Meaning → Ledger → ℕ → List ℕ → List ℕ → Result (Option (ℕ × ℕ)) Refusal → Type 0
Sought m l start before after r =
    Answers (seek_refusal m l before) r (Found m l.rules l.statements start before after)

pub seek_outcome : (m : Meaning) (l : Ledger) (start : ℕ) (v : Vec ℕ Global) (before after : List ℕ) (r : Result (Option (ℕ × ℕ)) Refusal) → before ≡ vec_items v → length after ≡ v.len → Sought m l start before after r → (is_ok r ≡ false → after ≡ before) → SeekOutcome m l start (vec_items v) (outcome.Sought r (with_items v after))
seek_outcome m l start v before after r same len answers refused =
    let back : vec_items (with_items v after) ≡ after = with_items_is v after len in
    let Q : List ℕ → Type 0 = λ x. Sought m l start x after r in
    let R : List ℕ → Type 0 = λ x. Sought m l start (vec_items v) x r in
    record {
      answer = r;
      back = with_items v after;
      is = refl;
      answers = subst R (sym back) (subst Q same answers);
      refused = unchanged r (vec_items v) (vec_items (with_items v after)) (λ e. back ∙ refused e ∙ same);
    }

abbrev Told : Meaning → Ledger → Ledger → Places → Places → Result Comparison Refusal → Type 0
Told m one two before after r =
    Answers (compare_refusal m one two before.addendum before.setting) r
    (Compared m one.statements one.rules two.rules before after)

pub compare_outcome : (m : Meaning) (one two : Ledger) (v : Vec Rule Global) (u : Vec ℕ Global) (rules rules' : List Rule) (setting setting' : List ℕ) (r : Result Comparison Refusal) → rules ≡ vec_items v → setting ≡ vec_items u → length rules' ≡ v.len → length setting' ≡ u.len → Told m one two (places rules setting) (places rules' setting') r → (is_ok r ≡ false → places rules' setting' ≡ places rules setting) → CompareOutcome m one two (places (vec_items v) (vec_items u)) (outcome.Compared r (with_items v rules') (with_items u setting'))
compare_outcome m one two v u rules rules' setting setting' r same-rules same-setting len-v len-u answers refused =
    let begin : places rules setting ≡ places (vec_items v) (vec_items u) = ap₂ places same-rules same-setting in
    let end : places (vec_items (with_items v rules')) (vec_items (with_items u setting')) ≡ places rules' setting' = ap₂ places (with_items_is v rules' len-v) (with_items_is u setting' len-u) in
    let Q : Places → Type 0 = λ x. Told m one two x (places rules' setting') r in
    let R : Places → Type 0 = λ x. Told m one two (places (vec_items v) (vec_items u)) x r in
    record {
      answer = r;
      addendum = with_items v rules';
      setting = with_items u setting';
      is = refl;
      answers = subst R (sym end) (subst Q begin answers);
      refused = unchanged r (places (vec_items v) (vec_items u)) (places (vec_items (with_items v rules')) (vec_items (with_items u setting'))) (λ e. end ∙ refused e ∙ begin);
    }
