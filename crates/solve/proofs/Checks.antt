-- What the verdict on a setting says of the answer sets.
use Rattle.std.proofs.Common.{◌≡◌, ℕ, ◌*◌, ◌≤◌, true, List, ap, subst}
use Rattle.std.proofs.lemmas.Bool.{false≢true}
use Rattle.scale.specs.Meaning.{Meaning, Laws}
use Rattle.book.specs.Ledger.{Clause, Lawful}
use Rattle.theory.specs.AnswerSet.{AnswerSet}
use Rattle.theory.specs.Semantics.{AllByRecursion, Setting}
use Rattle.theory.proofs.Raising.{rounds_most}
use Rattle.theory.proofs.Ranges.{all_within}
use Rattle.theory.proofs.Reducts.{scene_answers, answers_scene}
use Rattle.solve.specs.Verdicts.{Judged, Checked, is_scene}
use Rattle.solve.specs.declared.judging.Verdict.{Verdict}
use Rattle.solve.specs.declared.judging.Verdict.TheVariants.{Scene, Broken, Unsupported}
use Rattle.solve.proofs.Determined.{judged_once}

module _ {m : Meaning} (laws : Laws m) (n : ℕ) (cs : List Clause) (lawful : AllByRecursion (Lawful m.levels n) cs) (row : List ℕ) (setting : Setting m n row) where
  answers : (v : Verdict) → Judged m cs n row v → is_scene v ≡ true → AnswerSet m n cs row
  answers (Scene r) judged e = scene_answers laws n cs (all_within m.levels n cs lawful) row setting (r, judged)
  answers (Broken i d) judged e = absurd (false≢true e)
  answers (Unsupported s d) judged e = absurd (false≢true e)

  answered : (v : Verdict) → Judged m cs n row v → AnswerSet m n cs row → is_scene v ≡ true
  answered v judged set =
      let scene = answers_scene laws n cs (all_within m.levels n cs lawful) row setting set in
      ap is_scene (judged_once laws n cs lawful setting v (Scene scene.0) judged scene.1)

  brief : (v : Verdict) → Judged m cs n row v → (r : ℕ) → v ≡ Scene r → r ≤ n * m.height
  brief v judged r e =
      let scene = subst (Judged m cs n row) e judged in
      rounds_most laws n cs (all_within m.levels n cs lawful) row setting.degrees r scene.rounds

  pub checked : (v : Verdict) → Judged m cs n row v → Checked m cs n row v
  checked v judged = record {
    judged = judged;
    only = λ w other. judged_once laws n cs lawful setting w v other judged;
    answer_set = (answers v judged, answered v judged);
    brief = brief v judged;
  }
