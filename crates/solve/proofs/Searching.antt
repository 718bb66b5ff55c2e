-- A search that has passed one position more, and what its end says.
use Rattle.std.proofs.Common.{◌≡◌, ℕ, ◌+◌, List, Option, sym, ◌∙◌, subst, ⊎_elim, arith}
use Rattle.std.proofs.lemmas.Bool.{cases_lt}
use Rattle.scale.specs.Meaning.{Meaning, Laws}
use Rattle.book.specs.Ledger.{Clause, Lawful}
use Rattle.theory.specs.Position.{position}
use Rattle.theory.specs.Semantics.{AllByRecursion, Setting, Scene}
use Rattle.theory.proofs.Positions.{position_apart}
use Rattle.theory.proofs.Theorems.{scenes_are_answer_sets}
use Rattle.solve.specs.Searches.{NoSceneBetween, Sought, Found}
use Rattle.solve.proofs.Determined.{sought_once}

pub passed_one : (m : Meaning) (cs : List Clause) (n start p : ℕ) (row : List ℕ) → Setting m n row → position m.levels row ≡ p → (Scene m cs n row → ⊥) → NoSceneBetween m cs n start p → NoSceneBetween m cs n start (p + 1)
passed_one m cs n start p row setting here none before other there from until scene =
    ⊎_elim (λ earlier. before other there from earlier scene)
    (λ not-Earlier.
    let level : position m.levels other ≡ position m.levels row = omega (arith, here) in
    let same = position_apart m.levels other row (there.long ∙ sym setting.long) there.degrees setting.degrees level in
    none (subst (λ (r : List ℕ). Scene m cs n r) same scene))
    (cases_lt (position m.levels other) p)

module _ {m : Meaning} (laws : Laws m) (n : ℕ) (cs : List Clause) (lawful : AllByRecursion (Lawful m.levels n) cs) (start : ℕ) (before : List ℕ) where
  pub finds : {after : List ℕ} (found : Option (ℕ × ℕ)) → Sought m cs n start before after found → Found m cs n start before after found
  finds found sought = record {
    sought = sought;
    only = λ row other s. sought_once m n cs start before other found s sought;
    answer_sets = scenes_are_answer_sets m laws n cs lawful;
  }
