-- Raising under every setting of a lawful list of rules.
use Rattle.std.proofs.Common.{◌≡◌, ℕ, ◌*◌, ◌≤◌, List, sym, subst}
use Rattle.scale.specs.Meaning.{Meaning, Laws}
use Rattle.book.specs.Ledger.{Clause, Lawful}
use Rattle.theory.specs.Semantics.{AllByRecursion}
use Rattle.theory.proofs.Theorems.{raising_ascends, raising_stands_still, least_model_stands, scenes_are_answer_sets}
use Rattle.solve.specs.Raisings.{Raisings}

pub raisings : {m : Meaning} (laws : Laws m) (n : ℕ) (cs : List Clause) → AllByRecursion (Lawful m.levels n) cs → (most : ℕ) → most ≡ n * m.height → Raisings m cs n most
raisings {m} laws n cs lawful most limit = record {
  limit = limit;
  every = λ upper setting.
      let found = raising_stands_still m laws n cs lawful upper setting in
      record {
        ascends = raising_ascends m laws n cs lawful upper setting;
        rounds = found.0;
        stands = found.1;
        brief = subst (λ (k : ℕ). found.0 ≤ k) (sym limit) found.2;
        once = found.3;
        least = least_model_stands m laws n cs lawful upper setting found.0 found.1;
        answer_set = scenes_are_answer_sets m laws n cs lawful upper setting;
      };
}
