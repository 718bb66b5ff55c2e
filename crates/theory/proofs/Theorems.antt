-- The theorems of specs/Theorems, proved.
use Rattle.theory.specs.Theorems.{RaisingAscends, RaisingStandsStill, LeastModelStands, ScenesAreAnswerSets}
use Rattle.theory.proofs.Least.{least_under}
use Rattle.theory.proofs.Raising.{ascends, stands_still, rounds_unique}
use Rattle.theory.proofs.Ranges.{all_within}
use Rattle.theory.proofs.Reducts.{scene_answers, answers_scene}

pub raising_ascends : RaisingAscends
raising_ascends m laws n cs lawful upper setting r s = (ascends laws n cs (all_within m.levels n cs lawful) upper setting.degrees r s).is

pub raising_stands_still : RaisingStandsStill
raising_stands_still m laws n cs lawful upper setting =
    let found = stands_still laws n cs (all_within m.levels n cs lawful) upper setting.degrees in
    (found.0, found.1, found.2, λ q h. rounds_unique h found.1)

pub least_model_stands : LeastModelStands
least_model_stands m laws n cs lawful upper setting r rounds = least_under laws n cs (all_within m.levels n cs lawful) upper setting.degrees r rounds.still

pub scenes_are_answer_sets : ScenesAreAnswerSets
scenes_are_answer_sets m laws n cs lawful row setting =
    let hs = all_within m.levels n cs lawful in
    (scene_answers laws n cs hs row setting, answers_scene laws n cs hs row setting)
