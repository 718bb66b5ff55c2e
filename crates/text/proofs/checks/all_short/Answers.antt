use Rattle.std.proofs.Common.{sym, ◌∙◌, rules, tests}
use Rattle.std.proofs.lemmas.Iterator.{YieldsList-from_slice}
use Rattle.std.proofs.lemmas.Iterator.Search.{all_from_yields_List}
use Rattle.std.proofs.lemmas.List.Folds.{list_all-map}
use Rattle.text.specs.Tokens.{said, short}
use Rattle.text.proofs.checks.all_short.Goals as goal

pub returns : goal.returns
returns c =
    all_from_yields_List (λ t. short (said t)) _ _ _ c.all.ensures.ran (YieldsList-from_slice c.args.tokens.now cc) (λ x b q k. search (rules, tests)) ∙ sym (list_all-map short said c.args.tokens.now)
