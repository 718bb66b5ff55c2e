use Rattle.std.proofs.Common.{◌≡◌, ℕ, ◌+◌, ◌-◌, ◌*◌, min, refl, ap, ◌∙◌, rules, tests}
use Rattle.std.proofs.lemmas.Iterator.{YieldsList-from_slice}
use Rattle.std.proofs.lemmas.Iterator.Consumers.{fold_from_yields_List}
use Rattle.std.proofs.lemmas.List.Folds.{fold_along}
use Rattle.text.proofs.Lookups.{capped_more}
use Rattle.text.proofs.numerals.capped_value.Goals as goal

abbrev more : ℕ → ℕ → ℕ
more v b = min (min (v * 10) 255 + (b - 48)) 255

pub returns : goal.returns
returns c =
    fold_from_yields_List _ more 0 _ c.fold.ensures.ran (YieldsList-from_slice c.args.digits.now cc) (λ a x b q k. search (rules, tests)) ∙ fold_along more (λ v b. v * 10 + (b - 48)) (λ a v. a ≡ min 255 v) (λ a v b e. ap (λ n. more n b) e ∙ capped_more v (b - 48)) 0 0 c.args.digits.now refl
