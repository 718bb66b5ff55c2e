-- One row with another weight: the book still keeps its rules, and its ledger has that weight and all else as before.
use Rattle.std.proofs.Common.{◌≡◌, ℕ, zero, suc, ◌<◌, true, List, [], ◌∷◌, map, length, get_or, set, refl, arith}
use Rattle.std.proofs.lemmas.Grind.{common_steps}
use Rattle.std.proofs.lemmas.List.Elements.{All-set}
use Rattle.std.specs.List.{AllPass}
use Rattle.book.specs.Calls.{weight_changed}
use Rattle.book.specs.Rows.{kept, clause_of, row_reweighed}
use Rattle.book.specs.declared.rows.Rule.{Rule}
use Rattle.book.specs.declared.rule.Head.TheVariants.{Statement}

-- a row to read past the end by: which one does not matter
pub blank : Rule
blank = record { head = Statement 0; weight = 0; body = record { literals = []; len = 0; short = omega arith } }

kept_reweighed : (levels statements weight : ℕ) (r : Rule) → weight < levels → kept levels statements r ≡ true → kept levels statements (row_reweighed weight r) ≡ true
kept_reweighed levels statements weight r h k = grind (arith, common_steps)

pub rows_kept : (levels statements weight i : ℕ) (rows : List Rule) (d : Rule) → weight < levels → i < length rows → AllPass (kept levels statements) rows → AllPass (kept levels statements) (set rows i (row_reweighed weight (get_or rows i d)))
rows_kept levels statements weight i rows d h at held =
    All-set (λ r. kept levels statements r ≡ true) rows i (row_reweighed weight (get_or rows i d)) (kept_reweighed levels statements weight (get_or rows i d) h (held i d at)) held

pub ledger_reweighed : (weight : ℕ) (rows : List Rule) (i : ℕ) (d : Rule) → i < length rows → map clause_of (set rows i (row_reweighed weight (get_or rows i d))) ≡ weight_changed (map clause_of rows) i weight
ledger_reweighed weight [] i d h = grind arith
ledger_reweighed weight (r ∷ rows) zero d h = refl
ledger_reweighed weight (r ∷ rows) (suc i) d h = grind (arith, ledger_reweighed weight rows i d)
