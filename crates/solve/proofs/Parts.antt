-- What a rule that fits a scale gives of its parts.
use Rattle.std.proofs.Common.{◌≡◌, ℕ, ◌<◌, true, ◌&&◌, ltb, List, map}
use Rattle.std.proofs.lemmas.Bool.{and_parts, ltb-true}
use Rattle.scale.specs.Meaning.{Meaning}
use Rattle.book.specs.Ledger.{Clause, fits, head_fits, literal_fits}
use Rattle.std.specs.List.{list_all}
use Rattle.book.specs.Rows.{clause_of}
use Rattle.book.specs.declared.rows.Rule.{Rule}
use Rattle.book.specs.declared.rule.Head.{Head}
use Rattle.book.specs.declared.rule.Head.TheVariants.{Statement, Bound}
use Rattle.theory.specs.Semantics.{head_value, gain}
use Rattle.theory.proofs.Ranges.{Degrees}

pub fits_weight : (levels : ℕ) (c : Clause) → fits levels c ≡ true → c.weight < levels
fits_weight levels c e = ltb-true c.weight levels (and_parts (ltb c.weight levels) (head_fits levels c.head && list_all (literal_fits levels) c.body) e).0

head_degree : (m : Meaning) {l : ℕ → ℕ} → Degrees m l → (h : Head) → head_fits m.levels h ≡ true → head_value l h < m.levels
head_degree m dl (Statement s) e = dl s
head_degree m dl (Bound d) e = ltb-true d m.levels e

pub fits_head : (m : Meaning) {l : ℕ → ℕ} → Degrees m l → (c : Clause) → fits m.levels c ≡ true → head_value l c.head < m.levels
fits_head m dl c e =
    let rest = (and_parts (ltb c.weight m.levels) (head_fits m.levels c.head && list_all (literal_fits m.levels) c.body) e).1 in
    head_degree m dl c.head (and_parts (head_fits m.levels c.head) (list_all (literal_fits m.levels) c.body) rest).0

pub fits_body : (levels : ℕ) (c : Clause) → fits levels c ≡ true → list_all (literal_fits levels) c.body ≡ true
fits_body levels c e =
    let rest = (and_parts (ltb c.weight levels) (head_fits levels c.head && list_all (literal_fits levels) c.body) e).1 in
    (and_parts (head_fits levels c.head) (list_all (literal_fits levels) c.body) rest).1

-- what the rows of a table demand of a statement
abbrev pub gains : Meaning → (ℕ → ℕ) → (ℕ → ℕ) → ℕ → List Rule → ℕ
gains m l u s rows = gain m l u (map clause_of rows) s
