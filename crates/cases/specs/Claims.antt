-- A worked case: rules on a scale, and what is claimed of them.
use Rattle.std.specs.Prelude.{ℕ, ◌↔◌, List}
use Rattle.std.specs.List.{ContainsAt}
use Rattle.scale.specs.Meaning.{Meaning}
use Rattle.book.specs.Ledger.{Clause, Lawful}
use Rattle.theory.specs.Equivalence.{StronglyEquivalent}
use Rattle.theory.specs.Position.{position}
use Rattle.theory.specs.Semantics.{AllByRecursion, Setting, Scene}
use Rattle.solve.specs.Verdicts.{Judged}
use Rattle.solve.specs.declared.judging.Verdict.{Verdict}

pub data Claim : Type 0 where
  scenes_at : List ℕ → Claim
  verdict_on : List ℕ → Verdict → Claim
  equivalent_to : List Clause → Claim
  not_equivalent_to : List Clause → Claim

pub record Case : Type 0 where
  pub scale : Meaning
  pub statements : ℕ
  pub rules : List Clause
  pub claims : List Claim

abbrev pub LawfulOn : Case → List Clause → Type 0
LawfulOn c rules = AllByRecursion (Lawful c.scale.levels c.statements) rules

-- What a claim says of its case: a setting is a scene exactly when its position is listed; a setting has the verdict; the
-- rules are, or are not, strongly equivalent to other lawful ones.
abbrev pub Says : Case → Claim → Type 0
Says c (scenes_at positions) = (row : List ℕ) → Setting c.scale c.statements row → Scene c.scale c.rules c.statements row ↔ ContainsAt positions (position c.scale.levels row)
Says c (verdict_on row verdict) = Setting c.scale c.statements row × Judged c.scale c.rules c.statements row verdict
Says c (equivalent_to others) = LawfulOn c others × StronglyEquivalent c.scale c.statements c.rules others
Says c (not_equivalent_to others) = LawfulOn c others × (StronglyEquivalent c.scale c.statements c.rules others → ⊥)

-- a case holds: its rules are lawful, and all that is claimed is so
pub record Holds (c : Case) : Type 0 where
  pub lawful : LawfulOn c c.rules
  pub claimed : AllByRecursion (Says c) c.claims
