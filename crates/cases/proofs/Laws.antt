-- The laws of the two kinds of chain, of every size.
use Rattle.std.proofs.Common.{ℕ, ◌≤◌, rules}
use Rattle.scale.specs.Kinds.{luk, godel}
use Rattle.scale.specs.Meaning.{Laws}

pub luk_lawful : (k : ℕ) → 1 ≤ k → k ≤ 63 → Laws (luk k)
luk_lawful k least most = search rules

pub godel_lawful : (k : ℕ) → 1 ≤ k → k ≤ 63 → Laws (godel k)
godel_lawful k least most = search rules
