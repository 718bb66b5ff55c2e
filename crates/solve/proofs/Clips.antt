-- A degree is read as itself.
use Rattle.std.proofs.Common.{◌≡◌, ℕ, ◌<◌, ap₂, arith}
use Rattle.scale.specs.Meaning.{Meaning, clip}

pub clip_degree : (m : Meaning) (a : ℕ) → a < m.levels → clip m a ≡ a
clip_degree m a h = omega arith

-- so a question about degrees is answered by the meaning at them
pub clip_both : {A : Type 0} (m : Meaning) (f : ℕ → ℕ → A) {a b : ℕ} → a < m.levels → b < m.levels → f (clip m a) (clip m b) ≡ f a b
clip_both m f {a} {b} ha hb = ap₂ f (clip_degree m a ha) (clip_degree m b hb)
