-- A call that meets none of its causes grants its answer.
use Rattle.std.proofs.Common.{◌≡◌, None, Ok, Option, sym, subst}
use Rattle.scale.specs.declared.refusal.Refusal.{Refusal}
use Rattle.scale.specs.Causes.{Answers}

pub grants : {A : Type 0} (refusal : Option Refusal) (P : A → Type 0) (x : A) → refusal ≡ None → P x → Answers refusal (Ok x) P
grants refusal P x none holds = subst (λ (o : Option Refusal). Answers o (Ok x) P) (sym none) holds
