-- Every worked case holds: the test of each is computed.
use Rattle.std.proofs.Common.{refl, arith}
use Rattle.scale.specs.Kinds.{luk, godel}
use Rattle.scale.specs.Meaning.{Laws}
use Rattle.theory.specs.Semantics.{AllByRecursion}
use Rattle.cases.specs.Books.{cases}
use Rattle.cases.specs.Claims.{Holds}
use Rattle.cases.proofs.Deciding.{holds}
use Rattle.cases.proofs.Laws.{luk_lawful, godel_lawful}

-- a pair, written without brackets
infixr 5 ◌also◌
abbrev ◌also◌ : {A B : Type 0} → A → B → A × B
a also b = (a, b)

on_luk : Laws (luk 4)
on_luk = luk_lawful 4 (omega arith) (omega arith)

on_godel : Laws (godel 4)
on_godel = godel_lawful 4 (omega arith) (omega arith)

pub worked : AllByRecursion Holds cases
worked =
    holds _ (tt, tt) refl
    also holds _ (tt, tt) refl
    also holds _ (tt, tt) refl
    also holds _ (tt, tt) refl
    also holds _ (tt, tt) refl
    also holds _ (tt, (tt, tt)) refl
    also holds _ (tt, (tt, tt)) refl
    also holds _ (tt, tt) refl
    also holds _ (tt, tt) refl
    also holds _ (tt, tt) refl
    also holds _ (tt, tt) refl
    also holds _ (tt, (on_luk, tt)) refl
    also holds _ (on_luk, tt) refl
    also holds _ (on_godel, tt) refl
    also holds _ (on_luk, tt) refl
    also holds _ (tt, tt) refl
    also tt
