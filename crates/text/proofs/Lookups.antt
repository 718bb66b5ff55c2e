-- Searches over a list, seen through a function.
use Rattle.std.proofs.Common.{◌≡◌, ℕ, ◌+◌, ◌*◌, min, Bool, cond, not, List, [], ◌∷◌, map, Some, None, refl, ap, ap₂, arith, nat_lt}
use Rattle.std.specs.List.{position, prefix_len}
use Rattle.std.proofs.lemmas.List.{length-map}

prefix_len-map : {X Y : Type 0} (p : Y → Bool) (f : X → Y) (xs : List X) → prefix_len p (map f xs) ≡ prefix_len (λ x. p (f x)) xs
prefix_len-map p f [] = refl
prefix_len-map p f (x ∷ xs) = ap (λ k. cond (p (f x)) (1 + k) 0) (prefix_len-map p f xs)

pub position-map : {X Y : Type 0} (p : Y → Bool) (f : X → Y) (xs : List X) → position p (map f xs) ≡ position (λ x. p (f x)) xs
position-map p f xs =
    ap₂ (λ k n. cond (nat_lt k n) (Some k) None) (prefix_len-map (λ y. not (p y)) f xs) (length-map xs f)

-- one digit more, where the value is capped
pub capped_more : (v d : ℕ) → min (min (min 255 v * 10) 255 + d) 255 ≡ min 255 (v * 10 + d)
capped_more v d = grind arith
