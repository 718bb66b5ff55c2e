-- How the bytes of a file are cut into sections.
use Rattle.std.specs.Prelude.{◌≡◌, ℕ, ◌+◌, ◌-◌, ◌<◌, ◌≤◌, List, [], ◌∷◌, length, take, drop, ◌≢◌, slice_index}
use Rattle.vectors.specs.declared.sections.Section.{Section}

-- the first line has n bytes before its end
abbrev pub FirstLine : List ℕ → ℕ → Type 0
FirstLine bytes n = (n ≤ length bytes) × (n < length bytes → slice_index bytes n ≡ 10) × ((k : ℕ) → k < n → slice_index bytes k ≢ 10)

-- a line begins with a hash mark at k, and another line stands before it
abbrev pub Begins : List ℕ → ℕ → Type 0
Begins bytes k = (0 < k) × (slice_index bytes (k - 1) ≡ 10) × (slice_index bytes k ≡ 35)

-- the first section has n bytes: the next one begins there, or nothing is left
abbrev pub FirstSection : List ℕ → ℕ → Type 0
FirstSection bytes n = (0 < n) × (n ≤ length bytes) × (n < length bytes → Begins bytes n) × ((k : ℕ) → k < n → Begins bytes k → ⊥)

-- the heading is the first line, and the body what follows it
abbrev pub Parted : List ℕ → Section → Type 0
Parted bytes section = (n : ℕ) × FirstLine bytes n × (section.heading.now ≡ take n bytes) × (section.body.now ≡ drop (n + 1) bytes)

abbrev pub Cut : List ℕ → List Section → Type 0
Cut bytes [] = bytes ≡ []
Cut bytes (section ∷ sections) = (n : ℕ) × FirstSection bytes n × Parted (take n bytes) section × Cut (drop n bytes) sections
