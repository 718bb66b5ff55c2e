-- How a file is cut into sections: where the next one begins, and that cutting goes on behind the sections that are there.
use Rattle.std.proofs.Common.{◌≡◌, ℕ, zero, suc, ◌+◌, ◌-◌, ◌<◌, List, [], ◌∷◌, ◌++◌, length, slice_index, take, drop, sym, refl, ap, ◌∙◌, subst, arith}
use Rattle.std.proofs.lemmas.List.{append-nil, append_assoc}
use Rattle.memchr.specs.Find.{OccursAt, Nowhere}
use Rattle.vectors.specs.Sections.{Begins, FirstSection, Parted, Cut}
use Rattle.vectors.specs.declared.sections.Section.{Section}

-- the end of a line with a hash mark after it
abbrev pub mark : List ℕ
mark = 10 ∷ 35 ∷ []

-- a later heading begins right after such a place
pub marked : (bytes : List ℕ) (k : ℕ) → k < length bytes → Begins bytes k → OccursAt bytes mark (k - 1)
marked bytes k below begins = record { fits = omega (arith, below, begins.0); reads = reads }
  where
    reads : (j : ℕ) → j < length mark → slice_index bytes (k - 1 + j) ≡ slice_index mark j
    reads zero h = ap (slice_index bytes) (omega arith) ∙ begins.1
    reads (suc zero) h = ap (slice_index bytes) (omega (arith, begins.0)) ∙ begins.2
    reads (suc (suc j)) h = absurd (omega (arith, h))

-- the first such place is where the first section ends
pub first_ends : (bytes : List ℕ) (end : ℕ) → Nowhere (OccursAt bytes mark) 0 end → OccursAt bytes mark end → FirstSection bytes (end + 1)
first_ends bytes end none here =
    let at : ℕ → ℕ = slice_index bytes in
    (omega arith, omega (arith, here.fits), λ h. (omega arith, ap at (omega arith) ∙ here.reads 0 (omega arith), here.reads 1 (omega arith)), λ k h begins. none (k - 1) (omega arith) (omega (arith, h, begins.0)) (marked bytes k (omega (arith, h, here.fits)) begins))

-- where there is none, nothing is left
pub last_ends : (bytes : List ℕ) → 0 < length bytes → Nowhere (OccursAt bytes mark) 0 (length bytes + 1) → FirstSection bytes (length bytes)
last_ends bytes some none =
    (some, omega arith, λ h. absurd (omega (arith, h)), λ k h begins. none (k - 1) (omega arith) (omega (arith, h)) (marked bytes k h begins))

-- whatever the rest is cut into, with the front it is what all are cut into
abbrev pub CutTo : List ℕ → List ℕ → List Section → Type 0
CutTo bytes rest front = (later : List Section) → Cut rest later → Cut bytes (front ++ later)

pub cut_more : (bytes rest : List ℕ) (n : ℕ) (front items : List Section) (section : Section) → CutTo bytes rest front → items ≡ front ++ section ∷ [] → FirstSection rest n → Parted (take n rest) section → CutTo bytes (drop n rest) items
cut_more bytes rest n front items section cut e first parted later h =
    let P : List Section → Type 0 = Cut bytes in
    subst P (sym (ap (λ (l : List Section). l ++ later) e ∙ append_assoc front (section ∷ []) later)) (cut (section ∷ later) (n, first, parted, h))

pub cut_all : (bytes rest : List ℕ) (front : List Section) → length rest ≡ 0 → CutTo bytes rest front → Cut bytes front
cut_all bytes [] front done cut =
    let P : List Section → Type 0 = Cut bytes in
    subst P (append-nil front) (cut [] refl)
cut_all bytes (x ∷ rest) front done cut = absurd (omega (arith, done))
