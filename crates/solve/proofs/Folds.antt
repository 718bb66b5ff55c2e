-- A fold from the left by an associative operation of a scale, against a definition that folds from the right.
use Rattle.std.proofs.Common.{◌≡◌, ℕ, ◌<◌, Iter, List, [], ◌∷◌, ◌++◌, sym, ap, ◌∙◌, subst}
use Rattle.std.proofs.lemmas.List.{append-nil, append_assoc}
use Rattle.std.proofs.lemmas.Fn.{fold_over, slice_gives, fronts}
use Rattle.std.specs.Fn.{Called}
use Rattle.std.specs.Iterator.{AlwaysYields, Drains}
use Rattle.std.specs.List.{FoldsTo}
use denote.Param.Members.{Mut}
use denote.Ref.{Bor}
use Rattle.scale.specs.Meaning.{Meaning, clip}
use Rattle.theory.specs.Semantics.{AllByRecursion}
use Rattle.theory.proofs.Lists.{all_right}
use Rattle.solve.proofs.Clips.{clip_both}

-- an operation on degrees, the degree f of an element that is good, and F, which folds them from the right
pub record Folding {A : Type 0} (m : Meaning) (op : ℕ → ℕ → ℕ) (f : A → ℕ) (F : List A → ℕ) (Good : A → Type 0) : Type 0 where
  pub closed : (a b : ℕ) → a < m.levels → b < m.levels → op a b < m.levels
  pub assoc : (a b c : ℕ) → a < m.levels → b < m.levels → c < m.levels → op (op a b) c ≡ op a (op b c)
  pub unit : (a : ℕ) → a < m.levels → op a (F []) ≡ a
  pub cons : (x : A) (xs : List A) → F (x ∷ xs) ≡ op (f x) (F xs)
  pub worth : (x : A) → Good x → f x < m.levels
  pub worths : (xs : List A) → AllByRecursion Good xs → F xs < m.levels

module _ {A : Type 0} {m : Meaning} {op : ℕ → ℕ → ℕ} {f : A → ℕ} {F : List A → ℕ} {Good : A → Type 0} (way : Folding m op f F Good) (all : List A) (good : AllByRecursion Good all) (total : ℕ) where
  -- after the elements `done` the fold stands at acc, and what is left leads to the total
  abbrev Folded : List A → ℕ → Type 0
  Folded done acc = (rest : List A) → done ++ rest ≡ all → (acc < m.levels) × (op acc (F rest) ≡ total)

  folded_none : (acc : ℕ) → acc < m.levels → op acc (F all) ≡ total → Folded [] acc
  folded_none acc degree e rest is = (degree, ap (λ xs. op acc (F xs)) is ∙ e)

  folded_more : (done : List A) (acc : ℕ) (x : A) (next : ℕ) → Folded done acc → (Good x → next ≡ op (clip m acc) (clip m (f x))) → Folded (done ++ (x ∷ [])) next
  folded_more done acc x next so_far computes rest is =
      let here : done ++ (x ∷ rest) ≡ all = sym (append_assoc done (x ∷ []) rest) ∙ is in
      let left = so_far (x ∷ rest) here in
      let fine = all_right Good done (x ∷ rest) (subst (λ (xs : List A). AllByRecursion Good xs) (sym here) good) in
      let degree = way.worth x fine.0 in
      let step : next ≡ op acc (f x) = computes fine.0 ∙ clip_both m op left.0 degree in (
        subst (λ (y : ℕ). y < m.levels) (sym step) (way.closed acc (f x) left.0 degree),
        ap (λ (y : ℕ). op y (F rest)) step ∙ way.assoc acc (f x) (F rest) left.0 degree (way.worths rest fine.1) ∙ ap (op acc) (sym (way.cons x rest)) ∙ left.1,
      )

  folded_all : (acc : ℕ) → Folded all acc → acc ≡ total
  folded_all acc so_far = let end = so_far [] (append-nil all) in sym (way.unit acc end.0) ∙ end.1

  -- the fold of a slice by a closure that answers as the operation does
  pub folds : {C : Type 0} (g : Mut C (ℕ × (Bor A × Unit {0})) ℕ) (c : C) → ((a : ℕ) (x : Bor A) (b : ℕ) (d : C) → Called g c (a, (x, tt)) b d → (Good x.now → b ≡ op (clip m a) (clip m (f x.now))) × (d ≡ c)) → (s : Iter A) → s.rest.now ≡ all → (start r : ℕ) → start < m.levels → op start (F all) ≡ total → (xs : List (Bor A)) × (d : C) × Drains fronts s xs × FoldsTo {P = C × ℕ} (λ p x q. Called g p.0 (p.1, (x, tt)) q.1 q.0) (c, start) xs (d, r) → r ≡ total
  folds g c computes s is start r degree whole ran =
      let gives : AlwaysYields fronts (λ y. y.now) s all = subst (λ (xs : List A). AlwaysYields fronts (λ y. y.now) s xs) is (slice_gives s) in
      folded_all r (fold_over fronts (λ y. y.now) g Folded c (λ done acc x b d so_far called. let k = computes acc x b d called in (folded_more done acc x.now b so_far k.0, k.1)) s all start r gives (folded_none start degree whole) ran)
