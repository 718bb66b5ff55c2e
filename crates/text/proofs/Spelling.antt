-- The shape that is worked out token by token is the one that spells the tokens: there is one exactly where it is found.
use Rattle.std.proofs.Common.{◌≡◌, ℕ, ◌<◌, Bool, true, false, cond, ◌⊎◌, List, [], ◌∷◌, ◌++◌, map, length, Some, None, codes, Option, sym, refl, ap, ◌∙◌, subst, inl, inr, ⊎_elim, arith}
use Rattle.std.specs.List.{list_all, slice_split, onto_first}
use Rattle.std.specs.Option.{option_map, option_and_then}
use Rattle.std.specs.Str.{bytes_eq}
use Rattle.std.proofs.lemmas.Slice.Eq.{bytes_eq-Decides}
use Rattle.std.proofs.lemmas.Bool.{cond-true, cond-false, cases_Bool, and_parts, and_from, eqb-true}
use Rattle.std.proofs.lemmas.List.Splits.{length-slice_split}
use Rattle.text.specs.Bytes.{mark_byte, sign_of}
use Rattle.text.specs.Lists.{traversed}
use Rattle.text.specs.Parsing.{is_mark, name_of, number_of, kind_of, term_of, terms_of, body_of, rule_with, scale_line_of, name_line_of, rule_line_of, bound_line_of, line_of}
use Rattle.text.specs.Shapes.{Item, plain, over, lacking, Front, statement, bound, Content, scale, name, rule, is_name, kind_word, term_spelled, terms_spelled, body_spelled, spelled, term_named, named, Shaped}
use Rattle.text.specs.Tokens.{Spell, word, number, mark}
use Rattle.text.specs.declared.tokens.Mark.{Mark}
use Rattle.text.specs.declared.tokens.Mark.TheVariants.{Colon, Comma, Above, Not}
use Rattle.text.specs.declared.sizes.ScaleKind.{ScaleKind}
use Rattle.text.specs.declared.sizes.ScaleKind.TheVariants.{Luk, Godel, Hours}

none_some : {A : Type 0} {x : A} → ◌≡◌ {A = Option A} None (Some x) → ⊥
none_some p = let z : ◌≡◌ {A = ℕ} 0 1 = cc in omega arith

some_same : {A : Type 0} {x y : A} → ◌≡◌ {A = Option A} (Some x) (Some y) → x ≡ y
some_same p = cc

and_then_some : {A B : Type 0} (o : Option A) (f : A → Option B) (b : B) → option_and_then f o ≡ Some b → (x : A) × (o ≡ Some x) × (f x ≡ Some b)
and_then_some None f b e = absurd (none_some e)
and_then_some (Some x) f b e = (x, refl, e)

map_some : {A B : Type 0} (o : Option A) (f : A → B) (b : B) → option_map f o ≡ Some b → (x : A) × (o ≡ Some x) × (f x ≡ b)
map_some None f b e = absurd (none_some e)
map_some (Some x) f b e = (x, refl, some_same e)

cond_some : {B : Type 0} (t : Bool) (o : Option B) (b : B) → cond t o None ≡ Some b → (t ≡ true) × (o ≡ Some b)
cond_some true o b e = (refl, e)
cond_some false o b e = absurd (none_some e)

-- the word is c, or what follows decides
chosen : {B : Type 0} (w c : List ℕ) (o rest : Option B) (v : B) → cond (bytes_eq w c) o rest ≡ Some v → ((c ≡ w) × (o ≡ Some v)) ⊎ (rest ≡ Some v)
chosen w c o rest v e =
    ⊎_elim (λ t. inl (sym ((bytes_eq-Decides w c).0 t), sym (cond-true (bytes_eq w c) o rest t) ∙ e))
    (λ f. inr (sym (cond-false (bytes_eq w c) o rest f) ∙ e))
    (cases_Bool (bytes_eq w c))

name_is : (a : Spell) (n : List ℕ) → name_of a ≡ Some n → (is_name n ≡ true) × (word n ≡ a)
name_is (word w) n e =
    let p = cond_some (is_name w) (Some w) n e in
    let same : w ≡ n = some_same p.1 in
    (sym (ap is_name same) ∙ p.0, sym (ap word same))
name_is (number w) n e = absurd (none_some e)
name_is (mark m) n e = absurd (none_some e)

number_is : (a : Spell) (d : List ℕ) → number_of a ≡ Some d → number d ≡ a
number_is (word w) d e = absurd (none_some e)
number_is (number w) d e = ap number (sym (some_same e))
number_is (mark m) d e = absurd (none_some e)

true_not : ◌≡◌ {A = Bool} false true → ⊥
true_not p = let z : ◌≡◌ {A = ℕ} 0 1 = cc in omega arith

sign_of_byte : (m : Mark) → sign_of (mark_byte m) ≡ Some m
sign_of_byte Colon = refl
sign_of_byte Comma = refl
sign_of_byte Above = refl
sign_of_byte Not = refl

mark_is : (m : Mark) (a : Spell) → is_mark m a ≡ true → mark m ≡ a
mark_is m (word w) e = absurd (true_not e)
mark_is m (number w) e = absurd (true_not e)
mark_is m (mark k) e =
    ap mark (some_same (sym (sign_of_byte m) ∙ sym (ap sign_of (eqb-true (mark_byte k) (mark_byte m) e)) ∙ sign_of_byte k))

kind_is : (a : Spell) (k : ScaleKind) → kind_of a ≡ Some k → word (kind_word k) ≡ a
kind_is (word w) v e =
    let found : (x : ScaleKind) → (kind_word x ≡ w) × (Some x ≡ Some v) → word (kind_word v) ≡ word w = λ x p. sym (ap (λ y. word (kind_word y)) (some_same p.1)) ∙ ap word p.0 in
    ⊎_elim (found Luk) (λ e1. ⊎_elim (found Godel) (λ e2. ⊎_elim (found Hours) (λ e3. absurd (none_some e3)) (chosen w (codes "hours") (Some Hours) _ v e2)) (chosen w (codes "godel") (Some Godel) _ v e1)) (chosen w (codes "luk") (Some Luk) _ v e)
kind_is (number w) v e = absurd (none_some e)
kind_is (mark m) v e = absurd (none_some e)

-- what is found spells the tokens

abbrev TermTold : List Spell → Item → Type 0
TermTold ts t = (term_named t ≡ true) × (term_spelled t ≡ ts)

term_told : (ts : List Spell) (t : Item) → term_of ts ≡ Some t → TermTold ts t
term_told [] t e = absurd (none_some e)
term_told (a ∷ []) t e =
    let p = map_some (name_of a) plain t e in
    let q = name_is a p.0 p.1 in
    subst (TermTold (a ∷ [])) p.2 (q.0, ap (λ x. x ∷ []) q.1)
term_told (a ∷ b ∷ []) t e =
    let m = cond_some (is_mark Not a) _ t e in
    let p = map_some (name_of b) lacking t m.1 in
    let q = name_is b p.0 p.1 in
    subst (TermTold (a ∷ b ∷ [])) p.2 (q.0, ap (λ x. x ∷ word p.0 ∷ []) (mark_is Not a m.0) ∙ ap (λ x. a ∷ x ∷ []) q.1)
term_told (a ∷ b ∷ c ∷ []) t e =
    let m = cond_some (is_mark Above b) _ t e in
    let p = and_then_some (name_of a) (λ n. option_map (over n) (number_of c)) t m.1 in
    let q = name_is a p.0 p.1 in
    let r = map_some (number_of c) (over p.0) t p.2 in
    subst (TermTold (a ∷ b ∷ c ∷ [])) r.2 (q.0, ap (λ x. x ∷ mark Above ∷ number r.0 ∷ []) q.1 ∙ ap (λ x. a ∷ x ∷ number r.0 ∷ []) (mark_is Above b m.0) ∙ ap (λ x. a ∷ b ∷ x ∷ []) (number_is c r.0 r.1))
term_told (a ∷ b ∷ c ∷ d ∷ ts) t e = absurd (none_some e)

-- parts joined by commas again
abbrev joined_from : List Spell → List (List Spell) → List Spell
joined_from p [] = p
joined_from p (q ∷ qs) = p ++ mark Comma ∷ joined_from q qs

abbrev joined : List (List Spell) → List Spell
joined [] = []
joined (p ∷ ps) = joined_from p ps

joined_onto : (x : Spell) (ps : List (List Spell)) → joined (onto_first x ps) ≡ x ∷ joined ps
joined_onto x [] = refl
joined_onto x (p ∷ []) = refl
joined_onto x (p ∷ q ∷ qs) = refl

joined_after : (ps : List (List Spell)) → 0 < length ps → joined ([] ∷ ps) ≡ mark Comma ∷ joined ps
joined_after [] h = absurd (omega arith)
joined_after (p ∷ ps) h = refl

abbrev comma : Spell → Bool
comma = is_mark Comma

some_part : (ts : List Spell) → 0 < length (slice_split comma ts)
some_part ts = omega (arith, length-slice_split comma ts)

joined_split : (ts : List Spell) → joined (slice_split comma ts) ≡ ts
joined_split [] = refl
joined_split (t ∷ ts) =
    ⊎_elim
    (λ y. ap joined (cond-true (comma t) _ _ y) ∙ joined_after (slice_split comma ts) (some_part ts) ∙ ap (λ l. mark Comma ∷ l) (joined_split ts) ∙ ap (λ x. x ∷ ts) (mark_is Comma t y))
    (λ n. ap joined (cond-false (comma t) _ _ n) ∙ joined_onto t (slice_split comma ts) ∙ ap (λ l. t ∷ l) (joined_split ts))
    (cases_Bool (comma t))

joined_terms : (t : Item) (us : List Item) → joined_from (term_spelled t) (map term_spelled us) ≡ terms_spelled t us
joined_terms t [] = refl
joined_terms t (u ∷ us) = ap (λ l. term_spelled t ++ mark Comma ∷ l) (joined_terms u us)

abbrev PartsTold : List (List Spell) → List Item → Type 0
PartsTold ps items = (list_all term_named items ≡ true) × (map term_spelled items ≡ ps)

parts_told : (ps : List (List Spell)) (items : List Item) → traversed term_of ps ≡ Some items → PartsTold ps items
parts_told [] items e = subst (PartsTold []) (some_same e) (refl, refl)
parts_told (p ∷ ps) items e =
    let s = and_then_some (term_of p) (λ y. option_map (λ ys. y ∷ ys) (traversed term_of ps)) items e in
    let r = map_some (traversed term_of ps) (λ ys. s.0 ∷ ys) items s.2 in
    let t = term_told p s.0 s.1 in
    let ts = parts_told ps r.0 r.1 in
    subst (PartsTold (p ∷ ps)) r.2 (and_from (term_named s.0) (list_all term_named r.0) t.0 ts.0, ap (λ x. x ∷ map term_spelled r.0) t.1 ∙ ap (λ l. p ∷ l) ts.1)

abbrev BodyTold : List Spell → List Item → Type 0
BodyTold ts body = (list_all term_named body ≡ true) × (body_spelled body ≡ ts)

items_told : (ts : List Spell) (items : List Item) → PartsTold (slice_split comma ts) items → BodyTold (mark Colon ∷ ts) items
items_told ts [] p = absurd (omega (arith, some_part ts, ap length p.1))
items_told ts (t ∷ us) p =
    (p.0, ap (λ l. mark Colon ∷ l) (sym (joined_terms t us) ∙ ap joined p.1 ∙ joined_split ts))

body_told : (ts : List Spell) (body : List Item) → body_of ts ≡ Some body → BodyTold ts body
body_told [] body e = subst (BodyTold []) (some_same e) (refl, refl)
body_told (t ∷ ts) body e =
    let m = cond_some (is_mark Colon t) (terms_of ts) body e in
    subst (λ x. BodyTold (x ∷ ts) body) (mark_is Colon t m.0) (items_told ts body (parts_told (slice_split comma ts) body m.1))

abbrev Told : List Spell → Content → Type 0
Told ts l = (named l ≡ true) × (spelled l ≡ ts)

scale_told : (ts : List Spell) (l : Content) → scale_line_of ts ≡ Some l → Told (word (codes "scale") ∷ ts) l
scale_told [] l e = absurd (none_some e)
scale_told (a ∷ []) l e = absurd (none_some e)
scale_told (a ∷ b ∷ []) l e =
    let p = and_then_some (kind_of a) (λ k. option_map (scale k) (number_of b)) l e in
    let q = map_some (number_of b) (scale p.0) l p.2 in
    subst (Told (word (codes "scale") ∷ a ∷ b ∷ [])) q.2 (refl, ap (λ x. word (codes "scale") ∷ x ∷ number q.0 ∷ []) (kind_is a p.0 p.1) ∙ ap (λ x. word (codes "scale") ∷ a ∷ x ∷ []) (number_is b q.0 q.1))
scale_told (a ∷ b ∷ c ∷ ts) l e = absurd (none_some e)

name_told : (ts : List Spell) (l : Content) → name_line_of ts ≡ Some l → Told (word (codes "name") ∷ ts) l
name_told [] l e = absurd (none_some e)
name_told (a ∷ []) l e =
    let p = map_some (name_of a) name l e in
    let q = name_is a p.0 p.1 in
    subst (Told (word (codes "name") ∷ a ∷ [])) p.2 (q.0, ap (λ x. word (codes "name") ∷ x ∷ []) q.1)
name_told (a ∷ b ∷ ts) l e = absurd (none_some e)

-- the three things that a rule has
rule_some : (front : Option Front) (weight : Option (List ℕ)) (ts : List Spell) (l : Content) → rule_with front weight ts ≡ Some l → (f : Front) × (w : List ℕ) × (body : List Item) × (front ≡ Some f) × (weight ≡ Some w) × (body_of ts ≡ Some body) × (rule f w body ≡ l)
rule_some front weight ts l e =
    let p = and_then_some front (λ f. option_and_then (λ w. option_map (rule f w) (body_of ts)) weight) l e in
    let q = and_then_some weight (λ w. option_map (rule p.0 w) (body_of ts)) l p.2 in
    let r = map_some (body_of ts) (rule p.0 q.0) l q.2 in
    (p.0, q.0, r.0, p.1, q.1, r.1, r.2)

rule_told : (ts : List Spell) (l : Content) → rule_line_of ts ≡ Some l → Told (word (codes "rule") ∷ ts) l
rule_told [] l e = absurd (none_some e)
rule_told (a ∷ []) l e = absurd (none_some e)
rule_told (a ∷ b ∷ ts) l e =
    let r = rule_some (option_map statement (name_of b)) (number_of a) ts l e in
    let s = map_some (name_of b) statement r.0 r.3 in
    let n = name_is b s.0 s.1 in
    let body = body_told ts r.2 r.5 in
    subst (Told (word (codes "rule") ∷ a ∷ b ∷ ts)) (ap (λ f. rule f r.1 r.2) s.2 ∙ r.6) (and_from (is_name s.0) (list_all term_named r.2) n.0 body.0, ap (λ x. word (codes "rule") ∷ x ∷ word s.0 ∷ body_spelled r.2) (number_is a r.1 r.4) ∙ ap (λ x. word (codes "rule") ∷ a ∷ x ∷ body_spelled r.2) n.1 ∙ ap (λ x. word (codes "rule") ∷ a ∷ b ∷ x) body.1)

bound_told : (ts : List Spell) (l : Content) → bound_line_of ts ≡ Some l → Told (word (codes "bound") ∷ ts) l
bound_told [] l e = absurd (none_some e)
bound_told (a ∷ []) l e = absurd (none_some e)
bound_told (a ∷ b ∷ ts) l e =
    let r = rule_some (option_map bound (number_of a)) (number_of b) ts l e in
    let s = map_some (number_of a) bound r.0 r.3 in
    let body = body_told ts r.2 r.5 in
    subst (Told (word (codes "bound") ∷ a ∷ b ∷ ts)) (ap (λ f. rule f r.1 r.2) s.2 ∙ r.6) (body.0, ap (λ x. word (codes "bound") ∷ x ∷ number r.1 ∷ body_spelled r.2) (number_is a s.0 s.1) ∙ ap (λ x. word (codes "bound") ∷ a ∷ x ∷ body_spelled r.2) (number_is b r.1 r.4) ∙ ap (λ x. word (codes "bound") ∷ a ∷ b ∷ x) body.1)

line_told : (ts : List Spell) (l : Content) → line_of ts ≡ Some l → Told ts l
line_told [] l e = absurd (none_some e)
line_told (word w ∷ ts) l e =
    let at : (c : List ℕ) → c ≡ w → Told (word c ∷ ts) l → Told (word w ∷ ts) l = λ c p t. subst (λ x. Told (word x ∷ ts) l) p t in
    ⊎_elim (λ p. at (codes "scale") p.0 (scale_told ts l p.1)) (λ e1. ⊎_elim (λ p. at (codes "name") p.0 (name_told ts l p.1)) (λ e2. ⊎_elim (λ p. at (codes "rule") p.0 (rule_told ts l p.1)) (λ e3. ⊎_elim (λ p. at (codes "bound") p.0 (bound_told ts l p.1)) (λ e4. absurd (none_some e4)) (chosen w (codes "bound") (bound_line_of ts) _ l e3)) (chosen w (codes "rule") (rule_line_of ts) _ l e2)) (chosen w (codes "name") (name_line_of ts) _ l e1)) (chosen w (codes "scale") (scale_line_of ts) _ l e)
line_told (number w ∷ ts) l e = absurd (none_some e)
line_told (mark m ∷ ts) l e = absurd (none_some e)

-- what spells the tokens is found

term_found : (t : Item) → term_named t ≡ true → term_of (term_spelled t) ≡ Some t
term_found (plain n) h = ap (option_map plain) (cond-true (is_name n) (Some n) None h)
term_found (over n d) h = ap (option_and_then (λ m. Some (over m d))) (cond-true (is_name n) (Some n) None h)
term_found (lacking n) h = ap (option_map lacking) (cond-true (is_name n) (Some n) None h)

parts_found : (t : Item) (us : List Item) → slice_split comma (terms_spelled t us) ≡ term_spelled t ∷ map term_spelled us
parts_found (plain n) [] = refl
parts_found (over n d) [] = refl
parts_found (lacking n) [] = refl
parts_found (plain n) (u ∷ us) = ap (λ l. term_spelled (plain n) ∷ l) (parts_found u us)
parts_found (over n d) (u ∷ us) = ap (λ l. term_spelled (over n d) ∷ l) (parts_found u us)
parts_found (lacking n) (u ∷ us) = ap (λ l. term_spelled (lacking n) ∷ l) (parts_found u us)

terms_found : (ts : List Item) → list_all term_named ts ≡ true → traversed term_of (map term_spelled ts) ≡ Some ts
terms_found [] h = refl
terms_found (t ∷ ts) h =
    let p = and_parts (term_named t) (list_all term_named ts) h in
    ap (option_and_then (λ y. option_map (λ ys. y ∷ ys) (traversed term_of (map term_spelled ts)))) (term_found t p.0) ∙ ap (option_map (λ ys. t ∷ ys)) (terms_found ts p.1)

body_found : (body : List Item) → list_all term_named body ≡ true → body_of (body_spelled body) ≡ Some body
body_found [] h = refl
body_found (t ∷ us) h = ap (traversed term_of) (parts_found t us) ∙ terms_found (t ∷ us) h

line_found : (l : Content) → named l ≡ true → line_of (spelled l) ≡ Some l
line_found (scale Luk d) h = refl
line_found (scale Godel d) h = refl
line_found (scale Hours d) h = refl
line_found (name n) h = ap (option_map name) (cond-true (is_name n) (Some n) None h)
line_found (rule (statement n) w body) h =
    let p = and_parts (is_name n) (list_all term_named body) h in
    ap (λ o. rule_with (option_map statement o) (Some w) (body_spelled body)) (cond-true (is_name n) (Some n) None p.0) ∙ ap (option_map (rule (statement n) w)) (body_found body p.1)
line_found (rule (bound d) w body) h = ap (option_map (rule (bound d) w)) (body_found body h)

shaped_by : (ts : List Spell) (o : Option Content) → line_of ts ≡ o → Shaped ts o
shaped_by ts None e = λ l h s. none_some (sym e ∙ sym (ap line_of s) ∙ line_found l h)
shaped_by ts (Some l) e = line_told ts l e

pub line_shaped : (ts : List Spell) → Shaped ts (line_of ts)
line_shaped ts = shaped_by ts (line_of ts) refl

-- tokens have one shape
pub shaped_once : (ts : List Spell) (o : Option Content) → Shaped ts o → o ≡ line_of ts
shaped_once ts (Some l) h = sym (line_found l h.0) ∙ ap line_of h.1
shaped_once ts None h = go (line_of ts) refl
  where
    go : (o : Option Content) → line_of ts ≡ o → None ≡ line_of ts
    go None e = sym e
    go (Some l) e = let t = line_told ts l e in absurd (h l t.0 t.1)
