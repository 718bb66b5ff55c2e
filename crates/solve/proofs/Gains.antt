-- The folds of a rule's body and of what rules demand of a statement.
use Rattle.std.proofs.Common.{◌≡◌, ℕ, true, refl, map}
use Rattle.scale.specs.Meaning.{Meaning, Laws}
use Rattle.book.specs.Ledger.{Lawful, literal_fits}
use Rattle.book.specs.Rows.{clause_of}
use Rattle.book.specs.declared.rows.Rule.{Rule}
use Rattle.book.specs.declared.rule.Literal.{Literal}
use Rattle.theory.specs.Semantics.{value, body_value, share}
use Rattle.theory.proofs.Lists.{all_to_map}
use Rattle.theory.proofs.Order.{join_zero_right, join_assoc, product_top_right}
use Rattle.theory.proofs.Ranges.{Degrees, value_degree, body_degree, share_degree, gain_degree, all_within}
use Rattle.solve.proofs.Folds.{Folding}
use Rattle.solve.proofs.Parts.{gains, fits_weight}

module _ {m : Meaning} (laws : Laws m) {l u : ℕ → ℕ} (dl : Degrees m l) (du : Degrees m u) where
  pub bodies : Folding m m.product (value m l u) (body_value m l u) (λ (x : Literal). literal_fits m.levels x ≡ true)
  bodies = record {
    closed = laws.product_degree;
    assoc = laws.product_assoc;
    unit = λ a h. product_top_right laws h;
    cons = λ x xs. refl;
    worth = λ x h. value_degree laws dl du x;
    worths = λ xs h. body_degree laws dl du xs;
  }

  pub demands : (n s : ℕ) → Folding m m.join (λ (r : Rule). share m l u (clause_of r) s) (gains m l u s) (λ r. Lawful m.levels n (clause_of r))
  demands n s = record {
    closed = laws.join_degree;
    assoc = λ a b c ha hb hc. join_assoc laws ha hb hc;
    unit = λ a h. join_zero_right laws h;
    cons = λ r rs. refl;
    worth = λ r h. share_degree laws dl du (clause_of r) (fits_weight m.levels (clause_of r) h.degrees) s;
    worths = λ rs h. gain_degree laws n dl du (map clause_of rs) (all_within m.levels n (map clause_of rs) (all_to_map (Lawful m.levels n) clause_of rs h)) s;
  }
