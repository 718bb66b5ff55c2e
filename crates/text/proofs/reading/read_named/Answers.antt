use Rattle.std.proofs.Common.{◌≡◌, length, Ok, Err, sym, refl, ap, ◌∙◌, subst}
use Rattle.std.proofs.lemmas.Result.{err_from_is_err_and}
use Rattle.book.specs.View.{ledger_of}
use Rattle.text.specs.Drafting.{state_of}
use Rattle.text.specs.Meaning.{rows_read, Means, Did, Reads}
use Rattle.text.specs.Naming.{less_names}
use Rattle.text.specs.Parsing.{line_of}
use Rattle.text.specs.Rows.{lines_of, place_at}
use Rattle.text.specs.declared.faults.LineFault.TheVariants.{Shape}
use Rattle.text.specs.declared.faults.ReadFault.TheVariants.{Line}
use Rattle.text.proofs.Outcomes.{fit, reads_long, reads_unread, reads_stopped, means_none, means_some, means_once}
use Rattle.text.proofs.Naming.{declares, declares_once, none_named}
use Rattle.text.proofs.reading.read_named.Goals as goal

pub returns-in_err-check_length : goal.returns-in_err-check_length
returns-in_err-check_length c =
    let p = err_from_is_err_and c.from_residual.result c.from_residual.ensures.1 in
    record { only = means_once c.args.text.now; answer = reads_long c.args.text.now _ _ refl c.in_err-check_length.field-0.0 (less_names c.from_residual.result) c.in_err-check_length.ensures (ap less_names (p.1 ∙ ap Err p.2)); names = none_named _ c.from_residual.result _ (p.1 ∙ ap Err p.2); names_only = declares_once c.args.text.now }

pub read_lines-requires : goal.read_lines-requires
read_lines-requires c = fit c.args.text.now c.in_ok-check_length.field-0 c.in_ok-check_length.ensures

pub returns-in_err-read_lines : goal.returns-in_err-read_lines
returns-in_err-read_lines c =
    let p = err_from_is_err_and c.from_residual-in_err-read_lines.result c.from_residual-in_err-read_lines.ensures.1 in
    record { only = means_once c.args.text.now; answer = reads_stopped c.args.text.now _ _ refl c.in_ok-check_length.field-0 c.in_ok-check_length.ensures c.in_err-read_lines.field-0.0 (state_of c.read_lines.new.draft) (less_names c.from_residual-in_err-read_lines.result) (subst (λ s. Did (rows_read line_of s (lines_of c.args.text.now)) (Err c.in_err-read_lines.field-0.0) (state_of c.read_lines.new.draft)) c.in_ok-draft.ensures c.in_err-read_lines.ensures) (ap less_names (p.1 ∙ ap Err p.2)); names = none_named _ c.from_residual-in_err-read_lines.result _ (p.1 ∙ ap Err p.2); names_only = declares_once c.args.text.now }

pub returns-in_default : goal.returns-in_default
returns-in_default c =
    let ran = sym (ap (λ s. rows_read line_of s (lines_of c.args.text.now)) c.in_ok-draft.ensures) ∙ c.in_ok-read_lines.ensures in
    let fault : c.into.result ≡ Line (Shape (place_at c.args.text.now (length c.args.text.now))) = c.into.ensures ∙ ap (λ p. Line (Shape p)) c.place_of.ensures in
    record {
      only = means_once c.args.text.now;
      answer = subst (λ f. Reads c.args.text.now (ledger_of c.args.book.now) (Err f) (ledger_of c.args.book.now)) (sym fault) (means_none c.args.text.now c.in_ok-check_length.field-0 c.in_ok-check_length.ensures (state_of c.read_lines.new.draft) ran c.in_default.is, refl);
      names = tt;
      names_only = declares_once c.args.text.now;
    }

pub returns : goal.returns
returns c =
    let ran = sym (ap (λ s. rows_read line_of s (lines_of c.args.text.now)) c.in_ok-draft.ensures) ∙ c.in_ok-read_lines.ensures in
    let st = state_of c.read_lines.new.draft in
    record {
      only = means_once c.args.text.now;
      answer = subst (λ r. Means c.args.text.now (Ok (record { reading = r; ledger = st.ledger }))) (sym c.reading_of-reading.ensures) (means_some c.args.text.now c.in_ok-check_length.field-0 c.in_ok-check_length.ensures st ran c.in-Some.scale c.in-Some.is);
      names = declares c.args.text.now st ran;
      names_only = declares_once c.args.text.now;
    }

pub returns-in_err-draft : goal.returns-in_err-draft
returns-in_err-draft c =
    let p = err_from_is_err_and c.from_residual-in_err-draft.result c.from_residual-in_err-draft.ensures.1 in
    record { only = means_once c.args.text.now; answer = reads_unread c.args.text.now _ _ refl (less_names c.from_residual-in_err-draft.result) (ap less_names (p.1 ∙ ap Err p.2)); names = none_named _ c.from_residual-in_err-draft.result _ (p.1 ∙ ap Err p.2); names_only = declares_once c.args.text.now }
