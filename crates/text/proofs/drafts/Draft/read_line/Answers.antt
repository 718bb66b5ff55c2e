use Rattle.std.proofs.Common.{◌≡◌, map, Ok, Err, vec_items, Result, sym, ap, ◌∙◌}
use Rattle.std.specs.Option.{option_map}
use Rattle.std.proofs.lemmas.Result.{err_from_is_err_and}
use Rattle.text.specs.Drafting.{state_of}
use Rattle.text.specs.Meaning.{told, obeying, row_read}
use Rattle.text.specs.Parsing.{line_of}
use Rattle.text.specs.Rows.{row}
use Rattle.text.specs.Shapes.{Content, seen_line}
use Rattle.text.specs.Tokens.{said}
use Rattle.text.specs.declared.faults.LineFault.{LineFault}
use Rattle.text.proofs.Obeying.{did_line, did_same, row_told}
use Rattle.text.proofs.drafts.Draft.read_line.Goals as goal
use Rattle.text.proofs.drafts.Draft.read_line.Goals.{After-check_line}

-- what was told of the line is what its tokens tell
heard : (c : After-check_line) (h : Result Content LineFault) → told c.args.line.now (map said c.as_slice-2.result.now) (option_map seen_line c.in_ok-shape.shape) c.args.place ≡ h → row_read line_of (state_of c.args.self.now) (row c.args.place c.args.line.now) ≡ obeying (state_of c.args.self.now) c.args.place h
heard c h is =
    row_told (state_of c.args.self.now) c.args.place c.args.line.now (vec_items c.in_ok-tokens.tokens) (option_map seen_line c.in_ok-shape.shape) h (sym c.if-is_blank.ensures) c.in_ok-tokens.ensures
    (c.in_ok-shape.ensures ∙ ap (λ l. line_of (map said l)) c.as_slice.ensures.value)
    (ap (λ l. told c.args.line.now (map said l) (option_map seen_line c.in_ok-shape.shape) c.args.place) (sym c.as_slice-2.ensures.value) ∙ is)

pub returns-in_err-said : goal.returns-in_err-said
returns-in_err-said c =
    let p = err_from_is_err_and c.from_residual-in_err-said.result c.from_residual-in_err-said.ensures.1 in
    did_line _ c.in_err-said.field-0.0 c.from_residual-in_err-said.result _ (heard (goal.at.returns-in_err-said c).After-check_line (Err c.in_err-said.field-0.0) c.in_err-said.ensures) (p.1 ∙ ap Err p.2)

pub returns : goal.returns
returns c =
    let is : told c.args.line.now (map said c.as_slice-2.result.now) (option_map seen_line c.in_ok-shape.shape) c.args.place ≡ Ok (seen_line c.in_ok-said.said) = c.in_ok-said.ensures in
    did_same _ _ c.obey.result _ (heard (goal.at.returns c).After-check_line (Ok (seen_line c.in_ok-said.said)) is) c.obey.ensures
