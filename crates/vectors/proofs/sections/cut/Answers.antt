use Rattle.std.proofs.Common.{take, sym, subst, rules}
use Rattle.vectors.specs.Sections.{Parted}
use Rattle.vectors.proofs.Cutting.{CutTo, cut_more, cut_all}
use Rattle.vectors.proofs.sections.cut.Goals as goal

pub loop-rest-preserved : goal.loop-rest-preserved
loop-rest-preserved c =
    let bytes = c.args.bytes.now in
    let rest = c.loop-rest.rest.now in
    let n = c.section_len.result in
    let P = λ (l : _). Parted l c.new.result in
    let parted : Parted (take n rest) c.new.result = subst P c.split_at.ensures.front c.new.ensures in
    let Q = λ (l : _). CutTo bytes l c.push.new.self.items in
    subst Q (sym c.split_at.ensures.back) (cut_more bytes rest n _ _ c.new.result c.loop-rest.invariant c.in_ok-push.ensures.items c.section_len.ensures parted)

pub returns : goal.returns
returns c = cut_all c.args.bytes.now c.loop-rest.rest.now _ (search rules) c.loop-rest.invariant
