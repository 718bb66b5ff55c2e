use Rattle.std.proofs.Common.{ℕ, ◌*◌, ◌≤◌, take, sym, refl, ◌∙◌, subst, arith}
use Rattle.scale.specs.Meaning.{Laws}
use Rattle.solve.specs.Programs.{clauses_of}
use Rattle.theory.specs.Equivalence.{facts, addendum}
use Rattle.theory.proofs.Pairs.{strongly_equivalent}
use Rattle.engine.specs.Comparisons.{places, Told}
use Rattle.engine.specs.declared.answers.Comparison.TheVariants.{Unequal}
use Rattle.engine.specs.declared.answers.Which.{Which}
use Rattle.engine.proofs.Finding.{lower_long}
use Rattle.engine.proofs.Telling.{Written, program_lawful, program_some, told_model, told_pair}
use Rattle.engine.proofs.Zeros.{zeros_start, zeros_setting}
use Rattle.engine.proofs.pairs.Search.tell.Goals as goal

pub find_difference-requires : goal.find_difference-requires
find_difference-requires g c =
    let p = c.args.self.now in
    let m = g.S.Scale.meaning p.scale.now in
    let few : p.statements ≤ 16 = omega (arith, p.first.few, p.first_size) in
    record { setting = zeros_setting p.statements few m (program_some m p.first p.first_scale); start = zeros_start p.statements few m.levels }

pub returns-in-None : goal.returns-in-None
returns-in-None g c =
    let p = c.args.self.now in
    let m = g.S.Scale.meaning p.scale.now in
    let n = p.statements in
    let laws : Laws m = g.met.S.Scale.lawful p.scale.now (program_some m p.first p.first_scale) in
    (refl, strongly_equivalent laws n (clauses_of p.first) (clauses_of p.second) (program_lawful m n p.first p.first_scale p.first_size) (program_lawful m n p.second p.second_scale p.second_size) c.in-None.ensures)

pub returns-in-Some-ModelOf : goal.returns-in-Some-ModelOf
returns-in-Some-ModelOf g c =
    let p = c.args.self.now in
    let m = g.S.Scale.meaning p.scale.now in
    let n = p.statements in
    let laws : Laws m = g.met.S.Scale.lawful p.scale.now (program_some m p.first p.first_scale) in
    let upper = c.find_difference.new.upper in
    let book = c.in-Some-ModelOf.book in
    let before = places c.args.addendum.now c.args.setting.now in
    let after = places c.write_facts.new.addendum c.copy_from_slice.new.self in
    let found = rw c.in-Some-ModelOf.field-0-is at c.in-Some-ModelOf.ensures in
    let size = found.0.long in
    let written : Written before after (facts n upper) upper n = record {
      rows = rw size at c.write_facts.ensures.written;
      setting = c.copy_from_slice.ensures.after;
      size = c.write_facts.ensures.size;
      rest = rw size at c.write_facts.ensures.rest;
    } in
    let told = told_model laws n (clauses_of p.first) (clauses_of p.second) (program_lawful m n p.first p.first_scale p.first_size) (program_lawful m n p.second p.second_scale p.second_size) book upper before after found written in
    subst (λ (k : ℕ). Told m n (clauses_of p.first) (clauses_of p.second) before after (Unequal book k)) (sym (c.copy_from_slice.ensures.len ∙ c.requires.long)) told

pub returns-in-Some-PairOf : goal.returns-in-Some-PairOf
returns-in-Some-PairOf g c =
    let p = c.args.self.now in
    let m = g.S.Scale.meaning p.scale.now in
    let n = p.statements in
    let laws : Laws m = g.met.S.Scale.lawful p.scale.now (program_some m p.first p.first_scale) in
    let row = c.in-Some-PairOf.lower in
    let lower = take n row in
    let upper = c.find_difference.new.upper in
    let book = c.in-Some-PairOf.book in
    let count = c.write_addendum-rules.result in
    let before = places c.args.addendum.now c.args.setting.now in
    let after = places c.write_addendum-rules.new.addendum c.copy_from_slice-in-Some-PairOf.new.self in
    let found = rw c.in-Some-PairOf.field-0-is at c.in-Some-PairOf.ensures in
    let size = lower_long m n upper (clauses_of p.first) (clauses_of p.second) book row found.1 in
    let written : Written before after (addendum n lower upper) upper count = record {
      rows = rw size at c.write_addendum-rules.ensures.written;
      setting = c.copy_from_slice-in-Some-PairOf.ensures.after;
      size = c.write_addendum-rules.ensures.size;
      rest = c.write_addendum-rules.ensures.rest;
    } in
    let few : count ≤ 2 * n = rw size at c.write_addendum-rules.ensures.few in
    let told = told_pair laws n (clauses_of p.first) (clauses_of p.second) (program_lawful m n p.first p.first_scale p.first_size) (program_lawful m n p.second p.second_scale p.second_size) book row upper before after count found few written in
    subst (λ (w : Which). Told m n (clauses_of p.first) (clauses_of p.second) before after (Unequal w count)) (sym c.other.ensures) told
