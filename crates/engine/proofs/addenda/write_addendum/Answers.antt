use Rattle.std.proofs.Common.{◌≡◌, ℕ, ◌+◌, ◌≤◌, ◌++◌, map, length, take, drop, sym, ap, ◌∙◌, arith}
use Rattle.std.proofs.lemmas.List.{length-append}
use Rattle.book.specs.Rows.{clause_of}
use Rattle.theory.specs.Equivalence.{addendum, cycle, differing}
use Rattle.engine.proofs.Writing.{differing_few, both_written, rest_after, written_count}
use Rattle.engine.proofs.addenda.write_addendum.Goals as goal

pub write_cycle-requires : goal.write_cycle-requires
write_cycle-requires c =
    let few = differing_few c.args.lower.now c.args.upper.now (length c.args.lower.now) in
    let all = ap length (c.deref.ensures.0 ∙ c.differing-statements.ensures) in
    record { room = omega arith }

pub returns : goal.returns
returns c =
    let lower = c.args.lower.now in
    let upper = c.args.upper.now in
    let n = length lower in
    let k = c.len.result in
    let front = c.write_facts.new.addendum in
    let back = c.write_cycle.new.addendum in
    let statements = c.deref.ensures.0 ∙ c.differing-statements.ensures in
    let few = differing_few lower upper n in
    let count : length c.deref.result.now ≡ k = ap length c.deref.ensures.0 ∙ sym c.len.ensures.value in
    let short : k ≤ n = omega (arith, ap length statements) in
    let long : length front ≡ n = c.write_facts.ensures.size ∙ c.split_at_mut-facts.ensures.front_len in
    let linked : map clause_of (take k back) ≡ cycle lower upper (differing n lower upper) = ap (λ (j : ℕ). map clause_of (take j back)) (sym count) ∙ c.write_cycle.ensures.written ∙ ap (cycle lower upper) statements in
    let rest : drop k back ≡ drop k (drop n c.args.addendum.now) = ap (λ (j : ℕ). drop j back) (sym count) ∙ c.write_cycle.ensures.rest ∙ ap (λ (j : ℕ). drop j c.split_at_mut-facts.result.1.now) count ∙ ap (drop k) c.split_at_mut-facts.ensures.back in
    let written : map clause_of (take (n + k) (front ++ back)) ≡ addendum n lower upper = both_written n k front back long _ _ c.write_facts.ensures.written linked in
    let size : length (front ++ back) ≡ length c.args.addendum.now = omega (arith, length-append front back) in
    record {
      count = written_count (front ++ back) (n + k) (addendum n lower upper) (omega arith) written;
      written = written;
      rest = rest_after n k front back long c.args.addendum.now rest;
      size = size;
      few = omega arith;
    }
