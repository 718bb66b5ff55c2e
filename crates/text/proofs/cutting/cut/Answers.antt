use Rattle.std.proofs.Common.{◌≡◌, ◌+◌, ◌∷◌, ◌++◌, [], List, map, length, max, drop, vec_items, sym, ap, ap₂, ◌∙◌, arith}
use Rattle.std.proofs.lemmas.List.{map_push}
use Rattle.std.proofs.lemmas.List.Sums.{prefix_len-le-length}
use Rattle.text.specs.Bytes.{wordly}
use Rattle.text.specs.Tokens.{Tok, seen, token, run_spell, tokens_of}
use Rattle.text.proofs.Cuts.{word_more, mark_more, gap_more}
use Rattle.text.proofs.cutting.cut.Goals as goal
use Rattle.text.proofs.cutting.cut.Goals.{Joined-is_word_byte, then-is_word_byte+in_ok-push, else-is_word_byte+in-Some+in_ok-push-2, else-is_word_byte+in_default-mark_of}

pub split_at-requires : goal.split_at-requires
split_at-requires c = omega (arith, c.max.ensures, c.word_len.ensures, prefix_len-le-length wordly c.loop-rest.rest.now, c.in-len1-up.len_at_least)

pub loop-rest-preserved : goal.loop-rest-preserved
loop-rest-preserved c =
    let rest = c.loop-rest.rest.now in
    let i = c.loop-rest.offset in
    let k = c.max.result in
    let done = map seen (vec_items c.loop-rest.tokens) in
    let piece = c.max.ensures ∙ ap (λ n. max n 1) c.word_len.ensures in
    let after : (ts : List Tok) → ts ++ tokens_of (i + length c.split_at.result.0.now) c.split_at.result.1.now ≡ ts ++ tokens_of (i + k) (drop k rest) = λ ts. ap₂ (λ n l. ts ++ tokens_of (i + n) l) c.split_at.ensures.front_len c.split_at.ensures.back in (
      omega (arith, c.loop-rest.invariant.0, c.split_at.ensures.front_len, c.split_at.ensures.back_len),
      elim c.if-is_word_byte.branch [
        | then-is_word_byte+in_ok-push w ↦
            ap (λ v. map seen (vec_items v) ++ tokens_of (i + length c.split_at.result.0.now) c.split_at.result.1.now) w.tokens-is ∙ after (map seen (vec_items w.push.new.self)) ∙ ap (λ l. l ++ tokens_of (i + k) (drop k rest)) (ap (map seen) w.in_ok-push.ensures.items ∙ map_push seen (vec_items c.loop-rest.tokens) w.word_token.result ∙ ap (λ t. done ++ t ∷ []) (w.word_token.ensures ∙ ap (λ l. token (run_spell l) i) c.split_at.ensures.front)) ∙ word_more i rest k c.in-len1-up.len_at_least piece done _ c.loop-rest.invariant.1 (sym w.if-is_word_byte.ensures)
        | else-is_word_byte+in-Some+in_ok-push-2 w ↦
            ap (λ v. map seen (vec_items v) ++ tokens_of (i + length c.split_at.result.0.now) c.split_at.result.1.now) w.tokens-is ∙ after _ ∙ ap (λ l. l ++ tokens_of (i + k) (drop k rest)) (ap (map seen) w.in_ok-push-2.ensures.items ∙ map_push seen (vec_items c.loop-rest.tokens) _) ∙ mark_more i rest k c.in-len1-up.len_at_least piece done _ c.loop-rest.invariant.1 (sym w.if-is_word_byte.ensures) w.in-Some.mark (sym w.in-Some.ensures)
        | else-is_word_byte+in_default-mark_of w ↦
            ap (λ v. map seen (vec_items v) ++ tokens_of (i + length c.split_at.result.0.now) c.split_at.result.1.now) w.tokens-is ∙ after done ∙ gap_more i rest k c.in-len1-up.len_at_least piece done _ c.loop-rest.invariant.1 (sym w.if-is_word_byte.ensures) (sym w.in_default-mark_of.ensures)
      ],
    )
