use Rattle.std.proofs.Common.{sym, ◌∙◌, arith}
use Rattle.http_message.proofs.NumberLemmas.{capped_digit, all_digits}
use Rattle.http_message.proofs.framing.content_length.Goals as goal

pub loop-unread-preserved : goal.loop-unread-preserved
loop-unread-preserved c =
    let digit = sym c.is_ascii_digit.ensures.value ∙ c.if-not-is_ascii_digit.false in
    record {
      all = all_digits _ c.in-len1-up.len_at_least digit ∙ c.loop-unread.invariant.all;
      bound = omega arith;
      value = capped_digit _ _ _ c.in-len1-up.len_at_least digit c.min-value.ensures ∙ c.loop-unread.invariant.value;
    }
