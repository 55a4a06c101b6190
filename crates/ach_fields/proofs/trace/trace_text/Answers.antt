use Rattle.std.proofs.Common.{◌+◌, ◌*◌, arith, ◌∙◌}
use Rattle.ach_fields.specs.Digits.{digits}
use Rattle.ach_fields.specs.Trace.{trace_text}
use Rattle.ach_fields.proofs.Digits.{digits-split}
use Rattle.ach_fields.proofs.trace.trace_text.Goals as goal

pub returns : goal.returns
unfolding trace_text
returns c =
    c.put_digits.ensures ∙ (λ i. digits 15 (c.from.ensures i * 10_000_000 + c.from-2.ensures i))
    ∙ digits-split 8 7 c.args.dfi c.args.sequence (omega arith)
