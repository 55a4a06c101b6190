use Rattle.std.proofs.Common.{◌+◌, ◌*◌, ◌++◌, arith, ap, ◌∙◌}
use Rattle.ach_fields.specs.Digits.{digits}
use Rattle.ach_fields.specs.Ymd.{date_text}
use Rattle.ach_fields.proofs.Digits.{digits-split}
use Rattle.ach_fields.proofs.Dates.{IsDate, date-parts}
use Rattle.ach_fields.proofs.ymd.date_text.Goals as goal

pub returns : goal.returns
unfolding date_text
returns c =
    let parts : IsDate c.args.yy c.args.mm c.args.dd = date-parts _ _ _ c.requires in
    c.put_digits.ensures ∙ (λ i. digits 6 ((c.from.ensures i * 100 + c.from-2.ensures i) * 100 + c.from-3.ensures i))
    ∙ digits-split 4 2 (c.args.yy * 100 + c.args.mm) c.args.dd (omega (arith, parts.day))
    ∙ ap (λ s. s ++ digits 2 c.args.dd) (digits-split 2 2 c.args.yy c.args.mm (omega (arith, parts.month)))
