use Rattle.std.proofs.Common.{rules}
use Rattle.ach_fields.proofs.Dates.{date_text-is_date_text}
use Rattle.ach_fields.proofs.ymd.Ymd.new.Goals as goal

pub invariant_of-result : goal.invariant_of-result
invariant_of-result c = rw c.date_text.ensures (date_text-is_date_text c.args.yy c.args.mm c.args.dd (search rules))
