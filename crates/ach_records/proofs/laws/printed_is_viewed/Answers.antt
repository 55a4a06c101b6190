use Rattle.ach_records.proofs.Printed.{printed_is_viewed}
use Rattle.ach_records.proofs.laws.printed_is_viewed.Goals as goal

pub returns : goal.returns
returns c = printed_is_viewed
