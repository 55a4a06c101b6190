use Rattle.std.proofs.Common.{refl, length}
use Rattle.remembering_store.proofs.known.Known.remember_count.Goals as goal

pub returns : goal.returns
returns c = λ b is right. record {
  identity = right.identity;
  operator_key = right.operator_key;
  day = right.day;
  holidays = right.holidays;
  companies = right.companies;
  listed = right.listed;
  counts = c.set.ensures (λ of. length (b.rows of)) (λ of. length (b.rows of)) is (λ of other. refl) right.counts;
  sums = right.sums;
  held = right.held;
}
