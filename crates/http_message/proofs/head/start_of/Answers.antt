use Rattle.std.proofs.Common.{length, arith, ap}
use Rattle.std.proofs.lemmas.List.{length-map, length-take}
use Rattle.http_message.proofs.StreamLemmas.{full_never, large_never}
use Rattle.http_message.proofs.head.start_of.Goals as goal

pub returns-then-head-gt-MAX_HEAD : goal.returns-then-head-gt-MAX_HEAD
returns-then-head-gt-MAX_HEAD c =
    let holds = rw c.in-Ok-Complete.field-0-is at c.in-Ok-Complete.ensures.complete in
    large_never _ _ holds.0 holds.1.reads (omega (arith, holds.1.len))

pub returns-else-head-gt-MAX_HEAD : goal.returns-else-head-gt-MAX_HEAD
returns-else-head-gt-MAX_HEAD c =
    let holds = rw c.in-Ok-Complete.field-0-is at c.in-Ok-Complete.ensures.complete in
    let within = rw c.in-Ok-Complete.field-0-is at c.in-Ok-Complete.ensures.within in
    let sizes = simp (length-map, length-take) at (ap length holds.1.fields) in (
      holds.0,
      record {
        opens = record {
          reads = holds.1.reads;
          few = omega (arith, sizes);
          short = omega (arith, holds.1.len);
        };
        parts = holds.1;
        within = within;
      },
    )

pub returns-else-bytes-lt-MAX_HEAD : goal.returns-else-bytes-lt-MAX_HEAD
returns-else-bytes-lt-MAX_HEAD c =
    let none = rw c.in-Ok-Partial.field-0-is at c.in-Ok-Partial.ensures.partial in
    full_never _ none c.if-bytes-lt-MAX_HEAD.false
