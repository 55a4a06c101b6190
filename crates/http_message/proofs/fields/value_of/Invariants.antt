use Rattle.std.proofs.Common.{◌≡◌, map, length}
use Rattle.std.specs.Prelude.{All}
use Rattle.httparse.specs.Spans.{header_bytes, IsHeaderWithin}
use Rattle.http_message.specs.Fields.{values_of}
use Rattle.http_message.proofs.fields.value_of.Given as goal

abbrev pub invariant-loop-unread : goal.invariant-loop-unread
invariant-loop-unread l = record {
  within : All (IsHeaderWithin (length l.bytes)) l.unread;
  same : values_of l.name (map (header_bytes l.bytes) l.unread) ≡ values_of l.name l.fields;
}

abbrev pub decreases-loop-unread : goal.decreases-loop-unread
decreases-loop-unread l = length l.unread
