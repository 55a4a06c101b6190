use Rattle.std.proofs.Common.{◌≡◌, length}
use Rattle.std.specs.List.{list_all}
use Rattle.http_message.specs.Input.{is_line_end_byte}
use Rattle.http_message.proofs.reading.is_blank.Given as goal

abbrev pub invariant-loop-unread : goal.invariant-loop-unread
invariant-loop-unread l = list_all is_line_end_byte l.unread ≡ list_all is_line_end_byte l.fn.bytes

abbrev pub decreases-loop-unread : goal.decreases-loop-unread
decreases-loop-unread l = length l.unread
