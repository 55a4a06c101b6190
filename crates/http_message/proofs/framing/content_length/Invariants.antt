use Rattle.std.proofs.Common.{◌≡◌, ◌≤◌, min, length}
use Rattle.std.specs.List.{list_all}
use Rattle.std.specs.Char.{is_ascii_digit}
use Rattle.std.specs.Str.Parse.{digits_value, digits_value_after}
use Rattle.http_message.proofs.framing.content_length.Given as goal

abbrev pub invariant-loop-unread : goal.invariant-loop-unread
invariant-loop-unread l = record {
  all : list_all is_ascii_digit l.unread ≡ list_all is_ascii_digit l.fn.digits;
  bound : l.value ≤ 4194305;
  value : min (digits_value_after 10 l.value l.unread) 4194305 ≡ min (digits_value 10 l.fn.digits) 4194305;
}

abbrev pub decreases-loop-unread : goal.decreases-loop-unread
decreases-loop-unread l = length l.unread
