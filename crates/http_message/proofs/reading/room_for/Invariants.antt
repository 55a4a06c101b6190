use Rattle.std.proofs.Common.{◌≡◌, ◌-◌, ◌≤◌, min, length, take}
use Rattle.http_message.proofs.reading.room_for.Given as goal

abbrev pub invariant-loop-room : goal.invariant-loop-room
invariant-loop-room l = record {
  few : length l.room.items ≤ l.size;
  whole : min l.size (length l.come) ≤ length l.room.items;
  start : take (min l.size (length l.come)) l.room.items ≡ take l.size l.come;
}

abbrev pub decreases-loop-room : goal.decreases-loop-room
decreases-loop-room l = l.size - length l.room.items
