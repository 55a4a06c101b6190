use Rattle.std.proofs.Common.{◌≡◌, ◌≤◌, ◌+◌, ◌*◌, ◌++◌, drop}
use Rattle.std.specs.Prelude.{vec_len, vec_capacity}
use Rattle.json.specs.Print.{escape}
use Rattle.http_json.proofs.quoted.put_bytes.Given as goal

abbrev pub invariant-loop-byte : goal.invariant-loop-byte
invariant-loop-byte l = record {
  items : l.initial.text.items ++ escape l.value ≡ l.text.items ++ escape (drop l.byte-index l.value);
  len : vec_len l.text ≤ vec_len l.initial.text + 6 * l.byte-index;
  capacity : vec_capacity l.initial.text ≤ vec_capacity l.text;
}
