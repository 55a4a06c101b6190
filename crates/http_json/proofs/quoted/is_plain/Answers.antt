use Rattle.std.proofs.Common.{◌≡◌, ◌∷◌, ◌+◌, drop, get_or, drop-cons, add-one}
use Rattle.std.proofs.Common.{rules}
use Rattle.http_json.proofs.Plain.{escape_from}
use Rattle.http_json.proofs.quoted.is_plain.Goals as goal

-- src/escape.rt:36:5
pub loop-byte-preserved : goal.loop-byte-preserved
loop-byte-preserved c rest =
    let s = c.args.value.now in
    let i = c.loop-byte.byte-index in
    let cut : drop i s ≡ get_or s i 0 ∷ drop (i + 1) s = search (rules, drop-cons, add-one, c.loop-byte-test.true) in
    c.loop-byte.invariant (escape_from _ _ _ cut c.if-byte-lt32.false c.if-byte-eq34.false c.if-byte-eq92.false rest)
