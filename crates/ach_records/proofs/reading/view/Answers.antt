use Rattle.std.proofs.Common.{◌≡◌, length, rules, sym}
use Rattle.ach_records.proofs.Records.{is_record}
use Rattle.ach_records.proofs.reading.view.Goals as goal

pub record_of-requires : goal.record_of-requires
record_of-requires c =
    let long : length c.args.text.now ≡ 94 = search rules in
    rw c.kind_of.ensures (is_record c.args.text.now long (sym c.in-None.ensures))
