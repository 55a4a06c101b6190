use Rattle.desk_intake.proofs.Keys.{adds}
use Rattle.desk_intake.proofs.returned_entries.ReturnedEntries.add.Goals as goal

pub returns : goal.returns
returns c = λ es has.
    let told = c.in_ok-is_new.ensures in
    adds c.args.self.now.keys c.insert.new.self c.args.entry.now es _ told.added told.updates told.unchanged has
