use Rattle.std.proofs.Common.{ap, ◌+◌}
use Rattle.std.specs.List.{enumerate_from}
use Rattle.std.proofs.lemmas.Slice.Zip.{either_empty_from_Zip}
use Rattle.desk_history.specs.Reports.{reported_entry}
use Rattle.desk_book.proofs.Zips.{zip_ended, made_all}
use Rattle.desk_calls.proofs.company.report.reported_entries.Goals as goal

pub returns : goal.returns
returns c =
    let ended = zip_ended _ _ (either_empty_from_Zip c.loop-entry.entry-iterator c.next.new.self _ c.in-None.is c.next.ensures.steps) in
    made_all reported_entry _ _ _ (ap (enumerate_from (c.loop-entry.index + 1)) ended) c.loop-entry.invariant.so_far
