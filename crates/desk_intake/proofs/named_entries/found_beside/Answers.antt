use Rattle.std.proofs.Common.{◌++◌, ◌∙◌, ap, map, sym}
use Rattle.std.proofs.lemmas.List.{append-nil}
use Rattle.std.proofs.lemmas.Slice.Zip.{either_empty_from_Zip}
use Rattle.desk_intake.specs.Resolutions.{found_item_as}
use Rattle.desk_book.proofs.Zips.{zip_ended}
use Rattle.desk_intake.proofs.named_entries.found_beside.Goals as goal

pub returns : goal.returns
returns c =
    let ended = zip_ended _ _ (either_empty_from_Zip c.loop-item.item-iterator c.next.new.self _ c.in-None.is c.next.ensures.steps) in
    sym (append-nil (map found_item_as c.loop-item.found.items)) ∙ ap (λ z. map found_item_as c.loop-item.found.items ++ z) (sym ended) ∙ c.loop-item.invariant
