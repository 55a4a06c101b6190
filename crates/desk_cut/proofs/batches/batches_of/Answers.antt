use Rattle.std.proofs.Common.{◌≡◌, ◌++◌, map, zip, sym, ap, ◌∙◌, arith, inl, inr, length, refl}
use Rattle.std.proofs.lemmas.List.{append-nil, nil_from_length}
use Rattle.std.proofs.lemmas.Slice.Zip.{length-zip, either_empty_from_Zip}
use Rattle.desk_history.specs.Sendings.{batch_of}
use Rattle.desk_cut.specs.Sent.{sending_in, batch_in}
use Rattle.desk_cut.proofs.batches.batches_of.Goals as goal

pub returns : goal.returns
returns c =
    let ranges = c.loop-range.range-iterator.a.rest.now in
    let sent = c.loop-range.range-iterator.b.rest.now in
    let none : length (zip ranges (map sending_in sent)) ≡ 0 = elim (either_empty_from_Zip c.loop-range.range-iterator c.next.new.self _ c.in-None.is c.next.ensures.steps) [
      | inl e ↦ rw e refl
      | inr e ↦ let both = length-zip ranges (map sending_in sent) in let few : length (map sending_in sent) ≡ 0 = rw e refl in omega arith
    ] in
    sym (append-nil (map batch_in c.loop-range.batches.items))
    ∙ ap (λ z. map batch_in c.loop-range.batches.items ++ map batch_of z) (sym (nil_from_length (zip ranges (map sending_in sent)) none))
    ∙ c.loop-range.invariant
