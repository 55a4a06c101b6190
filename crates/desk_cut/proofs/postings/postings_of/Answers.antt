use Rattle.std.proofs.Common.{◌≡◌, ◌++◌, map, zip, sym, ap, ◌∙◌, arith, inl, inr, length, refl}
use Rattle.std.specs.List.{flat_map}
use Rattle.std.proofs.lemmas.List.{append-nil, nil_from_length}
use Rattle.std.proofs.lemmas.Slice.Zip.{length-zip, either_empty_from_Zip}
use Rattle.desk_accounts.specs.Laws.{pairs}
use Rattle.desk_cut.specs.Numbers.{line_by}
use Rattle.desk_cut.specs.Sent.{sending_in}
use Rattle.desk_cut.proofs.postings.postings_of.Goals as goal

pub returns : goal.returns
returns c =
    let sent = c.loop-sending.sending-iterator.a.rest.now in
    let loads = c.loop-sending.sending-iterator.b.rest.now in
    let none : length (zip (map sending_in sent) loads) ≡ 0 = elim (either_empty_from_Zip c.loop-sending.sending-iterator c.next.new.self _ c.in-None.is c.next.ensures.steps) [
      | inl e ↦ let both = length-zip (map sending_in sent) loads in let few : length (map sending_in sent) ≡ 0 = rw e refl in omega arith
      | inr e ↦ let both = length-zip (map sending_in sent) loads in let few : length loads ≡ 0 = rw e refl in omega arith
    ] in
    sym (append-nil c.loop-sending.postings.items)
    ∙ ap (λ z. c.loop-sending.postings.items ++ pairs (flat_map line_by z)) (sym (nil_from_length (zip (map sending_in sent) loads) none))
    ∙ c.loop-sending.invariant
