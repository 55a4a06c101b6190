use Rattle.std.proofs.Common.{◌≡◌, ◌<◌, ◌≤◌, ◌∙◌, sym, ap, map, set, get_or, length, arith}
use Rattle.std.proofs.lemmas.List.{map-set, get_or-map, length-map}
use Rattle.memory_store.specs.Kept.{row_in}
use Rattle.memory_store.proofs.Changed.{changed_here, changed_past}
use Rattle.memory_store.proofs.changes.change_at.Goals as goal

pub returns-then-place-kept : goal.returns-then-place-kept
returns-then-place-kept g c =
    let kept = c.args.kept.now in
    let old = get_or kept c.args.place c.index-kept-place.result in
    let within : c.args.place < length (map row_in kept) = omega (arith, length-map kept row_in, c.if-place-kept.true) in
    let there : row_in old ≡ get_or (map row_in kept) c.args.place (row_in old) = sym (get_or-map row_in kept c.args.place c.index-kept-place.result (row_in old) c.if-place-kept.true) in
    map-set row_in kept c.args.place c.change.new.kept
    ∙ ap (set (map row_in kept) c.args.place) c.change.ensures
    ∙ sym (changed_here (g.C.Change.makes c.args.change.now) (map row_in kept) c.args.place (row_in old) within there)

pub returns-else-place-kept : goal.returns-else-place-kept
returns-else-place-kept g c =
    let past : length (map row_in c.args.kept.now) ≤ c.args.place = omega (arith, length-map c.args.kept.now row_in, c.if-place-kept.false) in
    sym (changed_past (g.C.Change.makes c.args.change.now) (map row_in c.args.kept.now) c.args.place past)
