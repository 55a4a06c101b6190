use Rattle.std.proofs.Common.{ℕ, Option, map, subst, sym}
use Rattle.std.specs.Prelude.{if◌then◌else◌, is_none}
use Rattle.memory_store.specs.Finds.{FindWaiting}
use Rattle.memory_store.specs.Kept.{row_in}
use Rattle.memory_store.specs.Placed.{IsPlaced, FindsAll}
use Rattle.memory_store.specs.declared.place_index.KeyKind.TheVariants as kinds
use Rattle.memory_store.proofs.HeldRows.{find_open}
use Rattle.memory_store.proofs.row_places.RowPlaces.cover_held.Goals as goal

pub returns-in_ok-cover-in-Some-clause-whole : goal.returns-in_ok-cover-in-Some-clause-whole
returns-in_ok-cover-in-Some-clause-whole c = λ held.
    let rows = map row_in c.args.kept.now in
    let since = c.in-Some.since in
    let recent = c.cover-in-Some.new.self in
    let references = c.cover.new.self in
    let whole = subst (λ (d : ℕ). IsPlaced (kinds.OpenSince d) rows c.args.self.now.recent → FindsAll (kinds.OpenSince d) rows recent) c.in-Some.since-is c.in_ok-cover-in-Some.ensures.whole in
    subst (λ (o : Option ℕ). FindWaiting rows (if is_none o then c.args.self.now.companies else recent) references) (sym c.in-Some.is)
    (find_open since rows recent references (whole (held.recent since c.in-Some.is)) (c.in_ok-cover.ensures.whole held.references))
