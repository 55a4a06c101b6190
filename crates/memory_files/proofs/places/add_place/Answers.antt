use Rattle.std.proofs.Common.{◌∙◌, length, None, refl, sym, ap, subst}
use Rattle.std.specs.List.{position_from}
use Rattle.memory_files.specs.Kept.{has_path, kept_in, IsPlaceOf}
use Rattle.memory_files.specs.declared.places.Place.{Place}
use Rattle.memory_files.proofs.Keeping.{added_here, added_none, place_is}
use Rattle.memory_files.proofs.places.add_place.Goals as goal

pub returns-in-Some-clause-place : goal.returns-in-Some-clause-place
returns-in-Some-clause-place c =
    place_is c.args.places.now.items c.args.path.now c.in-Some.at
    (ap (λ places. position_from (has_path c.args.path.now) 0 places) (sym c.deref.ensures.value) ∙ sym c.place_of.ensures.value ∙ c.in-Some.is)

pub returns-clause-place : goal.returns-clause-place
returns-clause-place c =
    let place : Place = record { path = c.in_ok-path.path; files = None } in
    let none = ap (λ places. position_from (has_path c.args.path.now) 0 places) (sym c.deref.ensures.value) ∙ sym c.place_of.ensures.value ∙ c.in_default.is in
    let here = added_here c.args.places.now.items place c.args.path.now 0 c.in_ok-path.ensures.ok none in
    subst (λ at. IsPlaceOf c.push.new.self.items c.args.path.now at) (ap (λ places. length places) (sym c.deref.ensures.value) ∙ c.deref.ensures.len ∙ sym c.len-at.ensures)
    (subst (λ places. IsPlaceOf places c.args.path.now (length c.args.places.now.items)) (sym c.in_ok-push.ensures.items) here)

pub returns-clause-kept : goal.returns-clause-kept
returns-clause-kept c = λ other.
    let place : Place = record { path = c.in_ok-path.path; files = None } in
    ap (λ places. kept_in places other) c.in_ok-push.ensures.items ∙ added_none c.args.places.now.items place refl other
