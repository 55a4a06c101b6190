use Rattle.std.proofs.Common.{◌∙◌, ap, sym, is_some}
use Rattle.std.specs.List.{position_from}
use Rattle.memory_files.specs.Kept.{has_path}
use Rattle.memory_files.proofs.Keeping.{files_of_place, none_is, place_is}
use Rattle.memory_files.proofs.memory_files.MemoryFiles.has_files.Goals as goal

pub returns-in-Some : goal.returns-in-Some
returns-in-Some c =
    let here = place_is c.args.self.now.places.items c.args.path.now c.in-Some.at (ap (λ places. position_from (has_path c.args.path.now) 0 places) (sym c.deref.ensures.value) ∙ sym c.place_of.ensures.value ∙ c.in-Some.is) in
    c.is_some.ensures ∙ ap (λ kept. is_some kept) (files_of_place c.args.self.now.places.items c.in-Some.at c.index.result.now c.args.path.now c.index.ensures here)

pub returns-in-None : goal.returns-in-None
returns-in-None c =
    sym (ap (λ kept. is_some kept) (none_is c.args.self.now.places.items c.args.path.now 0 (ap (λ places. position_from (has_path c.args.path.now) 0 places) (sym c.deref.ensures.value) ∙ sym c.place_of.ensures.value ∙ c.in-None.is)))
