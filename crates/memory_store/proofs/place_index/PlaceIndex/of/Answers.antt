use Rattle.std.proofs.Common.{◌∙◌, [], ap}
use Rattle.std.specs.Prelude.{option_map, unwrap_or}
use Rattle.memory_store.proofs.place_index.PlaceIndex.of.Goals as goal

pub returns-in-Some : goal.returns-in-Some
returns-in-Some c = c.as_slice.ensures.value ∙ ap (λ o. unwrap_or (option_map (λ v. v.items) o) []) c.in-Some.ensures.value

pub returns-in-None : goal.returns-in-None
returns-in-None c = ap (λ o. unwrap_or (option_map (λ v. v.items) o) []) c.in-None.ensures.value
