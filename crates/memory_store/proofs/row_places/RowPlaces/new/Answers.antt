use Rattle.std.proofs.Common.{[]}
use Rattle.std.proofs.lemmas.Option.{none-some}
use Rattle.memory_store.specs.declared.place_index.KeyKind.TheVariants as kinds
use Rattle.memory_store.proofs.row_places.RowPlaces.new.Goals as goal

pub returns : goal.returns
returns c = record {
  companies = c.new.ensures kinds.Company [];
  references = c.new-2.ensures kinds.Reference [];
  orders = c.new-3.ensures kinds.Order [];
  originals = c.new-4.ensures kinds.Original [];
  recent = λ since is. absurd (none-some since is);
}
