use Rattle.memory_store.specs.declared.place_index.KeyKind.TheVariants as kinds
use Rattle.memory_store.proofs.row_places.RowPlaces.begin.Goals as goal

pub returns-then-not-is_since-clause-right : goal.returns-then-not-is_since-clause-right
returns-then-not-is_since-clause-right c = λ rows held. record {
  companies = held.companies;
  references = held.references;
  orders = held.orders;
  originals = held.originals;
  recent = λ since is. c.clear.ensures (kinds.OpenSince since) rows;
}
