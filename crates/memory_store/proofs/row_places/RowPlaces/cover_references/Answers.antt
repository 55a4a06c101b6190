use Rattle.memory_store.proofs.row_places.RowPlaces.cover_references.Goals as goal

pub returns-clause-whole : goal.returns-clause-whole
returns-clause-whole c = λ held. c.in_ok-cover.ensures.whole held.references
