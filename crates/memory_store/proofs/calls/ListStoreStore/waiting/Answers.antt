use Rattle.std.proofs.Common.{◌∙◌, List, ap, map, sym, subst}
use Rattle.std.specs.List.{flat_map}
use Rattle.desk_book.specs.Reads.{waiting}
use Rattle.desk_rules.specs.declared.bodies.company.Company.{Company}
use Rattle.memory_store.specs.Finds.{FindWaiting, rows_for, waiting_for}
use Rattle.memory_store.specs.Kept.{row_in}
use Rattle.memory_store.specs.declared.list_store.KeptSubmission.{KeptSubmission}
use Rattle.memory_store.specs.declared.place_index.PlaceIndex.{PlaceIndex}
use Rattle.memory_store.proofs.HeldRows.{waiting_covered}
use Rattle.memory_store.proofs.calls.ListStoreStore.waiting.Goals as goal

pub returns : goal.returns
returns c = record {
  before = λ clean. clean;
  read = λ _ b held.
      let s = c.args.self.now in
      let own = c.as_slice-kept.result.now in
      let kept = s.submissions.items in
      let same = c.as_slice-kept.ensures.value in
      let places = c.cover_held.new.self in
      let covered = waiting_covered own kept s.places places same held.placed c.in_ok-cover_held.ensures.right c.in_ok-cover_held.ensures.whole in
      let find = subst (λ (index : PlaceIndex). FindWaiting (map row_in own) index places.references) (sym c.held-index.ensures) covered.1 in (
        c.in_ok-all_waiting.ensures find
            ∙ ap (λ (ks : List Company). flat_map (λ k. waiting_for k (rows_for own k.id)) ks) c.deref.ensures.value
            ∙ ap (λ (xs : List KeptSubmission). flat_map (λ k. waiting_for k (rows_for xs k.id)) s.companies.items) same
            ∙ ap waiting (sym held.book),
        record { book = held.book; indexed = held.indexed; settled = held.settled; bounded = held.bounded; placed = covered.0 },
      );
  left = λ _ _ is. is;
}
