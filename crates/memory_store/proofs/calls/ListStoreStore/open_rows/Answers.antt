use Rattle.std.proofs.Common.{◌∙◌, List, ap, map, sym}
use Rattle.std.specs.Prelude.{filter}
use Rattle.desk_book.specs.Reads.{open_rows_of}
use Rattle.memory_store.specs.Finds.{rows_for}
use Rattle.memory_store.specs.Kept.{row_in}
use Rattle.memory_store.specs.Open.{is_found_open}
use Rattle.memory_store.specs.Placed.{ArePlaced, picked, whole}
use Rattle.memory_store.specs.declared.list_store.KeptSubmission.{KeptSubmission}
use Rattle.memory_store.specs.declared.place_index.KeyKind.TheVariants as kinds
use Rattle.memory_store.proofs.Bounded.{found_all}
use Rattle.memory_store.proofs.Placed.{covered, open_all, standing}
use Rattle.memory_store.proofs.calls.ListStoreStore.open_rows.Goals as goal

pub returns : goal.returns
returns c = record {
  before = λ clean. clean;
  read = λ _ b held.
      let s = c.args.self.now in
      let since = c.args.since in
      let kept = s.submissions.items in
      let own = c.as_slice-kept.ensures.value in
      let places = c.of-places.result.now in
      let index = c.cover_recent.new.self.recent in
      let found = covered ArePlaced (kinds.OpenSince since) c.as_slice-kept.result.now kept s.places c.cover_recent.new.self index own held.placed c.in_ok-cover_recent.ensures.right c.in_ok-cover_recent.ensures.whole in
      let stand = standing (kinds.OpenSince since) c.whole.result (whole c.args.company) (map row_in kept) index places c.whole.ensures found.1 c.of-places.ensures in (
        c.in_ok-rows_passing.ensures
            ∙ ap (λ (xs : List KeptSubmission). filter (is_found_open since) (rows_for (picked xs places) c.args.company)) own
            ∙ open_all since c.args.company kept places stand
            ∙ found_all since c.args.company (map row_in kept) held.bounded
            ∙ ap (open_rows_of c.args.company since) (sym held.book),
        record {
          book = held.book;
          indexed = held.indexed;
          settled = held.settled;
          bounded = held.bounded;
          placed = found.0;
        },
      );
  left = λ _ _ is. is;
}
