use Rattle.std.proofs.Common.{◌∙◌, List, ap, map, sym}
use Rattle.desk_book.specs.Reads.{retries_of}
use Rattle.desk_book.specs.Standing.{retry_rows}
use Rattle.memory_store.specs.Finds.{rows_for}
use Rattle.memory_store.specs.Kept.{row_in}
use Rattle.memory_store.specs.Placed.{IsPlaced, picked, under}
use Rattle.memory_store.specs.declared.list_store.KeptSubmission.{KeptSubmission}
use Rattle.memory_store.specs.declared.place_index.KeyKind.TheVariants as kinds
use Rattle.memory_store.proofs.Placed.{covered, retries_all, standing}
use Rattle.memory_store.proofs.calls.ListStoreStore.retries_of.Goals as goal

pub returns : goal.returns
returns c = record {
  before = λ clean. clean;
  read = λ _ b held.
      let s = c.args.self.now in
      let kept = s.submissions.items in
      let places = c.of-places.result.now in
      let index = c.cover.new.self in
      let found = covered (IsPlaced kinds.Original) kinds.Original c.as_slice-kept.result.now kept s.places.originals index index c.as_slice-kept.ensures.value held.placed.originals c.in_ok-cover.ensures.right c.in_ok-cover.ensures.whole in
      let stand = standing kinds.Original c.under.result (under c.args.company c.args.of) (map row_in kept) index places c.under.ensures found.1 c.of-places.ensures in (
        c.in_ok-rows_passing.ensures
            ∙ ap (λ (xs : List KeptSubmission). retry_rows (rows_for (picked xs places) c.args.company) c.args.of c.args.index) c.as_slice-kept.ensures.value
            ∙ retries_all c.args.of c.args.index c.args.company kept places stand
            ∙ ap (retries_of c.args.company c.args.of c.args.index) (sym held.book),
        record {
          book = held.book;
          indexed = held.indexed;
          settled = held.settled;
          bounded = held.bounded;
          placed = record { companies = held.placed.companies; references = held.placed.references; orders = held.placed.orders; originals = found.0; recent = held.placed.recent };
        },
      );
  left = λ _ _ is. is;
}
