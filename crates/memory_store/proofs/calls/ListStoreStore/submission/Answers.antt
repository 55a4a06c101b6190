use Rattle.std.proofs.Common.{◌∙◌, List, ap, map, sym}
use Rattle.desk_book.specs.Reads.{submission}
use Rattle.desk_book.specs.Standing.{row_under}
use Rattle.memory_store.specs.Finds.{rows_for}
use Rattle.memory_store.specs.Kept.{row_in}
use Rattle.memory_store.specs.Placed.{ArePlaced, picked, under}
use Rattle.memory_store.specs.declared.list_store.KeptSubmission.{KeptSubmission}
use Rattle.memory_store.specs.declared.place_index.KeyKind.TheVariants as kinds
use Rattle.memory_store.proofs.Placed.{covered, standing, under_all}
use Rattle.memory_store.proofs.calls.ListStoreStore.submission.Goals as goal

pub returns : goal.returns
returns c = record {
  before = λ clean. clean;
  read = λ _ b held.
      let s = c.args.self.now in
      let kept = s.submissions.items in
      let own = c.as_slice-kept.ensures.value in
      let places = c.of-places.result.now in
      let index = c.cover_references.new.self.references in
      let found = covered ArePlaced kinds.Reference c.as_slice-kept.result.now kept s.places c.cover_references.new.self index own held.placed c.in_ok-cover_references.ensures.right c.in_ok-cover_references.ensures.whole in
      let stand = standing kinds.Reference c.under-key.result (under c.args.company c.args.reference) (map row_in kept) index places c.under-key.ensures found.1 c.of-places.ensures in (
        c.in_ok-row_of.ensures
            ∙ c.submission_among-found.ensures
            ∙ ap (λ (xs : List KeptSubmission). row_under (rows_for (picked xs places) c.args.company) c.args.reference) own
            ∙ under_all c.args.reference c.args.company kept places stand
            ∙ ap (submission c.args.company c.args.reference) (sym held.book),
        record {
          book = held.book;
          indexed = held.indexed;
          settled = held.settled;
          bounded = held.bounded;
          placed = found.0;
        },
      );
  left = λ _ _ is. is;
}
