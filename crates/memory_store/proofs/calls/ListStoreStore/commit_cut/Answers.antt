use Rattle.std.proofs.Common.{List, None, map, subst, ◌∙◌, ◌++◌, sym, ap}
use Rattle.std.specs.Prelude.{All}
use Rattle.memory_store.specs.Kept.{row_in, rows_in}
use Rattle.memory_store.specs.Open.{IsBounded}
use Rattle.memory_store.specs.Placed.{ArePlaced}
use Rattle.desk_store.specs.Rows.{CompanyRow, flat_book}
use Rattle.desk_book.specs.Steps.{commit_cut}
use Rattle.desk_store.specs.Written.{cut_rows}
use Rattle.desk_store.proofs.FlatCuts.{flat_cut}
use Rattle.memory_store.proofs.Bounded.{cut_keeps}
use Rattle.memory_store.proofs.Placed.{covered, placed_after_cut}
use Rattle.memory_store.specs.declared.place_index.KeyKind.TheVariants as kinds
use Rattle.memory_store.specs.declared.row_places.RowPlaces.{RowPlaces}
use Rattle.memory_store.proofs.Indexed.{indexed_as, indexed_behind, settled_as, settled_behind}
use Rattle.memory_store.proofs.calls.ListStoreStore.commit_cut.Goals as goal

pub returns : goal.returns
returns c = record {
  before = λ clean. clean;
  write = λ _ b held _.
      let x = cut_rows c.args.cut.now in
      let old = c.args.self.now in
      let covers = covered ArePlaced kinds.Order c.as_slice-kept.result.now old.submissions.items old.places c.cover_orders.new.self c.cover_orders.new.self.orders c.as_slice-kept.ensures.value held.placed c.in_ok-cover_orders.ensures.right c.in_ok-cover_orders.ensures.whole in
      let written = c.in_ok-write_cut.ensures.ok covers.1 in
      record {
        book = ap (commit_cut x).after held.book ∙ sym (ap flat_book written ∙ flat_cut (rows_in old) x);
        indexed = indexed_as (old.sent.items ++ x.entries) c.write_cut.new.store.sent.items old.traces c.write_cut.new.store.traces (ap (λ r. r.sent) written) c.in_ok-write_cut.ensures.traces (indexed_behind old.sent.items x.entries old.traces held.indexed);
        settled = settled_as (old.sent.items ++ x.entries) c.write_cut.new.store.sent.items old.settlements c.write_cut.new.store.settlements (ap (λ r. r.sent) written) c.in_ok-write_cut.ensures.settlements (settled_behind old.sent.items x.entries old.settlements held.settled);
        bounded = subst (λ (rows : List CompanyRow). All IsBounded rows) (sym (ap (λ r. r.submissions) written)) (cut_keeps x (rows_in old) held.bounded);
        placed = placed_after_cut x (rows_in old) (map row_in c.write_cut.new.store.submissions.items) c.cover_orders.new.self _ (ap (λ r. r.submissions) written) (ap (λ (p : RowPlaces). record p { since = None }) c.in_ok-write_cut.ensures.places) covers.0;
      };
  left = λ _ b found held _ is.
      let x = cut_rows c.args.cut.now in
      let old = c.args.self.now in
      let covers = covered ArePlaced kinds.Order c.as_slice-kept.result.now old.submissions.items old.places c.cover_orders.new.self c.cover_orders.new.self.orders c.as_slice-kept.ensures.value held.placed c.in_ok-cover_orders.ensures.right c.in_ok-cover_orders.ensures.whole in
      is ∙ ap flat_book (c.in_ok-write_cut.ensures.ok covers.1) ∙ flat_cut (rows_in c.args.self.now) x ∙ sym (ap (commit_cut x).after held.book);
}
