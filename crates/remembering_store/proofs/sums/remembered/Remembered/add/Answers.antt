use Rattle.std.proofs.Common.{sym, ap, subst, ◌∙◌, ℕ}
use Rattle.desk_book.specs.Standing.{next_row}
use Rattle.remembering_store.specs.Kept.{Holds}
use Rattle.remembering_store.specs.KnownRow.{KnownRow}
use Rattle.remembering_store.specs.Laws.{rows_at}
use Rattle.remembering_store.proofs.Adding.{added_followed, none_next}
use Rattle.remembering_store.proofs.sums.remembered.Remembered.add.Goals as goal

pub returns : goal.returns
returns c = λ done rs retry is numbered was.
    let m = c.args.self.now in
    let s1 = c.hold.new.self in
    added_followed m.since c.in-Some.row m.sums s1 m.rows c.keep_row.new.rows c.args.order rs (next_row rs c.args.content.now retry) c.keep_row.ensures c.in-Some.ensures.held
    (subst (λ (k : KnownRow). Holds k.debit k.total m.sums s1) c.row.view_is (c.hold.ensures done))
    (ap (λ (n : ℕ). rows_at n rs) is ∙ none_next rs numbered) (sym is) (c.in-Some.ensures.fits rs retry) was
