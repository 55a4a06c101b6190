-- A call that reads a verdict and then writes what it adds.
use Rattle.std.proofs.Common.{◌≡◌, ℕ, List, refl, sym, ap, subst, ◌∙◌, inl, inr}
use Rattle.std.specs.Prelude.{Option, Some, None, option_map, is_some, Result, Ok, Err}
use Rattle.desk_history.specs.declared.answer.Answer.{Answer}
use Rattle.desk_book.specs.declared.row.Row.{Row}
use Rattle.desk_book.specs.Book.{Book}
use Rattle.desk_history.specs.Message.{Of}
use Rattle.desk_history.specs.Request.{Request}
use Rattle.desk_store.specs.declared.store.StoreFault.{StoreFault}
use Rattle.desk_admission.specs.declared.verdict.NewRow.{NewRow}
use Rattle.desk_admission.specs.declared.verdict.Verdict.{Verdict}
use Rattle.desk_admission.specs.Answering.{Answers, LeavesCall}
use Rattle.desk_book.specs.Requests.{added_row, with_added_row}
use Rattle.desk_book.specs.OnBook.{reply_on}
use Rattle.desk_book.specs.Writes.{writes_on}
use Rattle.desk_admission.specs.Verdicts.{row_to_add, verdict_on, with_added, IsNextOf, Adds, LeavesAdded}

-- The added row is the company's next one, and changes the book as the request does; there is none if the request
-- writes nothing.
abbrev IsAdded : List ℕ → Book → Option NewRow → Option Row → Type 0
IsAdded c b new row = IsNextOf c new b × (with_added c new b ≡ with_added_row c row b) × (is_some new ≡ is_some row)

added : (c : List ℕ) (r : Request) (b : Book) (v : Verdict) → v ≡ verdict_on b c r → IsAdded c b v.added (added_row b c r)
added c r b v is = subst (λ (x : Verdict). IsAdded c b x.added (added_row b c r)) (sym is) (by (added_row b c r)) where
  by : (o : Option Row) → IsAdded c b (option_map (row_to_add (b.rows c)) o) o
  by None = (tt, refl, refl)
  by (Some row) = (refl, refl, refl)

pub answers_added : (c : List ℕ) (r : Request) (come_to : Book → Verdict) → ((b : Book) → come_to b ≡ verdict_on b c r)
    → (old mid new : Book → Type 0) (v : Verdict) (result : Result Answer StoreFault)
    → ((b : Book) → old b → (v ≡ come_to b) × mid b) → Adds mid result c v new
    → Answers old result (λ b. reply_on b c r) (λ b. with_added_row c (added_row b c r) b) new
answers_added c r come_to told old mid new v (Ok a) reads adds = λ b held.
    let read = reads b held in
    let is : v ≡ verdict_on b c r = read.0 ∙ told b in
    let more = added c r b v is in
    let done = adds b read.1 more.0 in
    (done.0 ∙ ap (λ (x : Verdict). x.answer) is, subst new more.1 done.1)
answers_added c r come_to told old mid new v (Err fault) reads adds = λ b held. adds b (reads b held).1

pub leaves_added : (c : List ℕ) (r : Request) (come_to : Book → Verdict) → ((b : Book) → come_to b ≡ verdict_on b c r)
    → {Kept : Type 0} (keeps : Kept → Book → Type 0) (old mid : Book → Type 0) (left_old left_mid left_new : Kept → Type 0) (v : Verdict) (result : Result Answer StoreFault)
    → ((b : Book) → old b → (v ≡ come_to b) × mid b) → ((k : Kept) → left_mid k → left_old k)
    → LeavesAdded keeps mid left_mid result c v left_new
    → LeavesCall keeps old left_old result (λ b. writes_on b (Of c r)) (λ b. with_added_row c (added_row b c r) b) left_new
leaves_added c r come_to told keeps old mid left_old left_mid left_new v (Ok a) reads left adds = λ b k held leaves.
    let read = reads b held in
    let more = added c r b v (read.0 ∙ told b) in
    elim (adds b k read.1 more.0 leaves) [
      | inl wrote ↦ inl (sym more.2 ∙ wrote.0, subst (keeps k) more.1 wrote.1)
      | inr none ↦ inr (sym more.2 ∙ none.0, left k none.1)
    ]
leaves_added c r come_to told keeps old mid left_old left_mid left_new v (Err fault) reads left adds = λ b k held leaves.
    let read = reads b held in
    let more = added c r b v (read.0 ∙ told b) in
    elim (adds b k read.1 more.0 leaves) [
      | inl none ↦ inl (left k none)
      | inr whole ↦ inr (subst (keeps k) more.1 whole)
    ]
