-- The entries that a cut of the book writes are entries of submissions that it sends.
use Rattle.std.proofs.Common.{◌≡◌, ℕ, ◌+◌, List, [], ◌∷◌, ◌++◌, length, map, not, refl, sym, subst}
use Rattle.std.specs.Prelude.{All, Contains, filter}
use Rattle.std.specs.List.{enumerate_from, flat_map}
use Rattle.std.proofs.lemmas.List.Elements.{All-nil, All-cons, All-head, All-tail, All-append, All-map, All-filter, All-weaker, All-contains_itself, Contains-append_left, Contains-append_right}
use Rattle.desk_plan.specs.Laws.{OneDivision}
use Rattle.desk_plan.specs.Modifiers.{modifier_at}
use Rattle.desk_plan.specs.Runs.{flat}
use Rattle.desk_plan.specs.Sequences.{range_after}
use Rattle.desk_rules.specs.declared.bodies.company.Company.{Company}
use Rattle.desk_rules.specs.declared.bodies.submission.Submission.{Submission}
use Rattle.desk_rules.specs.LimitChecks.{is_debit}
use Rattle.desk_history.specs.Files.{File, runs_of, files_from}
use Rattle.desk_history.specs.Sendings.{Sending, NumberedBatch, entries_in, batch_entries, sent_entry}
use Rattle.desk_book.specs.declared.flat_rows.SentRow.{SentRow}
use Rattle.desk_book.specs.declared.held_submission.HeldSubmission.{HeldSubmission}
use Rattle.desk_book.specs.declared.row.Row.{Row}
use Rattle.desk_book.specs.Book.{Book}
use Rattle.desk_book.specs.OnCut.{batches_after, sent_row, sent_rows, sending_of, is_due, lapses, due_submissions, cut_facts, cut_sendings, cut_write}
use Rattle.desk_book.specs.Reads.{held_submission, waiting}
use Rattle.desk_book.specs.Standing.{is_held}
use Rattle.desk_book.specs.Steps.{IsEntryOf, commit_cut}
use Rattle.desk_history.proofs.Traces.NextCut.{flat_runs}

-- each element of the parts
all_flat : {X Y : Type 0} (P : Y → Type 0) (f : X → List Y) (xs : List X) → ((x : X) → All P (f x)) → All P (flat_map f xs)
all_flat P f [] each = All-nil P
all_flat P f (x ∷ xs) each = All-append P (f x) (flat_map f xs) (each x) (all_flat P f xs each)

-- where each part has all of P by two facts of it
all_joined : {X Y : Type 0} (P : Y → Type 0) (f : X → List Y) (A B : X → Type 0) → ((x : X) → A x → B x → All P (f x)) → (xs : List X) → All A xs → All B xs → All P (flat_map f xs)
all_joined P f A B joined [] left right = All-nil P
all_joined P f A B joined (x ∷ xs) left right =
    All-append P (f x) (flat_map f xs) (joined x (All-head A x xs left) (All-head B x xs right)) (all_joined P f A B joined xs (All-tail A x xs left) (All-tail B x xs right))

-- ---- what is sent is a row of the book

record IsOfRow (b : Book) (s : Sending) : Type 0 where
  row : Row
  stands : Contains (b.rows s.company.id) row
  order : row.order ≡ s.order
  content : row.content ≡ s.content

module _ (b : Book) (d : ℕ) where
  abbrev waits : HeldSubmission → Type 0
  waits w = IsOfRow b (sending_of b.holidays d w)

  of_company : (k : Company) → All waits (map (held_submission k (b.rows k.id)) (filter is_held (b.rows k.id)))
  of_company k =
      let rs = b.rows k.id in
      All-map waits (held_submission k rs) (filter is_held rs)
      (All-filter is_held (λ row. waits (held_submission k rs row)) rs
      (All-weaker (Contains rs) (λ row. waits (held_submission k rs row)) (λ row within. record { row = row; stands = within; order = refl; content = refl }) rs (All-contains_itself rs)))

  rows_sent : All (IsOfRow b) (cut_sendings (cut_facts b d))
  rows_sent =
      All-map (IsOfRow b) (sending_of b.holidays d) (filter (λ w. not (lapses b.holidays d w)) (due_submissions b.holidays d (waiting b)))
      (All-filter (λ w. not (lapses b.holidays d w)) waits (due_submissions b.holidays d (waiting b))
      (All-filter (is_due b.holidays d) waits (waiting b)
      (all_flat waits (λ k. map (held_submission k (b.rows k.id)) (filter is_held (b.rows k.id))) b.companies of_company)))

-- ---- and stands in a file

record IsSentBy (sent : List SentRow) (x : NumberedBatch) : Type 0 where
  by : SentRow
  within : Contains sent by
  company : by.company ≡ x.sending.company.id
  order : by.order ≡ x.sending.order
  settled : by.settled ≡ x.sending.settled

after_more : (before sent : List SentRow) (x : NumberedBatch) → IsSentBy sent x → IsSentBy (before ++ sent) x
after_more before sent x is = record { by = is.by; within = Contains-append_right before sent is.by is.within; company = is.company; order = is.order; settled = is.settled }

before_more : (sent more : List SentRow) (x : NumberedBatch) → IsSentBy sent x → IsSentBy (sent ++ more) x
before_more sent more x is = record { by = is.by; within = Contains-append_left sent more is.by is.within; company = is.company; order = is.order; settled = is.settled }

in_file : (f : File) (n : ℕ) (xs : List NumberedBatch) → All (IsSentBy (map (sent_row f) (enumerate_from n xs))) xs
in_file f n [] = All-nil (IsSentBy [])
in_file f n (x ∷ xs) =
    let s = sent_row f (n, x) in
    let more = map (sent_row f) (enumerate_from (n + 1) xs) in
    All-cons (IsSentBy (s ∷ more)) x xs
    (record { by = s; within = All-head (Contains (s ∷ more)) s more (All-contains_itself (s ∷ more)); company = refl; order = refl; settled = refl })
    (All-weaker (IsSentBy more) (IsSentBy (s ∷ more)) (after_more (s ∷ []) more) xs (in_file f (n + 1) xs))

in_files : (day made : ℕ) (runs : List (List NumberedBatch)) → All (IsSentBy (flat_map sent_rows (files_from day made runs))) (flat runs)
in_files day made [] = All-nil (IsSentBy [])
in_files day made (run ∷ runs) =
    let f : File = record { day = day; modifier = modifier_at made; batches = run } in
    let more = flat_map sent_rows (files_from day (made + 1) runs) in
    All-append (IsSentBy (sent_rows f ++ more)) run (flat runs)
    (All-weaker (IsSentBy (sent_rows f)) (IsSentBy (sent_rows f ++ more)) (before_more (sent_rows f) more) run (in_file f 1 run))
    (All-weaker (IsSentBy more) (IsSentBy (sent_rows f ++ more)) (after_more (sent_rows f) more) (flat runs) (in_files day (made + 1) runs))

-- ---- so each entry is one of a submission that is sent

batches_of_rows : (P : Sending → Type 0) (last : ℕ) (ss : List Sending) → All P ss → All (λ x. P x.sending) (batches_after last ss)
batches_of_rows P last [] all = All-nil (λ x. P x.sending)
batches_of_rows P last (s ∷ ss) all =
    All-cons (λ x. P x.sending) (record { sending = s; first = (range_after last (length (entries_in s))).0 }) (batches_after (range_after last (length (entries_in s))).1 ss)
    (All-head P s ss all) (batches_of_rows P (range_after last (length (entries_in s))).1 ss (All-tail P s ss all))

of_batch : (b : Book) (sent : List SentRow) (x : NumberedBatch) → IsOfRow b x.sending → IsSentBy sent x → All (IsEntryOf b sent) (batch_entries x)
of_batch b sent x of by =
    let numbered = enumerate_from 1 (entries_in x.sending) in
    All-map (IsEntryOf b sent) (λ y. sent_entry x y.0 y.1) numbered
    (All-weaker (Contains numbered) (λ y. IsEntryOf b sent (sent_entry x y.0 y.1))
    (λ y within. record {
      row = of.row;
      stands = of.stands;
      content = (of.order, (λ i. (of.content i).reference), (λ i. (of.content i).sec), (λ i. is_debit (of.content i).direction));
      entry = subst (λ (c : Submission). Contains (enumerate_from 1 c.entries) y) (sym of.content) within;
      sending = by.by;
      sends = by.within;
      settles = (by.company, by.order, by.settled);
    }) numbered (All-contains_itself numbered))

pub cut_admits : OneDivision → (b : Book) (d : ℕ) → (commit_cut (cut_write (cut_facts b d))).Admits b
cut_admits law b d =
    let x = cut_facts b d in
    let bs = batches_after x.last (cut_sendings x) in
    let sent = flat_map sent_rows (files_from d x.made (runs_of bs)) in
    let rows = batches_of_rows (IsOfRow b) x.last (cut_sendings x) (rows_sent b d) in
    let files = subst (All (IsSentBy sent)) (flat_runs law bs) (in_files d x.made (runs_of bs)) in
    all_joined (IsEntryOf b sent) batch_entries (λ y. IsOfRow b y.sending) (IsSentBy sent) (of_batch b sent) bs rows files
