-- What the sizes of held submissions tell is what the submissions tell.
use Rattle.std.proofs.Common.{◌≡◌, ◌∙◌, ℕ, ◌+◌, Bool, true, false, List, [], ◌∷◌, length, map, refl, sym, ap}
use Rattle.std.proofs.lemmas.List.{length-map}
use Rattle.std.specs.Prelude.{◌==◌, not, filter, if◌then◌else◌, sum_by, Option, Some, None}
use Rattle.std.proofs.lemmas.List.Sums.{sum_by-cons}
use Rattle.std.proofs.lemmas.Simd.{map-map}
use Rattle.desk_accounts.specs.Balance.{with_day}
use Rattle.desk_plan.specs.declared.batch.Batch.{Batch}
use Rattle.desk_rules.specs.declared.bodies.company.Company.{Company}
use Rattle.desk_rules.specs.declared.bodies.submission.Submission.{Submission}
use Rattle.desk_rules.specs.LimitChecks.{is_debit}
use Rattle.desk_rules.specs.Size.{total_of}
use Rattle.desk_history.specs.declared.status.DueDay.{DueDay}
use Rattle.desk_history.specs.declared.status.Tallies.{Tallies}
use Rattle.desk_history.specs.Sendings.{Sending, plan_of, record_count}
use Rattle.desk_history.specs.Status as history
use Rattle.desk_book.specs.HeldSizes.{held_size}
use Rattle.desk_book.specs.OnCut as book
use Rattle.desk_book.specs.OnStatus.{held_records}
use Rattle.desk_book.specs.Reads.{held_submission}
use Rattle.desk_book.specs.declared.held_size.HeldSize.{HeldSize}
use Rattle.desk_book.specs.declared.held_submission.HeldSubmission.{HeldSubmission}
use Rattle.desk_book.specs.declared.row.Row.{Row}
use Rattle.desk_cut.specs.declared.sizes.SentSize.{SentSize}
use Rattle.desk_cut.specs.declared.waiting.CompanyWaiting.{CompanyWaiting}
use Rattle.desk_cut.specs.Sizes as size
use Rattle.desk_cut.specs.Waiting.{company_waiting}

filter-map : {X Y : Type 0} (p : Y → Bool) (f : X → Y) (xs : List X) → filter p (map f xs) ≡ map f (filter (λ x. p (f x)) xs)
filter-map p f [] = refl
filter-map {X} {Y} p f (x ∷ xs) = by (filter-map p f xs) (p (f x)) where
  by : filter p (map f xs) ≡ map f (filter (λ x. p (f x)) xs) → (t : Bool) → (if t then f x ∷ filter p (map f xs) else filter p (map f xs)) ≡ map f (if t then x ∷ filter (λ x. p (f x)) xs else filter (λ x. p (f x)) xs)
  by rest true = ap (λ (ys : List Y). f x ∷ ys) rest
  by rest false = rest

sum-map : {X Y : Type 0} (n : Y → ℕ) (f : X → Y) (xs : List X) → sum_by n (map f xs) ≡ sum_by (λ x. n (f x)) xs
sum-map n f [] = refl
sum-map n f (x ∷ xs) = sum_by-cons n (f x) (map f xs) ∙ ap (λ (m : ℕ). n (f x) + m) (sum-map n f xs) ∙ sym (sum_by-cons (λ x. n (f x)) x xs)

-- ---- sums

-- of those that pass a test of their directions
tally_by_size : (p : HeldSubmission → Bool) (q : HeldSize → Bool) (r : Submission → Bool) → ((w : HeldSubmission) → q (held_size w) ≡ p w) → ((w : HeldSubmission) → r w.row.content ≡ p w)
    → (ws : List HeldSubmission) → size.tally_of (filter q (map held_size ws)) ≡ history.tally (filter r (map (λ w. w.row.content) ws))
tally_by_size p q r as_q as_r ws i = record {
  cents = (ap (sum_by (λ z. z.cents)) (filter-map q held_size ws) ∙ sum-map (λ z. z.cents) held_size (filter (λ w. q (held_size w)) ws)
      ∙ ap (sum_by (λ (w : HeldSubmission). total_of w.row.content.entries)) (same ws)
      ∙ sym (ap (sum_by (λ s. total_of s.entries)) (filter-map r (λ w. w.row.content) ws) ∙ sum-map (λ s. total_of s.entries) (λ w. w.row.content) (filter (λ w. r w.row.content) ws))) i;
  submissions = (ap length (filter-map q held_size ws) ∙ length-map (filter (λ w. q (held_size w)) ws) held_size
      ∙ ap length (same ws)
      ∙ sym (ap length (filter-map r (λ (w : HeldSubmission). w.row.content) ws) ∙ length-map (filter (λ (w : HeldSubmission). r w.row.content) ws) (λ (w : HeldSubmission). w.row.content))) i;
} where
  same : (ws : List HeldSubmission) → filter (λ w. q (held_size w)) ws ≡ filter (λ w. r w.row.content) ws
  same [] = refl
  same (w ∷ ws) = let rest = same ws in (λ j. if (as_q w ∙ sym (as_r w)) j then w ∷ rest j else rest j)

pub tallies_by_size : (ws : List HeldSubmission) → size.tallies_of (map held_size ws) ≡ history.tallies (map (λ w. w.row.content) ws)
tallies_by_size ws i = record {
  credits = tally_by_size (λ w. not (is_debit w.row.content.direction)) (λ z. not (is_debit z.direction)) (λ s. not (is_debit s.direction)) (λ w. refl) (λ w. refl) ws i;
  debits = tally_by_size (λ w. is_debit w.row.content.direction) (λ z. is_debit z.direction) (λ s. is_debit s.direction) (λ w. refl) (λ w. refl) ws i;
}

-- ---- what is due

module _ (holidays : List ℕ) (day : ℕ) where
  abbrev sent_as : HeldSubmission → SentSize
  sent_as w = size.sent_size holidays day (held_size w)

  abbrev sending_as : HeldSubmission → Sending
  sending_as w = book.sending_of holidays day w

  abbrev sent_among : List HeldSubmission → List HeldSubmission
  sent_among ws = filter (λ w. not (book.lapses holidays day w)) (book.due_submissions holidays day ws)

  due_by_size : (ws : List HeldSubmission) → filter (size.is_size_due holidays day) (map held_size ws) ≡ map held_size (book.due_submissions holidays day ws)
  due_by_size ws = filter-map (size.is_size_due holidays day) held_size ws

  sent_by_size : (ws : List HeldSubmission) → size.sent_sizes holidays day (map held_size ws) ≡ map sent_as (sent_among ws)
  sent_by_size ws =
      ap (λ (zs : List HeldSize). map (size.sent_size holidays day) (filter (λ z. not (size.lapses holidays day z)) zs)) (due_by_size ws)
      ∙ ap (map (size.sent_size holidays day)) (filter-map (λ z. not (size.lapses holidays day z)) held_size (book.due_submissions holidays day ws))
      ∙ map-map (size.sent_size holidays day) held_size (sent_among ws)

  lapsing_by_size : (ws : List HeldSubmission) → size.lapsing_among holidays day (map held_size ws) ≡ length (book.lapses_among holidays day ws)
  lapsing_by_size ws =
      ap (λ (zs : List HeldSize). length (filter (size.lapses holidays day) zs)) (due_by_size ws)
      ∙ ap length (filter-map (size.lapses holidays day) held_size (book.due_submissions holidays day ws))
      ∙ length-map (filter (book.lapses holidays day) (book.due_submissions holidays day ws)) held_size
      ∙ sym (length-map (filter (book.lapses holidays day) (book.due_submissions holidays day ws)) book.lapsed_row)

  days_by_size : (ws : List HeldSubmission) → size.settlement_days (map sent_as ws) ≡ history.settlement_days (map sending_as ws)
  days_by_size [] = refl
  days_by_size (w ∷ ws) = ap (with_day (book.settles holidays day w)) (days_by_size ws)

  day_by_size : (ws : List HeldSubmission) (d : ℕ) → size.due_day (map sent_as ws) d ≡ history.due_day (map sending_as ws) d
  day_by_size ws d = λ i. record { day = d; sums = sums i } where
    on_day : List HeldSubmission
    on_day = filter (λ w. book.settles holidays day w == d) ws

    sums : size.sums_on d (map sent_as ws) ≡ history.tallies (map (λ s. s.content) (filter (λ s. s.settled == d) (map sending_as ws)))
    sums =
        ap (λ (ss : List SentSize). size.tallies_of (map (λ s. s.size) ss)) (filter-map (λ s. s.settled == d) sent_as ws)
        ∙ ap size.tallies_of (map-map (λ (s : SentSize). s.size) sent_as on_day)
        ∙ tallies_by_size on_day
        ∙ sym (ap history.tallies (map-map (λ (s : Sending). s.content) sending_as on_day))
        ∙ sym (ap (λ (ss : List Sending). history.tallies (map (λ s. s.content) ss)) (filter-map (λ s. s.settled == d) sending_as ws))

  due_days_by_size : (ws : List HeldSubmission) → size.due_days (map sent_as ws) ≡ history.due_days (map sending_as ws)
  due_days_by_size ws = ap (map (size.due_day (map sent_as ws))) (days_by_size ws) ∙ each (history.settlement_days (map sending_as ws)) where
    each : (ds : List ℕ) → map (size.due_day (map sent_as ws)) ds ≡ map (history.due_day (map sending_as ws)) ds
    each [] = refl
    each (d ∷ ds) = let rest = each ds in (λ i. day_by_size ws d i ∷ rest i)

  due_by : (ws : List HeldSubmission) → size.due_days (size.sent_sizes holidays day (map held_size ws)) ≡ history.due_days (book.sendings holidays day ws)
  due_by ws = ap size.due_days (sent_by_size ws) ∙ due_days_by_size (sent_among ws)

  -- of one company
  module _ (k : Company) (rs : List Row) where
    abbrev held : Row → HeldSubmission
    held = held_submission k rs

    abbrev sent_rows : List Row → List Row
    sent_rows xs = filter (λ x. not (book.lapses holidays day (held x))) (filter (λ x. book.is_due holidays day (held x)) xs)

    sent_held : (xs : List Row) → sent_among (map held xs) ≡ map held (sent_rows xs)
    sent_held xs =
        ap (filter (λ w. not (book.lapses holidays day w))) (filter-map (book.is_due holidays day) held xs)
        ∙ filter-map (λ w. not (book.lapses holidays day w)) held (filter (λ x. book.is_due holidays day (held x)) xs)

    loads_by : (xs : List Row) → map (size.load_of k.id) (size.sent_sizes holidays day (map held_size (map held xs))) ≡ map plan_of (book.sendings holidays day (map held xs))
    loads_by xs =
        ap (map (size.load_of k.id)) (sent_by_size (map held xs) ∙ ap (map sent_as) (sent_held xs) ∙ map-map sent_as held (sent_rows xs))
        ∙ map-map (size.load_of k.id) (λ x. sent_as (held x)) (sent_rows xs)
        ∙ sym (map-map plan_of (λ x. sending_as (held x)) (sent_rows xs))
        ∙ sym (ap (map plan_of) (ap (map sending_as) (sent_held xs) ∙ map-map sending_as held (sent_rows xs)))

-- ---- a company

pub waiting_by_size : (day : Option ℕ) (holidays : List ℕ) (k : Company) (rs xs : List Row)
    → size.waiting_by_size day holidays k (map held_size (map (held_submission k rs) xs)) ≡ company_waiting day holidays k (map (held_submission k rs) xs)
waiting_by_size None holidays k rs xs = λ i. record {
  held_records = sum-map (λ z. z.records) held_size (map (held_submission k rs) xs) i;
  loads = [];
  status = record { due = []; held = tallies_by_size (map (held_submission k rs) xs) i; id = k.id; lapsing = 0; name = k.name };
}
waiting_by_size (Some d) holidays k rs xs = λ i. record {
  held_records = sum-map (λ z. z.records) held_size (map (held_submission k rs) xs) i;
  loads = loads_by holidays d k rs xs i;
  status = record {
    due = due_by holidays d (map (held_submission k rs) xs) i;
    held = tallies_by_size (map (held_submission k rs) xs) i;
    id = k.id;
    lapsing = lapsing_by_size holidays d (map (held_submission k rs) xs) i;
    name = k.name;
  };
}
