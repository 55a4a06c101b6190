-- How exposures and rates follow from a company's open sums, and what each write does to its entries.
use Rattle.std.specs.Prelude.{◌≡◌, ℕ, ◌+◌, ◌==◌, if◌then◌else◌, List, [], ◌++◌, map, filter, sum_by, length, Option, bytes_eq}
use Rattle.std.specs.List.{enumerate_from, flat_map, range_with_len}
use Rattle.desk_history.specs.declared.identity.Identity.{Identity}
use Rattle.desk_history.specs.Message.{Pair}
use Rattle.desk_rules.specs.declared.rules.entry_fact.EntryFact.{EntryFact}
use Rattle.desk_rules.specs.declared.rules.entry_fact.EntryState.{EntryState}
use Rattle.desk_rules.specs.declared.rules.entry_fact.EntryState.TheVariants.{Sent, Lapsed}
use Rattle.desk_rules.specs.declared.bodies.submission.Retry.{Retry}
use Rattle.desk_rules.specs.declared.bodies.submission.Submission.{Submission}
use Rattle.desk_book.specs.declared.row.Row.{Row}
use Rattle.desk_book.specs.declared.flat_rows.LapsedRow.{LapsedRow}
use Rattle.desk_book.specs.declared.flat_rows.ReturnedRow.{ReturnedRow}
use Rattle.desk_book.specs.declared.flat_rows.SentRow.{SentRow}
use Rattle.desk_book.specs.Book.{Book, book_of}
use Rattle.desk_book.specs.Standing.{row_facts, facts_in, is_row_under, next_row}
use Rattle.desk_book.specs.Steps.{returned_state_by, put_sent_row, put_lapsed_row, put_return, add_submission}
use Rattle.desk_book.specs.Sums.{exposures_of, rates_of}
use Rattle.remembering_store.specs.OpenSums.{exposures_read, rates_read}

-- the entries of a company, as the rules read them
abbrev pub facts_of : (company : List ℕ) → Book → List EntryFact
facts_of c b = facts_in (b.rows c)

-- both exposures follow from the open sums, the day and the holidays
abbrev pub ExposuresReadOff : Type 0
ExposuresReadOff = (b : Book) (c : List ℕ) (day : ℕ) → exposures_of c day b ≡ exposures_read (facts_of c b) day b.holidays

-- the rates follow from them and the day
abbrev pub RatesReadOff : Type 0
RatesReadOff = (b : Book) (c : List ℕ) (day : ℕ) → rates_of c day b ≡ rates_read (facts_of c b) day

-- in the book of each history, each company's submissions are numbered 1, 2, 3 ...
abbrev pub NumberedBooks : Type 0
NumberedBooks = (identity : Identity) (key : List ℕ) (H : List Pair) → (c : List ℕ)
    → map (λ row. row.order) ((book_of identity key H).rows c) ≡ range_with_len 1 (length ((book_of identity key H).rows c))

-- ---- one list of entries after another

-- Some entries are changed and all others stay the same: every sum over the entries, whatever it counts, has the changed
-- entries' new value in place of their old one.
abbrev pub HaveChanged : (change : EntryFact → EntryFact) → (changed before after : List EntryFact) → Type 0
HaveChanged change changed before after =
    (count : EntryFact → ℕ) → sum_by count after + sum_by count changed ≡ sum_by count before + sum_by (λ f. count (change f)) changed

abbrev pub in_state : (EntryState → EntryState) → EntryFact → EntryFact
in_state change f = record f { state = change f.state }

-- ---- which entries a step changes

abbrev pub rows_at : (order : ℕ) → List Row → List Row
rows_at order rs = filter (λ row. row.order == order) rs

abbrev pub rows_under : (reference : List ℕ) → List Row → List Row
rows_under reference rs = filter (is_row_under reference) rs

-- those of a company with an order number
abbrev pub facts_at : (company : List ℕ) → (order : ℕ) → (of : List ℕ) → Book → List EntryFact
facts_at c order of b = if bytes_eq c of then facts_in (rows_at order (b.rows of)) else []

-- the one with this number among those of a row
abbrev pub numbered_fact : (index : ℕ) → Row → List EntryFact
numbered_fact index row = map (λ x. x.1) (filter (λ x. x.0 == index) (enumerate_from 1 (row_facts row)))

-- those that a return names
abbrev pub facts_named : ReturnedRow → (of : List ℕ) → Book → List EntryFact
facts_named x of b = if bytes_eq x.company of then flat_map (numbered_fact x.row.index) (rows_under x.row.reference (b.rows of)) else []

-- ---- the steps

-- sending a submission makes all its entries sent
abbrev pub SentSettle : Type 0
SentSettle = (b : Book) (s : SentRow) (of : List ℕ)
    → HaveChanged (in_state (λ was. Sent s.settled)) (facts_at s.company s.order of b) (facts_of of b) (facts_of of (put_sent_row b s))

-- a retry that lapses makes all its entries lapsed
abbrev pub LapsedLapse : Type 0
LapsedLapse = (b : Book) (l : LapsedRow) (of : List ℕ)
    → HaveChanged (in_state (λ was. Lapsed)) (facts_at l.company l.order of b) (facts_of of b) (facts_of of (put_lapsed_row b l))

-- a return makes the entries that it names returned
abbrev pub ReturnedComeBack : Type 0
ReturnedComeBack = (b : Book) (x : ReturnedRow) (of : List ℕ)
    → HaveChanged (in_state (returned_state_by x)) (facts_named x of b) (facts_of of b) (facts_of of (put_return b x))

-- an accepted submission adds its entries, held, after all others
abbrev pub AddedAreHeld : Type 0
AddedAreHeld = (c : List ℕ) (order : ℕ) (s : Submission) (retry : Option Retry) (b : Book) (of : List ℕ)
    → facts_of of ((add_submission c order s retry).after b)
    ≡ facts_of of b ++ (if bytes_eq c of then row_facts (next_row (b.rows of) s retry) else [])
