-- A row is made of what its queries found.
use Rattle.std.proofs.Common.{◌≡◌, ◌∙◌, ap, sym, ℕ, ◌==◌, List, [], find, map, Option, None, option_map}
use Rattle.sql_tables.specs.Encodes.{unless_lapsed}
use Rattle.sql_tables.specs.RowParts.{retry_with, row_of_parts, state_among, state_with}
use Rattle.sql_tables.specs.TableReads.{entries_in, returns_in, authorized_in, whole_row}
use Rattle.sql_tables.specs.Tables.{Tables}
use Rattle.sql_tables.specs.declared.row.entries.NumberedEntry.{NumberedEntry}
use Rattle.sql_tables.specs.declared.row.items.EntryReturn.{EntryReturn}
use Rattle.sql_tables.specs.declared.row.submissions.SubmissionHead.{SubmissionHead}

-- these returns give the states that others give
abbrev pub AreAlike : SubmissionHead → (these others : List EntryReturn) → Type 0
AreAlike head these others = (index : ℕ) → state_among head these index ≡ state_among head others index

-- whatever came back of a submission that was not sent
pub held_alike : (head : SubmissionHead) (others : List EntryReturn) → head.settled ≡ None → AreAlike head [] others
held_alike head others held index =
    ap (λ s. unless_lapsed head.lapsed (state_with s (find (λ r. r.index == index) []))) held
    ∙ sym (ap (λ s. unless_lapsed head.lapsed (state_with s (find (λ r. r.index == index) others))) held)

pub row_is_whole : (t : Tables) (head : SubmissionHead) (entries : List NumberedEntry) (returns : List EntryReturn) (authorized : Option ℕ)
    → entries ≡ entries_in head.company head.order t
    → AreAlike head returns (returns_in head.company head.order t)
    → option_map (retry_with head authorized) head.retried ≡ option_map (retry_with head (authorized_in head.company head.order t)) head.retried
    → row_of_parts head entries returns authorized ≡ whole_row t head
row_is_whole t head entries returns authorized a b c i =
    record (row_of_parts head (a i) (returns_in head.company head.order t) authorized) { retry = c i; states = map (λ e. b e.index i) (a i) }
