-- Submissions of a company that a cut printed one after another.
use Rattle.std.specs.Prelude.{ℕ, ◌+◌, Bool, ◌&&◌, ◌==◌, bytes_eq}
use Rattle.desk_book.specs.declared.flat_rows.SentRow.{SentRow}

-- a submission has this order, and was printed as the first, in this batch
abbrev pub is_printed : (first : SentRow) → (order batch : ℕ) → SentRow → Bool
is_printed first order batch s =
    bytes_eq s.company first.company && s.order == order && s.settled == first.settled
    && s.printed.day == first.printed.day && s.printed.modifier == first.printed.modifier && s.printed.batch == batch

-- a submission comes so many after the first, by its order and by its batch in one file
abbrev pub batch_follows : (first : SentRow) → (after : ℕ) → SentRow → Bool
batch_follows first after s = is_printed first (first.order + after) (first.printed.batch + after) s
