-- What of a company's open rows exposures are made of: cents, without names, accounts and texts.
use Rattle.std.specs.Prelude.{ℕ, ◌==◌, Bool, true, false, if◌then◌else◌, List, [], map, sum_by, Option, None, Some}
use Rattle.std.specs.List.{list_all}
use Rattle.desk_rules.specs.declared.rules.entry_fact.EntryFact.{EntryFact}
use Rattle.desk_rules.specs.declared.rules.entry_fact.EntryState.{EntryState}
use Rattle.desk_rules.specs.declared.rules.entry_fact.EntryState.TheVariants.{Held, Sent, Returned, Lapsed}
use Rattle.desk_rules.specs.declared.bodies.submission.Direction.{Direction}
use Rattle.desk_rules.specs.LimitChecks.{is_debit}
use Rattle.desk_book.specs.declared.open_submission.OpenSubmission.{OpenSubmission}
use Rattle.desk_book.specs.declared.row.Row.{Row}
use Rattle.desk_book.specs.Book.{Book}
use Rattle.desk_book.specs.Reads.{open_rows_of}
use Rattle.desk_book.specs.Standing.{row_facts}

-- the entry is held, or it settles on this day, returned or not
abbrev pub settles_as : Option ℕ → EntryState → Bool
settles_as None Held = true
settles_as (Some day) (Sent settled) = settled == day
settles_as (Some day) (Returned settled code taken late) = settled == day
settles_as _ _ = false

-- the cents that it counts: none once it is returned
abbrev pub cents_in : EntryState → ℕ → ℕ
cents_in (Returned settled code taken late) cents = 0
cents_in _ cents = cents

abbrev pub standing_cents : EntryFact → ℕ
standing_cents f = cents_in f.state f.cents

-- all entries are held, or all settle on this day
abbrev pub settle_as : Option ℕ → List EntryFact → Bool
settle_as settled facts = list_all (λ f. settles_as settled f.state) facts

-- the cents of each debit
abbrev pub open_cents : Direction → List EntryFact → List ℕ
open_cents direction facts = if is_debit direction then map standing_cents facts else []

-- what exposures read of a row
abbrev pub open_submission : Row → OpenSubmission
open_submission row = record {
  order = row.order;
  reference = row.content.reference;
  direction = row.content.direction;
  settled = row.settled;
  uniform = settle_as row.settled (row_facts row);
  total = sum_by (λ f. f.cents) (row_facts row);
  cents = open_cents row.content.direction (row_facts row);
}

-- a company's open submissions
abbrev pub open_entries_of : (company : List ℕ) → (since : ℕ) → Book → List OpenSubmission
open_entries_of c since b = map open_submission (open_rows_of c since b)
