-- What is kept of a submission, and when it agrees with the book.
use Rattle.std.specs.Prelude.{◌≡◌, ℕ, ◌-◌, ◌==◌, Bool, true, if◌then◌else◌, List, map, Option, Some, None, sum, sum_by, slice_get}
use Rattle.std.specs.List.{slice_set, AllByRecursion}
use Rattle.desk_rules.specs.declared.rules.entry_fact.EntryState.{EntryState}
use Rattle.desk_rules.specs.declared.rules.entry_fact.EntryState.TheVariants.{Held, Sent, Returned, Lapsed}
use Rattle.desk_rules.specs.LimitChecks.{is_debit}
use Rattle.desk_book.specs.declared.row.Row.{Row}
use Rattle.desk_book.specs.OpenSubmissions.{standing_cents}
use Rattle.desk_book.specs.Standing.{row_facts}

pub record KnownRow : Type 0 where
  pub reference : List ℕ
  pub debit : Bool
  pub settled : Option ℕ
  pub total : ℕ
  pub cents : List ℕ

-- ---- a return

-- the cents of the entry with this number
abbrev pub cents_at : List ℕ → (index : ℕ) → Option ℕ
cents_at cents index = if index == 0 then None else slice_get cents (index - 1)

abbrev pub on_day : Option ℕ → Option ℕ → Option (ℕ × ℕ)
on_day (Some day) (Some cents) = Some (day, cents)
on_day _ _ = None

-- the cents that a return of the entry with this number takes away, with its settlement day
abbrev pub taken : KnownRow → (index : ℕ) → Option (ℕ × ℕ)
taken k index = if k.debit then on_day k.settled (cents_at k.cents index) else None

abbrev pub without : (index : ℕ) → Option (ℕ × ℕ) → KnownRow → KnownRow
without index None k = k
without index (Some x) k = record k { cents = slice_set k.cents (index - 1) 0 }

abbrev pub once_taken : KnownRow → (index : ℕ) → KnownRow
once_taken k index = without index (taken k index) k

-- the cents that it counts: all credits, or the debits that are not returned
abbrev pub counted : KnownRow → ℕ
counted k = if k.debit then sum k.cents else k.total

-- ---- when it is right

-- an entry is held, or it settles on a day; a lapsed one does neither
abbrev pub place_of : EntryState → Option (Option ℕ)
place_of Held = Some None
place_of (Sent settled) = Some (Some settled)
place_of (Returned settled code taken late) = Some (Some settled)
place_of Lapsed = None

-- what is kept agrees with a submission of the book
pub record Fits (k : KnownRow) (row : Row) : Type 0 where
  pub reference : row.content.reference ≡ k.reference
  pub debit : is_debit row.content.direction ≡ k.debit
  pub stands : AllByRecursion (λ f. place_of f.state ≡ Some k.settled) (row_facts row)
  pub total : sum_by (λ f. f.cents) (row_facts row) ≡ k.total
  pub cents : k.debit ≡ true → map standing_cents (row_facts row) ≡ k.cents
