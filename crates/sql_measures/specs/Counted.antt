-- Which entries exposures and return rates are made of.
use Rattle.std.specs.Prelude.{◌≡◌, ℕ, true, false, not, if◌then◌else◌, List, [], map, filter, None, Contains, Vec}
use Rattle.std.specs.declared.alloc.Global.{Global}
use Rattle.std.specs.List.{flat_map}
use Rattle.std.specs.List.Sorted.{IsStrictlySortedBy}
use Rattle.std.specs.Ordering.{nat_cmp}
use Rattle.desk_rules.specs.declared.rules.entry_fact.EntryFact.{EntryFact}
use Rattle.desk_rules.specs.declared.rules.entry_fact.EntryState.{EntryState}
use Rattle.desk_rules.specs.Exposure.{credit_exposure, debit_exposure, is_open_debit}
use Rattle.desk_rules.specs.LimitChecks.{is_debit}
use Rattle.desk_book.specs.declared.row.Row.{Row}
use Rattle.desk_book.specs.Standing.{row_facts}
use Rattle.desk_book.specs.Sums.{exposures_on}
use Rattle.sql_tables.specs.Composed.{exposures_in}
use Rattle.sql_tables.specs.CutTables.{is_row}
use Rattle.sql_tables.specs.Encodes.{unless_lapsed}
use Rattle.sql_tables.specs.RowParts.{state_with, state_among}
use Rattle.sql_tables.specs.TableReads.{heads_in, is_since, orders_returned, returns_in, whole_row}
use Rattle.sql_tables.specs.Tables.{Tables}
use Rattle.sql_tables.specs.declared.row.submissions.SubmissionHead.{SubmissionHead}
use Rattle.sql_queries.specs.Waiting.{is_settled_of}

-- the exposures of the entries of one row
abbrev pub row_exposures : (day : ℕ) → (holidays : List ℕ) → Row → ℕ × ℕ
row_exposures day holidays row = (credit_exposure (row_facts row) day, debit_exposure (row_facts row) day holidays)

-- the facts of the entries of a submission of which the head is known
abbrev pub head_facts : SubmissionHead → Tables → List EntryFact
head_facts head t = row_facts (whole_row t head)

-- what they are of the debit exposure
abbrev pub head_debit_exposure : SubmissionHead → (day : ℕ) → (holidays : List ℕ) → Tables → ℕ
head_debit_exposure head day holidays t = debit_exposure (head_facts head t) day holidays

-- of a submission of credits, this is what its entries are of the credit exposure
abbrev pub IsCreditExposure : SubmissionHead → (day : ℕ) → (found : ℕ) → Tables → Type 0
IsCreditExposure head day found t = is_debit head.direction ≡ false → found ≡ credit_exposure (head_facts head t) day

-- of a submission of debits, this is what its entries are of the debit exposure
abbrev pub IsDebitExposure : SubmissionHead → (day : ℕ) → (holidays : List ℕ) → (found : ℕ) → Tables → Type 0
IsDebitExposure head day holidays found t =
    is_debit head.direction ≡ true → found ≡ head_debit_exposure head day holidays t

-- the state of an entry that did not come back
abbrev pub state_alone : SubmissionHead → EntryState
state_alone head = unless_lapsed head.lapsed (state_with head.settled None)

-- the same where an entry that did not come back is open
abbrev pub IsOpenExposure : SubmissionHead → (day : ℕ) → (holidays : List ℕ) → (found : ℕ) → Tables → Type 0
IsOpenExposure head day holidays found t =
    is_debit head.direction ≡ true → is_open_debit (state_alone head) day holidays ≡ true
    → found ≡ head_debit_exposure head day holidays t

-- each entry has that state
abbrev pub IsWhole : Tables → SubmissionHead → Type 0
IsWhole t head = (index : ℕ) → state_among head (returns_in head.company head.order t) index ≡ state_alone head

-- those of the entries of submissions
abbrev pub heads_exposures : Tables → List SubmissionHead → (day : ℕ) → (holidays : List ℕ) → ℕ × ℕ
heads_exposures t heads day holidays = exposures_on (map (whole_row t) heads) day holidays

-- the entries of these submissions have all exposures of a company
abbrev pub HaveExposuresOf : (company : List ℕ) → (day : ℕ) → (holidays : List ℕ) → Vec SubmissionHead Global → Tables
    → Type 0
HaveExposuresOf company day holidays found t =
    heads_exposures t found.items day holidays ≡ exposures_in company day holidays t

-- a company's exposures by the calendar that stands beside them
abbrev pub company_exposures : (company : List ℕ) → (day : ℕ) → Tables → ℕ × ℕ
company_exposures company day t = exposures_in company day t.holidays t

-- a fact for each entry of a row of debits
abbrev pub debit_facts : Row → List EntryFact
debit_facts row = if is_debit row.content.direction then row_facts row else []

-- those of a submission of which the head is known
abbrev pub head_debit_facts : SubmissionHead → Tables → List EntryFact
head_debit_facts head t = debit_facts (whole_row t head)

-- those of each submission of a list
abbrev pub heads_debit_facts : List SubmissionHead → Tables → List EntryFact
heads_debit_facts heads t = flat_map (λ head. debit_facts (whole_row t head)) heads

-- those of each submission of a company that settles on a day or later
abbrev pub settled_debit_facts : (company : List ℕ) → (since : ℕ) → Tables → List EntryFact
settled_debit_facts company since t = heads_debit_facts (heads_in (is_settled_of company since) t) t

-- the facts of the debits of the submission with a number in its company, unless it settles on a day or later
abbrev pub earlier_facts : (company : List ℕ) → (since : ℕ) → Tables → (order : ℕ) → List EntryFact
earlier_facts c since t order =
    heads_debit_facts (filter (λ head. not (is_since since head.settled)) (heads_in (is_row c order) t)) t

-- the facts of distinct submissions, among which are all of which an entry came back on the day or later
pub record AreReturned (company : List ℕ) (since : ℕ) (t : Tables) (facts : List EntryFact) : Type 0 where
  pub orders : List ℕ
  pub rise : IsStrictlySortedBy nat_cmp orders
  pub all : (order : ℕ) → Contains (orders_returned company since t) order → Contains orders order
  pub are : facts ≡ flat_map (earlier_facts company since t) orders
