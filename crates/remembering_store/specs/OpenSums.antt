-- A company's entries as sums by settlement day. Exposures and return rates follow from these sums for any desk day and any
-- holidays. A set of days is a test: a function from days to Bool.
use Rattle.std.specs.Prelude.{ℕ, ◌+◌, Bool, true, false, not, ◌&&◌, if◌then◌else◌, nat_le, List, sum_by, count_by}
use Rattle.bank_days.specs.Calendar.{nth_after}
use Rattle.desk_rules.specs.declared.rules.entry_fact.EntryFact.{EntryFact}
use Rattle.desk_rules.specs.declared.rules.entry_fact.EntryState.{EntryState}
use Rattle.desk_rules.specs.declared.rules.entry_fact.EntryState.TheVariants.{Held, Sent, Returned, Lapsed}
use Rattle.desk_rules.specs.declared.rules.rate.Level.{Level}
use Rattle.desk_rules.specs.declared.rules.rate.Level.TheVariants as levels
use Rattle.desk_rules.specs.declared.rules.rate.Rate.{Rate}
use Rattle.desk_rules.specs.declared.rules.rate.Rates.{Rates}
use Rattle.desk_rules.specs.ReturnRates.{is_in_window, is_live_debit, is_of_level, exceeds}

-- ---- which entries are meant

abbrev pub is_held : EntryState → Bool
is_held Held = true
is_held (Sent settled) = false
is_held (Returned settled code taken late) = false
is_held Lapsed = false

-- it is sent or returned, and settles on one of these days
abbrev pub settles_on : (ℕ → Bool) → EntryState → Bool
settles_on days Held = false
settles_on days (Sent settled) = days settled
settles_on days (Returned settled code taken late) = days settled
settles_on days Lapsed = false

-- it is sent and not returned, and settles on one of these days
abbrev pub stands_on : (ℕ → Bool) → EntryState → Bool
stands_on days Held = false
stands_on days (Sent settled) = days settled
stands_on days (Returned settled code taken late) = false
stands_on days Lapsed = false

-- it is returned, its return was taken on one of these days, with one of these codes
abbrev pub came_back_on : (days codes : ℕ → Bool) → EntryState → Bool
came_back_on days codes Held = false
came_back_on days codes (Sent settled) = false
came_back_on days codes (Returned settled code taken late) = days taken && codes code
came_back_on days codes Lapsed = false

-- ---- the sums

abbrev pub cents_of : (EntryFact → Bool) → List EntryFact → ℕ
cents_of p facts = sum_by (λ f. if p f then f.cents else 0) facts

abbrev pub held_credits : List EntryFact → ℕ
held_credits facts = cents_of (λ f. not f.debit && is_held f.state) facts

abbrev pub held_debits : List EntryFact → ℕ
held_debits facts = cents_of (λ f. f.debit && is_held f.state) facts

-- credits that settle on these days, returned ones included
abbrev pub credits_on : (ℕ → Bool) → List EntryFact → ℕ
credits_on days facts = cents_of (λ f. not f.debit && settles_on days f.state) facts

-- debits that settle on these days and are not returned
abbrev pub debits_on : (ℕ → Bool) → List EntryFact → ℕ
debits_on days facts = cents_of (λ f. f.debit && stands_on days f.state) facts

-- the number of live debits that settle on these days, returned ones included
abbrev pub settled_on : (ℕ → Bool) → List EntryFact → ℕ
settled_on days facts = count_by (λ f. is_live_debit f && settles_on days f.state) facts

-- the number of live debits whose return was taken on these days with these codes
abbrev pub returned_on : (days codes : ℕ → Bool) → List EntryFact → ℕ
returned_on days codes facts = count_by (λ f. is_live_debit f && came_back_on days codes f.state) facts

-- ---- what follows from the sums

-- the days from one on
abbrev pub from_day : ℕ → ℕ → Bool
from_day day d = nat_le day d

-- the settlement days whose second banking day is this day or later
abbrev pub comes_back_by : (day : ℕ) → (holidays : List ℕ) → ℕ → Bool
comes_back_by day holidays d = nat_le day (nth_after holidays d 2)

abbrev pub exposures_read : List EntryFact → (day : ℕ) → (holidays : List ℕ) → ℕ × ℕ
exposures_read facts day holidays =
    (held_credits facts + credits_on (from_day day) facts, held_debits facts + debits_on (comes_back_by day holidays) facts)

abbrev pub in_window : ℕ → ℕ → Bool
in_window day d = is_in_window d day

abbrev pub rate_read : Level → List EntryFact → ℕ → Rate
rate_read level facts day =
    let n = returned_on (in_window day) (is_of_level level) facts in
    let d = settled_on (in_window day) facts in
    record { n = n; d = d; over = exceeds level n d }

abbrev pub rates_read : List EntryFact → ℕ → Rates
rates_read facts day = record {
  unauthorized = rate_read levels.Unauthorized facts day;
  administrative = rate_read levels.Administrative facts day;
  overall = rate_read levels.Overall facts day;
}
