-- Nacha's return rates, unauthorized, administrative and overall: two counts over the 60 days that end on the desk day.
use Rattle.std.specs.Prelude.{ℕ, ◌-◌, ◌*◌, Bool, true, false, not, ◌&&◌, nat_le, nat_lt, List, [], ◌∷◌, count_by}
use Rattle.desk_rules.specs.declared.rules.entry_fact.EntryFact.{EntryFact}
use Rattle.desk_rules.specs.declared.rules.entry_fact.EntryState.{EntryState}
use Rattle.desk_rules.specs.declared.rules.entry_fact.EntryState.TheVariants.{Held, Sent, Returned, Lapsed}
use Rattle.desk_rules.specs.declared.rules.rate.Level.{Level}
use Rattle.desk_rules.specs.declared.rules.rate.Level.TheVariants.{Unauthorized, Administrative, Overall}
use Rattle.desk_rules.specs.declared.rules.rate.Rate.{Rate}
use Rattle.desk_rules.specs.declared.rules.rate.Rates.{Rates}
use Rattle.desk_rules.specs.TimeClasses.{is_among}

-- R05 R07 R10 R11 R29
abbrev pub unauthorized_codes : List ℕ
unauthorized_codes = 5 ∷ 7 ∷ 10 ∷ 11 ∷ 29 ∷ []

-- R02 R03 R04
abbrev pub administrative_codes : List ℕ
administrative_codes = 2 ∷ 3 ∷ 4 ∷ []

-- does a level count a code? Overall counts each
abbrev pub is_of_level : Level → ℕ → Bool
is_of_level Unauthorized code = is_among unauthorized_codes code
is_of_level Administrative code = is_among administrative_codes code
is_of_level Overall code = true

-- one of the 60 days that end on the desk day
abbrev pub is_in_window : (at : ℕ) → (day : ℕ) → Bool
is_in_window at day = nat_le (day - 59) at && nat_le at day

-- it settled in the window
abbrev pub has_settled : EntryState → ℕ → Bool
has_settled Held day = false
has_settled (Sent settled) day = is_in_window settled day
has_settled (Returned settled code taken late) day = is_in_window settled day
has_settled Lapsed day = false

-- its return was taken in the window, with a code of the level
abbrev pub was_returned : Level → EntryState → ℕ → Bool
was_returned level Held day = false
was_returned level (Sent settled) day = false
was_returned level (Returned settled code taken late) day = is_in_window taken day && is_of_level level code
was_returned level Lapsed day = false

abbrev pub is_live_debit : EntryFact → Bool
is_live_debit f = f.debit && not f.prenote

-- the live debits that settled in the window
abbrev pub settled_count : List EntryFact → ℕ → ℕ
settled_count facts day = count_by (λ f. is_live_debit f && has_settled f.state day) facts

-- the live debits whose return counts
abbrev pub returned_count : Level → List EntryFact → ℕ → ℕ
returned_count level facts day = count_by (λ f. is_live_debit f && was_returned level f.state day) facts

-- more than 5 in 1,000, 3 in 100 and 15 in 100
abbrev pub exceeds : Level → ℕ → (day : ℕ) → Bool
exceeds Unauthorized n d = nat_lt (d * 5) (n * 1_000)
exceeds Administrative n d = nat_lt (d * 3) (n * 100)
exceeds Overall n d = nat_lt (d * 15) (n * 100)

abbrev pub rate_of : Level → List EntryFact → ℕ → Rate
rate_of level facts day =
    record { n = returned_count level facts day; d = settled_count facts day; over = exceeds level (returned_count level facts day) (settled_count facts day) }

abbrev pub rates : List EntryFact → ℕ → Rates
rates facts day =
    record { unauthorized = rate_of Unauthorized facts day; administrative = rate_of Administrative facts day; overall = rate_of Overall facts day }
