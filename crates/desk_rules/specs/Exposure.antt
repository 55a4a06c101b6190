-- Exposures: how many cents a company's entries may still cost the bank. The rule is the desk's own.
use Rattle.std.specs.Prelude.{ℕ, Bool, true, false, not, ◌&&◌, nat_le, List, filter, sum_by}
use Rattle.bank_days.specs.Calendar.{nth_after}
use Rattle.desk_rules.specs.declared.rules.entry_fact.EntryFact.{EntryFact}
use Rattle.desk_rules.specs.declared.rules.entry_fact.EntryState.{EntryState}
use Rattle.desk_rules.specs.declared.rules.entry_fact.EntryState.TheVariants.{Held, Sent, Returned, Lapsed}

-- held, or settles on the day or later; returned credits count too
abbrev pub is_open_credit : EntryState → ℕ → Bool
is_open_credit Held day = true
is_open_credit (Sent settled) day = nat_le day settled
is_open_credit (Returned settled code taken late) day = nat_le day settled
is_open_credit Lapsed day = false

-- held, or sent with its second banking day after settlement on the day or after it
abbrev pub is_open_debit : EntryState → (day : ℕ) → (holidays : List ℕ) → Bool
is_open_debit Held day holidays = true
is_open_debit (Sent settled) day holidays = nat_le day (nth_after holidays settled 2)
is_open_debit (Returned settled code taken late) day holidays = false
is_open_debit Lapsed day holidays = false

-- the cents of the credits that are due
abbrev pub credit_exposure : List EntryFact → ℕ → ℕ
credit_exposure facts day = sum_by (λ f. f.cents) (filter (λ f. not f.debit && is_open_credit f.state day) facts)

-- the cents of the debits that are open
abbrev pub debit_exposure : List EntryFact → (day : ℕ) → (holidays : List ℕ) → ℕ
debit_exposure facts day holidays = sum_by (λ f. f.cents) (filter (λ f. f.debit && is_open_debit f.state day holidays) facts)
