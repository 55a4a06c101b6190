-- What a company has waiting, and what a cut would do with it, by the sizes of it.
use Rattle.std.specs.Prelude.{ℕ, Bool, false, not, ◌==◌, if◌then◌else◌, nat_lt, List, [], ◌∷◌, length, map, filter, sum_by, Option, Some, None}
use Rattle.std.specs.List.{list_any}
use Rattle.desk_accounts.specs.Balance.{with_day}
use Rattle.desk_plan.specs.declared.batch.Batch.{Batch}
use Rattle.desk_rules.specs.declared.bodies.company.Company.{Company}
use Rattle.desk_rules.specs.Deadlines.{last_rule_day}
use Rattle.desk_rules.specs.LimitChecks.{is_debit}
use Rattle.desk_history.specs.declared.status.DueDay.{DueDay}
use Rattle.desk_history.specs.declared.status.Tallies.{Tallies}
use Rattle.desk_history.specs.declared.status.Tally.{Tally}
use Rattle.desk_history.specs.State.{is_due, is_too_late, next_settlement}
use Rattle.desk_book.specs.declared.held_size.HeldSize.{HeldSize}
use Rattle.desk_cut.specs.declared.sizes.SentSize.{SentSize}
use Rattle.desk_cut.specs.declared.status.DueOnDay.{DueOnDay}
use Rattle.desk_cut.specs.declared.waiting.CompanyWaiting.{CompanyWaiting}

-- ---- what is due

module _ (holidays : List ℕ) (today : ℕ) where
  abbrev pub is_size_due : HeldSize → Bool
  is_size_due z = is_due holidays today (is_debit z.direction) z.asked

  -- whether one of them is
  abbrev pub any_due : List HeldSize → Bool
  any_due zs = list_any is_size_due zs

  -- the day on which it would settle
  abbrev pub settles : HeldSize → ℕ
  settles z = next_settlement holidays today z.asked

  -- a retry lapses where it would settle too long after its original
  abbrev pub lapses : HeldSize → Bool
  lapses z = is_too_late (Some (settles z)) z.original_settled

  abbrev pub sent_size : HeldSize → SentSize
  sent_size z = record { size = z; settled = settles z }

  -- what is sent, in the order in which it waits
  abbrev pub sent_sizes : List HeldSize → List SentSize
  sent_sizes zs = map sent_size (filter (λ z. not (lapses z)) (filter is_size_due zs))

  -- how many lapse
  abbrev pub lapsing_among : List HeldSize → ℕ
  lapsing_among zs = length (filter lapses (filter is_size_due zs))

-- whether one would settle after the last day from which rules count
abbrev pub any_beyond : List SentSize → Bool
any_beyond ss = list_any (λ s. nat_lt last_rule_day s.settled) ss

-- ---- sums

abbrev pub tally_of : List HeldSize → Tally
tally_of zs = record { cents = sum_by (λ z. z.cents) zs; submissions = length zs }

abbrev pub tallies_of : List HeldSize → Tallies
tallies_of zs = record {
  credits = tally_of (filter (λ z. not (is_debit z.direction)) zs);
  debits = tally_of (filter (λ z. is_debit z.direction) zs);
}

-- the sums of what settles on a day
abbrev pub sums_on : ℕ → List SentSize → Tallies
sums_on day ss = tallies_of (map (λ s. s.size) (filter (λ s. s.settled == day) ss))

-- the days on which these settle, ascending
abbrev pub settlement_days : List SentSize → List ℕ
settlement_days [] = []
settlement_days (s ∷ ss) = with_day s.settled (settlement_days ss)

abbrev pub due_day : List SentSize → ℕ → DueDay
due_day ss d = record { day = d; sums = sums_on d ss }

abbrev pub due_days : List SentSize → List DueDay
due_days ss = map (due_day ss) (settlement_days ss)

-- what one of a company takes of a file and of the sequences
abbrev pub load_of : (company : List ℕ) → SentSize → Batch
load_of c s = record {
  company = c;
  order = s.size.order;
  settled = s.settled;
  debits = if is_debit s.size.direction then s.size.cents else 0;
  credits = if is_debit s.size.direction then 0 else s.size.cents;
  entries = s.size.entries;
  records = s.size.records;
}

-- ---- a company

-- what a cut would do with what waits
abbrev pub due_on : (company : List ℕ) → (holidays : List ℕ) → (day : ℕ) → List HeldSize → DueOnDay
due_on c holidays day zs = record {
  days = due_days (sent_sizes holidays day zs);
  lapsing = lapsing_among holidays day zs;
  loads = map (load_of c) (sent_sizes holidays day zs);
}

-- before the first day it would do nothing
abbrev pub due_since : (day : Option ℕ) → (company : List ℕ) → (holidays : List ℕ) → List HeldSize → DueOnDay
due_since None c holidays zs = record { days = []; lapsing = 0; loads = [] }
due_since (Some d) c holidays zs = due_on c holidays d zs

abbrev pub sent_since : (day : Option ℕ) → (holidays : List ℕ) → List HeldSize → List SentSize
sent_since None holidays zs = []
sent_since (Some d) holidays zs = sent_sizes holidays d zs

abbrev pub any_due_since : (day : Option ℕ) → (holidays : List ℕ) → List HeldSize → Bool
any_due_since None holidays zs = false
any_due_since (Some d) holidays zs = any_due holidays d zs

-- a company with held submissions of these sizes
abbrev pub waiting_by_size : (day : Option ℕ) → (holidays : List ℕ) → Company → List HeldSize → CompanyWaiting
waiting_by_size day holidays k zs = record {
  held_records = sum_by (λ z. z.records) zs;
  loads = (due_since day k.id holidays zs).loads;
  status = record {
    due = (due_since day k.id holidays zs).days;
    held = tallies_of zs;
    id = k.id;
    lapsing = (due_since day k.id holidays zs).lapsing;
    name = k.name;
  };
}
