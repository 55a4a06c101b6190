-- When a submission is sent, and the states of its entries.
use Rattle.std.specs.Prelude.{ℕ, max, Bool, true, false, ◌&&◌, ◌==◌, nat_lt, nat_le, if◌then◌else◌, List, [], ◌∷◌, length, Option, Some, None, is_some, is_none, unwrap_or, bytes_eq}
use Rattle.bank_days.specs.Calendar.{next_banking, nth_after, roll}
use Rattle.desk_rules.specs.declared.rules.entry_fact.EntryState.{EntryState}
use Rattle.desk_rules.specs.declared.rules.entry_fact.EntryState.TheVariants as states
use Rattle.desk_rules.specs.Deadlines.{is_late}
use Rattle.desk_rules.specs.RetryRule as rule
use Rattle.desk_history.specs.Words.{or_else}
use Rattle.desk_history.specs.Part.{Event, CutMade, Returned, holidays, today}

-- the place of a submission in its part: the number of events before it, and what a cut reads of it
pub record Place : Type 0 where
  pub before : ℕ
  pub debit : Bool
  pub asked : ℕ

-- the last day for which a cut sends: two banking days ahead for credits, one for debits
abbrev pub horizon : (holidays : List ℕ) → (today : ℕ) → (debit : Bool) → ℕ
horizon holidays today debit = nth_after holidays today (if debit then 1 else 2)

-- it is due where the banking day for which it was asked is not after that day
abbrev pub is_due : (holidays : List ℕ) → (today : ℕ) → (debit : Bool) → (asked : ℕ) → Bool
is_due holidays today debit asked = nat_le (roll holidays asked) (horizon holidays today debit)

-- what is sent settles on the banking day for which it was asked, and not before the next one
abbrev pub next_settlement : (holidays : List ℕ) → (today : ℕ) → (asked : ℕ) → ℕ
next_settlement holidays today asked = max (roll holidays asked) (next_banking holidays today)

-- The day on which a submission settles by its decision: the first cut after it at which it is due. `None` until such a
-- cut is made.
abbrev pub decision : List Event → Place → Option ℕ
decision [] p = None
decision (CutMade ∷ P) p =
    or_else (decision P p) (if nat_lt p.before (length P) && is_due (holidays P) (today P) p.debit p.asked then Some (next_settlement (holidays P) (today P) p.asked) else None)
decision (_ ∷ P) p = decision P p

-- more than 180 days after the original
abbrev pub is_too_late : Option ℕ → Option ℕ → Bool
is_too_late (Some settles) (Some original) = rule.is_too_late original settles
is_too_late _ _ = false

-- when the original of a retry settled
abbrev pub original_settlement : List Event → Option Place → Option ℕ
original_settlement P None = None
original_settlement P (Some p) = decision P p

-- a retry lapses where it would settle more than 180 days after its original
abbrev pub has_lapsed : List Event → Place → Option Place → Bool
has_lapsed P p original = is_too_late (decision P p) (original_settlement P original)

-- the day on which it settles, once it is sent
abbrev pub settlement_day : List Event → Place → Option Place → Option ℕ
settlement_day P p original = if has_lapsed P p original then None else decision P p

-- does the cut that comes next send it?
abbrev pub is_sent_next : List Event → Place → Option Place → Bool
is_sent_next P p original = is_none (decision P p) && is_some (settlement_day (CutMade ∷ P) p original)

-- does the cut that comes next make it lapse?
abbrev pub lapses_next : List Event → Place → Option Place → Bool
lapses_next P p original = is_none (decision P p) && has_lapsed (CutMade ∷ P) p original

-- a return that was taken: its code, the day, and whether that was after the deadline by the holidays then
pub record TakenReturn : Type 0 where
  pub code : ℕ
  pub day : ℕ
  pub late : Bool

-- a return of what settled on a day, taken after these events
abbrev pub new_return : List Event → (code : ℕ) → (on : Option ℕ) → TakenReturn
new_return P code on = record { code = code; day = today P; late = is_late code (unwrap_or on 0) (today P) (holidays P) }

-- the return that names an entry of a submission, which settled on this day
abbrev pub return_of : List Event → (reference : List ℕ) → (index : ℕ) → (on : Option ℕ) → Option TakenReturn
return_of [] reference index on = None
return_of (Returned r i code information ∷ P) reference index on =
    or_else (return_of P reference index on) (if bytes_eq r reference && i == index then Some (new_return P code on) else None)
return_of (_ ∷ P) reference index on = return_of P reference index on

abbrev pub is_returned : List Event → (reference : List ℕ) → (index : ℕ) → Bool
is_returned P reference index = is_some (return_of P reference index None)

abbrev pub sent_state : ℕ → Option TakenReturn → EntryState
sent_state on None = states.Sent on
sent_state on (Some t) = states.Returned on t.code t.day t.late

abbrev pub state_from : (lapsed : Bool) → (on : Option ℕ) → Option TakenReturn → EntryState
state_from true on t = states.Lapsed
state_from false None t = states.Held
state_from false (Some on) t = sent_state on t

-- held, lapsed, sent or returned
abbrev pub state_of : List Event → Place → Option Place → (reference : List ℕ) → (index : ℕ) → EntryState
state_of P p original reference index =
    state_from (has_lapsed P p original) (settlement_day P p original) (return_of P reference index (settlement_day P p original))
