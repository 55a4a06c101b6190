-- Attempts to collect a debit.
use Rattle.std.specs.Prelude.{ℕ, ◌-◌, List, length, slice_get, Option, Some, None, option_and_then}
use Rattle.desk_rules.specs.declared.rules.attempt.Attempt.{Attempt}
use Rattle.desk_rules.specs.declared.rules.attempt.Attempt.TheVariants as attempts
use Rattle.desk_rules.specs.declared.rules.entry_fact.EntryState.{EntryState}
use Rattle.desk_rules.specs.declared.rules.entry_fact.EntryState.TheVariants as states

-- a lapsed entry does not count as an attempt
abbrev pub attempt_of : EntryState → Option Attempt
attempt_of states.Held = Some attempts.Held
attempt_of (states.Sent settled) = Some (attempts.Sent settled)
attempt_of (states.Returned settled code taken late) = Some (attempts.Returned settled code taken)
attempt_of states.Lapsed = None

-- a returned attempt: its settlement day, its return code, and the day on which the return was taken
pub record Return : Type 0 where
  pub settled : ℕ
  pub code : ℕ
  pub taken : ℕ

-- the return of an attempt, if it is returned
abbrev pub return_of : Attempt → Option Return
return_of attempts.Held = None
return_of (attempts.Sent settled) = None
return_of (attempts.Returned settled code taken) = Some (record { settled = settled; code = code; taken = taken })

-- the return of the first attempt, the original
abbrev pub original_return : List Attempt → Option Return
original_return tried = option_and_then return_of (slice_get tried 0)

-- the return of the last attempt, the newest
abbrev pub newest_return : List Attempt → Option Return
newest_return tried = option_and_then return_of (slice_get tried (length tried - 1))
