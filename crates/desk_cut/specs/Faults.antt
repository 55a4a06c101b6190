-- When what a cut sends settles too late for a rule, and what is told of it.
use Rattle.std.specs.Prelude.{◌≡◌, ⊤, ℕ, Bool, true, false, List, nat_lt, Result, Ok, Err}
use Rattle.std.specs.List.{list_any}
use Rattle.desk_rules.specs.Deadlines.{last_rule_day}
use Rattle.desk_history.specs.Sendings.{Sending}
use Rattle.desk_book.specs.declared.held_submission.HeldSubmission.{HeldSubmission}
use Rattle.desk_book.specs.OnCut.{is_due}
use Rattle.desk_cut.specs.declared.fault.CutFault.{CutFault}
use Rattle.desk_cut.specs.declared.fault.CutFault.TheVariants.{DaysSpent, NoMemory}

-- whether one of them would settle after the last day from which rules count
abbrev pub settles_beyond : List Sending → Bool
settles_beyond ss = list_any (λ s. nat_lt last_rule_day s.settled) ss

-- One would settle too far ahead; or memory was refused.
abbrev pub IsUnsettled : List Sending → CutFault → Type 0
IsUnsettled ss DaysSpent = settles_beyond ss ≡ true
IsUnsettled ss NoMemory = ⊤
IsUnsettled ss fault = ⊥

-- It is DaysSpent exactly where one would settle too far ahead; the only other fault is that memory was refused.
abbrev pub TellsBeyond : {A : Type 0} → (beyond : Bool) → Result A CutFault → Type 0
TellsBeyond beyond (Ok _) = beyond ≡ false
TellsBeyond beyond (Err DaysSpent) = beyond ≡ true
TellsBeyond beyond (Err NoMemory) = beyond ≡ false
TellsBeyond beyond (Err fault) = ⊥

-- whether a cut on a day would send one of what waits, or let it lapse
abbrev pub is_any_due : (holidays : List ℕ) → (day : ℕ) → List HeldSubmission → Bool
is_any_due holidays day waiting = list_any (is_due holidays day) waiting
