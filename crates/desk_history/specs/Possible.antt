-- Which lists of events a history gives: one that returns and changes only what was sent, and returns
-- each entry once.
use Rattle.std.specs.Prelude.{◌≡◌, ◌≤◌, ⊤, ℕ, ◌-◌, false, List, [], ◌∷◌, Some, slice_get}
use Rattle.desk_rules.specs.declared.bodies.submission.Entry.{Entry}
use Rattle.desk_rules.specs.ReturnCodes.{IsCode}
use Rattle.desk_history.specs.Part.{Event, Returned, Changed}
use Rattle.desk_history.specs.State.{is_returned}
use Rattle.desk_history.specs.Accepted.{AcceptedSubmission, settlement_day}
use Rattle.desk_history.specs.Reports.{submission_under}
use Rattle.desk_history.specs.Message.{Pair}
use Rattle.desk_history.specs.History.{part}

-- an entry that was sent, by the reference of its submission and its number there
pub record IsSentEntry (P : List Event) (reference : List ℕ) (index : ℕ) : Type 0 where
  pub accepted : AcceptedSubmission
  pub entry : Entry
  pub on : ℕ
  pub called : submission_under P reference ≡ Some accepted
  pub sent : settlement_day P accepted ≡ Some on
  pub from : 1 ≤ index
  pub at : slice_get accepted.content.entries (index - 1) ≡ Some entry

-- an entry whose first return this is
pub record IsFirstReturn (P : List Event) (reference : List ℕ) (index code : ℕ) : Type 0 where
  pub of : IsSentEntry P reference index
  pub first : is_returned P reference index ≡ false
  pub code_is : IsCode code

abbrev pub IsPossibleNext : List Event → Event → Type 0
IsPossibleNext P (Returned reference index code information) = IsFirstReturn P reference index code
IsPossibleNext P (Changed reference index code text) = IsSentEntry P reference index
IsPossibleNext P _ = ⊤

abbrev pub IsPossible : List Event → Type 0
IsPossible [] = ⊤
IsPossible (e ∷ P) = IsPossibleNext P e × IsPossible P

-- each company's part of a history is a possible part
abbrev pub PossibleParts : Type 0
PossibleParts = (odfi : List ℕ) (H : List Pair) (c : List ℕ) → IsPossible (part odfi H c)
