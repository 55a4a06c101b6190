-- A message to the desk, and its answer. A file and a holiday list are represented by what was read from them.
use Rattle.std.specs.Prelude.{ℕ, Bool, true, false, List, Option, Result}
use Rattle.ach_files.specs.declared.fault.Fault.{Fault}
use Rattle.ach_files.specs.Facts.{FileFacts}
use Rattle.bank_days.specs.declared.calendar_fault.CalendarFault.{CalendarFault}
use Rattle.desk_rules.specs.declared.bodies.draft.CompanyDraft.{CompanyDraft}
use Rattle.desk_rules.specs.declared.bodies.draft.LimitsDraft.{LimitsDraft}
use Rattle.desk_history.specs.declared.answer.Answer.{Answer}
use Rattle.desk_history.specs.declared.answer.Answer.TheVariants.{Done, Refused}
use Rattle.desk_history.specs.Request.{Request}

pub data Message : Type 0 where
  -- a company's own request
  Of : (company : List ℕ) → Request → Message
  SetDay : (text : Option (List ℕ)) → Message
  SetHolidays : Result (List ℕ) CalendarFault → Message
  PutCompany : CompanyDraft → Message
  PutLimits : LimitsDraft → Message
  Cut : Message
  TakeFile : Result FileFacts Fault → Message
  FileText : (day modifier : ℕ) → Message
  Settlement : Message
  Suspense : Message
  Status : Message
  Companies : Message

-- a message and its answer: a history is a list of these, the newest first
pub record Pair : Type 0 where
  pub message : Message
  pub answer : Answer

abbrev pub is_accepted : Answer → Bool
is_accepted (Done value) = true
is_accepted (Refused why) = false
