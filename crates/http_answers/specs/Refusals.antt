-- The bodies and statuses of refused calls.
use Rattle.std.specs.Prelude.{ℕ, List, [], ◌∷◌, codes}
use Rattle.serde_json.specs.Data.{Data, number, unsigned, string}
use Rattle.ach_files.specs.declared.fault.Fault.{Fault}
use Rattle.ach_files.specs.FaultNames as file_faults
use Rattle.bank_days.specs.declared.calendar_fault.CalendarFault.{CalendarFault}
use Rattle.bank_days.specs.declared.calendar_fault.CalendarFault.TheVariants.{BadRow, NotAscending, TooMany, NoMemory}
use Rattle.desk_rules.specs.RefusalNames.{number_of, text_of, name_of, status_of}
use Rattle.desk_rules.specs.declared.refusals.names.RefusalName.TheVariants as names
use Rattle.http_json.specs.Refusals.{refusal_body}
use Rattle.http_json.specs.Members.{object_of}
use Rattle.desk_history.specs.declared.answer.CallRefusal.{CallRefusal}
use Rattle.desk_history.specs.declared.answer.CallRefusal.TheVariants as refusals

-- the fault of a holiday list, and its row; 0 if it belongs to none
abbrev pub calendar_fault_name : CalendarFault → List ℕ
calendar_fault_name (BadRow row) = codes "BadRow"
calendar_fault_name (NotAscending row) = codes "NotAscending"
calendar_fault_name TooMany = codes "TooMany"
calendar_fault_name NoMemory = codes "NoMemory"

abbrev pub calendar_fault_row : CalendarFault → ℕ
calendar_fault_row (BadRow row) = row
calendar_fault_row (NotAscending row) = row
calendar_fault_row TooMany = 0
calendar_fault_row NoMemory = 0

-- the fault of a file, and its record
abbrev pub bad_file_members : Fault → List (List ℕ × Data)
bad_file_members fault =
    (codes "error", string (text_of names.BadFile))
    ∷ (codes "fault", string (file_faults.name_of fault.kind))
    ∷ (codes "number", number (unsigned (number_of names.BadFile)))
    ∷ (codes "record", number (unsigned fault.at)) ∷ []

abbrev pub bad_file_body : Fault → Data
bad_file_body fault = object_of (bad_file_members fault)

-- the fault of a holiday list, and its row
abbrev pub bad_calendar_members : CalendarFault → List (List ℕ × Data)
bad_calendar_members fault =
    (codes "error", string (text_of names.BadCalendar))
    ∷ (codes "fault", string (calendar_fault_name fault))
    ∷ (codes "number", number (unsigned (number_of names.BadCalendar)))
    ∷ (codes "row", number (unsigned (calendar_fault_row fault))) ∷ []

abbrev pub bad_calendar_body : CalendarFault → Data
bad_calendar_body fault = object_of (bad_calendar_members fault)

-- the body of a refused call
abbrev pub call_refusal_body : CallRefusal → Data
call_refusal_body (refusals.Rule refusal) = refusal_body refusal
call_refusal_body (refusals.BadFile fault) = bad_file_body fault
call_refusal_body (refusals.BadCalendar fault) = bad_calendar_body fault

-- and its HTTP status
abbrev pub refusal_status : CallRefusal → ℕ
refusal_status (refusals.Rule refusal) = status_of (name_of refusal)
refusal_status (refusals.BadFile fault) = status_of names.BadFile
refusal_status (refusals.BadCalendar fault) = status_of names.BadCalendar
