-- The message that a call is.
use Rattle.std.specs.Prelude.{◌≡◌, ℕ, List, Some, Ok, Err}
use Rattle.ach_files.specs.File.{IsReadAs}
use Rattle.ach_files.specs.FirstFault.{fault}
use Rattle.bank_days.specs.HolidayList.{holidays_in}
use Rattle.desk_history.specs.declared.call.Call.{Call}
use Rattle.desk_history.specs.declared.call.Call.TheVariants as calls
use Rattle.desk_history.specs.Request as request
use Rattle.desk_history.specs.Message.{Message, Of, SetDay, SetHolidays, PutCompany, PutLimits, Cut, TakeFile, FileText, Settlement, Suspense, Status, Companies}

-- what is read from the bytes of a file: its facts, or its first fault
abbrev pub IsFileOf : List ℕ → Message → Type 0
IsFileOf bytes (TakeFile (Ok facts)) = IsReadAs bytes facts
IsFileOf bytes (TakeFile (Err f)) = fault bytes ≡ Some f
IsFileOf bytes _ = ⊥

-- The message of a call. Bytes have one such message: they are one file, or have one first fault.
abbrev pub IsMessageOf : Call → Message → Type 0
IsMessageOf (calls.PutCompany d) m = m ≡ PutCompany d
IsMessageOf (calls.PutLimits d) m = m ≡ PutLimits d
IsMessageOf (calls.SetDay text) m = m ≡ SetDay text
IsMessageOf (calls.SetHolidays bytes) m = m ≡ SetHolidays (holidays_in bytes)
IsMessageOf calls.Cut m = m ≡ Cut
IsMessageOf (calls.TakeFile bytes) m = IsFileOf bytes m
IsMessageOf (calls.FileText day modifier) m = m ≡ FileText day modifier
IsMessageOf calls.Settlement m = m ≡ Settlement
IsMessageOf calls.SuspenseItems m = m ≡ Suspense
IsMessageOf calls.Status m = m ≡ Status
IsMessageOf calls.Companies m = m ≡ Companies
IsMessageOf (calls.Submit c d) m = m ≡ Of c (request.Submit d)
IsMessageOf (calls.Retry c d) m = m ≡ Of c (request.Retry d)
IsMessageOf (calls.LookUp c reference) m = m ≡ Of c (request.LookUp reference)
IsMessageOf (calls.ReturnsOf c) m = m ≡ Of c request.Returns
IsMessageOf (calls.ChangesOf c) m = m ≡ Of c request.Changes
IsMessageOf (calls.StatementOf c) m = m ≡ Of c request.Statement
IsMessageOf (calls.RatesOf c) m = m ≡ Of c request.Rates
IsMessageOf (calls.ExposureOf c) m = m ≡ Of c request.Exposure

-- each call is one message, and no other
pub record OneMessage : Type 0 where
  pub some : (call : Call) → (m : Message) × IsMessageOf call m
  pub only : (call : Call) (m n : Message) → IsMessageOf call m → IsMessageOf call n → m ≡ n
