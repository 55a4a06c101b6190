-- What the desk answers to a text that it cannot read.
use Rattle.std.specs.Prelude.{Result, Ok, Err}
use Rattle.bank_days.specs.declared.calendar_fault.CalendarFault.{CalendarFault}
use Rattle.bank_days.specs.declared.calendar_fault.CalendarFault.TheVariants.{NoMemory}
use Rattle.desk_history.specs.declared.answer.Answer.{Answer}
use Rattle.desk_history.specs.declared.answer.Answer.TheVariants.{Refused}
use Rattle.desk_history.specs.declared.answer.CallRefusal.TheVariants.{BadCalendar}
use Rattle.desk_store.specs.declared.store.StoreFault.{StoreFault}
use Rattle.desk_store.specs.declared.store.StoreFault.TheVariants.{Unavailable}

-- a holiday list is refused with its fault; want of memory is no fault of the list
abbrev pub list_refusal : CalendarFault → Result Answer StoreFault
list_refusal NoMemory = Err Unavailable
list_refusal fault = Ok (Refused (BadCalendar fault))
