-- The call of a message that asks for what is known, and no more.
use Rattle.std.proofs.Common.{◌≡◌, true, false, sym, ap, ◌∙◌}
use Rattle.desk_history.specs.declared.call.Call.{Call}
use Rattle.desk_history.specs.declared.call.Call.TheVariants as calls
use Rattle.desk_history.specs.Calls.{IsMessageOf}
use Rattle.desk_history.specs.Message.{Message, TakeFile}
use Rattle.desk_book.specs.Writes.{is_read}
use Rattle.desk_calls.specs.Applying.{IsReadCall}

pub read_call : (call : Call) (m : Message) → IsMessageOf call m → is_read m ≡ true → IsReadCall call
read_call (calls.PutCompany d) m is reads = let no : false ≡ true = sym (ap is_read is) ∙ reads in cc
read_call (calls.PutLimits d) m is reads = let no : false ≡ true = sym (ap is_read is) ∙ reads in cc
read_call (calls.SetDay text) m is reads = let no : false ≡ true = sym (ap is_read is) ∙ reads in cc
read_call (calls.SetHolidays bytes) m is reads = let no : false ≡ true = sym (ap is_read is) ∙ reads in cc
read_call calls.Cut m is reads = let no : false ≡ true = sym (ap is_read is) ∙ reads in cc
read_call (calls.TakeFile bytes) (TakeFile file) is reads = cc
read_call (calls.TakeFile bytes) m is reads = is
read_call (calls.Submit c d) m is reads = let no : false ≡ true = sym (ap is_read is) ∙ reads in cc
read_call (calls.Retry c d) m is reads = let no : false ≡ true = sym (ap is_read is) ∙ reads in cc
read_call (calls.FileText day modifier) m is reads = tt
read_call calls.Settlement m is reads = tt
read_call calls.SuspenseItems m is reads = tt
read_call calls.Status m is reads = tt
read_call calls.Companies m is reads = tt
read_call (calls.LookUp c reference) m is reads = tt
read_call (calls.ReturnsOf c) m is reads = tt
read_call (calls.ChangesOf c) m is reads = tt
read_call (calls.StatementOf c) m is reads = tt
read_call (calls.RatesOf c) m is reads = tt
read_call (calls.ExposureOf c) m is reads = tt
