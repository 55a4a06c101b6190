-- Traces.
use Rattle.std.specs.Prelude.{ℕ, Bool, List, ◌++◌, ◌&&◌, ◌==◌, length, take, drop, nat_le, nat_lt, if◌then◌else◌, Result, Ok, Err}
use Rattle.std.specs.List.{list_all}
use Rattle.ach_fields.specs.declared.fault.FieldFault.{FieldFault}
use Rattle.ach_fields.specs.declared.fault.FieldFault.TheVariants.{TooLong, NotDigit}
use Rattle.ach_fields.specs.Characters.{is_digit}
use Rattle.ach_fields.specs.Digits.{digits, number}
use Rattle.ach_fields.specs.Routing.{most_dfi}

-- seven digits
abbrev pub most_sequence : ℕ
most_sequence = 9_999_999

-- fifteen digits
abbrev pub is_trace : List ℕ → Bool
is_trace s = (length s == 15) && list_all is_digit s

-- the eight digits of a bank, then the seven of a sequence
unfoldable pub trace_text : ℕ → ℕ → List ℕ
trace_text dfi sequence = digits 8 dfi ++ digits 7 sequence

-- the trace of a bank's number and a sequence
abbrev pub trace_of : ℕ → ℕ → Result (List ℕ) FieldFault
trace_of dfi sequence =
    if nat_le dfi most_dfi && nat_le sequence most_sequence then Ok (trace_text dfi sequence) else Err TooLong

-- the trace that a text is
abbrev pub trace_in : List ℕ → Result (List ℕ) FieldFault
trace_in s =
    if nat_lt 15 (length s) then Err TooLong
    else (if (nat_lt (length s) 15) then Err NotDigit
    else (if list_all is_digit s then Ok s else Err NotDigit))

-- the bank that a trace names
abbrev pub dfi_in : List ℕ → ℕ
dfi_in s = number (take 8 s)

-- the sequence of a trace
abbrev pub sequence_in : List ℕ → ℕ
sequence_in s = number (drop 8 s)
