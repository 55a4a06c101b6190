-- The framing that a head gives the body after it.
use Rattle.std.specs.Prelude.{ℕ, Bool, true, false, ◌&&◌, ◌||◌, not, nat_lt, List, [], ◌∷◌, length, bytes_eq, codes, Option, Some, None, if◌then◌else◌}
use Rattle.std.specs.Char.{is_ascii_digit}
use Rattle.std.specs.List.{list_all}
use Rattle.std.specs.Str.Parse.{digits_value}
use Rattle.http_message.specs.Fields.{FieldValue, first_value, same_in_any_case, values_of}
use Rattle.http_message.specs.declared.framing.Framing.{Framing}
use Rattle.http_message.specs.declared.framing.Framing.TheVariants.{BadLength, LengthRequired, TooLarge, Body}
use Rattle.http_message.specs.declared.message.Version.{Version}
use Rattle.http_message.specs.declared.message.Version.TheVariants.{Http10, Http11}

-- at least one digit, and nothing else
abbrev pub is_number : List ℕ → Bool
is_number bytes = nat_lt 0 (length bytes) && list_all is_ascii_digit bytes

-- there are two lengths, or one that is not a number
abbrev pub has_bad_length : List (List ℕ) → Bool
has_bad_length lengths = nat_lt 1 (length lengths) || not (list_all is_number lengths)

-- the number that the length writes; 0 without a length
abbrev pub length_of : List (List ℕ) → ℕ
length_of [] = 0
length_of (digits ∷ others) = digits_value 10 digits

abbrev pub is_post : List ℕ → Bool
is_post method = bytes_eq method (codes "POST")

-- the list of values is empty
abbrev pub has_none : List (List ℕ) → Bool
has_none values = not (nat_lt 0 (length values))

-- the body has another coding than its length, or it is a POST without a length
abbrev pub requires_length : List ℕ → List (List ℕ) → List (List ℕ) → Bool
requires_length method lengths codings = not (has_none codings) || (is_post method && has_none lengths)

-- what the lengths and the codings of a head say, the first that fits
abbrev pub framing_by : List ℕ → List (List ℕ) → List (List ℕ) → Framing
framing_by method lengths codings =
    if has_bad_length lengths then BadLength else (
    if requires_length method lengths codings then LengthRequired else (
    if nat_lt 4194304 (length_of lengths) then TooLarge else Body (length_of lengths)))

-- what a head with this method and these fields says of its body
abbrev pub framing_of : List ℕ → List FieldValue → Framing
framing_of method fields =
    framing_by method (values_of (codes "Content-Length") fields) (values_of (codes "Transfer-Encoding") fields)

-- whether the connection ends after the answer to a head that says this
abbrev pub ends_connection : Framing → Bool
ends_connection (Body n) = false
ends_connection framing = true

abbrev pub is_old : Version → Bool
is_old Http10 = true
is_old Http11 = false

-- there is a value, and it is `close` in any case
abbrev pub says_close : Option (List ℕ) → Bool
says_close None = false
says_close (Some value) = same_in_any_case value (codes "close")

-- whether the connection ends after the answer to a request whose head has this
abbrev pub closes_by : (is_last : Bool) → Version → List FieldValue → Framing → Bool
closes_by is_last version fields framing =
    is_last || is_old version || says_close (first_value (codes "Connection") fields) || ends_connection framing
