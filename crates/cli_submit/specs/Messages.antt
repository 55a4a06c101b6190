-- The message that submits a list of entries, or its fault.
use Rattle.std.specs.Prelude.{◌≡◌, ℕ, true, not, List, ◌++◌, length, nat_lt, if◌then◌else◌, codes, decimal, Option, Some, None, Result, Ok, Err, Vec}
use Rattle.std.specs.Str.{is_utf8}
use Rattle.std.specs.declared.alloc.Global.{Global}
use Rattle.serde_json.specs.Read.{read}
use Rattle.serde_json.specs.Written.{compact_text}
use Rattle.serde_json.specs.declared.value.Value.{Value}
use Rattle.ach_fields.specs.Names.{is_id}
use Rattle.http_json.specs.Read.{object_of}
use Rattle.desk_rules.specs.Fields.{is_key}
use Rattle.cli_submit.specs.Bodies.{body_data, AreEntries}
use Rattle.cli_submit.specs.Lists.{entries_of_list, IsUnlessNoMemory}
use Rattle.cli_submit.specs.Options.{OptionTexts}
use Rattle.cli_submit.specs.Rows.{EntryTexts}
use Rattle.cli_submit.specs.declared.fault.InputFault.{InputFault}
use Rattle.cli_submit.specs.declared.fault.InputFault.TheVariants.{BadCompany, BadKey, TooLarge}
use Rattle.cli_submit.specs.declared.fault.SubmitFault.{SubmitFault}

-- how many bytes a list has at most
abbrev pub most_bytes : ℕ
most_bytes = 4_194_304

-- the request line, three headers and the empty line, before a body of this size
unfoldable pub head_text : OptionTexts → (size : ℕ) → List ℕ
head_text o size =
    codes "POST /c/" ++ (o.company ++ (codes "/submissions HTTP/1.1\r\nHost: 127.0.0.1\r\nX-Desk-Key: "
    ++ (o.key ++ (codes "\r\nContent-Length: " ++ (decimal size ++ codes "\r\n\r\n")))))

-- the text of the submission of these entries
abbrev pub body_text : OptionTexts → List EntryTexts → List ℕ
body_text o entries = compact_text (body_data o entries)

-- the message of these entries
abbrev pub text_of : OptionTexts → List EntryTexts → List ℕ
text_of o entries = head_text o (length (body_text o entries)) ++ body_text o entries

-- the fault of the options, or of a list of this many bytes, if there is one
abbrev pub input_fault : OptionTexts → (size : ℕ) → Option InputFault
input_fault o size =
    if not (is_id o.company) then Some BadCompany
    else (if not (is_key o.key) then Some BadKey
    else (if nat_lt most_bytes size then Some TooLarge else None))

-- the fault, or the entries that the list gives, or its first fault
abbrev pub entries_unless : Option InputFault → (list : List ℕ) → Result (List EntryTexts) InputFault
entries_unless (Some f) list = Err f
entries_unless None list = entries_of_list list

-- the entries that the options and the list give, or the first fault
unfoldable pub entries_or_fault : OptionTexts → (list : List ℕ) → Result (List EntryTexts) InputFault
entries_or_fault o list = entries_unless (input_fault o (length list)) list

-- the message of the entries, if there is no fault
abbrev pub message_or_fault : OptionTexts → Result (List EntryTexts) InputFault → Result (List ℕ) InputFault
message_or_fault o (Ok entries) = Ok (text_of o entries)
message_or_fault o (Err f) = Err f

-- the message that the options and the list give, or the first fault
unfoldable pub message_of : OptionTexts → (list : List ℕ) → Result (List ℕ) InputFault
message_of o list = message_or_fault o (entries_or_fault o list)

-- the message is the one wanted, or the fault is, or memory ran out
abbrev pub Gives : (wanted : Result (List ℕ) InputFault) → Result (Vec ℕ Global) SubmitFault → Type 0
Gives wanted given = IsUnlessNoMemory (λ v text. v.items ≡ text) wanted given

-- the message is a head and a body, which the desk reads as the submission of these entries
abbrev pub ReadsAs : OptionTexts → List EntryTexts → (message : List ℕ) → Type 0
ReadsAs o entries message =
    (body : List ℕ) × (message ≡ head_text o (length body) ++ body) × (object_of body ≡ Some (body_data o entries))

-- the text is the body of these entries
abbrev pub IsBody : OptionTexts → List EntryTexts → (text : List ℕ) → Type 0
IsBody o entries text = text ≡ body_text o entries

-- the text is UTF-8, and is read as their submission
abbrev pub IsReadAsBody : OptionTexts → List EntryTexts → (text : List ℕ) → Type 0
IsReadAsBody o entries text = (is_utf8 text ≡ true) × (read text ≡ Some (body_data o entries))

-- the text is the message of these entries
abbrev pub IsMessage : OptionTexts → List EntryTexts → (text : List ℕ) → Type 0
IsMessage o entries text = text ≡ text_of o entries

-- this is said of a text, for all entries that the values are
abbrev pub OfEntries : (values : Vec Value Global) → (Is : List EntryTexts → List ℕ → Type 0)
    → (text : Vec ℕ Global) → Type 0
OfEntries values Is text = (entries : List EntryTexts) → AreEntries values entries → Is entries text.items

-- the desk reads the message as the submission of the list's entries
abbrev pub ReadsBack : OptionTexts → (list message : List ℕ) → Type 0
ReadsBack o list message = (entries : List EntryTexts) × (entries_or_fault o list ≡ Ok entries) × ReadsAs o entries message
