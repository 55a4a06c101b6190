-- The faults of messages, which no call of the desk answers: name, HTTP status and body of each.
use Rattle.std.specs.Prelude.{ℕ, List, codes}
use Rattle.serde_json.specs.Written.{compact_text}
use Rattle.http_json.specs.Refusals.{fault_body}
use Rattle.http_answers.specs.declared.faults.MessageFault.{MessageFault}
use Rattle.http_answers.specs.declared.faults.MessageFault.TheVariants as faults

-- the name as bodies write it
abbrev pub fault_name : MessageFault → List ℕ
fault_name faults.BadHead = codes "BadHead"
fault_name faults.LengthRequired = codes "LengthRequired"
fault_name faults.TooLarge = codes "TooLarge"
fault_name faults.NotFound = codes "NotFound"
fault_name faults.BadMethod = codes "BadMethod"
fault_name faults.Denied = codes "Denied"
fault_name faults.BadJson = codes "BadJson"
fault_name faults.NoReference = codes "NoReference"
fault_name faults.NoFile = codes "NoFile"

-- the HTTP status of the answer
abbrev pub fault_status : MessageFault → ℕ
fault_status faults.BadHead = 400
fault_status faults.LengthRequired = 411
fault_status faults.TooLarge = 413
fault_status faults.NotFound = 404
fault_status faults.BadMethod = 405
fault_status faults.Denied = 403
fault_status faults.BadJson = 400
fault_status faults.NoReference = 404
fault_status faults.NoFile = 404

-- the bytes of the body
abbrev pub message_fault_body : MessageFault → List ℕ
message_fault_body fault = compact_text (fault_body (fault_name fault))
