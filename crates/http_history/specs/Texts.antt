-- The bytes of answers.
use Rattle.std.specs.Prelude.{ℕ, Bool, List, [], take, bytes_eq, codes, Ok, Err}
use Rattle.serde_json.specs.Data.{Data}
use Rattle.serde_json.specs.Written.{compact_text}
use Rattle.desk_history.specs.declared.answer.Answer.{Answer}
use Rattle.desk_history.specs.Message.{Message}
use Rattle.http_response.specs.declared.response.Content.TheVariants.{Json}
use Rattle.http_response.specs.Response.{response_text}
use Rattle.http_answers.specs.Answers.{answer_body}
use Rattle.http_answers.specs.Faults.{fault_status, message_fault_body}
use Rattle.http_answers.specs.Statuses.{kind_of, status_of, content_of}
use Rattle.http_history.specs.Verdict.{Verdict}

-- an answer with this status and this JSON
abbrev pub json_text : (closes : Bool) → (status : ℕ) → Data → List ℕ
json_text closes status body = response_text status Json closes (compact_text body)

-- the answer to a call
unfoldable pub call_text : (closes : Bool) → Message → Answer → List ℕ
call_text closes m a = response_text (status_of (kind_of m) a) (content_of a) closes (answer_body a)

-- the answer without a call
unfoldable pub fault_text : (closes : Bool) → Verdict → List ℕ
fault_text closes (Err fault) = response_text (fault_status fault) Json closes (message_fault_body fault)
fault_text closes (Ok call) = []

-- its status is 503: the desk could not act
unfoldable pub is_unavailable : List ℕ → Bool
is_unavailable bytes = bytes_eq (take 12 bytes) (codes "HTTP/1.1 503")

-- its status is 200 or 201: no other that a desk gives begins so
unfoldable pub is_success : List ℕ → Bool
is_success bytes = bytes_eq (take 11 bytes) (codes "HTTP/1.1 20")
