-- The answer to a submission's body, without a desk: whether it is accepted, and the text.
use Rattle.std.specs.Prelude.{◌≡◌, ℕ, Bool, true, false, List, length, codes, Option, Some, None, Result, Ok, Err, Vec}
use Rattle.std.specs.declared.alloc.Global.{Global}
use Rattle.serde_json.specs.Data.{Data}
use Rattle.serde_json.specs.Written.{compact_text}
use Rattle.desk_rules.specs.Chain.{◌>>=◌}
use Rattle.desk_rules.specs.Submission.{submission_of}
use Rattle.desk_rules.specs.Size.{sized_of, total_of}
use Rattle.desk_rules.specs.declared.bodies.submission.Submission.{Submission}
use Rattle.desk_rules.specs.declared.refusals.refusal.Refusal.{Refusal}
use Rattle.http_json.specs.Acceptance.{acceptance_body}
use Rattle.http_json.specs.Drafts.{submission_draft_of}
use Rattle.http_json.specs.Read.{object_of}
use Rattle.http_json.specs.Refusals.{fault_body, refusal_body}

-- the submission that an object is, or the first refusal
abbrev pub checked_submission : Data → Result Submission Refusal
checked_submission d = submission_of (submission_draft_of d) >>= sized_of

-- the body of a submission that is accepted as the first order
abbrev pub acceptance_text : Submission → List ℕ
acceptance_text s = compact_text (acceptance_body s.reference (total_of s.entries) (length s.entries) 1)

-- the answer to a submission that was checked
abbrev pub outcome_answer : Result Submission Refusal → Bool × List ℕ
outcome_answer (Ok s) = (true, acceptance_text s)
outcome_answer (Err r) = (false, compact_text (refusal_body r))

-- the answer to an object, if the body is one
abbrev pub object_answer : Option Data → Bool × List ℕ
object_answer None = (false, compact_text (fault_body (codes "BadJson")))
object_answer (Some d) = outcome_answer (checked_submission d)

-- the answer to a body
abbrev pub submission_answer : (body : List ℕ) → Bool × List ℕ
submission_answer body = object_answer (object_of body)

-- what a call gives is this answer
abbrev pub IsAnswer : (answer : Bool × List ℕ) → (given : Bool × Vec ℕ Global) → Type 0
IsAnswer answer given = (given.0 ≡ answer.0) × (given.1.items ≡ answer.1)
