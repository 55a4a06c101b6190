-- The command that answers a submission.
use Rattle.std.specs.Prelude.{ℕ, Bool, false, List, length, nat_lt, if◌then◌else◌, codes}
use Rattle.serde_json.specs.Written.{compact_text}
use Rattle.http_json.specs.Refusals.{fault_body}
use Rattle.cli_commands.specs.BodyAnswers.{submission_answer}
use Rattle.cli_commands.specs.Inputs.{most_input}
use Rattle.cli_commands.specs.Printing.{with_line_feed}

-- the answer to a body of any length
abbrev pub first_run_answer : (body : List ℕ) → Bool × List ℕ
first_run_answer body =
    if nat_lt most_input (length body) then (false, compact_text (fault_body (codes "TooLarge"))) else submission_answer body

-- and as it is printed
abbrev pub first_run_line : (body : List ℕ) → Bool × List ℕ
first_run_line body = with_line_feed (first_run_answer body)
