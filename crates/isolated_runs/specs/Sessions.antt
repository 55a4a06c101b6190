-- The answers that a session of a desk writes to companies.
use Rattle.std.specs.Prelude.{◌≡◌, ℕ, List, ◌∷◌, ◌++◌, Option, Some, Result}
use Rattle.http_message.specs.Message.{MessageValue}
use Rattle.http_session.specs.declared.sessions.Ended.{Ended}
use Rattle.http_session.specs.declared.sessions.SessionFault.{SessionFault}
use Rattle.http_session.specs.Exchanges.{Exchange, Follows}
use Rattle.http_session.specs.Session.{SessionSpoke}
use Rattle.isolation.specs.Heard.{company_of}
use Rattle.isolated_runs.specs.Runs.{part_of_run, RunsFromParts}

-- If the desk is clean, and represented the state of a new desk after a run, then a session over it reads messages and writes
-- their answers. Each answer on a company's path is the reply to the company's part of the run and of the session until then,
-- by any reading and reply for which the law of runs holds.
abbrev pub SpeaksFromParts : {Behind : Type 0} → (begins : (odfi key : List ℕ) → Behind → Type 0) → (step : Behind → MessageValue → (answer : Option (List ℕ)) → Behind → Type 0)
    → (is_clean : Type 0) → (stood : Behind → Type 0) → (before after old new : Option (List ℕ)) → Result Ended SessionFault → Type 0
SpeaksFromParts {Behind} begins step is_clean stood before after old new result =
    (law : RunsFromParts begins step) (odfi key : List ℕ) (start now : Behind) (run : List Exchange)
    → is_clean → begins odfi key start → Follows step start run now → stood now
    → (exchanges : List Exchange) × SessionSpoke before after old new result exchanges
    × ((xs ys : List Exchange) (v : MessageValue) (bytes : List ℕ) (c : List ℕ) → exchanges ≡ xs ++ record { message = v; answer = Some bytes } ∷ ys → company_of v ≡ Some c
    → bytes ≡ law.reply v (part_of_run law.reading odfi key (run ++ xs) c))
