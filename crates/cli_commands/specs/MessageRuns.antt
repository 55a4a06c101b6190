-- A session with a new desk of the sample bank.
use Rattle.std.specs.Prelude.{◌≡◌, ◌⊎◌, ⊤, ℕ, List, [], Result, Ok, Err, codes}
use Rattle.sha2.specs.Sha256.{sha256}
use Rattle.io_retries.specs.declared.sink.Sink as sink
use Rattle.io_retries.specs.declared.source.Source as source
use Rattle.desk_history.specs.declared.identity.Identity.{Identity}
use Rattle.desk_book.specs.Book.{Book, book_of}
use Rattle.http_session.specs.Session.{SessionRan}
use Rattle.http_session.specs.Sides.{Leaves}
use Rattle.http_session.specs.declared.sessions.Ended.{Ended}
use Rattle.http_session.specs.declared.sessions.Ended.TheVariants.{Closed, Cut, Full}
use Rattle.http_session.specs.declared.sessions.SessionFault.{SessionFault}
use Rattle.desk_http.specs.Keeping.{DeskHistory, settled, KeptHistory, Takes}
use Rattle.cli_commands.specs.Printing.{SaysUnavailable}
use Rattle.cli_commands.specs.declared.status.Status.{Status}
use Rattle.cli_commands.specs.declared.status.Status.TheVariants.{Done, Refused, Failed}

-- the sample bank, and the operator to which its files go
abbrev pub sample_identity : Identity
sample_identity = record {
  odfi = codes "121042882";
  odfi_name = codes "OUR BANK";
  destination = codes "061000146";
  destination_name = codes "ACH OPERATOR";
}

-- the digest of the key that its operator has
abbrev pub operator_digest : List ℕ
operator_digest = sha256 (codes "operator-key")

-- before the first message
abbrev pub new_history : DeskHistory
new_history = record { identity = sample_identity; key = operator_digest; pairs = [] }

abbrev pub new_desk : KeptHistory
new_desk = settled new_history

abbrev pub new_book : Book
new_book = book_of sample_identity operator_digest []

-- how a session ends the command
abbrev pub status_of_session : Result Ended SessionFault → Status
status_of_session (Ok Closed) = Done
status_of_session (Ok Full) = Done
status_of_session (Ok Cut) = Refused
status_of_session (Err fault) = Failed

-- A session answered what the reader's bytes spell: each answer is the text of its message after those before it. It left the
-- reader so, and nothing was read after it.
abbrev pub HasRun : {R W : Type 0} → source.Ghosts R → (reader left : R) → sink.Ghosts W → (old new : W) → Result Ended SessionFault → Type 0
HasRun r reader left w old new ended =
    Leaves r w ended left old new
    × SessionRan Takes ⊤ (λ (b : KeptHistory). b ≡ new_desk) (λ b. ⊤)
    (r.remaining reader) (r.remaining left) (w.contents old) (w.contents new) ended

-- the session ended as the status says
abbrev pub HasAnsweredMessages : {R W : Type 0} → source.Ghosts R → (reader left : R) → sink.Ghosts W → (old new : W) → Status → Type 0
HasAnsweredMessages r reader left w old new status =
    (ended : Result Ended SessionFault) × (status ≡ status_of_session ended) × HasRun r reader left w old new ended

-- A read or a write failed in the session; or it did not begin, nothing was read, and `unavailable` is printed.
abbrev pub HasBrokenOff : {R W : Type 0} → source.Ghosts R → (reader left : R) → sink.Ghosts W → (old new : W) → Type 0
HasBrokenOff r reader left w old new =
    (SaysUnavailable w old new × (left ≡ reader)) ⊎ ((fault : SessionFault) × HasRun r reader left w old new (Err fault))
