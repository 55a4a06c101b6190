-- A session with the desk of a store, for each history that the store represents.
use Rattle.std.specs.Prelude.{◌≡◌, ◌≢◌, ◌⊎◌, Result, Err}
use Rattle.desk_store.specs.declared.store.Store as store
use Rattle.io_retries.specs.declared.sink.Sink as sink
use Rattle.io_retries.specs.declared.source.Source as source
use Rattle.http_session.specs.Session.{SessionRan}
use Rattle.http_session.specs.Sides.{Leaves}
use Rattle.http_session.specs.declared.sessions.Ended.{Ended}
use Rattle.http_session.specs.declared.sessions.SessionFault.{SessionFault}
use Rattle.desk_http.specs.Keeping.{KeptHistory, StandsIn, Takes}
use Rattle.cli_commands.specs.MessageRuns.{status_of_session}
use Rattle.cli_commands.specs.Printing.{SaysUnavailable}
use Rattle.cli_commands.specs.declared.status.Status.{Status}
use Rattle.cli_commands.specs.declared.status.Status.TheVariants.{Failed}

-- the desk represents what it represented before, if it is clean
abbrev pub StandsStill : (is_clean : Type 0) → (stood stands : KeptHistory → Type 0) → Type 0
StandsStill is_clean stood stands = is_clean → (b : KeptHistory) → stood b → stands b

module _ (is_clean : Type 0) (stood stands : KeptHistory → Type 0) {R W : Type 0} (r : source.Ghosts R) (reader left : R)
    (w : sink.Ghosts W) (old new : W) where
  -- A session answered the messages of the reader's bytes: for each history that the desk represented, each answer is the text
  -- of its message after those before it. If the desk is clean, it represents that history with these messages and no other.
  abbrev pub RanFrom : Result Ended SessionFault → Type 0
  RanFrom ended =
      Leaves r w ended left old new
      × SessionRan Takes is_clean stood stands
      (r.remaining reader) (r.remaining left) (w.contents old) (w.contents new) ended

  -- the session ended as the status says
  abbrev pub HasAnsweredFrom : Status → Type 0
  HasAnsweredFrom status = (ended : Result Ended SessionFault) × (status ≡ status_of_session ended) × RanFrom ended

  -- A read or a write failed in the session; or it did not begin, nothing was read, and `unavailable` is printed.
  abbrev pub BreaksOffFrom : Type 0
  BreaksOffFrom =
      (SaysUnavailable w old new × StandsStill is_clean stood stands × (left ≡ reader))
      ⊎ ((fault : SessionFault) × RanFrom (Err fault))

-- A session was answered by the desk of a store, and the store given back. It was clean before, if it is clean in the end.
-- `g` defines the books that a store holds.
pub record AnswersBy {S R W : Type 0} (g : store.Ghosts S) (store back : S) (r : source.Ghosts R) (reader left : R)
    (w : sink.Ghosts W) (old new : W) (status : Status) : Type 0 where
  pub before : g.is_clean back → g.is_clean store
  pub answered : status ≢ Failed → HasAnsweredFrom (g.is_clean back) (StandsIn g store) (StandsIn g back) r reader left w old new status
  pub failed : status ≡ Failed → BreaksOffFrom (g.is_clean back) (StandsIn g store) (StandsIn g back) r reader left w old new

-- a session was answered by the desk of a store, and its status and the store were given back
abbrev pub StoreAnswers : {S R W : Type 0} → (g : store.Ghosts S) → (store : S) → source.Ghosts R → (reader left : R)
    → sink.Ghosts W → (old new : W) → (given : Status × S) → Type 0
StoreAnswers g store r reader left w old new given = AnswersBy g store given.1 r reader left w old new given.0
