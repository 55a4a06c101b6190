-- A crash and a run: what a crash leaves of a desk is again the end of a run.
use Rattle.std.specs.Prelude.{◌≡◌, ◌⊎◌, ℕ, List, [], ◌∷◌, ◌++◌, filter, Any, None, is_some}
use Rattle.desk_history.specs.declared.identity.Identity.{Identity}
use Rattle.desk_store.specs.declared.store.Store.{Ghosts}
use Rattle.http_session.specs.Exchanges.{Exchange, Follows}
use Rattle.http_history.specs.History.{calls_of}
use Rattle.desk_http.specs.Keeping.{DeskHistory, KeptHistory, StandsBehind, StandsIn, Takes, new_history, settled}
use Rattle.desk_http.specs.Receipts.{StandsOnStore}
use Rattle.isolation.specs.Calls.{IsWorldOf}
use Rattle.isolation.specs.World.{nothing}
use Rattle.isolated_runs.specs.Runs.{Begins, RunsFromParts, after_run}

-- the messages that were answered, with their answers
abbrev pub answered : List Exchange → List Exchange
answered xs = filter (λ x. is_some x.answer) xs

-- These are the answered messages of a run, in their order, and after them at most one other message of the run, as if it
-- had been answered last.
abbrev pub IsKeptOf : (run kept : List Exchange) → Type 0
IsKeptOf run kept =
    (kept ≡ answered run) ⊎ ((x : Exchange) × Any (λ y. (y.message ≡ x.message) × (y.answer ≡ None)) run × (kept ≡ answered run ++ x ∷ []))

module _ {S : Type 0} (g : Ghosts S) where
  -- After a run and a session, whatever a crash leaves keeps the book of a desk after a run from the same beginning: that
  -- run with the messages of the session, as the crash kept them. Nothing is pending then. The laws of runs hold
  -- therefore of the desk that is opened on it, and after each later crash.
  pub record KeptRuns : Type 0 where
    pub new : (identity : Identity) (key : List ℕ) → Begins identity.odfi key (settled (new_history identity key))
    pub kept : (odfi key : List ℕ) (start now : KeptHistory) (run exchanges : List Exchange) (old new : S) (k : g.Kept)
        → Begins odfi key start → Follows Takes start run now → StandsOnStore g old new exchanges
        → g.is_clean new → StandsIn g old now → g.may_leave new k
        → (found : DeskHistory) × (kept : List Exchange) × IsKeptOf (run ++ exchanges) kept × Follows Takes start kept (settled found) × StandsBehind (g.keeps k) found

-- ---- the run and the files

-- The reading, the reply and the runs of the law are those of a desk. The history behind a desk after a run has the
-- companies, the sent entries and the parts of the run, so that an item goes to the entry that has its trace in the files.
pub record RunsOfDesks : Type 0 where
  pub law : RunsFromParts Begins Takes
  pub worlds : (odfi key : List ℕ) (start end : KeptHistory) (xs : List Exchange) → Begins odfi key start → Follows Takes start xs end
      → IsWorldOf odfi (calls_of end.history.identity end.history.pairs) (after_run law.reading odfi key nothing xs)
