-- The states that a crash leaves of a desk's store, and which history the store represents after it is opened again or migrated.
use Rattle.std.specs.Prelude.{◌≡◌, List, [], ◌∷◌}
use Rattle.desk_book.specs.Book.{Book}
use Rattle.http_session.specs.Exchanges.{Exchange, Follows}
use Rattle.http_history.specs.History.{IsHistory}
use Rattle.http_history.specs.Laws.{AreOfFirst}
use Rattle.http_history.specs.Versions.{Version, First, Present}
use Rattle.desk_http.specs.Answering.{GoesBytes, LeavesBytes}
use Rattle.desk_http.specs.Keeping.{DeskHistory, StandsBehind, book_after, settled, KeptHistory, StandsKeptBy, TakesBy}
use Rattle.crash_law.specs.Runs.{MayBeFoundAfter, MayBeFoundLater}

module _ {S Kept : Type 0} (holds : S → Book → Type 0) (keeps : Kept → Book → Type 0) (may_leave : S → Kept → Type 0) where
  -- The store holds the book of the history, and whatever a crash leaves keeps that book, or that book with one pending message
  -- more.
  abbrev pub StandsAt : Version → KeptHistory → S → Type 0
  StandsAt version b s = StandsKeptBy (holds s) keeps (may_leave s) version b

  -- ---- the desk takes messages

  -- A message takes a desk of this version from a store to the next, as `answer` does. One of version 1 read it without the key
  -- `authorized`.
  pub record Leads (version : Version) (before : S) (x : Exchange) (after : S) : Type 0 where
    pub goes : GoesBytes version (holds before) x.message x.answer (holds after)
    pub left : LeavesBytes version keeps (holds before) (may_leave before) x.message x.answer (may_leave after)

  -- messages do so one after another, the oldest first
  abbrev pub LeadAll : Version → (start : S) → List Exchange → (end : S) → Type 0
  LeadAll version start [] end = start ≡ end
  LeadAll version start (x ∷ xs) end = (mid : S) × Leads version start x mid × LeadAll version mid xs end

  -- After messages the store holds the book of the history with those that were answered. A crash at any moment leaves
  -- what keeps that book, or the book with one pending message more.
  abbrev pub AnswersSurvive : Type 0
  AnswersSurvive =
      (version : Version) (b : KeptHistory) (start end : S) (xs : List Exchange) → StandsAt version b start → LeadAll version start xs end
      → (after : KeptHistory) × Follows (TakesBy version) b xs after × StandsAt version after end

  -- ---- the store is opened again

  -- A store was opened on what a crash left: it represents each history that this represents, and no message is pending.
  abbrev pub IsReopened : Kept → S → Type 0
  IsReopened k s = (version : Version) (h : DeskHistory) → StandsBehind (keeps k) h → StandsAt version (settled h) s

  -- the store represents the history of the answered messages, or that history with one pending message more
  abbrev pub StandsAfterCrash : Type 0
  StandsAfterCrash =
      (version : Version) (h : DeskHistory) (start end now : S) (xs : List Exchange) (k : Kept) → StandsAt version (settled h) start → LeadAll version start xs end → may_leave end k → IsReopened k now
      → (found : DeskHistory) × MayBeFoundAfter version h xs found × StandsAt version (settled found) now

  -- lives of a desk one after another, the oldest first: in each it takes messages, a crash ends it, and what that left is opened
  abbrev pub Lives : Version → (start : S) → List (List Exchange) → (now : S) → Type 0
  Lives version start [] now = start ≡ now
  Lives version start (xs ∷ lives) now =
      (end : S) × (k : Kept) × (begun : S) × LeadAll version start xs end × may_leave end k × IsReopened k begun × Lives version begun lives now

  -- over all lives, each crash adds at most one pending message to what was answered
  abbrev pub StandsAfterLives : Type 0
  StandsAfterLives =
      (version : Version) (h : DeskHistory) (start now : S) (lives : List (List Exchange)) → StandsAt version (settled h) start → Lives version start lives now
      → (found : DeskHistory) × MayBeFoundLater version h lives found × StandsAt version (settled found) now

-- ---- a desk of version 1 is migrated

-- a history of a desk of version 1
pub record IsFirstHistory (h : DeskHistory) : Type 0 where
  pub history : IsHistory h.identity h.key h.pairs
  pub first : AreOfFirst h.pairs

module _ {F FirstKept S Kept : Type 0}
    (first_holds : F → Book → Type 0) (first_keeps : FirstKept → Book → Type 0) (first_may_leave : F → FirstKept → Type 0)
    (holds : S → Book → Type 0) (keeps : Kept → Book → Type 0) (may_leave : S → Kept → Type 0) where
  -- A store was migrated from what a desk of version 1 left: it represents each history of version 1 whose book this keeps, and
  -- no message is pending.
  abbrev pub IsMigrated : FirstKept → S → Type 0
  IsMigrated k s = (h : DeskHistory) → IsFirstHistory h → first_keeps k (book_after h) → StandsAt holds keeps may_leave Present (settled h) s

  -- lives of a desk of version 1, then a migration of what its last crash left, and then lives of the desk since
  abbrev pub LivesMigrated : (start : F) → (earlier : List (List Exchange)) → (last : List Exchange) → (lives : List (List Exchange)) → (now : S) → Type 0
  LivesMigrated start earlier last lives now =
      (begun : F) × (end : F) × (k : FirstKept) × (migrated : S)
      × Lives first_holds first_keeps first_may_leave First start earlier begun × LeadAll first_holds first_keeps first_may_leave First begun last end × first_may_leave end k
      × IsMigrated k migrated × Lives holds keeps may_leave Present migrated lives now

  -- The store represents the history of the messages answered in all lives, with at most one pending message more for each
  -- crash. Messages before the migration are as a desk of version 1 read them.
  abbrev pub StandsAfterMigration : Type 0
  StandsAfterMigration =
      (h : DeskHistory) (start : F) (now : S) (earlier : List (List Exchange)) (last : List Exchange) (lives : List (List Exchange))
      → AreOfFirst h.pairs → StandsAt first_holds first_keeps first_may_leave First (settled h) start → LivesMigrated start earlier last lives now
      → (begun : DeskHistory) × (before : DeskHistory) × (found : DeskHistory)
      × MayBeFoundLater First h earlier begun × MayBeFoundAfter First begun last before × MayBeFoundLater Present before lives found
      × StandsAt holds keeps may_leave Present (settled found) now
