-- What a query inside a transaction shows and leaves.
use Rattle.std.proofs.Common.{◌≡◌, ◌⊎◌, inl, inr, ℕ, List, [], ◌∷◌, map, take, slice_get, Option, None, Some, Ok, option_map, refl, subst, sym, ◌∙◌, IsTrue, cond}
use Rattle.sqlite_value.specs.Order.{Row}
use Rattle.sqlite_schema.specs.declared.command.Returning.{Returning}
use Rattle.sqlite.specs.declared.error.Error.{Error}
use Rattle.sqlite.specs.Clock.{timed}
use Rattle.sqlite.specs.Effect.{Database}
use Rattle.sqlite.specs.Listing.{understood, reads_listing, IsSourceOf}
use Rattle.sqlite.specs.State.{State, Shown, FailsToQuery, IsTooLate, IsUnchanged, IsNotRun, ShowsRows, FailsToShow, KeepsCommit}
use Rattle.sqlite.proofs.Callers.{unchanged_then}
use Rattle.sql_statements.specs.SelectTexts.{HasNoReturning}
use Rattle.sql_statements.proofs.Queries.{shown_same, returns_none}
use Rattle.sql_statements.specs.Promises.{SeesInside}

unchanged_keeps : (old new : State) → IsUnchanged old new → KeepsCommit old new
unchanged_keeps old new h = record { was_open = λ _. h.0.was_open; committed = λ _. h.0.committed_is }

-- what is shown after a call that changed nothing is shown from before it
pub shown_after : (sql : List ℕ) (params : Row) (old mid new : State) (rows : List Row) → HasNoReturning sql → IsUnchanged old mid → Shown sql params mid new rows → Shown sql params old new rows
unfolding Shown
shown_after sql params old mid new rows bare same h =
    let now = same.0.now_is in
    let known = subst (λ (d : Database). understood d.schema sql ≡ Ok h.0) now h.1.is in
    let none = returns_none sql bare old.now.schema h.0 known in
    let full = timed params h.0.formats h.1.now in
    let it = subst (ShowsRows mid new sql h.0 full rows) none h.2 in (
      h.0,
      record { is = known; whole = h.1.whole; given = h.1.given; now = h.1.now },
      subst (ShowsRows old new sql h.0 full rows) (sym none) (it.0, subst (λ (d : Database). IsSourceOf (reads_listing d.schema sql) d it.0) now it.1, it.2, unchanged_then old mid new same it.3),
    )

pub shown_leaves : (sql : List ℕ) (params : Row) (old mid new : State) (rows : List Row) → HasNoReturning sql → IsTrue old.in_transaction → IsUnchanged old mid → Shown sql params mid new rows
    → SeesInside old new
shown_leaves sql params old mid new rows bare inside same h =
    let all = shown_same sql params old new rows bare (shown_after sql params old mid new rows bare same h) in
    record { was_open = all.0.was_open; is_open = all.0.is_open; now_is = all.0.now_is; committed_is = all.0.committed_is; mode = all.0.mode ∙ inside }

pub kept_after : (old mid new : State) → IsUnchanged old mid → KeepsCommit mid new → KeepsCommit old new
kept_after old mid new same kept = record { was_open = λ o. same.0.was_open; committed = λ o. kept.committed o ∙ same.0.committed_is }

-- a query inside a transaction commits nothing, and neither does RETURNING
pub shown_keeps : (sql : List ℕ) (params : Row) (old new : State) (rows : List Row) → IsTrue old.in_transaction → Shown sql params old new rows → KeepsCommit old new
unfolding Shown
shown_keeps sql params old new rows inside h = go h.0.returning h.2
  where
    go : (r : Option Returning) → ShowsRows old new sql h.0 (timed params h.0.formats h.1.now) rows r → KeepsCommit old new
    go None it = unchanged_keeps old new it.3
    go (Some what) it = record { was_open = λ _. it.1.shown.was_open; committed = λ _. subst (λ b. new.committed ≡ cond b old.committed new.now) inside it.1.shown.committed_is }

pub fails_keeps : (sql : List ℕ) (params : Row) (old new : State) (e : Error) → FailsToQuery sql params old new e ⊎ IsTooLate sql params old new e → KeepsCommit old new
unfolding FailsToQuery IsNotRun
fails_keeps sql params old new e (inl (inl (inl h))) = unchanged_keeps old new h.1
fails_keeps sql params old new e (inl (inl (inr h))) = record { was_open = h.3.was_open; committed = λ o. (h.3.undone o).1 }
fails_keeps sql params old new e (inl (inr h)) = go h.0.returning h.2
  where
    go : (r : Option Returning) → FailsToShow old new sql h.0 (timed params h.0.formats h.1.now) e r → KeepsCommit old new
    go None it = unchanged_keeps old new it.3
    go (Some what) (inl it) = unchanged_keeps old new it.1
    go (Some what) (inr it) = record { was_open = it.3.was_open; committed = λ o. (it.3.undone o).1 }
fails_keeps sql params old new e (inr late) = unchanged_keeps old new late.5

-- the first of the rows that LIMIT 1 leaves is that of the list
pub first_shown : {X : Type 0} (show : X → Row) (xs : List X) → slice_get (map show (take 1 xs)) 0 ≡ option_map show (slice_get xs 0)
first_shown show [] = refl
first_shown show (x ∷ xs) = refl
