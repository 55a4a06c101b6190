-- What a query leaves that has no RETURNING.
use Rattle.std.proofs.Common.{◌≡◌, ◌⊎◌, IsSome, Ok, inl, inr, ℕ, List, Option, None, Some, subst, sym, ◌∙◌, IsTrue}
use Rattle.sqlite_value.specs.Order.{Row}
use Rattle.sqlite.specs.declared.error.Error.{Error}
use Rattle.sqlite.specs.Listing.{understood}
use Rattle.sqlite_trees.specs.Tree.{Trees}
use Rattle.sqlite_schema.specs.declared.schema.Schema.{Schema}
use Rattle.sqlite_resolve.specs.declared.compiled.Compiled.{Compiled}
use Rattle.sqlite.specs.State.{State, CommitsShowing, Shown, FailsToQuery, IsUnchanged, IsRolledBack, IsNotRun, ShowsRows, FailsToShow}
use Rattle.sqlite_schema.specs.declared.command.Returning.{Returning}
use Rattle.sqlite.specs.Clock.{timed}
use Rattle.sql_statements.specs.Queries.{Stays}
use Rattle.sql_statements.specs.SelectTexts.{DoesNotReturn, HasNoReturning}

-- a text that is compiled in its schema does not return
pub returns_none : (sql : List ℕ) → HasNoReturning sql → (schema : Schema) (c : Compiled) → understood schema sql ≡ Ok c → c.returning ≡ None
returns_none sql bare schema c is = subst DoesNotReturn is (bare schema)

pub shown_same : (sql : List ℕ) (params : Row) (old new : State) (rows : List Row) → HasNoReturning sql → Shown sql params old new rows → IsUnchanged old new
unfolding Shown
shown_same sql params old new rows bare h =
    let none = returns_none sql bare old.now.schema h.0 h.1.is in
    (subst (ShowsRows old new sql h.0 (timed params h.0.formats h.1.now) rows) none h.2).3

pub fails_same : (sql : List ℕ) (params : Row) (old new : State) (e : Error) → HasNoReturning sql → FailsToQuery sql params old new e → IsUnchanged old new ⊎ IsRolledBack old new
unfolding FailsToQuery IsNotRun
fails_same sql params old new e bare (inl (inl h)) = inl h.1
fails_same sql params old new e bare (inl (inr h)) = inr h.3
fails_same sql params old new e bare (inr h) =
    let none = returns_none sql bare old.now.schema h.0 h.1.is in
    inl (subst (FailsToShow old new sql h.0 (timed params h.0.formats h.1.now) e) none h.2).3

pub stays_unchanged : (old new : State) → IsUnchanged old new → Stays old new
stays_unchanged old new h is_open = (h.0.was_open, h.0.now_is)

pub stays_rolled_back : (old new : State) → (IsTrue old.is_open → old.now ≡ old.committed) → IsUnchanged old new ⊎ IsRolledBack old new → Stays old new
stays_rolled_back old new settled (inl h) is_open = (h.0.was_open, h.0.now_is)
stays_rolled_back old new settled (inr h) is_open = let was = h.was_open is_open in (was, (h.undone is_open).0 ∙ sym (settled was))

-- nothing is committed by it
pub commits_nothing : (sql : List ℕ) (params : Row) (old : State) (db : Trees) → HasNoReturning sql → CommitsShowing sql params old db → ⊥
unfolding CommitsShowing
commits_nothing sql params old db bare h = let none = returns_none sql bare old.now.schema h.0 h.1.is in some_or_none h.0.returning none h.2
  where
    some_or_none : (r : Option Returning) → r ≡ None → IsSome r → ⊥
    some_or_none None none some = cc
    some_or_none (Some what) none some = cc

pub shown_open : (sql : List ℕ) (params : Row) (old new : State) (rows : List Row) → Shown sql params old new rows → IsTrue old.is_open
unfolding Shown
shown_open sql params old new rows h = go h.0.returning h.2
  where
    go : (r : Option Returning) → ShowsRows old new sql h.0 (timed params h.0.formats h.1.now) rows r → IsTrue old.is_open
    go None it = it.3.0.was_open
    go (Some what) it = it.1.shown.was_open

pub fails_open : (sql : List ℕ) (params : Row) (old new : State) (e : Error) → FailsToQuery sql params old new e → IsTrue new.is_open → IsTrue old.is_open
unfolding FailsToQuery IsNotRun
fails_open sql params old new e (inl (inl h)) is_open = h.1.0.was_open
fails_open sql params old new e (inl (inr h)) is_open = h.3.was_open is_open
fails_open sql params old new e (inr h) is_open = go h.0.returning h.2
  where
    go : (r : Option Returning) → FailsToShow old new sql h.0 (timed params h.0.formats h.1.now) e r → IsTrue old.is_open
    go None it = it.3.0.was_open
    go (Some what) (inl it) = it.1.0.was_open
    go (Some what) (inr it) = it.3.was_open is_open
