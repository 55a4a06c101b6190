-- A SELECT has no RETURNING.
use Rattle.std.proofs.Common.{◌≡◌, ◌+◌, cond, ℕ, true, false, List, None, Option, Result, Ok, Err, refl, subst, sym, true≢false}
use Rattle.sqlite_ast.specs.declared.Statement.{Statement}
use Rattle.sqlite_ast.specs.declared.Statement.TheVariants as written
use Rattle.sqlite_syntax.specs.declared.statement.Parsed.{Parsed}
use Rattle.sqlite_schema.specs.declared.schema.Schema.{Schema}
use Rattle.sqlite_schema.specs.declared.command.Command.{Command}
use Rattle.sqlite_schema.specs.declared.command.Returning.{Returning}
use Rattle.sqlite_resolve.specs.declared.compiled.Compiled.{Compiled}
use Rattle.sqlite_resolve.specs.declared.error.CompileError.{CompileError}
use Rattle.sqlite_resolve.specs.declared.error.CompileError.TheVariants.{NoSuchTable}
use Rattle.sqlite_resolve.specs.Lowering.{Checked, and_then}
use Rattle.sqlite_resolve.specs.Compile.{first, compiled, planned, meaning, returning, returning_by, command, small, timed, with_command}
use Rattle.sqlite.specs.Listing.{understood, reads_listing, if_select, is_select, listing_schema}
use Rattle.sql_statements.specs.SelectTexts.{IsSelectText, is_select_statement, parses_as_select, DoesNotReturn, HasNoReturning}

shows_none : (schema : Schema) (base : ℕ) (s : Statement) → is_select_statement s ≡ true → returning_by schema base s ≡ Ok None
shows_none schema base (written.Select s) is = refl
shows_none schema base _ is = absurd (true≢false (sym is))

means_none : (schema : Schema) (p : Parsed) (base : ℕ) → is_select_statement p.statement ≡ true → (m : Command × Option Returning) → meaning schema p base ≡ Ok m → m.1 ≡ None
unfolding meaning returning
means_none schema p base is m e = go (command schema p.formats base p.statement) (subst (λ r. and_then r (λ shown. and_then (command schema p.formats base p.statement) (λ c. Ok (c, shown))) ≡ Ok m) (shows_none schema base p.statement is) e)
  where
    go : (k : Checked Command) → and_then k (λ c. Ok (c, None)) ≡ Ok m → m.1 ≡ None
    go (Ok c) e = cc
    go (Err x) e = absurd cc

compiled_returns_none : (schema : Schema) (sql : List ℕ) → IsSelectText sql → DoesNotReturn (compiled schema sql)
unfolding compiled planned
compiled_returns_none schema sql is = text (first sql) is
  where
    plan : (p : Parsed) → is_select_statement p.statement ≡ true → (m : Checked (Command × Option Returning)) → meaning schema p (small p.names + small (timed schema p.formats p.statement)) ≡ m
        → DoesNotReturn (and_then (and_then m (λ found. Ok (timed schema p.formats p.statement, found))) (λ plan. Ok (with_command p plan)))
    plan p is (Ok m) e = means_none schema p _ is m e
    plan p is (Err x) e = tt

    text : (r : Checked Parsed) → parses_as_select r ≡ true → DoesNotReturn (and_then r (λ p. and_then (planned schema p) (λ plan. Ok (with_command p plan))))
    text (Ok p) is = plan p is (meaning schema p _) refl
    text (Err e) is = absurd (true≢false (sym is))

if_select_returns_none : (r : Result Compiled CompileError) → DoesNotReturn r → DoesNotReturn (if_select r)
if_select_returns_none (Ok c) none = elim (is_select c.command) as (λ b. DoesNotReturn (cond b (Ok c) (Err NoSuchTable))) [ true ↦ none | false ↦ tt ]
if_select_returns_none (Err e) none = tt

pub select_returns_none : (sql : List ℕ) → IsSelectText sql → HasNoReturning sql
unfolding understood
select_returns_none sql is schema =
    elim (reads_listing schema sql) as (λ b. DoesNotReturn (cond b (if_select (compiled listing_schema sql)) (compiled schema sql))) [
      | true ↦ if_select_returns_none _ (compiled_returns_none listing_schema sql is)
      | false ↦ compiled_returns_none schema sql is
    ]
