-- A statement that makes a table `desk` is none where the desk's tables are.
use Rattle.std.proofs.Common.{◌≡◌, ◌⊎◌, inl, inr, ℕ, List, Err, refl, sym, ap, ◌∙◌, subst, codes}
use Rattle.sqlite_tied.specs.Compute.{everything}
use Rattle.sqlite_value.specs.Order.{Row}
use Rattle.sqlite_resolve.specs.declared.error.CompileError.TheVariants.{Exists}
use Rattle.sqlite.specs.declared.error.Error.{Error}
use Rattle.sqlite.specs.Listing.{understood}
use Rattle.sqlite.specs.Outline.{Outline}
use Rattle.sqlite.specs.Schema.{Schema}
use Rattle.sqlite.specs.State.{State, IsNotRun, IsUnchanged, KeepsCommit}
use Rattle.sqlite.specs.Steps.{Outlines}
use Rattle.sqlite_schema.specs.Names.{same_name}
use Rattle.sql_tables.specs.Schema.{desk_schema}
use Rattle.sql_setup.specs.Setup.{HasDesk}
use Rattle.sql_setup.specs.Versions.{first_schema}

abbrev pub name_text : List ℕ
name_text = codes "CREATE TABLE desk (id INT)"

taken_in_a_desk : understood desk_schema name_text ≡ Err Exists
unfolding understood everything
taken_in_a_desk = refl

pub no_desk : (schema : Schema) (s : Outline) → Outlines (understood schema name_text) s → schema ≡ desk_schema → ⊥
no_desk schema s read is = subst (λ r. Outlines r s) (ap (λ x. understood x name_text) is ∙ taken_in_a_desk) read

pub unchanged_keeps : (old new : State) → IsUnchanged old new → KeepsCommit old new
unchanged_keeps old new h = record { was_open = λ _. h.0.was_open; committed = λ _. h.0.committed_is }

-- a text that is not run commits nothing
pub not_run_keeps : (sql : List ℕ) (params : Row) (old new : State) (e : Error) → IsNotRun old new sql params e → KeepsCommit old new
unfolding IsNotRun
not_run_keeps sql params old new e (inl h) = unchanged_keeps old new h.1
not_run_keeps sql params old new e (inr h) = record { was_open = h.3.was_open; committed = λ o. (h.3.undone o).1 }

-- ---- and a schema of either version has it

named_in_first : HasDesk first_schema
unfolding same_name
named_in_first = refl

named_in_second : HasDesk desk_schema
unfolding same_name
named_in_second = refl

pub has_desk : (schema : Schema) → (schema ≡ first_schema) ⊎ (schema ≡ desk_schema) → HasDesk schema
has_desk schema (inl is) = subst HasDesk (sym is) named_in_first
has_desk schema (inr is) = subst HasDesk (sym is) named_in_second
