-- Rows that are numbered on from the last that a table has.
use Rattle.std.proofs.Common.{◌≡◌, ℕ, List, ap, sym, subst}
use Rattle.sqlite.specs.State.{State}
use Rattle.sql_statements.proofs.Edits.{makes_both}
use Rattle.sql_statements.specs.Edits.{Edit, only_tells, each_edit_from}
use Rattle.sql_statements.specs.Transactions.{Makes}
use Rattle.sql_tables.specs.Layout.{desk_layout}
use Rattle.sql_tables.specs.TableEdits.{each_edit_on}
use Rattle.sql_tables.specs.Tables.{Tables}

-- the number after the last is read first, and then each row is put in under the next number
pub numbered_on : {X : Type 0} (next : Tables → ℕ) (edit : ℕ → X → Edit Tables) (xs : List X) (n : ℕ) (old mid new : State)
    → Makes desk_layout (only_tells (λ t. n ≡ next t)) old mid → Makes desk_layout (each_edit_from edit n xs) mid new → Makes desk_layout (each_edit_on next edit xs) old new
numbered_on next edit xs n =
    makes_both desk_layout (only_tells (λ t. n ≡ next t)) (each_edit_from edit n xs) (each_edit_on next edit xs)
    (λ t is told. (ap (λ m. (each_edit_from edit m xs).after t) (sym is), subst (λ m. (each_edit_from edit m xs).Tells t) is told))
