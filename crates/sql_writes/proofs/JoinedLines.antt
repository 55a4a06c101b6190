-- The rows of lines are written, and then the lines are added to the balances: this makes what each line makes in turn.
use Rattle.std.proofs.Common.{◌≡◌, ℕ, ◌+◌, List, [], ◌∷◌, refl, sym, ap, ◌∙◌}
use Rattle.sqlite.specs.State.{State}
use Rattle.sql_statements.proofs.Edits.{makes_both}
use Rattle.sql_statements.specs.Edits.{each_edit_from}
use Rattle.sql_statements.specs.Transactions.{Makes}
use Rattle.desk_accounts.specs.declared.posting.Posting.{Posting}
use Rattle.sql_tables.specs.Layout.{desk_layout}
use Rattle.sql_tables.specs.TableEdits.{put_line_edit}
use Rattle.sql_tables.specs.Tables.{Tables}
use Rattle.sql_tables.specs.declared.records.BalanceRecord.{BalanceRecord}
use Rattle.sql_writes.specs.LineEdits.{put_posting_edit, with_line, with_lines, add_lines_edit}

abbrev posted : ℕ → List Posting → Tables → Tables
posted n ps t = (each_edit_from put_posting_edit n ps).after t

-- rows of lines leave the balances
posted_apart : (n : ℕ) (ps : List Posting) (t : Tables) (balances : List BalanceRecord) → posted n ps (record t { balances = balances }) ≡ record (posted n ps t) { balances = balances }
posted_apart n [] t balances = refl
posted_apart n (p ∷ ps) t balances = posted_apart (n + 1) ps ((put_posting_edit n p).after t) balances

posted_kept : (n : ℕ) (ps : List Posting) (t : Tables) → (posted n ps t).balances ≡ t.balances
posted_kept n [] t = refl
posted_kept n (p ∷ ps) t = posted_kept (n + 1) ps ((put_posting_edit n p).after t)

same_after : (n : ℕ) (ps : List Posting) (t : Tables) → (each_edit_from put_line_edit n ps).after t ≡ (add_lines_edit ps).after (posted n ps t)
same_after n [] t = refl
same_after n (p ∷ ps) t =
    let first = (put_posting_edit n p).after t in
    same_after (n + 1) ps ((put_line_edit n p).after t)
    ∙ ap (λ u. (add_lines_edit ps).after u) (posted_apart (n + 1) ps first (with_line p t.balances))
    ∙ ap (λ balances. record (posted (n + 1) ps first) { balances = with_lines ps (with_line p balances) }) (sym (posted_kept (n + 1) ps first))

tells : (n : ℕ) (ps : List Posting) (t : Tables) → (each_edit_from put_line_edit n ps).Tells t
tells n [] t = tt
tells n (p ∷ ps) t = (tt, tells (n + 1) ps ((put_line_edit n p).after t))

pub lines_made : (n : ℕ) (ps : List Posting) (old mid new : State) → Makes desk_layout (each_edit_from put_posting_edit n ps) old mid → Makes desk_layout (add_lines_edit ps) mid new → Makes desk_layout (each_edit_from put_line_edit n ps) old new
lines_made n ps = makes_both desk_layout (each_edit_from put_posting_edit n ps) (add_lines_edit ps) (each_edit_from put_line_edit n ps) (λ t _ _. (same_after n ps t, tells n ps t))
