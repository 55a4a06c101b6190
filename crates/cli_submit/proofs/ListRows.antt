-- The rows of a text, once all of them were read.
use Rattle.std.proofs.Common.{◌≡◌, ◌<◌, ◌≤◌, ◌+◌, ℕ, List, [], ◌∷◌, None, drop, get_or, length, map, sym, ap, ◌∙◌}
use Rattle.std.proofs.lemmas.List.{drop_all, drop_more}
use Rattle.csv.specs.Records.{Row, fields_of}
use Rattle.csv.specs.Machine.{next_record}
use Rattle.csv.specs.Reading.{Reached, default_config, strip_bom}
use Rattle.csv.specs.declared.parser.State.{State}
use Rattle.csv.specs.declared.parser.State.TheVariants as st
use Rattle.bank_days.proofs.CsvRecords.{records_end}
use Rattle.cli_submit.specs.Lists.{rows_in}

pub all_rows : (text : List ℕ) (rows : List (List (List ℕ))) (s : State) (rest : List ℕ) → Reached default_config st.StartRecord (strip_bom text) rows s rest
    → next_record default_config s [] [] rest ≡ None → rows ≡ rows_in text
unfolding rows_in
all_rows text rows s rest reached end = sym (records_end (strip_bom text) rows s rest reached end)

-- the rows that are left begin with the one at hand
pub left_is : (rows : List Row) (i : ℕ) (row : Row) → i < length rows → row ≡ get_or rows i row → map fields_of (drop i rows) ≡ fields_of row ∷ map fields_of (drop (i + 1) rows)
left_is rows i row lt is = ap (map fields_of) (drop_more rows i row lt ∙ ap (λ r. r ∷ drop (i + 1) rows) (sym is))

-- and at the end there is none
pub none_left : (rows : List Row) (i : ℕ) → length rows ≤ i → map fields_of (drop i rows) ≡ []
none_left rows i end = ap (map fields_of) (drop_all i rows end)
