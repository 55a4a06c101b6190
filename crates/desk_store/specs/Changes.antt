-- The effect of a cut and an intake on the flat rows.
use Rattle.std.specs.Prelude.{List, [], ◌∷◌, ◌++◌, map, fold, if◌then◌else◌, ℕ, bytes_eq}
use Rattle.desk_book.specs.declared.row.Row.{Row}
use Rattle.desk_book.specs.Standing.{sent_row, lapsed_row}
use Rattle.desk_book.specs.declared.flat_rows.LapsedRow.{LapsedRow}
use Rattle.desk_book.specs.declared.flat_rows.ReturnedRow.{ReturnedRow}
use Rattle.desk_book.specs.declared.flat_rows.SentRow.{SentRow}
use Rattle.desk_store.specs.Rows.{CompanyRow, Rows}
use Rattle.desk_book.specs.Steps.{CutWrite, IntakeWrite, if_order, returned_row_by}

-- a change of one company's rows
abbrev pub in_company : List ℕ → (Row → Row) → CompanyRow → CompanyRow
in_company c change x = if bytes_eq x.company c then record x { row = change x.row } else x

abbrev pub send_in : SentRow → CompanyRow → CompanyRow
send_in s = in_company s.company (if_order s.order (sent_row s.settled))

abbrev pub lapse_in : LapsedRow → CompanyRow → CompanyRow
lapse_in l = in_company l.company (if_order l.order lapsed_row)

abbrev pub return_in : ReturnedRow → CompanyRow → CompanyRow
return_in x = in_company x.company (returned_row_by x)

-- one change after another, each of all rows
abbrev pub in_turn : {X : Type 0} → (X → CompanyRow → CompanyRow) → List X → List CompanyRow → List CompanyRow
in_turn change xs rows = fold (λ rs x. map (change x) rs) rows xs

-- the rows after a cut
abbrev pub cut_in : CutWrite → Rows → Rows
cut_in x r = record r {
  submissions = in_turn lapse_in x.lapsed (in_turn send_in x.sent r.submissions);
  postings = r.postings ++ x.postings;
  sent = r.sent ++ x.entries;
  printed = r.printed ++ x.sent;
  files = r.files ++ x.files;
}

-- the rows after an incoming file
abbrev pub intake_in : IntakeWrite → Rows → Rows
intake_in x r = record r {
  submissions = in_turn return_in x.returned r.submissions;
  returned = r.returned ++ x.returned;
  changed = r.changed ++ x.changed;
  postings = r.postings ++ x.postings;
  suspense = r.suspense ++ x.suspense;
  taken = r.taken ++ x.file ∷ [];
}
