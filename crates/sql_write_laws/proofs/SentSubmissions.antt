-- The submission of an entry that was sent.
use Rattle.std.proofs.Common.{◌≡◌, ℕ, List, find, Some, true, ◌∙◌}
use Rattle.std.specs.Prelude.{reverse}
use Rattle.std.proofs.lemmas.Bool.{and_from}
use Rattle.std.proofs.lemmas.List.Elements.{All-contains, All-from_recursion}
use Rattle.std.proofs.lemmas.Slice.Eq.{bytes_eq-Decides}
use Rattle.desk_history.proofs.Basics.Elements.{all_reverse}
use Rattle.desk_book.specs.Steps.{WasSent}
use Rattle.desk_store.specs.Rows.{CompanyRow, Rows}
use Rattle.sql_tables.specs.Beside.{IsSentFrom}
use Rattle.sql_tables.specs.Encodes.{is_submission_under}
use Rattle.sql_tables.specs.Tables.{Tables}
use Rattle.sql_write_laws.proofs.Each.{AreOf}
use Rattle.sql_write_laws.proofs.Found.{alone}

-- the one submission of a company under a reference has this order number, and settles
pub record Settles (rows : List CompanyRow) (company : List ℕ) (order : ℕ) (reference : List ℕ) : Type 0 where
  pub row : CompanyRow
  pub found : find (is_submission_under company reference) rows ≡ Some row
  pub numbered : row.row.order ≡ order
  pub on : ℕ
  pub settles : row.row.settled ≡ Some on

pub settles_of : (t : Tables) (r : Rows) → AreOf t r → (company : List ℕ) (order : ℕ) (reference : List ℕ) → WasSent (reverse r.sent) company order reference → Settles r.submissions company order reference
settles_of t r are company order reference h =
    let from = All-contains (IsSentFrom r.submissions) (reverse r.sent) h.entry (all_reverse (IsSentFrom r.submissions) r.sent are.1.sent) h.among in
    let x = from.from in
    let under : is_submission_under company reference x ≡ true =
    and_from _ _ ((bytes_eq-Decides x.company company).1 (from.company ∙ h.names.0)) ((bytes_eq-Decides x.row.content.reference reference).1 (from.content.1 ∙ h.names.2)) in
    let only = All-from_recursion (λ y. is_submission_under company reference y ≡ true → find (is_submission_under company reference) r.submissions ≡ Some y) r.submissions
    (alone (is_submission_under company reference) r.submissions (are.1.references company reference)) in
    record {
      row = x;
      found = All-contains (λ y. is_submission_under company reference y ≡ true → find (is_submission_under company reference) r.submissions ≡ Some y) r.submissions x only from.stands under;
      numbered = from.content.0 ∙ h.names.1;
      on = h.entry.settled;
      settles = from.settles;
    }
