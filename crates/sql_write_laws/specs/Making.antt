-- What an edit of the tables makes of the book that they hold.
use Rattle.std.specs.Prelude.{◌≡◌, ℕ, ◌+◌, List, Option, length}
use Rattle.sql_statements.specs.Books.{Follows}
use Rattle.sql_statements.specs.Edits.{Edit}
use Rattle.desk_book.specs.Steps.{CutWrite, Step, add_submission, commit_cut}
use Rattle.desk_rules.specs.declared.bodies.submission.Retry.{Retry}
use Rattle.desk_rules.specs.declared.bodies.submission.Submission.{Submission}
use Rattle.sql_tables.specs.Layout.{desk_layout, IsBookIn}
use Rattle.sql_tables.specs.TableEdits.{add_submission_edit, commit_cut_edit}
use Rattle.sql_tables.specs.Tables.{Tables}

-- after the edit the tables are those of the book after the step
abbrev pub Makes : Edit Tables → Step → Type 0
Makes edit step = Follows desk_layout IsBookIn edit step.Admits step.after

-- the same of a company's submission under an order number, whether it is a retry or not
abbrev pub MakesSubmission : (company : List ℕ) → (order : ℕ) → Submission → Type 0
MakesSubmission company order content =
    (retry : Option Retry)
    → Makes (add_submission_edit company order content retry) (add_submission company order content retry)

-- the same of a cut, where its first entry has the place after those that were sent before
abbrev pub MakesCut : (first : ℕ) → CutWrite → Type 0
MakesCut first x = Follows desk_layout IsBookIn (commit_cut_edit first x) (λ b. (commit_cut x).Admits b × (first ≡ length b.sent + 1)) (commit_cut x).after
