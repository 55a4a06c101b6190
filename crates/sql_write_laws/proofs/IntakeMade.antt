-- After an incoming file the tables are those of the book after it.
use Rattle.std.proofs.Common.{◌++◌, sym, subst, ap, ◌∙◌}
use Rattle.std.specs.Prelude.{reverse}
use Rattle.std.proofs.lemmas.List.Elements.{recursion_from_All}
use Rattle.desk_book.specs.Book.{Book}
use Rattle.desk_book.specs.Steps.{IntakeWrite, NamesSent, commit_intake}
use Rattle.desk_store.specs.Changes.{return_in, in_turn, intake_in}
use Rattle.desk_store.specs.Rows.{Rows}
use Rattle.desk_store.proofs.FlatIntakes.{flat_intake}
use Rattle.sql_tables.specs.TableEdits.{commit_intake_edit, put_lines_edit}
use Rattle.sql_tables.specs.Tables.{Tables}
use Rattle.sql_write_laws.specs.Making.{Makes}
use Rattle.sql_write_laws.proofs.Each.{AreOf, in_book, rows_in_book}
use Rattle.sql_write_laws.proofs.PutChanges.{put_changes, changes_put}
use Rattle.sql_write_laws.proofs.PutChanges.{Fits as Changed}
use Rattle.sql_write_laws.proofs.PutLines.{lines_put}
use Rattle.sql_write_laws.proofs.PutReturns.{put_returns, returns_put}
use Rattle.sql_write_laws.proofs.PutReturns.{Fits as Returned}
use Rattle.sql_write_laws.proofs.PutSuspense.{put_items, items_put, taken_put}

module _ (x : IntakeWrite) (r : Rows) where
  abbrev returned : Rows
  returned = record r { submissions = in_turn return_in x.returned r.submissions; returned = r.returned ++ x.returned }

  abbrev changed : Rows
  changed = record returned { changed = r.changed ++ x.changed }

  abbrev suspended : Rows
  suspended = record changed { suspense = r.suspense ++ x.suspense }

  abbrev posted : Rows
  posted = record suspended { postings = r.postings ++ x.postings }

  intake_tables_made : NamesSent (reverse r.sent) x → (t : Tables) → AreOf t r → (commit_intake_edit x).Tells t → AreOf ((commit_intake_edit x).after t) (intake_in x r)
  intake_tables_made names t are told =
      let t1 = (put_returns x.returned).after t in
      let t2 = (put_changes x.changed).after t1 in
      let t3 = (put_items x.suspense).after t2 in
      let t4 = (put_lines_edit x.postings).after t3 in
      let a1 = returns_put x.returned t r (recursion_from_All (Returned r) x.returned names.returned) are told.0 in
      let a2 = changes_put x.changed t1 returned (recursion_from_All (Changed r) x.changed names.changed) a1 told.1.0 in
      let a3 = items_put x.suspense t2 changed a2 told.1.1.0 in
      let a4 = lines_put x.postings t3 suspended a3 told.1.1.1.0 in
      taken_put x.file t4 posted a4 told.1.1.1.1

pub intake_made : (x : IntakeWrite) → Makes (commit_intake_edit x) (commit_intake x)
intake_made x trees t b stored h admits told =
    let r = h.rows in
    in_book _ (intake_in x r) _ (intake_tables_made x r (subst (λ (c : Book). NamesSent c.sent x) h.book admits) t (rows_in_book t b h) told) (ap (commit_intake x).after h.book ∙ sym (flat_intake r x))
