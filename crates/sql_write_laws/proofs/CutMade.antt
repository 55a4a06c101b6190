-- After a cut the tables are those of the book after it.
use Rattle.std.proofs.Common.{◌≡◌, ℕ, ◌+◌, List, [], ◌∷◌, ◌++◌, length, All, refl, sym, subst, ap, ◌∙◌, append-nil, append_assoc}
use Rattle.std.specs.Prelude.{fold}
use Rattle.std.proofs.lemmas.List.{length-reverse}
use Rattle.desk_book.specs.Book.{Book}
use Rattle.desk_book.specs.declared.flat_rows.LapsedRow.{LapsedRow}
use Rattle.desk_book.specs.declared.flat_rows.SentRow.{SentRow}
use Rattle.desk_book.specs.Steps.{CutWrite, commit_cut, IsEntryOf}
use Rattle.desk_store.specs.Changes.{send_in, lapse_in, in_turn, cut_in}
use Rattle.desk_store.specs.Rows.{Rows, flat_book}
use Rattle.desk_store.proofs.FlatCuts.{flat_cut}
use Rattle.sql_statements.specs.Edits.{each_edit, each_edit_from}
use Rattle.sql_tables.specs.TableEdits.{send_edit, lapse_edit, place_edit, put_lines_edit, commit_cut_edit}
use Rattle.sql_tables.specs.Tables.{Tables}
use Rattle.sql_write_laws.proofs.Each.{AreOf, in_book, rows_in_book, each_made}
use Rattle.sql_write_laws.proofs.PutLines.{lines_put}
use Rattle.sql_write_laws.specs.Making.{MakesCut}
use Rattle.sql_write_laws.proofs.Lapses.{lapse_made, with_lapsed}
use Rattle.sql_write_laws.proofs.Places.{places_made}
use Rattle.sql_write_laws.proofs.PutFiles.{files_put}
use Rattle.sql_write_laws.proofs.Sends.{send_made, with_sent}
use Rattle.sql_write_laws.proofs.Standing.{entries_sent}

abbrev all_sent : List SentRow → Rows → Rows
all_sent ss r = record r { submissions = in_turn send_in ss r.submissions; printed = r.printed ++ ss }

sent_in_turn : (ss : List SentRow) (r : Rows) → fold (λ q s. with_sent s q) r ss ≡ all_sent ss r
sent_in_turn [] r = λ i. record r { printed = sym (append-nil r.printed) i }
sent_in_turn (s ∷ ss) r = sent_in_turn ss (with_sent s r) ∙ (λ i. record r { submissions = in_turn send_in (s ∷ ss) r.submissions; printed = append_assoc r.printed (s ∷ []) ss i })

abbrev all_lapsed : List LapsedRow → Rows → Rows
all_lapsed ls r = record r { submissions = in_turn lapse_in ls r.submissions }

lapsed_in_turn : (ls : List LapsedRow) (r : Rows) → fold (λ q l. with_lapsed l q) r ls ≡ all_lapsed ls r
lapsed_in_turn [] r = refl
lapsed_in_turn (l ∷ ls) r = lapsed_in_turn ls (with_lapsed l r)

module _ (x : CutWrite) (r : Rows) where
  abbrev sent : Rows
  sent = all_sent x.sent r

  abbrev decided : Rows
  decided = all_lapsed x.lapsed sent

  abbrev placed : Rows
  placed = record decided { sent = r.sent ++ x.entries }

  abbrev posted : Rows
  posted = record placed { postings = r.postings ++ x.postings }

  sends_made : (t : Tables) → AreOf t r → (each_edit send_edit x.sent).Tells t → AreOf ((each_edit send_edit x.sent).after t) sent
  sends_made t are told = subst (AreOf ((each_edit send_edit x.sent).after t)) (sent_in_turn x.sent r) (each_made send_edit with_sent send_made x.sent t r are told)

  lapses_made : (t : Tables) → AreOf t sent → (each_edit lapse_edit x.lapsed).Tells t → AreOf ((each_edit lapse_edit x.lapsed).after t) decided
  lapses_made t are told = subst (AreOf ((each_edit lapse_edit x.lapsed).after t)) (lapsed_in_turn x.lapsed sent) (each_made lapse_edit with_lapsed lapse_made x.lapsed t sent are told)

  pub cut_tables_made : (first : ℕ) (t : Tables) → AreOf t r → first ≡ length r.sent + 1 → All (IsEntryOf (flat_book r) x.sent) x.entries → (commit_cut_edit first x).Tells t → AreOf ((commit_cut_edit first x).after t) (cut_in x r)
  cut_tables_made first t are at entries told =
      let t1 = (each_edit send_edit x.sent).after t in
      let t2 = (each_edit lapse_edit x.lapsed).after t1 in
      let t3 = (each_edit_from place_edit first x.entries).after t2 in
      let t4 = (put_lines_edit x.postings).after t3 in
      let a1 = sends_made t are told.0 in
      let a2 = lapses_made t1 a1 told.1.0 in
      let a3 = places_made x.entries first t2 decided at (entries_sent x.sent x.lapsed t r are told.0 x.entries entries) a2 told.1.1.0 in
      let a4 = lines_put x.postings t3 placed a3 told.1.1.1.0 in
      files_put x.files t4 posted a4 told.1.1.1.1

pub cut_made : (first : ℕ) (x : CutWrite) → MakesCut first x
cut_made first x trees t b stored h admits told =
    let r = h.rows in
    in_book _ (cut_in x r) _
    (cut_tables_made x r first t (rows_in_book t b h)
    (admits.1 ∙ ap (λ (c : Book). length c.sent + 1) h.book ∙ ap (λ n. n + 1) (length-reverse r.sent))
    (subst (λ (c : Book). All (IsEntryOf c x.sent) x.entries) h.book admits.0) told)
    (ap (commit_cut x).after h.book ∙ sym (flat_cut r x))
