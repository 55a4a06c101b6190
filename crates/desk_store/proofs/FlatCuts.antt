-- A cut has the same effect on flat rows as on their book.
use Rattle.std.proofs.Common.{◌≡◌, ℕ, List, [], ◌∷◌, ◌++◌, map, refl, sym, ap, ◌∙◌, append_assoc}
use Rattle.std.specs.Prelude.{◌&&◌, ◌==◌, if◌then◌else◌, fold, is_none, option_map, find, Some}
use Rattle.std.proofs.lemmas.List.{append-nil, reverse-append}
use Rattle.desk_history.specs.declared.sent_entry.SentEntry.{SentEntry}
use Rattle.desk_book.specs.Standing.{sent_row, lapsed_row}
use Rattle.desk_book.specs.declared.flat_rows.FileRow.{FileRow}
use Rattle.desk_book.specs.declared.flat_rows.LapsedRow.{LapsedRow}
use Rattle.desk_book.specs.declared.flat_rows.SentRow.{SentRow}
use Rattle.desk_store.specs.Rows.{Rows, flat_book, is_printed_of}
use Rattle.desk_book.specs.Steps.{is_file}
use Rattle.desk_book.specs.Steps.{CutWrite, commit_cut, if_order, put_sent_row, put_lapsed_row, put_postings, put_entries, put_file}
use Rattle.desk_store.specs.Changes.{send_in, lapse_in, in_turn, cut_in}
use Rattle.desk_store.proofs.FlatRows.{rows_changed, passing_more, count_more}
use Rattle.desk_book.proofs.Finds.{first_more}

-- ---- one row

flat_sent : (r : Rows) (s : SentRow) → flat_book (record r { submissions = map (send_in s) r.submissions; printed = r.printed ++ s ∷ [] }) ≡ put_sent_row (flat_book r) s
flat_sent r s = λ i. record (flat_book r) {
  rows = λ c. rows_changed s.company (if_order s.order (sent_row s.settled)) r.submissions c i;
  printed = λ c order. passing_more (λ x. x.printed) (is_printed_of c order) r.printed s i;
}

flat_lapsed : (r : Rows) (l : LapsedRow) → flat_book (record r { submissions = map (lapse_in l) r.submissions }) ≡ put_lapsed_row (flat_book r) l
flat_lapsed r l = λ i. record (flat_book r) { rows = λ c. rows_changed l.company (if_order l.order lapsed_row) r.submissions c i }

flat_file : (r : Rows) (f : FileRow) → flat_book (record r { files = r.files ++ f ∷ [] }) ≡ put_file (flat_book r) f
flat_file r f = λ i. record (flat_book r) {
  file = λ d modifier. found d modifier i;
  files_on = λ d. count_more (λ x. x.day == d) r.files f i;
} where
  found : (d modifier : ℕ) → option_map (λ x. x.text) (find (is_file d modifier) (r.files ++ f ∷ [])) ≡ (if f.day == d && f.modifier == modifier && is_none ((flat_book r).file d modifier) then Some f.text else (flat_book r).file d modifier)
  found d modifier = first_more (λ x. x.text) (is_file d modifier) r.files f

-- ---- all rows

flat_all_sent : (r : Rows) (ss : List SentRow) → flat_book (record r { submissions = in_turn send_in ss r.submissions; printed = r.printed ++ ss }) ≡ fold put_sent_row (flat_book r) ss
flat_all_sent r [] = ap (λ (p : List SentRow). flat_book (record r { printed = p })) (append-nil r.printed)
flat_all_sent r (s ∷ ss) =
    let first : Rows = record r { submissions = map (send_in s) r.submissions; printed = r.printed ++ s ∷ [] } in
    ap (λ (p : List SentRow). flat_book (record r { submissions = in_turn send_in (s ∷ ss) r.submissions; printed = p })) (sym (append_assoc r.printed (s ∷ []) ss))
    ∙ flat_all_sent first ss
    ∙ ap (λ b. fold put_sent_row b ss) (flat_sent r s)

flat_all_lapsed : (r : Rows) (ls : List LapsedRow) → flat_book (record r { submissions = in_turn lapse_in ls r.submissions }) ≡ fold put_lapsed_row (flat_book r) ls
flat_all_lapsed r [] = refl
flat_all_lapsed r (l ∷ ls) = flat_all_lapsed (record r { submissions = map (lapse_in l) r.submissions }) ls ∙ ap (λ b. fold put_lapsed_row b ls) (flat_lapsed r l)

flat_all_files : (r : Rows) (fs : List FileRow) → flat_book (record r { files = r.files ++ fs }) ≡ fold put_file (flat_book r) fs
flat_all_files r [] = ap (λ (x : List FileRow). flat_book (record r { files = x })) (append-nil r.files)
flat_all_files r (f ∷ fs) =
    ap (λ (x : List FileRow). flat_book (record r { files = x })) (sym (append_assoc r.files (f ∷ []) fs))
    ∙ flat_all_files (record r { files = r.files ++ f ∷ [] }) fs
    ∙ ap (λ b. fold put_file b fs) (flat_file r f)

flat_entries : (r : Rows) (es : List SentEntry) → flat_book (record r { sent = r.sent ++ es }) ≡ put_entries es (flat_book r)
flat_entries r es = λ i. record (flat_book r) { sent = reverse-append r.sent es i }

pub flat_cut : (r : Rows) (x : CutWrite) → flat_book (cut_in x r) ≡ (commit_cut x).after (flat_book r)
flat_cut r x =
    let sent : Rows = record r { submissions = in_turn send_in x.sent r.submissions; printed = r.printed ++ x.sent } in
    let lapsed : Rows = record sent { submissions = in_turn lapse_in x.lapsed sent.submissions } in
    let listed : Rows = record lapsed { sent = r.sent ++ x.entries } in
    let posted : Rows = record listed { postings = r.postings ++ x.postings } in
    flat_all_files posted x.files
    ∙ ap (λ b. fold put_file (put_postings x.postings b) x.files) (flat_entries lapsed x.entries
    ∙ ap (put_entries x.entries) (flat_all_lapsed sent x.lapsed
    ∙ ap (λ b. fold put_lapsed_row b x.lapsed) (flat_all_sent r x.sent)))
