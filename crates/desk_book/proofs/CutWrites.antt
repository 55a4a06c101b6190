-- The effect of a cut's write on a book, look-up by look-up.
use Rattle.std.proofs.Common.{◌≡◌, ◌+◌, List, [], ◌∷◌, ◌++◌, map, ◌&&◌, refl, ap, ◌∙◌}
use Rattle.std.specs.Prelude.{◌==◌, if◌then◌else◌, fold, reverse, Some, is_none}
use Rattle.desk_book.specs.Book.{Book}
use Rattle.desk_book.specs.declared.flat_rows.FileRow.{FileRow}
use Rattle.desk_book.specs.declared.flat_rows.LapsedRow.{LapsedRow}
use Rattle.desk_book.specs.declared.flat_rows.SentRow.{SentRow}
use Rattle.desk_book.specs.Steps.{is_file}
use Rattle.desk_book.specs.Steps.{CutWrite, commit_cut, put_sent_row, put_lapsed_row, put_entries, put_postings, put_file}
use Rattle.desk_book.proofs.CutFiles.{sent_turn, printed_by}
use Rattle.desk_book.proofs.CutRowsOnBook.{lapsed_turn}
use Rattle.desk_book.proofs.Turns.{turned_at}

-- the submissions that are sent, with their places
sent_put : (ss : List SentRow) (b : Book) → fold put_sent_row b ss ≡ record b {
  rows = λ c. fold (turned_at c) (b.rows c) (map sent_turn ss);
  printed = λ c order. fold (λ ps s. ps ++ printed_by c order s) (b.printed c order) ss;
}
sent_put [] b = refl
sent_put (s ∷ ss) b = sent_put ss (put_sent_row b s)

-- the retries that lapse
lapsed_put : (ls : List LapsedRow) (b : Book) → fold put_lapsed_row b ls ≡ record b { rows = λ c. fold (turned_at c) (b.rows c) (map lapsed_turn ls) }
lapsed_put [] b = refl
lapsed_put (l ∷ ls) b = lapsed_put ls (put_lapsed_row b l)

-- the files
files_put : (fs : List FileRow) (b : Book) → fold put_file b fs ≡ record b {
  file = λ d modifier. fold (λ o f. if is_file d modifier f && is_none o then Some f.text else o) (b.file d modifier) fs;
  files_on = λ d. fold (λ n f. n + (if f.day == d then 1 else 0)) (b.files_on d) fs;
}
files_put [] b = refl
files_put (f ∷ fs) b = files_put fs (put_file b f)

-- the book after a cut
abbrev pub cut_made : CutWrite → Book → Book
cut_made x b = record b {
  rows = λ c. fold (turned_at c) (fold (turned_at c) (b.rows c) (map sent_turn x.sent)) (map lapsed_turn x.lapsed);
  postings = b.postings ++ x.postings;
  sent = reverse x.entries ++ b.sent;
  file = λ d modifier. fold (λ o f. if is_file d modifier f && is_none o then Some f.text else o) (b.file d modifier) x.files;
  files_on = λ d. fold (λ n f. n + (if f.day == d then 1 else 0)) (b.files_on d) x.files;
  printed = λ c order. fold (λ ps s. ps ++ printed_by c order s) (b.printed c order) x.sent;
}

pub made_by_cut : (x : CutWrite) (b : Book) → (commit_cut x).after b ≡ cut_made x b
made_by_cut x b =
    ap (λ (b : Book). fold put_file (put_postings x.postings (put_entries x.entries (fold put_lapsed_row b x.lapsed))) x.files) (sent_put x.sent b)
    ∙ ap (λ (b : Book). fold put_file (put_postings x.postings (put_entries x.entries b)) x.files) (lapsed_put x.lapsed _)
    ∙ files_put x.files _
