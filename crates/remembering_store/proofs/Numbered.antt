-- Each step of a book leaves the submissions of its companies numbered.
use Rattle.std.proofs.Common.{◌≡◌, ◌∙◌, refl, ap, sym, subst, ℕ, ◌+◌, Bool, true, false, List, [], ◌∷◌, ◌++◌, map, length, Option, arith}
use Rattle.std.specs.Prelude.{if◌then◌else◌, bytes_eq, fold}
use Rattle.std.specs.List.{range_with_len}
use Rattle.std.proofs.lemmas.List.{map-append, length-append, length-map, map-id}
use Rattle.std.proofs.lemmas.List.FromFn.{map-range_with_len_more}
use Rattle.desk_rules.specs.declared.bodies.submission.Retry.{Retry}
use Rattle.desk_rules.specs.declared.bodies.submission.Submission.{Submission}
use Rattle.desk_book.specs.declared.row.Row.{Row}
use Rattle.desk_book.specs.declared.flat_rows.LapsedRow.{LapsedRow}
use Rattle.desk_book.specs.declared.flat_rows.ReturnedRow.{ReturnedRow}
use Rattle.desk_book.specs.declared.flat_rows.SentRow.{SentRow}
use Rattle.desk_book.specs.Book.{Book}
use Rattle.desk_book.specs.Standing.{sent_row, lapsed_row, next_row}
use Rattle.desk_book.specs.Steps.{if_order, returned_row_by, put_sent_row, put_lapsed_row, put_return, put_entries, put_postings, put_file, put_change, put_suspense, put_taken_file, add_submission, commit_cut, commit_intake, CutWrite, IntakeWrite}
use Rattle.remembering_store.specs.Remembered.{AreNumbered}
use Rattle.remembering_store.specs.Known.{IsNumbered}
use Rattle.remembering_store.proofs.Companies.{files_keep_rows, changes_keep_rows}
use Rattle.remembering_store.proofs.Following.{if_order_keeps}
use Rattle.remembering_store.proofs.Returning.{order_stays}

same_orders : (g : Row → Row) → ((row : Row) → (g row).order ≡ row.order) → (rs : List Row) → map (λ row. row.order) (map g rs) ≡ map (λ row. row.order) rs
same_orders g keeps [] = refl
same_orders g keeps (row ∷ rs) = let here = keeps row in let rest = same_orders g keeps rs in (λ i. here i ∷ rest i)

numbered_map : (g : Row → Row) → ((row : Row) → (g row).order ≡ row.order) → (rs : List Row) → AreNumbered rs → AreNumbered (map g rs)
numbered_map g keeps rs are = same_orders g keeps rs ∙ are ∙ ap (range_with_len 1) (sym (length-map rs g))

at_company : (turn : List Row → List Row) → ((rs : List Row) → AreNumbered rs → AreNumbered (turn rs)) → (t : Bool) (rs : List Row) → AreNumbered rs → AreNumbered (if t then turn rs else rs)
at_company turn keeps true rs are = keeps rs are
at_company turn keeps false rs are = are

sent_numbered : (s : SentRow) (b : Book) → IsNumbered b → IsNumbered (put_sent_row b s)
sent_numbered s b are c = at_company (map (if_order s.order (sent_row s.settled))) (numbered_map (if_order s.order (sent_row s.settled)) (if_order_keeps s.order (sent_row s.settled) (λ row. refl))) (bytes_eq s.company c) (b.rows c) (are c)

lapsed_numbered : (l : LapsedRow) (b : Book) → IsNumbered b → IsNumbered (put_lapsed_row b l)
lapsed_numbered l b are c = at_company (map (if_order l.order lapsed_row)) (numbered_map (if_order l.order lapsed_row) (if_order_keeps l.order lapsed_row (λ row. refl))) (bytes_eq l.company c) (b.rows c) (are c)

returned_numbered : (x : ReturnedRow) (b : Book) → IsNumbered b → IsNumbered (put_return b x)
returned_numbered x b are c = at_company (map (returned_row_by x)) (numbered_map (returned_row_by x) (order_stays x)) (bytes_eq x.company c) (b.rows c) (are c)

all_numbered : {X : Type 0} (step : Book → X → Book) → ((x : X) (b : Book) → IsNumbered b → IsNumbered (step b x)) → (xs : List X) (b : Book) → IsNumbered b → IsNumbered (fold step b xs)
all_numbered step keeps [] b are = are
all_numbered step keeps (x ∷ xs) b are = all_numbered step keeps xs (step b x) (keeps x b are)

same_numbered : (b after : Book) → after.rows ≡ b.rows → IsNumbered b → IsNumbered after
same_numbered b after same are c = subst (λ (rows : List ℕ → List Row). AreNumbered (rows c)) (sym same) (are c)

pub cut_numbered : (x : CutWrite) (b : Book) → IsNumbered b → IsNumbered ((commit_cut x).after b)
cut_numbered x b are =
    let rows = fold put_lapsed_row (fold put_sent_row b x.sent) x.lapsed in
    let before = put_postings x.postings (put_entries x.entries rows) in
    same_numbered rows (fold put_file before x.files) (files_keep_rows x.files before)
    (all_numbered put_lapsed_row lapsed_numbered x.lapsed (fold put_sent_row b x.sent) (all_numbered put_sent_row sent_numbered x.sent b are))

pub intake_numbered : (x : IntakeWrite) (b : Book) → IsNumbered b → IsNumbered ((commit_intake x).after b)
intake_numbered x b are =
    let rows = fold put_return b x.returned in
    same_numbered rows (put_taken_file x.file (put_postings x.postings (put_suspense x.suspense (fold put_change rows x.changed)))) (changes_keep_rows x.changed rows)
    (all_numbered put_return returned_numbered x.returned b are)

next_numbered : (s : Submission) (retry : Option Retry) (rs : List Row) → AreNumbered rs → AreNumbered (rs ++ next_row rs s retry ∷ [])
next_numbered s retry rs are =
    map-append (λ (row : Row). row.order) rs (next_row rs s retry ∷ [])
    ∙ ap (λ (xs : List ℕ). xs ++ (length rs + 1) ∷ []) are
    ∙ sym (more (length rs))
    ∙ ap (range_with_len 1) (sym (length-append rs (next_row rs s retry ∷ []))) where
      more : (n : ℕ) → range_with_len 1 (n + 1) ≡ range_with_len 1 n ++ (n + 1) ∷ []
      more n = sym (map-id (range_with_len 1 (n + 1))) ∙ map-range_with_len_more (λ k. k) 1 n (n + 1) (omega arith) ∙ ap (λ (xs : List ℕ). xs ++ (n + 1) ∷ []) (map-id (range_with_len 1 n))

pub added_numbered : (c : List ℕ) (order : ℕ) (s : Submission) (retry : Option Retry) (b : Book) → IsNumbered b → IsNumbered ((add_submission c order s retry).after b)
added_numbered c order s retry b are of = at_company (λ rs. rs ++ next_row rs s retry ∷ []) (next_numbered s retry) (bytes_eq c of) (b.rows of) (are of)
