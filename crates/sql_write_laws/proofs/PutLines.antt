-- Lines go on behind the others, and the balances stay their sums.
use Rattle.std.proofs.Common.{◌≡◌, ℕ, ◌+◌, List, [], ◌∷◌, ◌++◌, map, length, Some, refl, sym, subst, ap, ◌∙◌, length-append}
use Rattle.std.specs.List.{enumerate_from, range_with_len}
use Rattle.sqlite_keyed.proofs.ListLemmas.{map-map}
use Rattle.desk_accounts.specs.declared.posting.Posting.{Posting}
use Rattle.desk_store.specs.Rows.{Rows}
use Rattle.sql_tables.specs.Encodes.{posting_record}
use Rattle.sql_tables.specs.TableEdits.{put_line_edit, put_lines_edit}
use Rattle.sql_tables.specs.Tables.{Tables}
use Rattle.sql_tables.specs.declared.records.PostingRecord.{PostingRecord}
use Rattle.sql_tables.proofs.KeptRows.{numbered_more}
use Rattle.sql_write_laws.proofs.Each.{AreOf, each_numbered, all_appended}
use Rattle.sql_write_laws.proofs.Independent.{independent, stand_with}
use Rattle.sql_write_laws.proofs.Lines.{sums_kept}
use Rattle.sql_write_laws.proofs.Numbered.{next_is, insert_last, numbers_are, some_same}

abbrev with_line : Posting → Rows → Rows
with_line p r = record r { postings = r.postings ++ p ∷ [] }

line_numbers : (t : Tables) (r : Rows) → AreOf t r → map (λ (x : PostingRecord). x.number) t.postings ≡ range_with_len 1 (length r.postings)
line_numbers t r are =
    numbers_are (λ (x : PostingRecord). x.number) (λ p. Some (posting_record p)) (λ p y h. ap (λ (x : PostingRecord). x.number) (sym (some_same h))) 1 r.postings t.postings
    (ap (map Some) are.0.postings ∙ map-map Some posting_record (enumerate_from 1 r.postings))

line_put : (n : ℕ) (p : Posting) (t : Tables) (r : Rows) → n ≡ length r.postings + 1 → AreOf t r → (put_line_edit n p).Tells t → AreOf ((put_line_edit n p).after t) (with_line p r)
line_put n p t r at are told =
    stand_with t r are (record (independent t r are) {
      lines = record {
        table = (_, _);
        rows = r.postings ++ p ∷ [];
        is_of = (
          insert_last (λ (x : PostingRecord). x.number) t.postings (record { number = n; posting = p }) 1 (length r.postings) (line_numbers t r are) at
              ∙ (λ i. are.0.postings i ++ posting_record (at i, p) ∷ [])
              ∙ sym (numbered_more posting_record r.postings (p ∷ [])),
          sums_kept t.balances r.postings p are.1.sums,
        );
      };
    })

pub lines_put : (ps : List Posting) (t : Tables) (r : Rows) → AreOf t r → (put_lines_edit ps).Tells t → AreOf ((put_lines_edit ps).after t) (record r { postings = r.postings ++ ps })
lines_put ps t r are told =
    subst (AreOf ((put_lines_edit ps).after t)) (all_appended (λ (xs : List Posting). record r { postings = xs }) (λ s p. with_line p s) (λ xs x. refl) r.postings ps)
    (each_numbered put_line_edit with_line (λ s. length s.postings) (λ p s. length-append s.postings (p ∷ [])) line_put ps _ t r (next_is (λ (x : PostingRecord). x.number) t.postings (length r.postings) (line_numbers t r are)) are told)
