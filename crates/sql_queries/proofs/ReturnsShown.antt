-- The returns of a company come from the engine by their days, and are put in the order of their numbers.
use Rattle.std.proofs.Common.{◌≡◌, ℕ, List, [], ◌∷◌, bytes_eq, map, refl, sym, subst, IsPermutation, IsSorted, Less}
use Rattle.std.proofs.lemmas.Cmp.{nat_cmp_total, on_total}
use Rattle.std.proofs.lemmas.List.Sorted.{IsPermutation-trans}
use Rattle.sqlite.specs.State.{State}
use Rattle.sqlite_keyed.proofs.ListLemmas.{ascending-map, ascending-filter}
use Rattle.sqlite_keyed.proofs.SortLemmas.{sorted_unique}
use Rattle.sqlite_value.specs.declared.value.Value.TheVariants.{Text}
use Rattle.sql_statements.proofs.Conditions.{text_is}
use Rattle.sql_statements.specs.Findings.{Finds}
use Rattle.sql_statements.specs.Layouts.{Holds}
use Rattle.sql_statements.specs.Statements.{column_is, by}
use Rattle.sql_tables.specs.ByName as named
use Rattle.sql_tables.specs.Layout.{desk_layout}
use Rattle.sql_tables.specs.QueryRows.{return_line_row}
use Rattle.sql_tables.specs.Selected.{return_line_of}
use Rattle.sql_tables.specs.TableReads.{return_lines_in}
use Rattle.sql_tables.specs.Tables.{Tables}
use Rattle.sql_tables.specs.declared.row.items.ReturnLine.{ReturnLine}
use Rattle.sql_queries.proofs.AnyOrder.{selected_in_any_order, same_read}
use Rattle.sql_query_laws.proofs.Conditions.{one}
use Rattle.sql_query_laws.proofs.Injective.{return_line_in, return_line_back}
use Rattle.sql_query_laws.proofs.Listings.{returns}
use Rattle.sql_query_laws.proofs.Texts.{places, return_lines_is}
use Rattle.sql_queries.specs.ByNumber.{by_line_number}
use Rattle.sql_query_laws.specs.Shows.{ReadsAll}
use Rattle.sql_query_laws.specs.Questions as questions

read_in_any_order : (c : List ℕ) {old new : State} {lines : List ReturnLine} → ReadsAll questions.return_lines.text (Text c ∷ []) return_line_row old new lines → (t : Tables) → Holds desk_layout old.now t
    → IsPermutation (return_lines_in c t) lines
read_in_any_order c {old} {new} {lines} read t h =
    same_read return_line_row return_line_in return_line_back _ lines
    (subst (IsPermutation (map return_line_row (return_lines_in c t))) (sym read.are)
    (selected_in_any_order returns questions.return_lines.text (column_is 2 0 ∷ []) (places (0 ∷ 3 ∷ 4 ∷ 5 ∷ 6 ∷ 7 ∷ 8 ∷ [])) (by 6 ∷ []) (Text c ∷ []) (λ r. bytes_eq r.company c) return_line_of return_line_row
    return_lines_is.asks (λ i r. one (text_is r.company c)) (λ i r. refl) t old new h read.rows read.shown))

pub return_lines_found : {c : List ℕ} {old new : State} {lines found : List ReturnLine} → ReadsAll questions.return_lines.text (Text c ∷ []) return_line_row old new lines
    → IsPermutation lines found → IsSorted by_line_number found → Finds desk_layout (λ t. found ≡ return_lines_in c t) old
return_lines_found {c} {found = found} read same sorted = record {
  was_open = read.was_open;
  told = λ t h.
      sorted_unique by_line_number (on_total (λ (l : ReturnLine). l.number) nat_cmp_total) (return_lines_in c t) found
      (ascending-map (λ a b. by_line_number a b ≡ Less) return_line_of _ (ascending-filter _ (λ r. bytes_eq r.company c) t.returns (h.1.stands named.returns).rise))
      (IsPermutation-trans _ _ _ (read_in_any_order c read t h) same) sorted;
}
