-- The open submissions of a company are those that wait and those that settle from a day on.
use Rattle.std.proofs.Common.{◌≡◌, ℕ, Bool, true, false, not, ◌&&◌, ◌||◌, is_none, nat_le, List, ◌++◌, map, filter, Option, None, Some, refl, subst, ◌∙◌, IsPermutation, IsSorted, Less}
use Rattle.std.specs.Ordering.{on}
use Rattle.std.proofs.lemmas.Bool.{and_parts}
use Rattle.std.proofs.lemmas.Cmp.{nat_cmp_total, on_total}
use Rattle.std.proofs.lemmas.List.{map-append}
use Rattle.std.proofs.lemmas.List.Sorted.{IsPermutation-filter_both, IsPermutation-map, IsPermutation-trans}
use Rattle.sqlite_keyed.proofs.ListLemmas.{filter_same, ascending-map}
use Rattle.sqlite_keyed.proofs.SortLemmas.{sorted_unique}
use Rattle.sqlite.specs.State.{State}
use Rattle.sql_statements.specs.Findings.{Finds}
use Rattle.sql_tables.specs.ByName as named
use Rattle.sql_tables.specs.Description.{key_cmp}
use Rattle.sql_tables.specs.DeskTables as the
use Rattle.sql_tables.specs.Layout.{desk_layout}
use Rattle.sql_tables.specs.KeyOrders.{IsInOrder}
use Rattle.sql_tables.specs.Selected.{head_of}
use Rattle.sql_tables.specs.TableReads.{heads_in, is_of, is_open_of, is_since, is_waiting, is_waiting_of}
use Rattle.sql_tables.specs.declared.records.SubmissionRecord.{SubmissionRecord}
use Rattle.sql_tables.specs.declared.row.submissions.SubmissionHead.{SubmissionHead}
use Rattle.sql_queries.proofs.Sorting.{filter_both}
use Rattle.sql_queries.proofs.WaitingFirst.{rise_by_order}
use Rattle.sql_queries.specs.Waiting.{by_head_order, is_settled_of}

waiting_part : (o s w : Bool) → ((o && (s || w)) && w) ≡ (o && w)
waiting_part false s w = refl
waiting_part true true true = refl
waiting_part true true false = refl
waiting_part true false true = refl
waiting_part true false false = refl

settled_part : (o : Bool) (since : ℕ) (settled : Option ℕ) (lapsed : Bool) → ((o && (is_since since settled || (is_none settled && not lapsed))) && not (is_none settled && not lapsed)) ≡ (o && is_since since settled)
settled_part false since settled lapsed = refl
settled_part true since None true = refl
settled_part true since None false = refl
settled_part true since (Some on) lapsed = go (nat_le since on)
  where
    go : (b : Bool) → ((b || false) && true) ≡ b
    go true = refl
    go false = refl

open_parts : (c : List ℕ) (since : ℕ) (subs : List SubmissionRecord) → IsPermutation (filter (is_open_of c since) subs) (filter (is_waiting_of c) subs ++ filter (is_settled_of c since) subs)
open_parts c since subs =
    let waiting : filter is_waiting (filter (is_open_of c since) subs) ≡ filter (is_waiting_of c) subs =
    filter_both is_waiting (is_open_of c since) subs ∙ filter_same _ _ (λ s. waiting_part (is_of c s) (is_since since s.head.settled) (is_waiting s)) subs in
    let settled : filter (λ s. not (is_waiting s)) (filter (is_open_of c since) subs) ≡ filter (is_settled_of c since) subs =
    filter_both (λ s. not (is_waiting s)) (is_open_of c since) subs ∙ filter_same _ _ (λ s. settled_part (is_of c s) since s.head.settled s.head.lapsed) subs in
    subst (IsPermutation (filter (is_open_of c since) subs)) (λ i. waiting i ++ settled i) (IsPermutation-filter_both is_waiting (λ s. not (is_waiting s)) (λ s. refl) (filter (is_open_of c since) subs))

-- both, put in their order
pub open_joined : (c : List ℕ) (since : ℕ) (subs : List SubmissionRecord) → IsInOrder (key_cmp the.submissions) subs → (all : List SubmissionHead)
    → IsPermutation (map head_of (filter (is_waiting_of c) subs) ++ map head_of (filter (is_settled_of c since) subs)) all → IsSorted by_head_order all → all ≡ map head_of (filter (is_open_of c since) subs)
open_joined c since subs up all same sorted =
    sorted_unique by_head_order (on_total (λ (s : SubmissionHead). s.order) nat_cmp_total) (map head_of (filter (is_open_of c since) subs)) all
    (ascending-map (λ a b. by_head_order a b ≡ Less) head_of _ (rise_by_order c (is_open_of c since) (λ s h. (and_parts _ _ h).0) subs up))
    (IsPermutation-trans _ _ _ (subst (IsPermutation (map head_of (filter (is_open_of c since) subs))) (map-append head_of _ _) (IsPermutation-map head_of _ _ (open_parts c since subs))) same)
    sorted

pub open_found : (c : List ℕ) (since : ℕ) {waiting settled all : List SubmissionHead} {s : State} → Finds desk_layout (λ t. (waiting ≡ heads_in (is_waiting_of c) t) × (settled ≡ heads_in (is_settled_of c since) t)) s → IsPermutation (waiting ++ settled) all
    → IsSorted by_head_order all → Finds desk_layout (λ t. all ≡ heads_in (is_open_of c since) t) s
open_found c since {all = all} found same sorted = record {
  was_open = found.was_open;
  told = λ t h.
      let parts = found.told t h in
      open_joined c since t.submissions (h.1.stands named.submissions).rise all (subst (λ l. IsPermutation l all) (λ i. parts.0 i ++ parts.1 i) same) sorted;
}
