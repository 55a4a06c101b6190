-- The states of a submission that is sent or lapses are those that its settlement, lapse and returns then give.
use Rattle.std.proofs.Common.{◌≡◌, ℕ, Bool, true, false, ◌==◌, ◌&&◌, List, [], ◌∷◌, map, find, Some, None, refl, sym, subst, ap, ◌∙◌, inl, inr, bytes_eq}
use Rattle.std.specs.Prelude.{if◌then◌else◌}
use Rattle.std.specs.List.{enumerate_from}
use Rattle.std.proofs.lemmas.Bool.{cases_Bool}
use Rattle.desk_rules.specs.declared.bodies.submission.Entry.{Entry}
use Rattle.desk_rules.specs.declared.rules.entry_fact.EntryState.{EntryState}
use Rattle.desk_rules.specs.declared.rules.entry_fact.EntryState.TheVariants as states
use Rattle.desk_book.specs.declared.flat_rows.LapsedRow.{LapsedRow}
use Rattle.desk_book.specs.declared.flat_rows.SentRow.{SentRow}
use Rattle.desk_book.specs.Standing.{sent_row, lapsed_row}
use Rattle.desk_store.specs.Changes.{send_in, lapse_in}
use Rattle.desk_store.specs.Rows.{CompanyRow}
use Rattle.sql_tables.specs.Encodes.{HasStates, entry_state, unless_lapsed, settled_state, is_return_of}
use Rattle.sql_tables.specs.declared.records.ReturnRecord.{ReturnRecord}
use Rattle.sql_tables.proofs.CutRecords.{pair_same}
use Rattle.sql_write_laws.proofs.SentRecords.{in_both}

same_all : {A : Type 0} (k : EntryState) (f g : A → EntryState) → ((a : A) → g a ≡ k) → (xs : List A) → map (λ _. k) (map f xs) ≡ map g xs
same_all k f g h [] = refl
same_all k f g h (a ∷ xs) = λ i. sym (h a) i ∷ same_all k f g h xs i

-- nothing of the submission came back, and it has not lapsed
pub record IsOutstanding (returns : List ReturnRecord) (s : SentRow) (x : CompanyRow) : Type 0 where
  pub unreturned : (bytes_eq x.company s.company && x.row.order == s.order) ≡ true → (index : ℕ) → find (is_return_of s.company s.order index) returns ≡ None
  pub live : (bytes_eq x.company s.company && x.row.order == s.order) ≡ true → x.row.lapsed ≡ false

module _ (returns : List ReturnRecord) where
  pub sent_states : (s : SentRow) (x : CompanyRow) → HasStates returns x → IsOutstanding returns s x → HasStates returns (send_in s x)
  sent_states s x are out =
      subst (HasStates returns) (sym (in_both s.company s.order (sent_row s.settled) x)) (elim (cases_Bool (bytes_eq x.company s.company && x.row.order == s.order)) [
        | inl is ↦ subst (λ (t : Bool). HasStates returns (if t then record x { row = sent_row s.settled x.row } else x)) (sym is) (changed is)
        | inr no_one ↦ subst (λ (t : Bool). HasStates returns (if t then record x { row = sent_row s.settled x.row } else x)) (sym no_one) are
      ])
    where
      changed : (bytes_eq x.company s.company && x.row.order == s.order) ≡ true → HasStates returns (record x { row = sent_row s.settled x.row })
      changed is =
          let same = pair_same x.company s.company x.row.order s.order is in
          let none : (index : ℕ) → find (is_return_of x.company x.row.order index) returns ≡ None =
          λ index. (λ i. find (is_return_of (same.0 i) (same.1 i) index) returns) ∙ out.unreturned is index in
          let sends : (q : ℕ × Entry) → entry_state returns (record x { row = sent_row s.settled x.row }) q.0 ≡ states.Sent s.settled =
          λ q. (λ i. unless_lapsed (out.live is i) (settled_state (Some s.settled) (none q.0 i))) in
          ap (map (λ _. states.Sent s.settled)) are
          ∙ same_all (states.Sent s.settled) (λ (q : ℕ × Entry). entry_state returns x q.0) (λ (q : ℕ × Entry). entry_state returns (record x { row = sent_row s.settled x.row }) q.0) sends (enumerate_from 1 x.row.content.entries)

  pub lapsed_states : (l : LapsedRow) (x : CompanyRow) → HasStates returns x → HasStates returns (lapse_in l x)
  lapsed_states l x are =
      subst (HasStates returns) (sym (in_both l.company l.order lapsed_row x)) (elim (bytes_eq x.company l.company && x.row.order == l.order) as (λ t. HasStates returns (if t then record x { row = lapsed_row x.row } else x)) [
        | true ↦ ap (map (λ _. states.Lapsed)) are ∙ same_all states.Lapsed (λ (q : ℕ × Entry). entry_state returns x q.0) (λ (q : ℕ × Entry). entry_state returns (record x { row = lapsed_row x.row }) q.0) (λ q. refl) (enumerate_from 1 x.row.content.entries)
        | false ↦ are
      ])
