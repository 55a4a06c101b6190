-- Whether a sent entry came back, by the table of returns and by the book.
use Rattle.std.proofs.Common.{◌≡◌, ◌≤◌, ◌<◌, ◌-◌, ◌+◌, ◌∙◌, ℕ, zero, suc, Bool, true, false, cond, List, [], ◌∷◌, filter, find, length, Option, Some, None, is_some, option_map, refl, sym, ap, arith, slice_get}
use Rattle.std.specs.Prelude.{slice_index_or, if◌then◌else◌}
use Rattle.std.specs.List.{enumerate_from}
use Rattle.std.proofs.lemmas.Bool.{and_from}
use Rattle.std.proofs.lemmas.List.Elements.{recursion_from_All}
use Rattle.std.proofs.lemmas.Slice.Eq.{bytes_eq-Decides}
use Rattle.sqlite_keyed.proofs.ListLemmas.{slice_get-filter}
use Rattle.desk_rules.specs.declared.rules.entry_fact.EntryState.TheVariants as states
use Rattle.desk_history.specs.declared.sent_entry.SentEntry.{SentEntry}
use Rattle.desk_book.specs.OnIntake.{is_returned_in, is_returned_on, is_returned_state}
use Rattle.desk_book.specs.Standing.{row_under}
use Rattle.desk_rules.specs.declared.bodies.submission.Entry.{Entry}
use Rattle.desk_store.specs.Rows.{CompanyRow, Rows, flat_book}
use Rattle.sql_tables.specs.Beside.{Beside, IsSentFrom, LapsesUnsettled}
use Rattle.sql_tables.specs.Description.{key_cmp}
use Rattle.sql_tables.specs.DeskTables as the
use Rattle.sql_tables.specs.Encodes.{Encodes, HasStates, entry_record, is_submission_under, submission_record, unless_lapsed}
use Rattle.sql_tables.specs.KeyOrders.{IsInOrder}
use Rattle.sql_tables.specs.RowParts.{state_with}
use Rattle.sql_tables.specs.Selected.{head_of, numbered_of}
use Rattle.sql_tables.specs.TableReads.{entry_at, return_at}
use Rattle.sql_tables.specs.Tables.{Tables}
use Rattle.sql_tables.specs.declared.row.items.EntryReturn.{EntryReturn}
use Rattle.sql_tables.proofs.Lists.{of_contained}
use Rattle.sql_read_laws.proofs.CompanyRows.{row_under_of}
use Rattle.sql_read_laws.proofs.EntryStates.{one_state, state_in}
use Rattle.sql_read_laws.proofs.OwnParts.{own_entry, numbered_found}
use Rattle.sql_read_laws.proofs.WholeRows.{is_own, all_alone}

-- the one element that passes a test is found by it
found_alone : {X : Type 0} (p : X → Bool) (xs : List X) (k : ℕ) (x : X) → k < length xs → slice_index_or xs k x ≡ x → p x ≡ true → length (filter p xs) ≤ 1 → find p xs ≡ Some x
found_alone p [] k x within is here few = absurd (omega (arith, within))
found_alone p (y ∷ ys) zero x within is here few = ap (λ b. cond b (Some y) (find p ys)) (ap p is ∙ here) ∙ ap Some is
found_alone {X = X} p (y ∷ ys) (suc k) x within is here few =
    go (p y) refl (λ few. found_alone p ys k x (omega (arith, within)) is here few)
  where
    none : (zs : List X) → length zs ≤ 0 → slice_get zs 0 ≡ Some x → ⊥
    none [] few first = cc
    none (z ∷ zs) few first = absurd (omega (arith, few))

    go : (b : Bool) → p y ≡ b → (length (filter p ys) ≤ 1 → find p ys ≡ Some x) → find p (y ∷ ys) ≡ Some x
    go true e later =
        let fewer : length (filter p ys) ≤ 0 = (let all = rw e at few in omega (arith, all)) in
        absurd (none (filter p ys) fewer (slice_get-filter p ys ∙ later (omega (arith, fewer))))
    go false e later = ap (λ b. cond b (Some y) (find p ys)) e ∙ later (rw e at few)

-- of a submission that settled the state of an entry tells whether it came back
by_return : (lapsed : Bool) (settled : Option ℕ) (on : ℕ) (back : Option EntryReturn) → lapsed ≡ false → settled ≡ Some on → is_returned_state (unless_lapsed lapsed (state_with settled back)) ≡ is_some back
by_return true settled on back not_lapsed is = cc
by_return false None on back not_lapsed is = cc
by_return false (Some day) on None not_lapsed is = refl
by_return false (Some day) on (Some r) not_lapsed is = refl

module _ (t : Tables) (r : Rows) (e : Encodes t r) (rise : IsInOrder (key_cmp the.submissions) t.submissions) (beside : Beside t r) (s : SentEntry) (is : IsSentFrom r.submissions s) where
  abbrev x : CompanyRow
  x = is.from

  alone : filter (is_own t r e x) r.submissions ≡ x ∷ []
  alone = of_contained (λ y. filter (is_own t r e y) r.submissions ≡ y ∷ []) r.submissions x (all_alone t r e rise) is.stands

  has_states : HasStates t.returns x
  has_states = of_contained (HasStates t.returns) r.submissions x (recursion_from_All (HasStates t.returns) r.submissions e.states) is.stands

  not_lapsed : x.row.lapsed ≡ false
  not_lapsed = go x.row.lapsed refl
    where
      go : (b : Bool) → x.row.lapsed ≡ b → b ≡ false
      go false e = refl
      go true e = let unsettled = of_contained LapsesUnsettled r.submissions x (recursion_from_All LapsesUnsettled r.submissions beside.lapsed) is.stands e in absurd (let k : Some s.settled ≡ None = sym is.settles ∙ unsettled in cc)

  -- its row is found under its reference
  row_is : row_under ((flat_book r).rows s.company) s.reference ≡ Some x.row
  row_is =
      sym (row_under_of r.submissions s.company s.reference)
      ∙ ap (option_map (λ (y : CompanyRow). y.row)) (found_alone (is_submission_under s.company s.reference) r.submissions is.stands.0 x is.stands.1 is.stands.2 here (beside.references s.company s.reference))
    where
      here : is_submission_under s.company s.reference x ≡ true
      here = and_from _ _ ((bytes_eq-Decides x.company s.company).1 is.company) ((bytes_eq-Decides x.row.content.reference s.reference).1 is.content.1)

  there : is_some (entry_at x.company x.row.order s.index t) ≡ true
  there = ap (λ o. is_some (option_map numbered_of o)) (own_entry t r e x alone s.index ∙ ap (option_map (entry_record r.sent x.company x.row.order)) (numbered_found 1 x.row.content.entries (s.index, s.entry) is.entry))

  from_one : s.index - 1 + 1 ≡ s.index
  from_one = numbers 1 x.row.content.entries is.entry.0 is.entry.1 is.entry.2 (omega arith)
    where
      numbers : (n : ℕ) (es : List Entry) (k : ℕ) → k < length (enumerate_from n es) → slice_index_or (enumerate_from n es) k (s.index, s.entry) ≡ (s.index, s.entry) → 1 ≤ n → s.index - 1 + 1 ≡ s.index
      numbers n [] k within same up = absurd (omega (arith, within))
      numbers n (a ∷ es) zero within same up = let first : n ≡ s.index = ap (λ (p : ℕ × Entry). p.0) same in omega (arith, first, up)
      numbers n (a ∷ es) (suc k) within same up = numbers (n + 1) es k (omega (arith, within)) same (omega (arith, up))

  pub returned_found : is_some (return_at s.company s.order s.index t) ≡ is_returned_on (flat_book r) s
  returned_found =
      (λ i. is_some (return_at (sym is.company i) (sym is.content.0 i) s.index t))
      ∙ sym (by_return x.row.lapsed x.row.settled s.settled (return_at x.company x.row.order s.index t) not_lapsed is.settles)
      ∙ ap (λ (b : Bool). is_returned_state (if b then unless_lapsed x.row.lapsed (state_with x.row.settled (return_at x.company x.row.order s.index t)) else states.Held)) (sym there)
      ∙ ap (λ n. is_returned_state (state_in (head_of (submission_record r.printed x)) n t)) (sym from_one)
      ∙ ap is_returned_state (one_state t r e x alone has_states s.index)
      ∙ ap (λ o. is_returned_in o s.index) (sym row_is)
