-- Whether a submission may have an open entry, as cuts and incoming files change the rows.
use Rattle.std.proofs.Common.{◌≡◌, ◌∙◌, ◌&&◌, ℕ, zero, suc, ◌+◌, Bool, true, false, List, [], ◌∷◌, ◌++◌, map, Some, refl, sym, arith}
use Rattle.std.specs.Prelude.{◌==◌, ◌||◌, All, if◌then◌else◌, bytes_eq, nat_le, filter}
use Rattle.std.specs.List.{list_any, enumerate_from}
use Rattle.desk_rules.specs.Exposure.{is_open_credit}
use Rattle.desk_rules.specs.declared.rules.entry_fact.EntryState.{EntryState}
use Rattle.desk_rules.specs.declared.rules.entry_fact.EntryState.TheVariants as states
use Rattle.desk_book.specs.declared.flat_rows.LapsedRow.{LapsedRow}
use Rattle.desk_book.specs.declared.flat_rows.ReturnedRow.{ReturnedRow}
use Rattle.desk_book.specs.declared.flat_rows.SentRow.{SentRow}
use Rattle.desk_book.specs.Steps.{CutWrite, IntakeWrite, returned_state_by}
use Rattle.desk_store.specs.Changes.{in_turn, send_in, lapse_in, return_in, cut_in, intake_in}
use Rattle.desk_store.specs.Rows.{CompanyRow, Rows}
use Rattle.desk_book.specs.OpenRows.{is_open_row}
use Rattle.memory_store.specs.Open.{IsBounded, is_found_open, may_be_open}

-- ---- the entries of one submission

-- none is open that settled before the day
all_settled : (since on : ℕ) (held : List EntryState) → nat_le since on ≡ false → list_any (λ s. is_open_credit s since) (map (λ s. states.Sent on) held) ≡ false
all_settled since on [] before = refl
all_settled since on (s ∷ held) before = (λ i. before i || all_settled since on held before i)

-- nor one that lapsed
all_lapsed : (since : ℕ) (held : List EntryState) → list_any (λ s. is_open_credit s since) (map (λ s. states.Lapsed) held) ≡ false
all_lapsed since [] = refl
all_lapsed since (s ∷ held) = all_lapsed since held

and_false : (t : Bool) → (t && false) ≡ false
and_false true = refl
and_false false = refl

-- a return does not change whether an entry is open
same_open : (x : ReturnedRow) (since : ℕ) (named : Bool) (s : EntryState) → is_open_credit (if named then returned_state_by x s else s) since ≡ is_open_credit s since
same_open x since false s = refl
same_open x since true states.Held = refl
same_open x since true (states.Sent on) = refl
same_open x since true (states.Returned on code day late) = refl
same_open x since true states.Lapsed = refl

all_same_open : (x : ReturnedRow) (since first : ℕ) (held : List EntryState)
    → list_any (λ s. is_open_credit s since) (map (λ y. if y.0 == x.row.index then returned_state_by x y.1 else y.1) (enumerate_from first held)) ≡ list_any (λ s. is_open_credit s since) held
all_same_open x since first [] = refl
all_same_open x since first (s ∷ held) = (λ i. same_open x since (first == x.row.index) s i || all_same_open x since (first + 1) held i)

-- ---- one submission

-- one that is sent settles
sent_bounded : (since on : ℕ) (t : Bool) (held : List EntryState) → nat_le since on ≡ t
    → (t && list_any (λ s. is_open_credit s since) (map (λ s. states.Sent on) held)) ≡ list_any (λ s. is_open_credit s since) (map (λ s. states.Sent on) held)
sent_bounded since on true held is = refl
sent_bounded since on false held is = sym (all_settled since on held is)

send_keeps : (s : SentRow) (x : CompanyRow) → IsBounded x → IsBounded (send_in s x)
send_keeps s x held since = of_company (bytes_eq x.company s.company) (x.row.order == s.order) where
  of_order : (t : Bool) → let row = if t then record x.row { settled = Some s.settled; states = map (λ y. states.Sent s.settled) x.row.states } else x.row in
      (may_be_open since row.settled && list_any (λ y. is_open_credit y since) row.states) ≡ list_any (λ y. is_open_credit y since) row.states
  of_order true = sent_bounded since s.settled (nat_le since s.settled) x.row.states refl
  of_order false = held since

  of_company : (c o : Bool) → let row = (if c then record x { row = if o then record x.row { settled = Some s.settled; states = map (λ y. states.Sent s.settled) x.row.states } else x.row } else x).row in
      (may_be_open since row.settled && list_any (λ y. is_open_credit y since) row.states) ≡ list_any (λ y. is_open_credit y since) row.states
  of_company true o = of_order o
  of_company false o = held since

lapse_keeps : (l : LapsedRow) (x : CompanyRow) → IsBounded x → IsBounded (lapse_in l x)
lapse_keeps l x held since = of_company (bytes_eq x.company l.company) (x.row.order == l.order) where
  none : list_any (λ y. is_open_credit y since) (map (λ y. states.Lapsed) x.row.states) ≡ false
  none = all_lapsed since x.row.states

  of_order : (t : Bool) → let row = if t then record x.row { lapsed = true; states = map (λ y. states.Lapsed) x.row.states } else x.row in
      (may_be_open since row.settled && list_any (λ y. is_open_credit y since) row.states) ≡ list_any (λ y. is_open_credit y since) row.states
  of_order true = (λ i. may_be_open since x.row.settled && none i) ∙ and_false (may_be_open since x.row.settled) ∙ sym none
  of_order false = held since

  of_company : (c o : Bool) → let row = (if c then record x { row = if o then record x.row { lapsed = true; states = map (λ y. states.Lapsed) x.row.states } else x.row } else x).row in
      (may_be_open since row.settled && list_any (λ y. is_open_credit y since) row.states) ≡ list_any (λ y. is_open_credit y since) row.states
  of_company true o = of_order o
  of_company false o = held since

return_keeps : (r : ReturnedRow) (x : CompanyRow) → IsBounded x → IsBounded (return_in r x)
return_keeps r x held since = of_company (bytes_eq x.company r.company) (bytes_eq x.row.content.reference r.row.reference) where
  changed : List EntryState
  changed = map (λ y. if y.0 == r.row.index then returned_state_by r y.1 else y.1) (enumerate_from 1 x.row.states)

  has_open : List EntryState → Bool
  has_open held = list_any (λ y. is_open_credit y since) held

  same : has_open changed ≡ has_open x.row.states
  same = all_same_open r since 1 x.row.states

  of_reference : (t : Bool) → let row = if t then record x.row { states = changed } else x.row in
      (may_be_open since row.settled && has_open row.states) ≡ has_open row.states
  of_reference true = (λ i. may_be_open since x.row.settled && same i) ∙ held since ∙ sym same
  of_reference false = held since

  of_company : (c o : Bool) → let row = (if c then record x { row = if o then record x.row { states = changed } else x.row } else x).row in
      (may_be_open since row.settled && has_open row.states) ≡ has_open row.states
  of_company true o = of_reference o
  of_company false o = held since

-- ---- all submissions

each_keeps : (change : CompanyRow → CompanyRow) → ((x : CompanyRow) → IsBounded x → IsBounded (change x)) → (rows : List CompanyRow) → All IsBounded rows → All IsBounded (map change rows)
each_keeps change keeps [] held k d within = absurd (omega (arith, within))
each_keeps change keeps (x ∷ rows) held zero d within = keeps x (held zero x (omega arith))
each_keeps change keeps (x ∷ rows) held (suc k) d within = each_keeps change keeps rows (λ j e inside. held (suc j) e (omega (arith, inside))) k d (omega (arith, within))

turns_keep : {X : Type 0} (change : X → CompanyRow → CompanyRow) → ((c : X) (x : CompanyRow) → IsBounded x → IsBounded (change c x)) → (cs : List X) (rows : List CompanyRow) → All IsBounded rows → All IsBounded (in_turn change cs rows)
turns_keep change keeps [] rows held = held
turns_keep change keeps (c ∷ cs) rows held = turns_keep change keeps cs (map (change c) rows) (each_keeps (change c) (keeps c) rows held)

-- those of a cut
pub cut_keeps : (x : CutWrite) (r : Rows) → All IsBounded r.submissions → All IsBounded (cut_in x r).submissions
cut_keeps x r held = turns_keep lapse_in lapse_keeps x.lapsed (in_turn send_in x.sent r.submissions) (turns_keep send_in send_keeps x.sent r.submissions held)

-- those of an incoming file
pub intake_keeps : (x : IntakeWrite) (r : Rows) → All IsBounded r.submissions → All IsBounded (intake_in x r).submissions
intake_keeps x r held = turns_keep return_in return_keeps x.returned r.submissions held

-- one more
pub added_keeps : (rows : List CompanyRow) (x : CompanyRow) → All IsBounded rows → IsBounded x → All IsBounded (rows ++ x ∷ [])
added_keeps [] x held one zero d within = one
added_keeps [] x held one (suc k) d within = absurd (omega (arith, within))
added_keeps (y ∷ rows) x held one zero d within = held zero y (omega arith)
added_keeps (y ∷ rows) x held one (suc k) d within = added_keeps rows x (λ j e inside. held (suc j) e (omega (arith, inside))) one k d (omega (arith, within))

-- ---- what is found

-- a company's open submissions are those that are found open
pub found_all : (since : ℕ) (company : List ℕ) (rows : List CompanyRow) → All IsBounded rows
    → filter (is_found_open since) (map (λ x. x.row) (filter (λ x. bytes_eq x.company company) rows)) ≡ filter (is_open_row since) (map (λ x. x.row) (filter (λ x. bytes_eq x.company company) rows))
found_all since company [] held = refl
found_all since company (x ∷ rows) held =
    of_company (bytes_eq x.company company) (found_all since company rows (λ j e inside. held (suc j) e (omega (arith, inside)))) where
      others : List CompanyRow
      others = filter (λ y. bytes_eq y.company company) rows

      of_company : (t : Bool) → filter (is_found_open since) (map (λ y. y.row) others) ≡ filter (is_open_row since) (map (λ y. y.row) others)
          → filter (is_found_open since) (map (λ y. y.row) (if t then x ∷ others else others)) ≡ filter (is_open_row since) (map (λ y. y.row) (if t then x ∷ others else others))
      of_company true rest = (λ i. if held zero x (omega arith) since i then x.row ∷ rest i else rest i)
      of_company false rest = rest
