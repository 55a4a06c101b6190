-- The facts in the printed records of a batch.
use Rattle.std.proofs.Common.{◌≡◌, ℕ, ◌+◌, ◌*◌, ◌%◌, true, cond, List, [], ◌∷◌, map, length, refl, sym, ap, ◌∙◌, arith, inl, inr, ◌⊎◌}
use Rattle.std.specs.Prelude.{nat_le}
use Rattle.std.specs.List.{list_all, sum_by, All}
use Rattle.std.proofs.lemmas.Bool.{and_parts, le-leb, lt-leb, cases_lt}
use Rattle.std.proofs.lemmas.List.Sums.{sum_by-cons}
use Rattle.std.proofs.lemmas.List.Elements.{All-nil, All-cons, All-head, All-tail}
use Rattle.ach_records.specs.Record.{entry_dfi, entry_cents}
use Rattle.ach_records.specs.Print.{Value, Constant, Number, Words, row_fits, row_text, entry_row, change98_row, return99_row}
use Rattle.ach_fields.specs.Digits.{digits}
use Rattle.ach_records.specs.declared.Kind.TheVariants as kinds
use Rattle.ach_records.specs.declared.print.EntryText.{EntryText}
use Rattle.ach_records.proofs.Texts.{number_in}
use Rattle.ach_files.specs.declared.outgoing.Addenda.{Addenda}
use Rattle.ach_files.specs.declared.outgoing.Addenda.TheVariants as addendas
use Rattle.ach_files.specs.declared.outgoing.OutgoingEntry.{OutgoingEntry}
use Rattle.ach_files.specs.Structure.{Item, item_records}
use Rattle.ach_records.specs.Record.{entry_transaction_code}
use Rattle.ach_files.specs.File.{IsItem}
use Rattle.ach_records.specs.Record.{IsRecord}
use Rattle.ach_records.specs.Record.{entry_direction}
use Rattle.ach_files.specs.Totals.{sums_of_items, is_debit, debit_of, credit_of}
use Rattle.ach_files.specs.Outgoing.{entry_of, entry_rows, addenda_rows, entry_fits, entry_count, debit_cents, credit_cents, is_debit_entry, batch_sums, AllFit}
use Rattle.ach_files.specs.ReturnsAndChanges.{IsReturnOrChange, IsReturnOrChangeEntry, addenda_text, item_of}
use Rattle.ach_files.proofs.Adding.{same_sums}
use Rattle.ach_files.proofs.Made.{entry_made, change_made, return_made}

-- the parts of an entry's row
pub record EntryReads (e : EntryText) : Type 0 where
  pub code : entry_transaction_code (row_text (entry_row e)) ≡ e.transaction
  pub dfi : entry_dfi (row_text (entry_row e)) ≡ e.dfi
  pub cents : entry_cents (row_text (entry_row e)) ≡ e.cents
  pub direction : entry_direction (row_text (entry_row e)) ≡ 48 + e.transaction % 10

second_is : (e : EntryText) → entry_direction (row_text (entry_row e)) ≡ 48 + e.transaction % 10
unfolding row_text digits
second_is e = refl

pub entry_reads : (e : EntryText) → row_fits (entry_row e) ≡ true → EntryReads e
unfolding entry_transaction_code entry_dfi entry_cents
entry_reads e fits =
    let rest : List Value = Words 15 e.identification.now ∷ Words 22 e.name.now ∷ Words 2 [] ∷ Number 1 (cond e.has_addenda 1 0) ∷ Words 15 e.trace ∷ [] in
    let tail : List Value = Number 1 e.check_digit ∷ Words 17 e.account.now ∷ Number 10 e.cents ∷ rest in
    record {
      code = number_in (Constant (54 ∷ []) ∷ []) 2 e.transaction (Number 8 e.dfi ∷ tail) 1 fits refl;
      dfi = number_in (Constant (54 ∷ []) ∷ Number 2 e.transaction ∷ []) 8 e.dfi tail 3 fits refl;
      cents = number_in (Constant (54 ∷ []) ∷ Number 2 e.transaction ∷ Number 8 e.dfi ∷ Number 1 e.check_digit ∷ Words 17 e.account.now ∷ []) 10 e.cents rest 29 fits refl;
      direction = second_is e;
    }

reply_made : (a : Addenda) (trace : List ℕ) (cents c2 : ℕ) → AllFit (addenda_rows trace a) → IsReturnOrChange a cents → c2 ≡ cents → IsRecord kinds.Return99 (addenda_text trace a) ⊎ (IsRecord kinds.Change98 (addenda_text trace a) × (c2 ≡ 0))
reply_made (addendas.Return r) trace cents c2 h z e = inl (return_made r ((and_parts (row_fits (return99_row r)) true h).0))
reply_made (addendas.Change c) trace cents c2 h z e = inr (change_made c ((and_parts (row_fits (change98_row c)) true h).0), e ∙ z)
reply_made addendas.Absent trace cents c2 h z e = absurd z
reply_made (addendas.Payment i) trace cents c2 h z e = absurd z

reply_rows : (a : Addenda) (trace : List ℕ) (cents : ℕ) → IsReturnOrChange a cents → map row_text (addenda_rows trace a) ≡ addenda_text trace a ∷ []
reply_rows (addendas.Return r) trace cents z = refl
reply_rows (addendas.Change c) trace cents z = refl
reply_rows addendas.Absent trace cents z = absurd z
reply_rows (addendas.Payment i) trace cents z = absurd z

reply_count : (a : Addenda) (trace : List ℕ) (cents : ℕ) → IsReturnOrChange a cents → length (addenda_rows trace a) ≡ 1
reply_count (addendas.Return r) trace cents z = refl
reply_count (addendas.Change c) trace cents z = refl
reply_count addendas.Absent trace cents z = absurd z
reply_count (addendas.Payment i) trace cents z = absurd z

debit_test : (n : ℕ) → nat_le 53 (48 + n) ≡ nat_le 5 n
debit_test n =
    elim (cases_lt n 5) [
      | inl lt ↦ lt-leb 53 (48 + n) (omega arith) ∙ sym (lt-leb 5 n lt)
      | inr le ↦ le-leb 53 (48 + n) (omega arith) ∙ sym (le-leb 5 n le)
    ]

-- an entry and its item
pub record EntryIs (e : OutgoingEntry) : Type 0 where
  pub item : IsItem (item_of e)
  pub rows : map row_text (entry_rows e) ≡ item_records (item_of e)
  pub count : entry_count e ≡ 2
  pub dfi : entry_dfi (item_of e).entry ≡ e.dfi
  pub cents : entry_cents (item_of e).entry ≡ e.cents
  pub debit : debit_of (item_of e) ≡ debit_cents e
  pub credit : credit_of (item_of e) ≡ credit_cents e

direction_of : (d t : ℕ) → d ≡ 48 + t % 10 → (t % 10 ≡ 1) ⊎ (t % 10 ≡ 6) → (d ≡ 49) ⊎ (d ≡ 54)
direction_of d t e (inl one) = inl (omega arith)
direction_of d t e (inr six) = inr (omega arith)

pub entry_is : (e : OutgoingEntry) → entry_fits e ≡ true → IsReturnOrChangeEntry e → EntryIs e
unfolding entry_fits entry_rows item_of
entry_is e h a =
    let p = and_parts (row_fits (entry_row (entry_of e))) (list_all row_fits (addenda_rows e.trace e.addenda)) h in
    let r = entry_reads (entry_of e) p.0 in
    let test : is_debit (row_text (entry_row (entry_of e))) ≡ is_debit_entry e = ap (nat_le 53) r.direction ∙ debit_test (e.transaction % 10) in
    record {
      item = record { entry = entry_made (entry_of e) p.0; direction = direction_of _ e.transaction r.direction a.code; addenda = reply_made e.addenda e.trace e.cents _ p.1 a.return_or_change r.cents };
      rows = ap (λ ts. row_text (entry_row (entry_of e)) ∷ ts) (reply_rows e.addenda e.trace e.cents a.return_or_change);
      count = omega (arith, reply_count e.addenda e.trace e.cents a.return_or_change);
      dfi = r.dfi;
      cents = r.cents;
      debit = rw (test, r.cents) refl;
      credit = rw (test, r.cents) refl;
    }

pub entries_are : (es : List OutgoingEntry) → list_all entry_fits es ≡ true → All IsReturnOrChangeEntry es → All EntryIs es
entries_are [] h a = All-nil EntryIs
entries_are (e ∷ es) h a =
    let p = and_parts (entry_fits e) (list_all entry_fits es) h in
    All-cons EntryIs e es (entry_is e p.0 (All-head IsReturnOrChangeEntry e es a)) (entries_are es p.1 (All-tail IsReturnOrChangeEntry e es a))

pub sum_same : {X Y : Type 0} (P : X → Type 0) (h : X → Y) (f : Y → ℕ) (g : X → ℕ) (xs : List X) → All P xs → ((x : X) → P x → f (h x) ≡ g x) → sum_by f (map h xs) ≡ sum_by g xs
sum_same P h f g [] a e = refl
sum_same P h f g (x ∷ xs) a e =
    let rest : sum_by f (map h xs) ≡ sum_by g xs = sum_same P h f g xs (All-tail P x xs a) e in
    let here : f (h x) ≡ g x = e x (All-head P x xs a) in
    sum_by-cons f (h x) (map h xs) ∙ omega (arith, rest, here, sum_by-cons g x xs)

count_same : (es : List OutgoingEntry) → All EntryIs es → 2 * length (map item_of es) ≡ sum_by entry_count es
count_same [] a = refl
count_same (e ∷ es) a =
    let rest : 2 * length (map item_of es) ≡ sum_by entry_count es = count_same es (All-tail EntryIs e es a) in
    let here : entry_count e ≡ 2 = (All-head EntryIs e es a).count in
    omega (arith, rest, here, sum_by-cons entry_count e es)

pub items_sums : (es : List OutgoingEntry) → All EntryIs es → sums_of_items (map item_of es) ≡ batch_sums es
unfolding sums_of_items batch_sums
items_sums es a = same_sums _ _ _ _ _ _ _ _
    (count_same es a)
    (sum_same EntryIs item_of (λ (i : Item). entry_dfi i.entry) (λ (e : OutgoingEntry). e.dfi) es a (λ e p. p.dfi))
    (sum_same EntryIs item_of debit_of debit_cents es a (λ e p. p.debit))
    (sum_same EntryIs item_of credit_of credit_cents es a (λ e p. p.credit))
