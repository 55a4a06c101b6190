-- The facts that are read from a printed file of returns and changes.
use Rattle.std.proofs.Common.{◌≡◌, ℕ, true, List, [], ◌∷◌, ◌++◌, map, None, refl, ap, ◌∙◌}
use Rattle.std.specs.List.{list_all, sum_by, All, flat_map}
use Rattle.std.proofs.lemmas.Bool.{and_parts}
use Rattle.std.proofs.lemmas.List.{append-nil}
use Rattle.std.proofs.lemmas.List.Elements.{All-head, All-tail}
use Rattle.ach_records.specs.Layout.{part}
use Rattle.ach_records.specs.Record.{header_key, batch_sec, kind_of}
use Rattle.ach_records.specs.Print.{Value, Constant, Number, Words, row_fits, row_text, value_bytes, width_of, number_or_blanks, entry_row, file_header_row, batch_header_row, change98_row, return99_row}
use Rattle.ach_fields.specs.Text.{with_blanks_after}
use Rattle.ach_records.specs.declared.print.FileHeaderText.{FileHeaderText}
use Rattle.ach_records.specs.declared.print.BatchHeaderText.{BatchHeaderText}
use Rattle.ach_records.specs.declared.print.Change98Text.{Change98Text}
use Rattle.ach_records.specs.declared.print.Return99Text.{Return99Text}
use Rattle.ach_records.proofs.Texts.{part_at, field_at, width_number_or_blanks}
use Rattle.ach_files.specs.declared.facts.ItemFacts.{ItemFacts}
use Rattle.ach_files.specs.declared.facts.ReturnOrChange.TheVariants as returns_or_changes
use Rattle.ach_files.specs.declared.outgoing.Addenda.{Addenda}
use Rattle.ach_files.specs.declared.outgoing.Addenda.TheVariants as addendas
use Rattle.ach_files.specs.declared.outgoing.OutgoingEntry.{OutgoingEntry}
use Rattle.ach_files.specs.declared.outgoing.OutgoingBatch.{OutgoingBatch}
use Rattle.ach_files.specs.declared.outgoing.Outgoing.{Outgoing}
use Rattle.ach_files.specs.Facts.{facts_from, facts_of, batch_facts, file_facts, return_or_change_of}
use Rattle.ach_files.specs.Outgoing.{entry_of, entry_rows, entry_fits, addenda_rows, batch_fits, print_fault, fields_fit, AllFit}
use Rattle.ach_files.specs.ReturnsAndChanges.{IsReturnOrChange, IsReturnOrChangeEntry, AreReturnsAndChanges, addenda_text, item_of, batch_of, file_of, outgoing_key, outgoing_facts, outgoing_code, outgoing_trace, outgoing_dfi, outgoing_return_or_change}
use Rattle.ach_files.proofs.Made.{change_made, return_made}
use Rattle.ach_files.proofs.Items.{entry_reads}
use Rattle.ach_files.proofs.Trip.{no_fault_is}

key_row : (h : FileHeaderText) → List Value
key_row h = Words 10 (32 ∷ h.origin) ∷ Words 6 h.date ∷ number_or_blanks 4 h.time ∷ Words 1 h.modifier.now ∷ []

key_text : (h : FileHeaderText) → row_text (key_row h) ≡ with_blanks_after 10 (32 ∷ h.origin) ++ (with_blanks_after 6 h.date ++ (value_bytes (number_or_blanks 4 h.time) ++ with_blanks_after 1 h.modifier.now))
unfolding row_text key_row
key_text h = ap (λ (l : List ℕ). with_blanks_after 10 (32 ∷ h.origin) ++ (with_blanks_after 6 h.date ++ (value_bytes (number_or_blanks 4 h.time) ++ l))) (append-nil (with_blanks_after 1 h.modifier.now))

key_is : (h : FileHeaderText) → row_fits (file_header_row h) ≡ true → header_key (row_text (file_header_row h)) ≡ row_text (key_row h)
unfolding header_key key_row
key_is h fits =
    let mid : List Value = Words 10 (32 ∷ h.origin) ∷ Words 6 h.date ∷ number_or_blanks 4 h.time ∷ Words 1 h.modifier.now ∷ [] in
    let width : sum_by width_of mid ≡ 21 = rw (width_number_or_blanks 4 h.time) refl in
    part_at (Constant (49 ∷ []) ∷ Constant (48 ∷ 49 ∷ []) ∷ Words 10 (32 ∷ h.destination) ∷ []) mid
    (Constant (48 ∷ 57 ∷ 52 ∷ []) ∷ Constant (49 ∷ 48 ∷ []) ∷ Constant (49 ∷ []) ∷ Words 23 h.destination_name.now ∷ Words 23 h.origin_name.now ∷ Words 8 [] ∷ []) 13 21 fits refl width

pub key_again : (o : Outgoing) → print_fault o ≡ None → header_key (file_of o).header ≡ outgoing_key o
unfolding file_of fields_fit
key_again o e =
    let p = and_parts (row_fits (file_header_row o.header)) (list_all batch_fits o.batches.now) ((no_fault_is o e).fields) in
    key_is o.header p.0 ∙ key_text o.header

sec_is : (h : BatchHeaderText) → row_fits (batch_header_row h) ≡ true → batch_sec (row_text (batch_header_row h)) ≡ with_blanks_after 3 h.sec.now
unfolding batch_sec
sec_is h fits =
    field_at (Constant (53 ∷ []) ∷ Number 3 h.service_class ∷ Words 16 h.company_name.now ∷ Words 20 [] ∷ Words 10 h.company.now ∷ []) (Words 3 h.sec.now)
    (Words 10 h.description.now ∷ Words 6 [] ∷ Words 6 h.effective ∷ number_or_blanks 3 h.settlement ∷ Constant (49 ∷ []) ∷ Number 8 h.odfi ∷ Number 7 h.number ∷ []) 50 3 fits refl refl

-- what an addenda says
record Reads (a : Addenda) (text : List ℕ) : Type 0 where
  pub code : part 3 3 text ≡ outgoing_code a
  pub trace : part 6 15 text ≡ outgoing_trace a
  pub dfi : part 27 8 text ≡ outgoing_dfi a
  pub return_or_change : return_or_change_of (kind_of text) text ≡ outgoing_return_or_change a

return_reads : (r : Return99Text) → row_fits (return99_row r) ≡ true → Reads (addendas.Return r) (row_text (return99_row r))
return_reads r fits =
    let trace : Value = Words 15 r.trace in
    let info : part 35 44 (row_text (return99_row r)) ≡ with_blanks_after 44 r.information.now
    = field_at (Constant (55 ∷ 57 ∷ 57 ∷ []) ∷ Words 3 r.code.now ∷ Words 15 r.original_trace.now ∷ Words 6 r.date_of_death.now ∷ Words 8 r.original_dfi.now ∷ []) (Words 44 r.information.now) (trace ∷ []) 35 44 fits refl refl in
    record {
      code = field_at (Constant (55 ∷ 57 ∷ 57 ∷ []) ∷ []) (Words 3 r.code.now) (Words 15 r.original_trace.now ∷ Words 6 r.date_of_death.now ∷ Words 8 r.original_dfi.now ∷ Words 44 r.information.now ∷ trace ∷ []) 3 3 fits refl refl;
      trace = field_at (Constant (55 ∷ 57 ∷ 57 ∷ []) ∷ Words 3 r.code.now ∷ []) (Words 15 r.original_trace.now) (Words 6 r.date_of_death.now ∷ Words 8 r.original_dfi.now ∷ Words 44 r.information.now ∷ trace ∷ []) 6 15 fits refl refl;
      dfi = field_at (Constant (55 ∷ 57 ∷ 57 ∷ []) ∷ Words 3 r.code.now ∷ Words 15 r.original_trace.now ∷ Words 6 r.date_of_death.now ∷ []) (Words 8 r.original_dfi.now) (Words 44 r.information.now ∷ trace ∷ []) 27 8 fits refl refl;
      return_or_change = ap (λ k. return_or_change_of k (row_text (return99_row r))) (return_made r fits).kind_is ∙ ap (λ (t : List ℕ). returns_or_changes.Return t) info;
    }

change_reads : (c : Change98Text) → row_fits (change98_row c) ≡ true → Reads (addendas.Change c) (row_text (change98_row c))
change_reads c fits =
    let rest : List Value = Words 15 [] ∷ Words 15 c.trace ∷ [] in
    let info : part 35 29 (row_text (change98_row c)) ≡ with_blanks_after 29 c.corrected.now
    = field_at (Constant (55 ∷ 57 ∷ 56 ∷ []) ∷ Words 3 c.code.now ∷ Words 15 c.original_trace.now ∷ Words 6 [] ∷ Words 8 c.original_dfi.now ∷ []) (Words 29 c.corrected.now) rest 35 29 fits refl refl in
    record {
      code = field_at (Constant (55 ∷ 57 ∷ 56 ∷ []) ∷ []) (Words 3 c.code.now) (Words 15 c.original_trace.now ∷ Words 6 [] ∷ Words 8 c.original_dfi.now ∷ Words 29 c.corrected.now ∷ rest) 3 3 fits refl refl;
      trace = field_at (Constant (55 ∷ 57 ∷ 56 ∷ []) ∷ Words 3 c.code.now ∷ []) (Words 15 c.original_trace.now) (Words 6 [] ∷ Words 8 c.original_dfi.now ∷ Words 29 c.corrected.now ∷ rest) 6 15 fits refl refl;
      dfi = field_at (Constant (55 ∷ 57 ∷ 56 ∷ []) ∷ Words 3 c.code.now ∷ Words 15 c.original_trace.now ∷ Words 6 [] ∷ []) (Words 8 c.original_dfi.now) (Words 29 c.corrected.now ∷ rest) 27 8 fits refl refl;
      return_or_change = ap (λ k. return_or_change_of k (row_text (change98_row c))) (change_made c fits).kind_is ∙ ap (λ (t : List ℕ). returns_or_changes.Change t) info;
    }

reply_reads : (a : Addenda) (trace : List ℕ) (cents : ℕ) → AllFit (addenda_rows trace a) → IsReturnOrChange a cents → Reads a (addenda_text trace a)
reply_reads (addendas.Return r) trace cents h z = return_reads r ((and_parts (row_fits (return99_row r)) true h).0)
reply_reads (addendas.Change c) trace cents h z = change_reads c ((and_parts (row_fits (change98_row c)) true h).0)
reply_reads addendas.Absent trace cents h z = absurd z
reply_reads (addendas.Payment i) trace cents h z = absurd z

same_facts : (sec sec2 : List ℕ) (code code2 cents cents2 : ℕ) (a : Addenda) (text : List ℕ) → sec ≡ sec2 → code ≡ code2 → cents ≡ cents2 → Reads a text →
    let f : ItemFacts = record { sec_code = sec2; transaction_code = code2; cents = cents2; code = outgoing_code a; original_trace = outgoing_trace a; original_dfi = outgoing_dfi a; return_or_change = outgoing_return_or_change a } in
    facts_from sec code cents (kind_of text) text ≡ f
unfolding facts_from
same_facts sec sec2 code code2 cents cents2 a text p q r s = rw (p, q, r, s.code, s.trace, s.dfi, s.return_or_change) refl

entry_facts : (header sec : List ℕ) (e : OutgoingEntry) → batch_sec header ≡ with_blanks_after 3 sec → entry_fits e ≡ true → IsReturnOrChangeEntry e → facts_of header (item_of e) ≡ outgoing_facts sec e
unfolding entry_fits entry_rows item_of outgoing_facts
entry_facts header sec e s h a =
    let p = and_parts (row_fits (entry_row (entry_of e))) (list_all row_fits (addenda_rows e.trace e.addenda)) h in
    let r = entry_reads (entry_of e) p.0 in
    same_facts _ _ _ _ _ _ e.addenda (addenda_text e.trace e.addenda) s r.code r.cents (reply_reads e.addenda e.trace e.cents p.1 a.return_or_change)

entries_facts : (header sec : List ℕ) (es : List OutgoingEntry) → batch_sec header ≡ with_blanks_after 3 sec → list_all entry_fits es ≡ true → All IsReturnOrChangeEntry es → map (facts_of header) (map item_of es) ≡ map (outgoing_facts sec) es
entries_facts header sec [] s h a = refl
entries_facts header sec (e ∷ es) s h a =
    let p = and_parts (entry_fits e) (list_all entry_fits es) h in
    let here : facts_of header (item_of e) ≡ outgoing_facts sec e = entry_facts header sec e s p.0 (All-head IsReturnOrChangeEntry e es a) in
    let rest : map (facts_of header) (map item_of es) ≡ map (outgoing_facts sec) es = entries_facts header sec es s p.1 (All-tail IsReturnOrChangeEntry e es a) in
    ap (λ f. f ∷ map (facts_of header) (map item_of es)) here ∙ ap (λ fs. outgoing_facts sec e ∷ fs) rest

batch_facts_are : (b : OutgoingBatch) → batch_fits b ≡ true → All IsReturnOrChangeEntry b.entries.now → batch_facts (batch_of b) ≡ map (outgoing_facts b.header.sec.now) b.entries.now
unfolding batch_fits batch_of batch_facts
batch_facts_are b h a =
    let p = and_parts (row_fits (batch_header_row b.header)) (list_all entry_fits b.entries.now) h in
    entries_facts (row_text (batch_header_row b.header)) b.header.sec.now b.entries.now (sec_is b.header p.0) p.1 a

pub facts_are : (bs : List OutgoingBatch) → list_all batch_fits bs ≡ true → All (λ (b : OutgoingBatch). All IsReturnOrChangeEntry b.entries.now) bs →
    flat_map batch_facts (map batch_of bs) ≡ flat_map (λ (b : OutgoingBatch). map (outgoing_facts b.header.sec.now) b.entries.now) bs
facts_are [] h a = refl
facts_are (b ∷ bs) h a =
    let p = and_parts (batch_fits b) (list_all batch_fits bs) h in
    let here = batch_facts_are b p.0 (All-head (λ (c : OutgoingBatch). All IsReturnOrChangeEntry c.entries.now) b bs a) in
    let rest = facts_are bs p.1 (All-tail (λ (c : OutgoingBatch). All IsReturnOrChangeEntry c.entries.now) b bs a) in
    ap (λ fs. fs ++ flat_map batch_facts (map batch_of bs)) here ∙ ap (λ fs. map (outgoing_facts b.header.sec.now) b.entries.now ++ fs) rest

pub facts_again : (o : Outgoing) → print_fault o ≡ None → AreReturnsAndChanges o → file_facts (file_of o) ≡ flat_map (λ (b : OutgoingBatch). map (outgoing_facts b.header.sec.now) b.entries.now) o.batches.now
unfolding file_of fields_fit
facts_again o e a =
    let p = and_parts (row_fits (file_header_row o.header)) (list_all batch_fits o.batches.now) ((no_fault_is o e).fields) in
    facts_are o.batches.now p.1 a
