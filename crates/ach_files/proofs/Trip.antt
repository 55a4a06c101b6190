-- A printed file of returns and changes is read again.
use Rattle.std.proofs.Common.{◌≡◌, ℕ, ◌+◌, ◌*◌, ◌≤◌, true, false, List, [], ◌∷◌, ◌++◌, map, length, replicate, Option, Some, None, refl, sym, ap, ◌∙◌, arith, inl, inr, subst, length-append}
use Rattle.std.specs.List.{list_all, sum_by, All, flat_map}
use Rattle.std.proofs.lemmas.Bool.{and_parts}
use Rattle.std.proofs.lemmas.List.{map-append, length-map}
use Rattle.std.proofs.lemmas.List.Sums.{sum_by-cons}
use Rattle.std.proofs.lemmas.List.Concat.{length-flat_map}
use Rattle.std.proofs.lemmas.List.Elements.{All-nil, All-cons, All-head, All-tail}
use Rattle.ach_records.specs.Print.{Value, Constant, Number, Words, row_fits, row_text, file_header_row, batch_header_row, batch_control_row, file_control_row}
use Rattle.ach_records.specs.declared.print.BatchControlText.{BatchControlText}
use Rattle.ach_records.specs.declared.print.FileControlText.{FileControlText}
use Rattle.std.proofs.lemmas.Bool.{cases_Bool}
use Rattle.ach_records.proofs.Texts.{number_in}
use Rattle.ach_files.specs.declared.outgoing.OutgoingEntry.{OutgoingEntry}
use Rattle.ach_files.specs.declared.outgoing.OutgoingBatch.{OutgoingBatch}
use Rattle.ach_files.specs.declared.outgoing.Outgoing.{Outgoing}
use Rattle.ach_files.specs.declared.outgoing.PrintFault.{PrintFault}
use Rattle.ach_files.specs.declared.outgoing.PrintFault.TheVariants as faults
use Rattle.ach_files.specs.declared.sums.Sums.{Sums}
use Rattle.ach_files.specs.Structure.{Batch, item_records, batch_records, main_records, file_text, nines}
use Rattle.ach_files.specs.File.{IsItem, IsBatch, IsFile, AreRecords}
use Rattle.ach_files.specs.Totals.{Agrees, sums_of_items, sums_of_batches, batch_control_sums, file_control_sums, control_batches, control_blocks, blocks, low_digits}
use Rattle.ach_files.specs.Outgoing.{entry_rows, entry_fits, batch_fits, batch_rows, batch_control, batch_sums, file_control, file_sums, sums_in, sums_of, outgoing_rows, outgoing_text, main_count, filler_count, fields_fit, is_large, has_many, print_fault, AllFit, page}
use Rattle.ach_files.specs.ReturnsAndChanges.{IsReturnOrChangeEntry, AreReturnsAndChanges, item_of, batch_of, file_of}
use Rattle.ach_files.proofs.Adding.{same_sums}
use Rattle.ach_files.proofs.Made.{header_made, batch_made, control_made, file_made}
use Rattle.ach_files.proofs.Items.{EntryIs, entries_are, items_sums, sum_same}
use Rattle.ach_files.proofs.Pages.{around_fits, fit_append}
use Rattle.ach_files.proofs.Fits.{rows_fit, fault_field, fault_large, fault_many}
use Rattle.ach_files.proofs.Printed.{printed_file}

-- ---- what the controls say

pub record ControlReads (c : BatchControlText) : Type 0 where
  pub count : (batch_control_sums (row_text (batch_control_row c))).count ≡ c.count
  pub hash : (batch_control_sums (row_text (batch_control_row c))).hash ≡ c.hash
  pub debits : (batch_control_sums (row_text (batch_control_row c))).debits ≡ c.debits
  pub credits : (batch_control_sums (row_text (batch_control_row c))).credits ≡ c.credits

control_reads : (c : BatchControlText) → row_fits (batch_control_row c) ≡ true → ControlReads c
unfolding batch_control_sums
control_reads c fits =
    let rest : List Value = Words 10 c.company.now ∷ Words 19 [] ∷ Words 6 [] ∷ Number 8 c.odfi ∷ Number 7 c.number ∷ [] in
    record {
      count = number_in (Constant (56 ∷ []) ∷ Number 3 c.service_class ∷ []) 6 c.count (Number 10 c.hash ∷ Number 12 c.debits ∷ Number 12 c.credits ∷ rest) 4 fits refl;
      hash = number_in (Constant (56 ∷ []) ∷ Number 3 c.service_class ∷ Number 6 c.count ∷ []) 10 c.hash (Number 12 c.debits ∷ Number 12 c.credits ∷ rest) 10 fits refl;
      debits = number_in (Constant (56 ∷ []) ∷ Number 3 c.service_class ∷ Number 6 c.count ∷ Number 10 c.hash ∷ []) 12 c.debits (Number 12 c.credits ∷ rest) 20 fits refl;
      credits = number_in (Constant (56 ∷ []) ∷ Number 3 c.service_class ∷ Number 6 c.count ∷ Number 10 c.hash ∷ Number 12 c.debits ∷ []) 12 c.credits rest 32 fits refl;
    }

pub record FileReads (c : FileControlText) : Type 0 where
  pub batches : control_batches (row_text (file_control_row c)) ≡ c.batches
  pub blocks : control_blocks (row_text (file_control_row c)) ≡ c.blocks
  pub count : (file_control_sums (row_text (file_control_row c))).count ≡ c.count
  pub hash : (file_control_sums (row_text (file_control_row c))).hash ≡ c.hash
  pub debits : (file_control_sums (row_text (file_control_row c))).debits ≡ c.debits
  pub credits : (file_control_sums (row_text (file_control_row c))).credits ≡ c.credits

file_reads : (c : FileControlText) → row_fits (file_control_row c) ≡ true → FileReads c
unfolding file_control_sums control_batches control_blocks
file_reads c fits =
    let rest : List Value = Words 39 [] ∷ [] in
    record {
      batches = number_in (Constant (57 ∷ []) ∷ []) 6 c.batches (Number 6 c.blocks ∷ Number 8 c.count ∷ Number 10 c.hash ∷ Number 12 c.debits ∷ Number 12 c.credits ∷ rest) 1 fits refl;
      blocks = number_in (Constant (57 ∷ []) ∷ Number 6 c.batches ∷ []) 6 c.blocks (Number 8 c.count ∷ Number 10 c.hash ∷ Number 12 c.debits ∷ Number 12 c.credits ∷ rest) 7 fits refl;
      count = number_in (Constant (57 ∷ []) ∷ Number 6 c.batches ∷ Number 6 c.blocks ∷ []) 8 c.count (Number 10 c.hash ∷ Number 12 c.debits ∷ Number 12 c.credits ∷ rest) 13 fits refl;
      hash = number_in (Constant (57 ∷ []) ∷ Number 6 c.batches ∷ Number 6 c.blocks ∷ Number 8 c.count ∷ []) 10 c.hash (Number 12 c.debits ∷ Number 12 c.credits ∷ rest) 21 fits refl;
      debits = number_in (Constant (57 ∷ []) ∷ Number 6 c.batches ∷ Number 6 c.blocks ∷ Number 8 c.count ∷ Number 10 c.hash ∷ []) 12 c.debits (Number 12 c.credits ∷ rest) 31 fits refl;
      credits = number_in (Constant (57 ∷ []) ∷ Number 6 c.batches ∷ Number 6 c.blocks ∷ Number 8 c.count ∷ Number 10 c.hash ∷ Number 12 c.debits ∷ []) 12 c.credits rest 43 fits refl;
    }

-- ---- a batch

pub record BatchIs (b : OutgoingBatch) : Type 0 where
  pub batch : IsBatch (batch_of b)
  pub sums : sums_of_items (batch_of b).items ≡ sums_in b
  pub rows : map row_text (batch_rows b) ≡ batch_records (batch_of b)
  pub entries : All EntryIs b.entries.now

items_all : (es : List OutgoingEntry) → All EntryIs es → All IsItem (map item_of es)
items_all [] a = All-nil IsItem
items_all (e ∷ es) a = All-cons IsItem (item_of e) (map item_of es) ((All-head EntryIs e es a).item) (items_all es (All-tail EntryIs e es a))

items_rows : (es : List OutgoingEntry) → All EntryIs es → map row_text (flat_map entry_rows es) ≡ flat_map item_records (map item_of es)
items_rows [] a = refl
items_rows (e ∷ es) a =
    let here : map row_text (entry_rows e) ≡ item_records (item_of e) = (All-head EntryIs e es a).rows in
    let rest : map row_text (flat_map entry_rows es) ≡ flat_map item_records (map item_of es) = items_rows es (All-tail EntryIs e es a) in
    map-append row_text (entry_rows e) (flat_map entry_rows es) ∙ rw (here, rest) refl

around_rows : (first last : List Value) (rows : List (List Value)) (texts : List (List ℕ)) → map row_text rows ≡ texts → map row_text (first ∷ rows ++ last ∷ []) ≡ row_text first ∷ texts ++ row_text last ∷ []
around_rows first last rows texts e = ap (λ ts. row_text first ∷ ts) (map-append row_text rows (last ∷ []) ∙ ap (λ ts. ts ++ row_text last ∷ []) e)

pub batch_is : (b : OutgoingBatch) → batch_fits b ≡ true → AllFit (batch_rows b) → All IsReturnOrChangeEntry b.entries.now → BatchIs b
unfolding batch_fits batch_rows batch_of
batch_is b h fit a =
    let es = b.entries.now in
    let p = and_parts (row_fits (batch_header_row b.header)) (list_all entry_fits es) h in
    let are = entries_are es p.1 a in
    let f = around_fits (batch_header_row b.header) (batch_control_row (batch_control b)) (flat_map entry_rows es) fit in
    let sums : sums_of_items (map item_of es) ≡ sums_in b = items_sums es are in
    let reads = control_reads (batch_control b) f.2 in
    let agrees : Agrees (batch_control_sums (row_text (batch_control_row (batch_control b)))) (sums_in b) = record { count = reads.count; hash = reads.hash; debits = reads.debits; credits = reads.credits } in
    record {
      batch = record {
        header = batch_made b.header p.0;
        items = items_all es are;
        control = control_made (batch_control b) f.2;
        sums = subst (λ (s : Sums). Agrees (batch_control_sums (row_text (batch_control_row (batch_control b)))) s) (sym sums) agrees;
      };
      sums = sums;
      rows = around_rows (batch_header_row b.header) (batch_control_row (batch_control b)) (flat_map entry_rows es) _ (items_rows es are);
      entries = are;
    }

pub batches_are : (bs : List OutgoingBatch) → list_all batch_fits bs ≡ true → AllFit (flat_map batch_rows bs) → All (λ (b : OutgoingBatch). All IsReturnOrChangeEntry b.entries.now) bs → All BatchIs bs
batches_are [] h fit a = All-nil BatchIs
batches_are (b ∷ bs) h fit a =
    let p = and_parts (batch_fits b) (list_all batch_fits bs) h in
    let q = fit_append (batch_rows b) (flat_map batch_rows bs) fit in
    All-cons BatchIs b bs (batch_is b p.0 q.0 (All-head (λ (b : OutgoingBatch). All IsReturnOrChangeEntry b.entries.now) b bs a)) (batches_are bs p.1 q.1 (All-tail (λ (b : OutgoingBatch). All IsReturnOrChangeEntry b.entries.now) b bs a))

batches_all : (bs : List OutgoingBatch) → All BatchIs bs → All IsBatch (map batch_of bs)
batches_all [] a = All-nil IsBatch
batches_all (b ∷ bs) a = All-cons IsBatch (batch_of b) (map batch_of bs) ((All-head BatchIs b bs a).batch) (batches_all bs (All-tail BatchIs b bs a))

batches_rows : (bs : List OutgoingBatch) → All BatchIs bs → map row_text (flat_map batch_rows bs) ≡ flat_map batch_records (map batch_of bs)
batches_rows [] a = refl
batches_rows (b ∷ bs) a =
    let here : map row_text (batch_rows b) ≡ batch_records (batch_of b) = (All-head BatchIs b bs a).rows in
    let rest : map row_text (flat_map batch_rows bs) ≡ flat_map batch_records (map batch_of bs) = batches_rows bs (All-tail BatchIs b bs a) in
    map-append row_text (batch_rows b) (flat_map batch_rows bs) ∙ rw (here, rest) refl

batches_sums : (bs : List OutgoingBatch) → All BatchIs bs → sums_of_batches (map batch_of bs) ≡ file_sums bs
unfolding sums_of_batches file_sums
batches_sums bs a = same_sums _ _ _ _ _ _ _ _
    (sum_same BatchIs batch_of (λ (b : Batch). (sums_of_items b.items).count) (λ (b : OutgoingBatch). (sums_in b).count) bs a (λ b p. ap (λ (s : Sums). s.count) p.sums))
    (sum_same BatchIs batch_of (λ (b : Batch). low_digits (sums_of_items b.items).hash) (λ (b : OutgoingBatch). low_digits (sums_in b).hash) bs a (λ b p. ap (λ (s : Sums). low_digits s.hash) p.sums))
    (sum_same BatchIs batch_of (λ (b : Batch). (sums_of_items b.items).debits) (λ (b : OutgoingBatch). (sums_in b).debits) bs a (λ b p. ap (λ (s : Sums). s.debits) p.sums))
    (sum_same BatchIs batch_of (λ (b : Batch). (sums_of_items b.items).credits) (λ (b : OutgoingBatch). (sums_in b).credits) bs a (λ b p. ap (λ (s : Sums). s.credits) p.sums))

-- ---- the number of records

batch_length : (b : OutgoingBatch) → length (batch_rows b) ≡ 2 + (sums_in b).count
unfolding batch_rows batch_sums
batch_length b =
    let last = batch_control_row (batch_control b) in
    omega (arith, length-append (flat_map entry_rows b.entries.now) (last ∷ []), length-flat_map entry_rows b.entries.now)

batches_length : (bs : List OutgoingBatch) → length (flat_map batch_rows bs) ≡ 2 * length bs + sum_by (λ (b : OutgoingBatch). (sums_in b).count) bs
batches_length [] = refl
batches_length (b ∷ bs) =
    omega (arith, length-append (batch_rows b) (flat_map batch_rows bs), batch_length b, batches_length bs, sum_by-cons (λ (b : OutgoingBatch). (sums_in b).count) b bs)

pub rows_length : (o : Outgoing) → length (outgoing_rows o) ≡ main_count o
unfolding outgoing_rows main_count file_sums
rows_length o =
    let last = file_control_row (file_control o) in
    omega (arith, length-append (flat_map batch_rows o.batches.now) (last ∷ []), batches_length o.batches.now)

-- ---- the file

file_rows : (o : Outgoing) → All BatchIs o.batches.now → map row_text (outgoing_rows o) ≡ main_records (file_of o)
unfolding outgoing_rows file_of
file_rows o a = around_rows (file_header_row o.header) (file_control_row (file_control o)) (flat_map batch_rows o.batches.now) _ (batches_rows o.batches.now a)

pub file_made_of : (o : Outgoing) → row_fits (file_header_row o.header) ≡ true → row_fits (file_control_row (file_control o)) ≡ true → All BatchIs o.batches.now → AreRecords (file_of o)
unfolding file_of
file_made_of o h c a =
    let reads = file_reads (file_control o) c in
    let sums : sums_of_batches (map batch_of o.batches.now) ≡ sums_of o = batches_sums o.batches.now a in
    let agrees : Agrees (file_control_sums (row_text (file_control_row (file_control o)))) (sums_of o) = record { count = reads.count; hash = reads.hash; debits = reads.debits; credits = reads.credits } in
    let long : length (main_records (file_of o)) ≡ main_count o = ap length (sym (file_rows o a)) ∙ length-map (outgoing_rows o) row_text ∙ rows_length o in
    record {
      header = header_made o.header h;
      batches = batches_all o.batches.now a;
      control = file_made (file_control o) c;
      count = reads.batches ∙ sym (length-map o.batches.now batch_of);
      sums = subst (λ (s : Sums). Agrees (file_control_sums (row_text (file_control_row (file_control o)))) s) (sym sums) agrees;
      blocks = reads.blocks ∙ ap blocks (sym long);
    }

same_text : (o : Outgoing) → All BatchIs o.batches.now → outgoing_text o ≡ file_text (file_of o)
unfolding file_of
same_text o a = ap (λ ts. page (ts ++ replicate (filler_count (main_count o)) nines)) (file_rows o a)

pub record Sound (o : Outgoing) : Type 0 where
  pub fields : fields_fit o ≡ true
  pub large : is_large (sums_of o) ≡ false
  pub many : has_many o ≡ false

pub no_fault_is : (o : Outgoing) → print_fault o ≡ None → Sound o
no_fault_is o e =
    elim (cases_Bool (fields_fit o)) [
      | inr f ↦ let k : ◌≡◌ {A = Option PrintFault} (Some faults.BadField) None = sym (fault_field o f) ∙ e in absurd cc
      | inl f ↦ elim (cases_Bool (is_large (sums_of o))) [
        | inl l ↦ let k : ◌≡◌ {A = Option PrintFault} (Some faults.TotalTooLarge) None = sym (fault_large o f l) ∙ e in absurd cc
        | inr l ↦ elim (cases_Bool (has_many o)) [
          | inl m ↦ let k : ◌≡◌ {A = Option PrintFault} (Some faults.TooManyRecords) None = sym (fault_many o f l m) ∙ e in absurd cc
          | inr m ↦ record { fields = f; large = l; many = m }
        ]
      ]
    ]

pub record Parts (o : Outgoing) : Type 0 where
  pub header : row_fits (file_header_row o.header) ≡ true
  pub control : row_fits (file_control_row (file_control o)) ≡ true
  pub batches : All BatchIs o.batches.now

pub parts_are : (o : Outgoing) → print_fault o ≡ None → AreReturnsAndChanges o → Parts o
unfolding fields_fit outgoing_rows
parts_are o e a =
    let s = no_fault_is o e in
    let p = and_parts (row_fits (file_header_row o.header)) (list_all batch_fits o.batches.now) s.fields in
    let f = around_fits (file_header_row o.header) (file_control_row (file_control o)) (flat_map batch_rows o.batches.now) (rows_fit o s.fields s.large s.many) in
    record { header = p.0; control = f.2; batches = batches_are o.batches.now p.1 f.1 a }

pub read_again : (o : Outgoing) → print_fault o ≡ None → AreReturnsAndChanges o → length (outgoing_text o) ≤ 4194304 → IsFile (outgoing_text o) (file_of o)
read_again o e a size =
    let p = parts_are o e a in
    let text = same_text o p.batches in
    subst (λ (bytes : List ℕ). IsFile bytes (file_of o)) (sym text) (printed_file (file_of o) (file_made_of o p.header p.control p.batches) (omega (arith, size, ap length text)))

pub all_fit : (o : Outgoing) → print_fault o ≡ None → AllFit (outgoing_rows o)
all_fit o e = let s = no_fault_is o e in rows_fit o s.fields s.large s.many
