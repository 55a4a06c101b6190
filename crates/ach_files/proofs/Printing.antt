-- A file that is printed batch by batch comes to the text of the whole.
use Rattle.std.proofs.Common.{◌≡◌, ◌∙◌, ap, sym, refl, ℕ, ◌+◌, ◌*◌, ◌^◌, ◌<◌, ◌≤◌, Bool, true, false, List, [], ◌∷◌, ◌++◌, map, length, replicate, Option, Some, None, arith}
use Rattle.std.specs.Prelude.{not, min, nat_lt, if◌then◌else◌, ◌||◌}
use Rattle.std.specs.List.{flat_map, list_all, list_any}
use Rattle.std.proofs.lemmas.Bool.{and_parts, and_from, le-ltb, lt-ltb, ltb-false, ltb-true}
use Rattle.std.proofs.lemmas.List.{append-nil}
use Rattle.std.proofs.lemmas.List.Concat.{flat_map-append}
use Rattle.std.proofs.lemmas.List.Sums.{sum_by_push}
use Rattle.ach_fields.specs.Cents.{most_cents}
use Rattle.ach_records.specs.declared.print.FileControlText.{FileControlText}
use Rattle.ach_records.specs.declared.print.FileHeaderText.{FileHeaderText}
use Rattle.ach_records.specs.Print.{Value, row_fits, row_text, batch_header_row, batch_control_row, file_header_row, file_control_row}
use Rattle.ach_files.specs.declared.outgoing.Outgoing.{Outgoing}
use Rattle.ach_files.specs.declared.outgoing.OutgoingBatch.{OutgoingBatch}
use Rattle.ach_files.specs.declared.outgoing.OutgoingEntry.{OutgoingEntry}
use Rattle.ach_files.specs.declared.outgoing.PrintFault.{PrintFault}
use Rattle.ach_files.specs.declared.outgoing.PrintFault.TheVariants as faults
use Rattle.ach_files.specs.declared.print.measures.Measures.{Measures}
use Rattle.ach_files.specs.declared.sums.Sums.{Sums}
use Rattle.ach_files.specs.ReaderState.{joint_sums, with_low_hash}
use Rattle.ach_files.specs.Limits.{six_digits, eight_digits}
use Rattle.ach_files.specs.Outgoing.{entry_rows, entry_fits, batch_fits, batch_rows, batch_control, batch_fault, fields_fit, file_control, file_sums, filler_count, is_large, is_long_batch, has_many, capped_sums, main_count, sums_cap, outgoing_rows, page, outgoing_text, print_fault, totals_fault, sums_in, sums_of, AllFit, IsText}
use Rattle.ach_files.specs.Structure.{nines}
use Rattle.ach_files.specs.Totals.{blocks, low_digits}
use Rattle.ach_files.proofs.Adding.{same_sums}
use Rattle.ach_files.proofs.Controls.{control_fits}
use Rattle.ach_files.proofs.Fits.{batch_rows_fit, either, large_kept}
use Rattle.ach_files.proofs.Pages.{page_append, rows_append, fit_append, fit_both, around_fits}

-- ---- a batch

-- what its measures are judged by
abbrev fault_after_stage : Bool → Bool → Bool → Option PrintFault
fault_after_stage fit large long =
    if not fit then Some faults.BadField
    else if large then Some faults.TotalTooLarge
    else if long then Some faults.TooManyRecords
    else None

pub fault_is : (b : OutgoingBatch) (m : Measures) → m.fit ≡ batch_fits b → m.is_any_long ≡ is_long_batch b → m.sums ≡ capped_sums (sums_in b)
    → fault_after_stage m.fit (is_large m.sums) m.is_any_long ≡ batch_fault b
unfolding batch_fault
fault_is b m fit long sums = λ i. fault_after_stage (fit i) (large_kept m.sums (sums_in b) sums i) (long i)

parts : (fit large long : Bool) → fault_after_stage fit large long ≡ None → (fit ≡ true) × (large ≡ false) × (long ≡ false)
parts true false false is = (refl, refl, refl)
parts true false true is = absurd cc
parts true true long is = absurd cc
parts false large long is = absurd cc

pub rows_of_batch_fit : (b : OutgoingBatch) → batch_fault b ≡ None → AllFit (batch_rows b)
unfolding batch_fault
rows_of_batch_fit b is =
    let p = parts (batch_fits b) (is_large (sums_in b)) (is_long_batch b) is in
    let large = either _ _ p.1 in
    batch_rows_fit b p.0 (ltb-false _ _ p.2) (ltb-false _ _ large.0) (ltb-false _ _ large.1)

pub text_more : (first : List Value) (before : List OutgoingBatch) (b : OutgoingBatch) (old new : List ℕ)
    → old ≡ page (map row_text (first ∷ flat_map batch_rows before)) → new ≡ old ++ page (map row_text (batch_rows b))
    → new ≡ page (map row_text (first ∷ flat_map batch_rows (before ++ b ∷ [])))
text_more first before b old new e g =
    let one : flat_map batch_rows (before ++ b ∷ []) ≡ flat_map batch_rows before ++ batch_rows b =
    flat_map-append batch_rows before (b ∷ []) ∙ ap (λ (l : List (List Value)). flat_map batch_rows before ++ l) (append-nil (batch_rows b)) in
    g
    ∙ ap (λ (l : List ℕ). l ++ page (map row_text (batch_rows b))) e
    ∙ sym (rows_append (first ∷ flat_map batch_rows before) (batch_rows b))
    ∙ ap (λ (rows : List (List Value)). page (map row_text (first ∷ rows))) (sym one)

pub sums_more : (before : List OutgoingBatch) (b : OutgoingBatch) → file_sums (before ++ b ∷ []) ≡ joint_sums (file_sums before) (with_low_hash (sums_in b))
unfolding file_sums
sums_more before b = same_sums _ _ _ _ _ _ _ _
    (sum_by_push (λ (b : OutgoingBatch). (sums_in b).count) before b)
    (sum_by_push (λ (b : OutgoingBatch). low_digits (sums_in b).hash) before b)
    (sum_by_push (λ (b : OutgoingBatch). (sums_in b).debits) before b)
    (sum_by_push (λ (b : OutgoingBatch). (sums_in b).credits) before b)

-- ---- the control

small : (n kept_n : ℕ) → kept_n ≡ min n sums_cap → kept_n ≤ most_cents → kept_n ≡ n
small n kept_n is le = omega (arith, is, le)

-- where nothing that is kept reaches its bound, it is what the file control says
pub control_is : (o : Outgoing) (s : Sums) (n hash debits credits : ℕ) → n ≡ min (length o.batches.now) (six_digits + 1) → s ≡ capped_sums (sums_of o)
    → n ≤ six_digits → s.count ≤ eight_digits → s.debits ≤ most_cents → s.credits ≤ most_cents → hash ≡ low_digits s.hash → debits ≡ s.debits → credits ≡ s.credits →
    let control : FileControlText = record { batches = n; blocks = blocks (2 + 2 * n + s.count); count = s.count; hash = hash; debits = debits; credits = credits } in
    control ≡ file_control o
unfolding capped_sums main_count
control_is o s n hash debits credits few is le count d c hash_is debits_is credits_is =
    let batches : n ≡ length o.batches.now = omega (arith, few, le) in
    let counted : s.count ≡ (sums_of o).count = small (sums_of o).count s.count (ap (λ (t : Sums). t.count) is) (omega (arith, count)) in
    let twice : low_digits (low_digits (sums_of o).hash) ≡ low_digits (sums_of o).hash = omega arith in
    let hashed : hash ≡ low_digits (sums_of o).hash = hash_is ∙ ap (λ (t : Sums). low_digits t.hash) is ∙ twice in
    let debited : debits ≡ (sums_of o).debits = debits_is ∙ small (sums_of o).debits s.debits (ap (λ (t : Sums). t.debits) is) d in
    let credited : credits ≡ (sums_of o).credits = credits_is ∙ small (sums_of o).credits s.credits (ap (λ (t : Sums). t.credits) is) c in
    λ i. record {
      batches = batches i;
      blocks = blocks (2 + 2 * batches i + counted i);
      count = counted i;
      hash = hashed i;
      debits = debited i;
      credits = credited i;
    }

-- ---- what is wrong with the numbers of a file control, by what is kept

or_right : (a b : Bool) → b ≡ true → (a || b) ≡ true
or_right true b is = refl
or_right false b is = is

any_long : (o : Outgoing) → list_any is_long_batch o.batches.now ≡ true → has_many o ≡ true
unfolding has_many
any_long o long = rw long refl

many_batches : (o : Outgoing) → six_digits < length o.batches.now → has_many o ≡ true
unfolding has_many
many_batches o lt =
    or_right (list_any is_long_batch o.batches.now) (nat_lt six_digits (length o.batches.now) || nat_lt six_digits (blocks (main_count o))) (rw (lt-ltb six_digits (length o.batches.now) lt) refl)

many_blocks : (o : Outgoing) → six_digits < blocks (main_count o) → has_many o ≡ true
unfolding has_many
many_blocks o lt = or_right _ _ (or_right _ _ (lt-ltb six_digits (blocks (main_count o)) lt))

not_many : (o : Outgoing) → list_any is_long_batch o.batches.now ≡ false → length o.batches.now ≤ six_digits → blocks (main_count o) ≤ six_digits → has_many o ≡ false
unfolding has_many
not_many o short few low = rw (short, le-ltb six_digits (length o.batches.now) few, le-ltb six_digits (blocks (main_count o)) low) refl

pub totals_large : (o : Outgoing) (s : Sums) → s ≡ capped_sums (sums_of o) → is_large s ≡ true → totals_fault o ≡ Some faults.TotalTooLarge
totals_large o s is large = let e : is_large (sums_of o) ≡ true = sym (large_kept s (sums_of o) is) ∙ large in rw e refl

totals_many : (o : Outgoing) (s : Sums) → s ≡ capped_sums (sums_of o) → is_large s ≡ false → has_many o ≡ true → totals_fault o ≡ Some faults.TooManyRecords
totals_many o s is small many = let e : is_large (sums_of o) ≡ false = sym (large_kept s (sums_of o) is) ∙ small in rw (e, many) refl

pub totals_long : (o : Outgoing) (s : Sums) → s ≡ capped_sums (sums_of o) → is_large s ≡ false → list_any is_long_batch o.batches.now ≡ true → totals_fault o ≡ Some faults.TooManyRecords
totals_long o s is small long = totals_many o s is small (any_long o long)

pub totals_few : (o : Outgoing) (s : Sums) (n : ℕ) → n ≡ min (length o.batches.now) (six_digits + 1) → s ≡ capped_sums (sums_of o) → is_large s ≡ false → six_digits < n → totals_fault o ≡ Some faults.TooManyRecords
totals_few o s n few is small many = totals_many o s is small (many_batches o (omega (arith, few, many)))

pub totals_counted : (o : Outgoing) (s : Sums) → s ≡ capped_sums (sums_of o) → is_large s ≡ false → eight_digits < s.count → totals_fault o ≡ Some faults.TooManyRecords
unfolding capped_sums main_count
totals_counted o s is small many =
    let count : s.count ≡ min (sums_of o).count sums_cap = ap (λ (t : Sums). t.count) is in
    totals_many o s is small (many_blocks o (omega (arith, count, many)))

pub totals_blocked : (o : Outgoing) (s : Sums) (n : ℕ) → n ≡ min (length o.batches.now) (six_digits + 1) → s ≡ capped_sums (sums_of o) → is_large s ≡ false → n ≤ six_digits → six_digits < blocks (2 + 2 * n + s.count)
    → totals_fault o ≡ Some faults.TooManyRecords
unfolding capped_sums main_count
totals_blocked o s n few is small le many =
    let count : s.count ≡ min (sums_of o).count sums_cap = ap (λ (t : Sums). t.count) is in
    totals_many o s is small (many_blocks o (omega (arith, count, few, le, many)))

pub totals_none : (o : Outgoing) (s : Sums) (n : ℕ) → n ≡ min (length o.batches.now) (six_digits + 1) → s ≡ capped_sums (sums_of o) → list_any is_long_batch o.batches.now ≡ false → is_large s ≡ false
    → n ≤ six_digits → s.count ≤ eight_digits → blocks (2 + 2 * n + s.count) ≤ six_digits → totals_fault o ≡ None
unfolding capped_sums main_count
totals_none o s n few is short small le counted low =
    let e : is_large (sums_of o) ≡ false = sym (large_kept s (sums_of o) is) ∙ small in
    let count : s.count ≡ min (sums_of o).count sums_cap = ap (λ (t : Sums). t.count) is in
    let many : has_many o ≡ false = not_many o short (omega (arith, few, le)) (omega (arith, count, few, le, counted, low)) in
    rw (e, many) refl

-- ---- what was printed fits

entries_fit_by : (entries : List OutgoingEntry) → AllFit (flat_map entry_rows entries) → list_all entry_fits entries ≡ true
unfolding entry_fits
entries_fit_by [] h = refl
entries_fit_by (e ∷ es) h = let p = fit_append (entry_rows e) (flat_map entry_rows es) h in and_from _ _ p.0 (entries_fit_by es p.1)

batch_fits_by : (b : OutgoingBatch) → AllFit (batch_rows b) → (batch_fits b ≡ true) × (is_long_batch b ≡ false)
unfolding batch_fits batch_rows
batch_fits_by b h =
    let p = around_fits (batch_header_row b.header) (batch_control_row (batch_control b)) (flat_map entry_rows b.entries.now) h in
    let count : (sums_in b).count < 10 ^ 6 = ltb-true _ _ (control_fits (batch_control b) p.2).count in
    (and_from _ _ p.0 (entries_fit_by b.entries.now p.1), le-ltb six_digits (sums_in b).count (omega (arith, count)))

batches_fit_by : (bs : List OutgoingBatch) → AllFit (flat_map batch_rows bs) → (list_all batch_fits bs ≡ true) × (list_any is_long_batch bs ≡ false)
batches_fit_by [] h = (refl, refl)
batches_fit_by (b ∷ bs) h =
    let p = fit_append (batch_rows b) (flat_map batch_rows bs) h in
    let q = batch_fits_by b p.0 in
    let r = batches_fit_by bs p.1 in
    (and_from _ _ q.0 r.0, rw (q.1, r.1) refl)

-- rows with texts: no field is bad, and no batch too long
pub record Fit (header : FileHeaderText) (batches : List OutgoingBatch) : Type 0 where
  pub fields : row_fits (file_header_row header) ≡ true
  pub entries : list_all batch_fits batches ≡ true
  pub short : list_any is_long_batch batches ≡ false

pub fit_by : (header : FileHeaderText) (batches : List OutgoingBatch) → AllFit (file_header_row header ∷ flat_map batch_rows batches) → Fit header batches
fit_by header batches h =
    let p = and_parts (row_fits (file_header_row header)) (list_all row_fits (flat_map batch_rows batches)) h in
    let q = batches_fit_by batches p.1 in
    record { fields = p.0; entries = q.0; short = q.1 }

pub fits_more : (first : List Value) (before : List OutgoingBatch) (b : OutgoingBatch) → AllFit (first ∷ flat_map batch_rows before) → AllFit (batch_rows b) → AllFit (first ∷ flat_map batch_rows (before ++ b ∷ []))
fits_more first before b h k =
    let one : flat_map batch_rows (before ++ b ∷ []) ≡ flat_map batch_rows before ++ batch_rows b =
    flat_map-append batch_rows before (b ∷ []) ∙ ap (λ (l : List (List Value)). flat_map batch_rows before ++ l) (append-nil (batch_rows b)) in
    ap (λ (rows : List (List Value)). list_all row_fits (first ∷ rows)) one ∙ fit_both (first ∷ flat_map batch_rows before) (batch_rows b) h k

pub fault_of_fields : (o : Outgoing) → fields_fit o ≡ true → print_fault o ≡ totals_fault o
unfolding print_fault
fault_of_fields o fit = rw fit refl

-- then only the numbers of the file control can be wrong
pub fault_of_totals : (o : Outgoing) → Fit o.header o.batches.now → print_fault o ≡ totals_fault o
unfolding print_fault fields_fit
fault_of_totals o fit = rw (fit.fields, fit.entries) refl

-- ---- the end

-- the records through the 9, by what the control says
pub main_count_by_control : (o : Outgoing) → 2 + 2 * (file_control o).batches + (file_control o).count ≡ main_count o
unfolding main_count
main_count_by_control o = refl

pub finished : (o : Outgoing) (text one two : List ℕ) (n : ℕ)
    → text ≡ page (map row_text (file_header_row o.header ∷ flat_map batch_rows o.batches.now))
    → one ≡ text ++ (row_text (file_control_row (file_control o)) ++ 10 ∷ [])
    → two ≡ one ++ page (replicate n nines)
    → n ≡ filler_count (main_count o)
    → two ≡ outgoing_text o
unfolding outgoing_rows
finished o text one two n e f g is =
    let rows = file_header_row o.header ∷ flat_map batch_rows o.batches.now in
    let last = file_control_row (file_control o) in
    let whole : one ≡ page (map row_text (outgoing_rows o)) =
    f
    ∙ ap (λ (l : List ℕ). l ++ (row_text last ++ 10 ∷ [])) e
    ∙ ap (λ (l : List ℕ). page (map row_text rows) ++ l) (sym (append-nil (row_text last ++ 10 ∷ [])))
    ∙ sym (rows_append rows (last ∷ [])) in
    g
    ∙ ap (λ (l : List ℕ). l ++ page (replicate n nines)) whole
    ∙ sym (page_append (map row_text (outgoing_rows o)) (replicate n nines))
    ∙ ap (λ k. page (map row_text (outgoing_rows o) ++ replicate k nines)) is

-- ---- the header

-- a record that is there is the text of its fields
pub header_text : (record_given : Option (List ℕ)) (text : List ℕ) (values : List Value) → record_given ≡ Some text → IsText record_given values → text ≡ row_text values
header_text (Some text2) text values is fits = let same : text ≡ text2 = cc in same ∙ fits.1
header_text None text values is fits = absurd cc

-- its fields have texts
pub record_fits : (record_given : Option (List ℕ)) (text : List ℕ) (values : List Value) → record_given ≡ Some text → IsText record_given values → row_fits values ≡ true
record_fits (Some text2) text values is fits = fits.0
record_fits None text values is fits = absurd cc
