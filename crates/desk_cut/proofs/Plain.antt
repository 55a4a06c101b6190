-- The printed text depends only on what the slices hold, and not on where they are.
use Rattle.std.proofs.Common.{◌≡◌, ◌∙◌, ap, sym, refl, arith, ℕ, ◌+◌, ◌<◌, get_or, take, List, [], ◌∷◌, ◌++◌, map, length, suc, append_assoc, length-append, length-take-le}
use Rattle.std.specs.Prelude.{sum_by, min}
use Rattle.std.specs.List.{enumerate_from, flat_map, list_all}
use Rattle.std.proofs.lemmas.List.{length-map, map-append, take_more}
use Rattle.std.proofs.lemmas.List.Concat.{flat_map-append}
use Rattle.std.proofs.lemmas.List.Sums.{sum_by-cons, sum_by_push}
use Rattle.ach_records.specs.declared.print.FileHeaderText.{FileHeaderText}
use Rattle.ach_records.specs.Print.{Value, row_fits, row_text, entry_row, batch_header_row, batch_control_row, file_header_row}
use Rattle.ach_files.specs.declared.outgoing.Addenda.{Addenda}
use Rattle.ach_files.specs.declared.outgoing.Addenda.TheVariants as addendas
use Rattle.ach_files.specs.declared.outgoing.OutgoingBatch.{OutgoingBatch}
use Rattle.ach_files.specs.declared.outgoing.OutgoingEntry.{OutgoingEntry}
use Rattle.ach_files.specs.declared.print.printer.Printer.{Printer}
use Rattle.ach_files.specs.declared.sums.Sums.{Sums}
use Rattle.ach_files.specs.Outgoing.{entry_of, entry_rows, entry_count, batch_sums, file_sums, sums_in, batch_control, batch_rows, capped_sums, page, addenda_rows, has_addenda, debit_cents, credit_cents}
use Rattle.ach_files.specs.Printing.{HasPrinted}
use Rattle.ach_files.specs.Totals.{low_digits}
use Rattle.desk_cut.specs.Plain.{plain_addenda, plain_entry, plain_batch, plain_file_header}

sum_by-same : {X : Type 0} (f : X → ℕ) (g : X → X) → ((x : X) → f (g x) ≡ f x) → (xs : List X) → sum_by f (map g xs) ≡ sum_by f xs
sum_by-same f g same [] = refl
sum_by-same f g same (x ∷ xs) = sum_by-cons f (g x) (map g xs) ∙ (λ i. same x i + sum_by-same f g same xs i) ∙ sym (sum_by-cons f x xs)

flat_map-same : {X Y : Type 0} (f : X → List Y) (g : X → X) → ((x : X) → f (g x) ≡ f x) → (xs : List X) → flat_map f (map g xs) ≡ flat_map f xs
flat_map-same f g same [] = refl
flat_map-same f g same (x ∷ xs) = λ i. same x i ++ flat_map-same f g same xs i

-- ---- an entry

there : (a : Addenda) → has_addenda (plain_addenda a) ≡ has_addenda a
there addendas.Absent = refl
there (addendas.Payment information) = refl
there (addendas.Change c) = refl
there (addendas.Return r) = refl

addenda_same : (trace : List ℕ) (a : Addenda) → addenda_rows trace (plain_addenda a) ≡ addenda_rows trace a
addenda_same trace addendas.Absent = refl
addenda_same trace (addendas.Payment information) = refl
addenda_same trace (addendas.Change c) = refl
addenda_same trace (addendas.Return r) = refl

rows_same : (e : OutgoingEntry) → entry_rows (plain_entry e) ≡ entry_rows e
unfolding entry_rows
rows_same e = λ i. entry_row (record (entry_of e) { has_addenda = there e.addenda i }) ∷ addenda_same e.trace e.addenda i

-- ---- a batch

pub sums_same : (b : OutgoingBatch) → sums_in (plain_batch b) ≡ sums_in b
unfolding batch_sums
sums_same b = λ i. record {
  count = sum_by-same entry_count plain_entry (λ e. ap length (rows_same e)) b.entries.now i;
  hash = sum_by-same (λ (e : OutgoingEntry). e.dfi) plain_entry (λ e. refl) b.entries.now i;
  debits = sum_by-same debit_cents plain_entry (λ e. refl) b.entries.now i;
  credits = sum_by-same credit_cents plain_entry (λ e. refl) b.entries.now i;
}

batch_same : (b : OutgoingBatch) → batch_rows (plain_batch b) ≡ batch_rows b
unfolding batch_rows
batch_same b = λ i.
    batch_header_row b.header ∷ flat_map-same entry_rows plain_entry rows_same b.entries.now i
    ++ batch_control_row (record (batch_control b) {
      count = (sums_same b i).count;
      hash = low_digits (sums_same b i).hash;
      debits = (sums_same b i).debits;
      credits = (sums_same b i).credits;
    }) ∷ []

-- ---- a file

-- one batch after others, by what its slices hold
rows_with : (before : List OutgoingBatch) (b wanted : OutgoingBatch) → plain_batch b ≡ wanted → flat_map batch_rows (before ++ b ∷ []) ≡ flat_map batch_rows (before ++ wanted ∷ [])
rows_with before b wanted is =
    flat_map-append batch_rows before (b ∷ [])
    ∙ (λ i. flat_map batch_rows before ++ ((sym (batch_same b) ∙ ap batch_rows is) i ++ []))
    ∙ sym (flat_map-append batch_rows before (wanted ∷ []))

sums_with : (before : List OutgoingBatch) (b wanted : OutgoingBatch) → plain_batch b ≡ wanted → file_sums (before ++ b ∷ []) ≡ file_sums (before ++ wanted ∷ [])
unfolding file_sums
sums_with before b wanted is =
    let same : sums_in b ≡ sums_in wanted = sym (sums_same b) ∙ ap sums_in is in
    λ i. record {
      count = with_last (λ (s : Sums). s.count) same i;
      hash = with_last (λ (s : Sums). low_digits s.hash) same i;
      debits = with_last (λ (s : Sums). s.debits) same i;
      credits = with_last (λ (s : Sums). s.credits) same i;
    } where
      with_last : (f : Sums → ℕ) → sums_in b ≡ sums_in wanted → sum_by (λ c. f (sums_in c)) (before ++ b ∷ []) ≡ sum_by (λ c. f (sums_in c)) (before ++ wanted ∷ [])
      with_last f same =
          sum_by_push (λ (c : OutgoingBatch). f (sums_in c)) before b
          ∙ ap (λ (s : Sums). sum_by (λ c. f (sums_in c)) before + f s) same
          ∙ sym (sum_by_push (λ (c : OutgoingBatch). f (sums_in c)) before wanted)

-- where what the slices of a batch hold is this, this one was printed
pub same_printed : (p : Printer) (header : FileHeaderText) (before : List OutgoingBatch) (b wanted : OutgoingBatch) → plain_batch b ≡ wanted
    → HasPrinted p header (before ++ b ∷ []) → HasPrinted p header (before ++ wanted ∷ [])
same_printed p header before b wanted is h = record {
  fits = ap (λ (rows : List (List Value)). list_all row_fits (file_header_row header ∷ rows)) (sym (rows_with before b wanted is)) ∙ h.fits;
  text = h.text ∙ ap (λ (rows : List (List Value)). page (map row_text (file_header_row header ∷ rows))) (rows_with before b wanted is);
  count = h.count ∙ ap (λ n. min n 1000000) (length-append before (b ∷ []) ∙ sym (length-append before (wanted ∷ [])));
  sums = h.sums ∙ ap capped_sums (sums_with before b wanted is);
}

-- nor does the header
pub header_same : (p : Printer) (header wanted : FileHeaderText) (batches : List OutgoingBatch) → plain_file_header header ≡ wanted
    → HasPrinted p header batches → HasPrinted p wanted batches
header_same p header wanted batches is h = record {
  fits = ap (λ (w : FileHeaderText). list_all row_fits (file_header_row w ∷ flat_map batch_rows batches)) (sym is) ∙ h.fits;
  text = h.text ∙ ap (λ (w : FileHeaderText). page (map row_text (file_header_row w ∷ flat_map batch_rows batches))) is;
  count = h.count;
  sums = h.sums;
}

-- ---- lists

-- one more is made of those that are left
pub pushed : {X Z : Type 0} (f : X → Z) (xs : List X) (x : X) (z : Z) (zs : List Z) → f x ≡ z → map f (xs ++ x ∷ []) ++ zs ≡ map f xs ++ (z ∷ zs)
pushed {X} {Z} f xs x z zs same = ap (λ (l : List Z). l ++ zs) (map-append f xs (x ∷ [])) ∙ append_assoc (map f xs) (f x ∷ []) zs ∙ ap (λ (z : Z). map f xs ++ (z ∷ zs)) same

pub numbered : {X Y : Type 0} (g : ℕ × X → Y) (n : ℕ) (xs : List X) (x : X) → map g (enumerate_from n (xs ++ x ∷ [])) ≡ map g (enumerate_from n xs) ++ g (n + length xs, x) ∷ []
numbered {X} {Y} g n [] x = let here : n ≡ n + 0 = omega arith in ap (λ k. g (k, x) ∷ []) here
numbered {X} {Y} g n (y ∷ xs) x =
    let here : n + 1 + length xs ≡ n + suc (length xs) = omega arith in
    ap (λ (l : List Y). g (n, y) ∷ l) (numbered g (n + 1) xs x ∙ ap (λ k. map g (enumerate_from (n + 1) xs) ++ g (k, x) ∷ []) here)

-- one batch more
pub numbered_more : {X Z Y : Type 0} (g : ℕ × Z → Y) (f : X → Z) (xs : List X) (i : ℕ) (x : X) → i < length xs → x ≡ get_or xs i x
    → map g (enumerate_from 1 (map f (take i xs))) ++ g (i + 1, f x) ∷ [] ≡ map g (enumerate_from 1 (map f (take (i + 1) xs)))
numbered_more {X} {Z} {Y} g f xs i x more is =
    let count : 1 + length (map f (take i xs)) ≡ i + 1 = let taken : length (take i xs) ≡ i = length-take-le i xs (omega (arith, more)) in let mapped = length-map (take i xs) f in omega arith in
    let next : map f (take (i + 1) xs) ≡ map f (take i xs) ++ f x ∷ [] =
    ap (map f) (take_more xs i x more) ∙ map-append f (take i xs) (get_or xs i x ∷ []) ∙ ap (λ (y : X). map f (take i xs) ++ f y ∷ []) (sym is) in
    ap (λ k. map g (enumerate_from 1 (map f (take i xs))) ++ g (k, f x) ∷ []) (sym count)
    ∙ sym (numbered g 1 (map f (take i xs)) (f x))
    ∙ ap (λ (l : List Z). map g (enumerate_from 1 l)) (sym next)
