-- The records of a file, one after the other, have no fault, and come to the file.
use Rattle.ach_files.proofs.Printable.{IsPrintable, all_printable}
use Rattle.std.proofs.Common.{◌≡◌, ℕ, zero, suc, ◌+◌, false, List, [], ◌∷◌, ◌++◌, None, length, replicate, refl, ap, ◌∙◌, arith, inl, inr, ◌⊎◌, append_assoc, length-append}
use Rattle.std.specs.List.{flat_map, All}
use Rattle.std.proofs.lemmas.List.{append-nil}
use Rattle.std.proofs.lemmas.List.Elements.{All-head, All-tail}
use Rattle.ach_records.specs.Record.{kind_of, has_digits}
use Rattle.ach_records.specs.declared.Kind.{Kind}
use Rattle.ach_records.specs.declared.Kind.TheVariants as kinds
use Rattle.ach_files.specs.Structure.{Item, Batch, File, nines, item_records, batch_records, main_records, records_of}
use Rattle.ach_files.specs.File.{IsItem, IsBatch, AreRecords}
use Rattle.ach_records.specs.Record.{IsRecord}
use Rattle.ach_records.specs.Record.{entry_direction}
use Rattle.ach_files.specs.Totals.{blocks, sums_of_items, batch_control_sums}
use Rattle.ach_files.specs.SoFar.{FileSoFar, BeforeHeader, BetweenBatches, InBatch, AwaitingAddenda, Closed, with_record_of}
use Rattle.ach_files.specs.RecordFault.{stage_of, fault_after_stage, is_forward, control_fault, batches_so_far}
use Rattle.ach_files.proofs.Fine.{Fine, fine_is, is_agreed, is_file_control}

pub record Whole (t : List ℕ) : Type 0 where
  pub len : length t ≡ 94
  pub printable : All IsPrintable t

abbrev pub Runs : FileSoFar → ℕ → List (List ℕ) → FileSoFar → Type 0
Runs s n [] s2 = s ≡ s2
Runs s n (t ∷ ts) s2 = Whole t × (fault_after_stage (stage_of s) (n + 1) (kind_of t) t ≡ None) × Runs (with_record_of s (kind_of t) t) (n + 1) ts s2

pub runs_append : (s : FileSoFar) (n : ℕ) (xs ys : List (List ℕ)) (m k : FileSoFar) → Runs s n xs m → Runs m (n + length xs) ys k → Runs s n (xs ++ ys) k
runs_append s n [] ys m k h g = let e : n + 0 ≡ n = omega arith in rw h (rw e at g)
runs_append s n (x ∷ xs) ys m k h g =
    let e : n + length (x ∷ xs) ≡ (n + 1) + length xs = omega arith in
    (h.0, h.1, runs_append (with_record_of s (kind_of x) x) (n + 1) xs ys m k h.2 (rw e at g))

pub one : (s : FileSoFar) (n : ℕ) (k : Kind) (t : List ℕ) → IsRecord k t → Fine (stage_of s) (n + 1) k t → Runs s n (t ∷ []) (with_record_of s k t)
one s n k t r f = (record { len = r.len; printable = all_printable t r.printable }, rw r.kind_is (fine_is (stage_of s) (n + 1) k t f), rw r.kind_is refl)

forward_is : (t : List ℕ) → (entry_direction t ≡ 49) ⊎ (entry_direction t ≡ 54) → is_forward kinds.Entry t ≡ false
forward_is t (inl e) = rw e refl
forward_is t (inr e) = rw e refl

module _ (h : List ℕ) (bs : List Batch) (b : List ℕ) where
  item_runs : (is : List Item) (n : ℕ) (i : Item) → IsItem i → Runs (InBatch h bs b is) n (item_records i) (InBatch h bs b (is ++ i ∷ []))
  unfolding control_fault
  item_runs is n i r =
      let first : Runs (InBatch h bs b is) n (i.entry ∷ []) (AwaitingAddenda h bs b is i.entry) = one (InBatch h bs b is) n kinds.Entry i.entry r.entry (record { follows = refl; placed = refl; digits = r.entry.digits; forward = forward_is i.entry r.direction; cents = refl; control = refl }) in
      runs_append (InBatch h bs b is) n (i.entry ∷ []) (i.addenda ∷ []) (AwaitingAddenda h bs b is i.entry) (InBatch h bs b (is ++ i ∷ [])) first
      (elim r.addenda [
        | inl a ↦ one (AwaitingAddenda h bs b is i.entry) (n + 1) kinds.Return99 i.addenda a (record { follows = refl; placed = refl; digits = a.digits; forward = refl; cents = refl; control = refl })
        | inr a ↦ one (AwaitingAddenda h bs b is i.entry) (n + 1) kinds.Change98 i.addenda a.0 (record { follows = refl; placed = refl; digits = a.0.digits; forward = refl; cents = rw a.1 refl; control = refl })
      ])

  items_run : (is more : List Item) (n : ℕ) → All IsItem more → Runs (InBatch h bs b is) n (flat_map item_records more) (InBatch h bs b (is ++ more))
  items_run is [] n g = rw (append-nil is) refl
  items_run is (i ∷ more) n g =
      let first = item_runs is n i (All-head IsItem i more g) in
      let rest : Runs (InBatch h bs b (is ++ i ∷ [])) (n + length (item_records i)) (flat_map item_records more) (InBatch h bs b (is ++ i ∷ more)) = rw (← append_assoc is (i ∷ []) more) (items_run (is ++ i ∷ []) more (n + length (item_records i)) (All-tail IsItem i more g)) in
      runs_append (InBatch h bs b is) n (item_records i) (flat_map item_records more) (InBatch h bs b (is ++ i ∷ [])) (InBatch h bs b (is ++ i ∷ more)) first rest

batch_runs : (h : List ℕ) (bs : List Batch) (n : ℕ) (b : Batch) → IsBatch b → Runs (BetweenBatches h bs) n (batch_records b) (BetweenBatches h (bs ++ b ∷ []))
unfolding control_fault
batch_runs h bs n b r =
    let head = one (BetweenBatches h bs) n kinds.BatchHeader b.header r.header (record { follows = refl; placed = refl; digits = r.header.digits; forward = refl; cents = refl; control = refl }) in
    let items = items_run h bs b.header [] b.items (n + 1) r.items in
    let control = one (InBatch h bs b.header b.items) (n + 1 + length (flat_map item_records b.items)) kinds.BatchControl b.control r.control (record { follows = refl; placed = refl; digits = r.control.digits; forward = refl; cents = refl; control = is_agreed (batch_control_sums b.control) (sums_of_items b.items) r.sums }) in
    runs_append (BetweenBatches h bs) n (b.header ∷ []) (flat_map item_records b.items ++ b.control ∷ []) (InBatch h bs b.header []) (BetweenBatches h (bs ++ b ∷ [])) head
    (runs_append (InBatch h bs b.header []) (n + 1) (flat_map item_records b.items) (b.control ∷ []) (InBatch h bs b.header b.items) (BetweenBatches h (bs ++ b ∷ [])) items control)

batches_run : (h : List ℕ) (bs more : List Batch) (n : ℕ) → All IsBatch more → Runs (BetweenBatches h bs) n (flat_map batch_records more) (BetweenBatches h (bs ++ more))
batches_run h bs [] n g = rw (append-nil bs) refl
batches_run h bs (b ∷ more) n g =
    let rest : Runs (BetweenBatches h (bs ++ b ∷ [])) (n + length (batch_records b)) (flat_map batch_records more) (BetweenBatches h (bs ++ b ∷ more)) = rw (← append_assoc bs (b ∷ []) more) (batches_run h (bs ++ b ∷ []) more (n + length (batch_records b)) (All-tail IsBatch b more g)) in
    runs_append (BetweenBatches h bs) n (batch_records b) (flat_map batch_records more) (BetweenBatches h (bs ++ b ∷ [])) (BetweenBatches h (bs ++ b ∷ more)) (batch_runs h bs n b (All-head IsBatch b more g)) rest

nines_are : IsRecord kinds.Filler nines
unfolding nines kind_of has_digits
nines_are = record { known = refl; len = refl; printable = refl; kind_is = refl; digits = refl }

fillers_run : (h control : List ℕ) (bs : List Batch) (i m n : ℕ) → Runs (Closed (record { header = h; batches = bs; control = control; fillers = i })) n (replicate m nines) (Closed (record { header = h; batches = bs; control = control; fillers = i + m }))
unfolding control_fault
fillers_run h control bs i zero n = let e : i ≡ i + 0 = omega arith in ap (λ k. Closed (record { header = h; batches = bs; control = control; fillers = k })) e
fillers_run h control bs i (suc m) n =
    let e : i + suc m ≡ suc i + m = omega arith in
    rw e (runs_append (Closed (record { header = h; batches = bs; control = control; fillers = i })) n (nines ∷ []) (replicate m nines) (Closed (record { header = h; batches = bs; control = control; fillers = suc i })) (Closed (record { header = h; batches = bs; control = control; fillers = suc i + m }))
    (one (Closed (record { header = h; batches = bs; control = control; fillers = i })) n kinds.Filler nines nines_are (record { follows = refl; placed = refl; digits = nines_are.digits; forward = refl; cents = refl; control = refl }))
    (fillers_run h control bs (suc i) m (n + 1)))

pub file_runs : (f : File) → AreRecords f → Runs BeforeHeader 0 (records_of f) (Closed f)
unfolding control_fault
file_runs f r =
    let closed : ℕ → FileSoFar = λ i. Closed (record { header = f.header; batches = f.batches; control = f.control; fillers = i }) in
    let k = length (flat_map batch_records f.batches) in
    let count : blocks (length (main_records f)) ≡ blocks (1 + k + 1) = ap blocks (omega (arith, length-append (f.header ∷ flat_map batch_records f.batches) (f.control ∷ []))) in
    let head : Runs BeforeHeader 0 (f.header ∷ []) (BetweenBatches f.header []) = one BeforeHeader 0 kinds.FileHeader f.header r.header (record { follows = refl; placed = refl; digits = r.header.digits; forward = refl; cents = refl; control = refl }) in
    let control : Runs (BetweenBatches f.header f.batches) (1 + k) (f.control ∷ []) (closed 0) = one (BetweenBatches f.header f.batches) (1 + k) kinds.FileControl f.control r.control (record { follows = refl; placed = refl; digits = r.control.digits; forward = refl; cents = refl; control = is_file_control (batches_so_far f.header f.batches) (1 + k + 1) f.control r.count r.sums (r.blocks ∙ count) }) in
    let main : Runs BeforeHeader 0 (main_records f) (closed 0) = runs_append BeforeHeader 0 (f.header ∷ []) (flat_map batch_records f.batches ++ f.control ∷ []) (BetweenBatches f.header []) (closed 0) head
    (runs_append (BetweenBatches f.header []) 1 (flat_map batch_records f.batches) (f.control ∷ []) (BetweenBatches f.header f.batches) (closed 0) (batches_run f.header [] f.batches 1 r.batches) control) in
    let fillers : Runs (closed 0) (0 + length (main_records f)) (replicate f.fillers nines) (closed f.fillers) = let z : closed (0 + f.fillers) ≡ closed f.fillers = ap closed (omega arith) in rw (← z) (fillers_run f.header f.control f.batches 0 f.fillers (0 + length (main_records f))) in
    runs_append BeforeHeader 0 (main_records f) (replicate f.fillers nines) (closed 0) (Closed f) main fillers
