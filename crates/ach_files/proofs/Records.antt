-- One record more.
use Rattle.std.proofs.Common.{◌≡◌, ℕ, ◌+◌, true, List, [], ◌∷◌, ◌++◌, Option, length, refl, sym, ap, ◌∙◌, arith, append_assoc}
use Rattle.std.specs.List.{flat_map}
use Rattle.std.specs.Option.{option_to_list}
use Rattle.std.proofs.lemmas.List.{append-nil}
use Rattle.std.proofs.lemmas.List.Sums.{fold_push}
use Rattle.std.proofs.lemmas.List.{map_push}
use Rattle.std.proofs.lemmas.List.Concat.{flat_map-append}
use Rattle.std.proofs.Common.{length-append}
use Rattle.ach_records.specs.Record.{kind_of, header_key, batch_sec, entry_transaction_code, entry_cents}
use Rattle.ach_records.specs.declared.Kind.{Kind}
use Rattle.ach_records.specs.declared.Kind.TheVariants as kinds
use Rattle.ach_files.specs.declared.fault.FileFault.{FileFault}
use Rattle.ach_files.specs.declared.stage.BatchesSoFar.{BatchesSoFar}
use Rattle.ach_files.specs.declared.sums.Sums.{Sums}
use Rattle.ach_files.specs.declared.stage.Stage.{Stage}
use Rattle.ach_files.specs.declared.stage.Stage.TheVariants as stages
use Rattle.ach_files.specs.Structure.{Item, Batch}
use Rattle.ach_files.specs.Totals.{sums_of_items, sums_of_batches}
use Rattle.ach_files.specs.Facts.{batch_facts, facts_of, facts_from}
use Rattle.ach_files.specs.SoFar.{FileSoFar, BeforeHeader, BetweenBatches, InBatch, AwaitingAddenda, Closed, with_record_of, with_record, file_so_far, facts_so_far, records_so_far, digest_message_so_far}
use Rattle.ach_files.specs.RecordFault.{stage_of, batches_so_far, may_follow, fault_after_stage, record_fault}
use Rattle.ach_files.specs.ReaderState.{no_sums, stage_after, completed_item, digest_text}
use Rattle.ach_files.proofs.Adding.{items_push, batches_push}

pub sofar_more : (records : List (List ℕ)) (text : List ℕ) → file_so_far (records ++ text ∷ []) ≡ with_record_of (file_so_far records) (kind_of text) text
unfolding file_so_far with_record
sofar_more records text = fold_push with_record BeforeHeader records text

pub fault_is : (records : List (List ℕ)) (text : List ℕ) (stage : Stage) (n : ℕ) (k : Kind) (o : Option FileFault) → stage ≡ stage_of (file_so_far records) → n ≡ length records + 1 → k ≡ kind_of text → o ≡ fault_after_stage stage n k text → record_fault records text ≡ o
fault_is records text stage n k o e1 e2 e3 e4 = rw (← e1, ← e2, ← e3) (sym e4)

stage_within : (d : BatchesSoFar) (sec : List ℕ) (x y : Sums) → x ≡ y → stages.InBatch d (record { sec = sec; sums = x }) ≡ stages.InBatch d (record { sec = sec; sums = y })
stage_within d sec x y e = ap (λ (z : Sums). stages.InBatch d (record { sec = sec; sums = z })) e

stage_between : (key : List ℕ) (m n : ℕ) (x y : Sums) → m ≡ n → x ≡ y → stages.BetweenBatches (record { key = key; batches = m; sums = x }) ≡ stages.BetweenBatches (record { key = key; batches = n; sums = y })
stage_between key m n x y e f = ap (λ (k : ℕ). stages.BetweenBatches (record { key = key; batches = k; sums = x })) e ∙ ap (λ (z : Sums). stages.BetweenBatches (record { key = key; batches = n; sums = z })) f

nothing_item : sums_of_items [] ≡ no_sums
unfolding sums_of_items
nothing_item = refl

nothing_batch : sums_of_batches [] ≡ no_sums
unfolding sums_of_batches
nothing_batch = refl

pub stage_followed : (s : FileSoFar) (k : Kind) (t : List ℕ) → stage_after (stage_of s) k t ≡ stage_of (with_record_of s k t)
stage_followed BeforeHeader kinds.FileHeader t = stage_between (header_key t) 0 0 no_sums (sums_of_batches []) refl (sym nothing_batch)
stage_followed (BetweenBatches h bs) kinds.BatchHeader t = stage_within (batches_so_far h bs) (batch_sec t) no_sums (sums_of_items []) (sym nothing_item)
stage_followed (InBatch h bs b is) kinds.BatchControl t =
    stage_between (header_key h) (length bs + 1) _ _ _ (omega (arith, length-append bs (record { header = b; items = is; control = t } ∷ []))) (sym (batches_push bs (record { header = b; items = is; control = t })))
stage_followed (AwaitingAddenda h bs b is e) kinds.Return99 t = stage_within (batches_so_far h bs) (batch_sec b) _ _ (sym (items_push is (record { entry = e; addenda = t })))
stage_followed (AwaitingAddenda h bs b is e) kinds.Change98 t = stage_within (batches_so_far h bs) (batch_sec b) _ _ (sym (items_push is (record { entry = e; addenda = t })))
stage_followed (Closed f) kinds.Filler t = refl
stage_followed s k t = refl

-- ---- facts

batch_facts_push : (b : List ℕ) (is : List Item) (i : Item) (control other : List ℕ) → batch_facts (record { header = b; items = is; control = control }) ++ facts_of b i ∷ [] ≡ batch_facts (record { header = b; items = is ++ i ∷ []; control = other })
unfolding batch_facts
batch_facts_push b is i control other = sym (map_push (facts_of b) is i)

batch_facts_none : (b control : List ℕ) → batch_facts (record { header = b; items = []; control = control }) ≡ []
unfolding batch_facts
batch_facts_none b control = refl

batch_facts_any : (b : List ℕ) (is : List Item) (control other : List ℕ) → batch_facts (record { header = b; items = is; control = control }) ≡ batch_facts (record { header = b; items = is; control = other })
unfolding batch_facts
batch_facts_any b is control other = refl

pub flat_map_push : {X A : Type 0} (f : X → List A) (xs : List X) (x : X) → flat_map f (xs ++ x ∷ []) ≡ flat_map f xs ++ f x
flat_map_push f xs x = flat_map-append f xs (x ∷ []) ∙ ap (λ l. flat_map f xs ++ l) (append-nil (f x))

wanting_facts : (h : List ℕ) (bs : List Batch) (b : List ℕ) (is : List Item) (e t : List ℕ) (k : Kind) → kind_of t ≡ k →
    (flat_map batch_facts bs ++ batch_facts (record { header = b; items = is; control = [] })) ++ facts_from (batch_sec b) (entry_transaction_code e) (entry_cents e) k t ∷ []
    ≡ flat_map batch_facts bs ++ batch_facts (record { header = b; items = is ++ record { entry = e; addenda = t } ∷ []; control = [] })
wanting_facts h bs b is e t k kind = rw (append_assoc, ← kind) (ap (λ l. flat_map batch_facts bs ++ l) (batch_facts_push b is (record { entry = e; addenda = t }) [] []))

pub facts_followed : (s : FileSoFar) (k : Kind) (t : List ℕ) → kind_of t ≡ k → facts_so_far s ++ option_to_list (completed_item (stage_of s) k t) ≡ facts_so_far (with_record_of s k t)
facts_followed (BetweenBatches h bs) kinds.BatchHeader t e = ap (λ l. flat_map batch_facts bs ++ l) (sym (batch_facts_none t []))
facts_followed (InBatch h bs b is) kinds.BatchControl t e =
    append-nil (flat_map batch_facts bs ++ batch_facts (record { header = b; items = is; control = [] })) ∙ ap (λ l. flat_map batch_facts bs ++ l) (batch_facts_any b is [] t)
    ∙ sym (flat_map_push batch_facts bs (record { header = b; items = is; control = t }))
facts_followed (AwaitingAddenda h bs b is e) kinds.Return99 t kind = wanting_facts h bs b is e t kinds.Return99 kind
facts_followed (AwaitingAddenda h bs b is e) kinds.Change98 t kind = wanting_facts h bs b is e t kinds.Change98 kind
facts_followed BeforeHeader kinds.FileHeader t e = refl
facts_followed (Closed f) kinds.Filler t e = append-nil (facts_so_far (Closed f))
facts_followed s k t e = append-nil (facts_so_far s)

-- ---- the message of the digest

abbrev pub main_text : Kind → List ℕ → List (List ℕ)
main_text kinds.Filler t = []
main_text _ t = t ∷ []

pub records_followed : (s : FileSoFar) (k : Kind) (t : List ℕ) → may_follow (stage_of s) k ≡ true → records_so_far (with_record_of s k t) ≡ records_so_far s ++ main_text k t
records_followed BeforeHeader kinds.FileHeader t e = refl
records_followed (BetweenBatches h bs) kinds.BatchHeader t e = refl
records_followed (BetweenBatches h bs) kinds.FileControl t e = refl
records_followed (InBatch h bs b is) kinds.Entry t e = simp append_assoc
records_followed (InBatch h bs b is) kinds.BatchControl t e = simp (flat_map_push, append_assoc)
records_followed (AwaitingAddenda h bs b is w) kinds.Return99 t e = simp (flat_map_push, append_assoc)
records_followed (AwaitingAddenda h bs b is w) kinds.Change98 t e = simp (flat_map_push, append_assoc)
records_followed (Closed f) kinds.Filler t e = sym (append-nil _)
records_followed s k t e = absurd cc

texts_of : (k : Kind) (t : List ℕ) → flat_map (λ r. r) (main_text k t) ≡ digest_text k t
texts_of kinds.Filler t = refl
texts_of _ t = append-nil t

pub digest_followed : (s : FileSoFar) (k : Kind) (t : List ℕ) → may_follow (stage_of s) k ≡ true → digest_message_so_far s ++ digest_text k t ≡ digest_message_so_far (with_record_of s k t)
digest_followed s k t e =
    sym (ap (flat_map (λ (r : List ℕ). r)) (records_followed s k t e) ∙ flat_map-append (λ (r : List ℕ). r) (records_so_far s) (main_text k t) ∙ ap (λ l. digest_message_so_far s ++ l) (texts_of k t))

-- what is kept after one record more
pub stage_more : (records : List (List ℕ)) (text : List ℕ) (k : Kind) (stage : Stage) → k ≡ kind_of text → stage ≡ stage_of (file_so_far records) → stage_after stage k text ≡ stage_of (file_so_far (records ++ text ∷ []))
stage_more records text k stage e1 e2 = rw (sofar_more records text, e2, e1) (stage_followed (file_so_far records) (kind_of text) text)

pub facts_more : (records : List (List ℕ)) (text : List ℕ) (k : Kind) (stage : Stage) → k ≡ kind_of text → stage ≡ stage_of (file_so_far records) → facts_so_far (file_so_far records) ++ option_to_list (completed_item stage k text) ≡ facts_so_far (file_so_far (records ++ text ∷ []))
facts_more records text k stage e1 e2 = rw (sofar_more records text, e2, e1) (facts_followed (file_so_far records) (kind_of text) text refl)

pub digest_more : (records : List (List ℕ)) (text : List ℕ) (k : Kind) (stage : Stage) → k ≡ kind_of text → stage ≡ stage_of (file_so_far records) → may_follow stage k ≡ true → digest_message_so_far (file_so_far records) ++ digest_text k text ≡ digest_message_so_far (file_so_far (records ++ text ∷ []))
digest_more records text k stage e1 e2 follows =
    let here : may_follow (stage_of (file_so_far records)) (kind_of text) ≡ true = rw (← e2, ← e1) follows in
    rw (sofar_more records text, e1) (digest_followed (file_so_far records) (kind_of text) text here)
