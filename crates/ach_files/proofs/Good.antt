-- Records without a fault come to a file so far that is good.
use Rattle.std.proofs.Common.{◌≡◌, ℕ, ◌+◌, false, List, [], ◌∷◌, ◌++◌, None, length, replicate, refl, sym, ap, ◌∙◌, arith, inl, inr, ◌⊎◌, append_assoc, length-append, not, add-one}
use Rattle.std.specs.Prelude.{◌==◌}
use Rattle.std.specs.List.{flat_map, All}
use Rattle.std.proofs.lemmas.List.{append-nil, replicate_more}
use Rattle.std.proofs.lemmas.List.Elements.{All-push, All-nil}
use Rattle.std.proofs.lemmas.Bool.{eqb-true, and_cases}
use Rattle.ach_records.specs.declared.Kind.{Kind}
use Rattle.ach_records.specs.declared.Kind.TheVariants as kinds
use Rattle.ach_files.specs.declared.stage.BatchesSoFar.{BatchesSoFar}
use Rattle.ach_files.specs.declared.stage.OpenBatch.{OpenBatch}
use Rattle.ach_files.specs.declared.stage.Stage.TheVariants as stages
use Rattle.ach_files.specs.Structure.{nines, batch_records, main_records, records_of}
use Rattle.ach_files.specs.File.{IsItem, IsBatch, AreRecords}
use Rattle.ach_records.specs.Record.{IsRecord}
use Rattle.ach_records.specs.Record.{entry_direction}
use Rattle.ach_files.specs.Totals.{Agrees, blocks, batch_control_sums}
use Rattle.ach_files.specs.SoFar.{FileSoFar, BeforeHeader, BetweenBatches, InBatch, AwaitingAddenda, Closed, with_record_of, records_so_far}
use Rattle.ach_files.specs.RecordFault.{stage_of, is_forward, control_fault, batches_so_far, open_batch}
use Rattle.ach_files.proofs.Fine.{Fine, not_false, agrees_is, file_control_is, filler_is}
use Rattle.ach_files.proofs.Records.{records_followed}

abbrev pub Good : FileSoFar → Type 0
Good BeforeHeader = Unit {0}
Good (BetweenBatches h bs) = IsRecord kinds.FileHeader h × All IsBatch bs
Good (InBatch h bs b is) = IsRecord kinds.FileHeader h × All IsBatch bs × IsRecord kinds.BatchHeader b × All IsItem is
Good (AwaitingAddenda h bs b is e) = IsRecord kinds.FileHeader h × All IsBatch bs × IsRecord kinds.BatchHeader b × All IsItem is × IsRecord kinds.Entry e × ((entry_direction e ≡ 49) ⊎ (entry_direction e ≡ 54))
Good (Closed f) = AreRecords f

-- all records so far
abbrev pub all_records : FileSoFar → List (List ℕ)
all_records (Closed f) = records_of f
all_records s = records_so_far s

direction_is : (text : List ℕ) → is_forward kinds.Entry text ≡ false → (entry_direction text ≡ 49) ⊎ (entry_direction text ≡ 54)
direction_is text e =
    elim (and_cases (not (entry_direction text == 49)) (not (entry_direction text == 54)) e) [
      | inl one ↦ inl (eqb-true _ _ (not_false _ one))
      | inr six ↦ inr (eqb-true _ _ (not_false _ six))
    ]

batch_control_is : (d : BatchesSoFar) (o : OpenBatch) (n : ℕ) (t : List ℕ) → control_fault (stages.InBatch d o) n kinds.BatchControl t ≡ None → Agrees (batch_control_sums t) o.sums
unfolding control_fault
batch_control_is d o n t h = agrees_is (batch_control_sums t) o.sums h

pub good_step : (s : FileSoFar) (n : ℕ) (k : Kind) (t : List ℕ) → Good s → n ≡ length (all_records s) + 1 → IsRecord k t → Fine (stage_of s) n k t → Good (with_record_of s k t)
good_step BeforeHeader n kinds.FileHeader t g e r f = (r, All-nil IsBatch)
good_step (BetweenBatches h bs) n kinds.BatchHeader t g e r f = (g.0, g.1, r, All-nil IsItem)
good_step (BetweenBatches h bs) n kinds.FileControl t g e r f =
    let c = file_control_is (batches_so_far h bs) n t f.control in
    record { header = g.0; batches = g.1; control = r; count = c.0; sums = c.1; blocks = c.2 ∙ ap blocks (e ∙ omega (arith, length-append (h ∷ flat_map batch_records bs) (t ∷ []))) }
good_step (InBatch h bs b is) n kinds.Entry t g e r f = (g.0, g.1, g.2, g.3, r, direction_is t f.forward)
good_step (InBatch h bs b is) n kinds.BatchControl t g e r f =
    (g.0, All-push IsBatch bs _ g.1 (record { header = g.2; items = g.3; control = r; sums = batch_control_is (batches_so_far h bs) (open_batch b is) n t f.control }))
good_step (AwaitingAddenda h bs b is w) n kinds.Return99 t g e r f = (g.0, g.1, g.2, All-push IsItem is _ g.3 (record { entry = g.4; direction = g.5; addenda = inl r }))
good_step (AwaitingAddenda h bs b is w) n kinds.Change98 t g e r f = (g.0, g.1, g.2, All-push IsItem is _ g.3 (record { entry = g.4; direction = g.5; addenda = inr (r, eqb-true _ _ (not_false _ f.cents)) }))
good_step (Closed x) n kinds.Filler t g e r f = record { header = g.header; batches = g.batches; control = g.control; count = g.count; sums = g.sums; blocks = g.blocks }
good_step s n k t g e r f = let h = f.follows in absurd cc

pub records_step : (s : FileSoFar) (n : ℕ) (k : Kind) (t : List ℕ) → IsRecord k t → Fine (stage_of s) n k t → all_records (with_record_of s k t) ≡ all_records s ++ t ∷ []
records_step BeforeHeader n kinds.FileHeader t r f = refl
records_step (BetweenBatches h bs) n kinds.BatchHeader t r f = records_followed (BetweenBatches h bs) kinds.BatchHeader t refl
records_step (BetweenBatches h bs) n kinds.FileControl t r f = append-nil _ ∙ records_followed (BetweenBatches h bs) kinds.FileControl t refl
records_step (InBatch h bs b is) n kinds.Entry t r f = records_followed (InBatch h bs b is) kinds.Entry t refl
records_step (InBatch h bs b is) n kinds.BatchControl t r f = records_followed (InBatch h bs b is) kinds.BatchControl t refl
records_step (AwaitingAddenda h bs b is w) n kinds.Return99 t r f = records_followed (AwaitingAddenda h bs b is w) kinds.Return99 t refl
records_step (AwaitingAddenda h bs b is w) n kinds.Change98 t r f = records_followed (AwaitingAddenda h bs b is w) kinds.Change98 t refl
records_step (Closed x) n kinds.Filler t r f =
    let e = filler_is t r.len r.kind_is in
    rw e (ap (λ l. main_records x ++ l) (ap (λ m. replicate m nines) (sym (add-one x.fillers)) ∙ sym (replicate_more x.fillers nines)) ∙ sym (append_assoc (main_records x) (replicate x.fillers nines) (nines ∷ [])))
records_step s n k t r f = let h = f.follows in absurd cc
