-- The points at which a reader runs out of memory.
use Rattle.std.proofs.Common.{◌≡◌, ℕ, ◌+◌, ◌-◌, ◌<◌, ◌≤◌, Bool, true, false, List, [], ◌∷◌, ◌++◌, length, take, drop, Option, Some, None, subst, ap, arith, length-append, length-drop, length-take}
use Rattle.std.specs.Prelude.{if◌then◌else◌, ◌==◌, IsSome, IfErr, Result, Ok, Err}
use Rattle.std.specs.Option.{option_to_list}
use Rattle.ach_records.specs.declared.Kind.{Kind}
use Rattle.ach_records.specs.declared.Kind.TheVariants as kinds
use Rattle.ach_files.specs.declared.facts.ItemFacts.{ItemFacts}
use Rattle.ach_files.specs.declared.fault.Fault.{Fault}
use Rattle.ach_files.specs.declared.fault.FileFault.{FileFault}
use Rattle.ach_files.specs.declared.fault.FileFault.TheVariants as faults
use Rattle.ach_files.specs.declared.stage.Stage.{Stage}
use Rattle.ach_files.specs.declared.stage.Stage.TheVariants as stages
use Rattle.ach_files.specs.declared.sums.Sums.{Sums}
use Rattle.ach_files.specs.FirstFault.{early_fault, end_fault, fault_at, is_inside, order_fault_at_end}
use Rattle.ach_files.specs.Layout.{Layout}
use Rattle.ach_files.specs.Memory.{RunsOut, item_count}
use Rattle.ach_files.specs.RecordFault.{block_fault, control_fault, fault_after_stage, sums_differ}
use Rattle.ach_files.specs.SoFar.{FileSoFar, Closed, file_so_far}
use Rattle.ach_files.specs.Totals.{batch_control_sums, file_control_sums, control_blocks, blocks}
use Rattle.ach_files.proofs.Firsts.{more_taken}

-- ---- no record and no end of the input is out of memory

otherwise : (b : Bool) (f m : FileFault) (rest : Option FileFault) → (f ≡ m → ⊥) → (rest ≡ Some m → ⊥) → (if b then Some f else rest) ≡ Some m → ⊥
otherwise true f m rest p q e = let same : f ≡ m = cc in p same
otherwise false f m rest p q e = q e

sums_never : (told sums : Sums) → sums_differ told sums ≡ Some faults.NoMemory → ⊥
sums_never told sums =
    otherwise _ faults.BadCount faults.NoMemory _ (λ (e : faults.BadCount ≡ faults.NoMemory). cc) (
    otherwise _ faults.BadHash faults.NoMemory _ (λ (e : faults.BadHash ≡ faults.NoMemory). cc) (
    otherwise _ faults.BadTotal faults.NoMemory _ (λ (e : faults.BadTotal ≡ faults.NoMemory). cc) (
    otherwise _ faults.BadTotal faults.NoMemory None (λ (e : faults.BadTotal ≡ faults.NoMemory). cc) (λ (e : ◌≡◌ {A = Option FileFault} None (Some faults.NoMemory)). cc))))

agree_never : (b : Bool) → (if b then None else Some faults.BadBlock) ≡ Some faults.NoMemory → ⊥
agree_never true e = cc
agree_never false e = cc

block_never : (n : ℕ) (text : List ℕ) (o : Option FileFault) → (o ≡ Some faults.NoMemory → ⊥) → block_fault n text o ≡ Some faults.NoMemory → ⊥
block_never n text None q e = agree_never (control_blocks text == blocks n) e
block_never n text (Some f) q e = q e

control_never : (s : Stage) (n : ℕ) (k : Kind) (text : List ℕ) → control_fault s n k text ≡ Some faults.NoMemory → ⊥
unfolding control_fault
control_never (stages.InBatch d o) n kinds.BatchControl text e = sums_never (batch_control_sums text) o.sums e
control_never (stages.BetweenBatches d) n kinds.FileControl text e =
    otherwise _ faults.BadCount faults.NoMemory _ (λ (e : faults.BadCount ≡ faults.NoMemory). cc) (block_never n text (sums_differ (file_control_sums text) d.sums) (sums_never (file_control_sums text) d.sums)) e
control_never s n k text e = cc

pub fault_never : (s : Stage) (n : ℕ) (k : Kind) (text : List ℕ) → fault_after_stage s n k text ≡ Some faults.NoMemory → ⊥
unfolding fault_after_stage
fault_never s n k text =
    otherwise _ faults.BadOrder faults.NoMemory _ (λ (e : faults.BadOrder ≡ faults.NoMemory). cc) (
    otherwise _ faults.BadNumber faults.NoMemory _ (λ (e : faults.BadNumber ≡ faults.NoMemory). cc) (
    otherwise _ faults.ForwardEntry faults.NoMemory _ (λ (e : faults.ForwardEntry ≡ faults.NoMemory). cc) (
    otherwise _ faults.BadAddenda faults.NoMemory _ (λ (e : faults.BadAddenda ≡ faults.NoMemory). cc) (control_never s n k text))))

other_kind : (n : ℕ) (k : FileFault) → (k ≡ faults.NoMemory → ⊥) → Some (fault_at n k) ≡ Some (fault_at 0 faults.NoMemory) → ⊥
other_kind n k other e = let same : fault_at n k ≡ fault_at 0 faults.NoMemory = cc in other (ap (λ (f : Fault). f.kind) same)

order_never : (n : ℕ) (s : FileSoFar) → order_fault_at_end n s ≡ Some (fault_at 0 faults.NoMemory) → ⊥
order_never n (Closed f) e = cc
order_never n s e = other_kind n faults.BadOrder (λ (k : faults.BadOrder ≡ faults.NoMemory). cc) e

end_either : (b : Bool) (n : ℕ) (s : FileSoFar) → (if b then Some (fault_at n faults.BadLength) else order_fault_at_end n s) ≡ Some (fault_at 0 faults.NoMemory) → ⊥
end_either true n s e = other_kind n faults.BadLength (λ (k : faults.BadLength ≡ faults.NoMemory). cc) e
end_either false n s e = order_never n s e

pub end_never : (l : Layout) → end_fault l ≡ Some (fault_at 0 faults.NoMemory) → ⊥
unfolding end_fault
end_never l e = end_either (is_inside l.place) (length l.records + 1) (file_so_far l.records) e

-- ---- an item for which there is no room

-- where the items fill their room and one is completed, there are more than there is room for
pub room_gone : (room : ℕ) (facts more : List ItemFacts) (item : Option ItemFacts) → facts ++ option_to_list item ≡ more → IsSome item → room ≤ length facts → room < length more
room_gone room facts more (Some x) e some le = omega (arith, length-append facts (x ∷ []), ap length e, le)
room_gone room facts more None e some le = absurd cc

pub if_err_map : {A E : Type 0} (r : Result A E) (P Q : E → Type 0) → ((e : E) → P e → Q e) → IfErr r P → IfErr r Q
if_err_map (Ok x) P Q f h = h
if_err_map (Err e) P Q f h = f e h

-- n bytes of the piece were already taken
pub runs_out_on : (room room2 : ℕ) (bytes piece : List ℕ) (n : ℕ) → n ≤ length piece → room ≤ room2
    → RunsOut room2 (bytes ++ take n piece) (take (length piece - n) (drop n piece)) → RunsOut room bytes piece
runs_out_on room room2 bytes piece n within le h =
    let same = more_taken bytes piece n h.count in
    let more : room2 < item_count (bytes ++ take (n + h.count) piece) = subst (λ (s : List ℕ). room2 < item_count s) same h.more in
    record {
      count = n + h.count;
      within = omega (arith, within, h.within, length-drop n piece, length-take (length piece - n) (drop n piece));
      fine = subst (λ (s : List ℕ). early_fault s ≡ None) same h.fine;
      more = omega (arith, le, more);
    }

pub runs_out_of_less : (room : ℕ) (bytes piece : List ℕ) → RunsOut room bytes piece → RunsOut 0 bytes piece
runs_out_of_less room bytes piece h =
    let more : room < item_count (bytes ++ take h.count piece) = h.more in
    record { count = h.count; within = h.within; fine = h.fine; more = omega (arith, more) }
