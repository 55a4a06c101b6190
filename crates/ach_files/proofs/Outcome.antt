-- Bytes are a file exactly where they have no fault.
use Rattle.std.proofs.Common.{Bool, true, false, cond, ◌≡◌, ℕ, List, Option, Some, None, Result, Ok, Err, inl, inr, refl, ◌∙◌, ap}
use Rattle.std.specs.Prelude.{MatchResult, IfOk, IfErr}
use Rattle.ach_files.specs.declared.fault.Fault.{Fault}
use Rattle.ach_files.specs.declared.fault.FileFault.TheVariants as faults
use Rattle.ach_files.specs.declared.recogniser.Recogniser.{Recogniser}
use Rattle.ach_files.specs.Structure.{File}
use Rattle.ach_files.specs.Facts.{FileFacts, Content, facts_in}
use Rattle.ach_files.specs.File.{IsFile, IsReadAs}
use Rattle.ach_files.specs.SoFar.{FileSoFar, BeforeHeader, BetweenBatches, InBatch, AwaitingAddenda, Closed, file_so_far}
use Rattle.ach_files.specs.FirstFault.{Tells, fault_at, fault, early_fault, end_fault, is_inside, order_fault_at_end}
use Rattle.ach_files.specs.Layout.{layout}
use Rattle.ach_files.proofs.Sound.{file_is, or_none}
use Rattle.ach_files.proofs.Passes.{file_passes, same_file}

-- no fault at the end of the input: the file is whole
whole_is : (n : ℕ) (s : FileSoFar) → order_fault_at_end n s ≡ None → (f : File) × (s ≡ Closed f)
whole_is n (Closed f) e = (f, refl)
whole_is n BeforeHeader e = absurd cc
whole_is n (BetweenBatches h bs) e = absurd cc
whole_is n (InBatch h bs b is) e = absurd cc
whole_is n (AwaitingAddenda h bs b is w) e = absurd cc

end_rest : (b : Bool) (f : Fault) (o : Option Fault) → cond b (Some f) o ≡ None → o ≡ None
end_rest true f o e = absurd cc
end_rest false f o e = e

pub whole_file : (bytes : List ℕ) → fault bytes ≡ None → (f : File) × IsFile bytes f
unfolding end_fault
whole_file bytes e =
    let p = or_none (early_fault bytes) (end_fault (layout bytes)) e in
    let l = layout bytes in
    let w = whole_is _ (file_so_far l.records) (end_rest (is_inside l.place) _ _ p.1) in
    (w.0, file_is bytes w.0 e w.1)

pub no_fault : (bytes : List ℕ) (f : File) → IsFile bytes f → fault bytes ≡ None
no_fault bytes f is = (file_passes bytes f is).0

-- no fault in the bytes, and none at their end
pub both_none : (bytes : List ℕ) → early_fault bytes ≡ None → end_fault (layout bytes) ≡ None → fault bytes ≡ None
both_none bytes p q = rw (p, q) refl

-- a reader's last word
pub finished : (r : Result FileFacts Fault) (bytes : List ℕ) → early_fault bytes ≡ None
    → MatchResult r (λ facts. (end_fault (layout bytes) ≡ None) × (f : File) × (file_so_far (layout bytes).records ≡ Closed f) × (facts ≡ facts_in f)) (λ e. end_fault (layout bytes) ≡ Some e)
    → MatchResult r (λ facts. IsReadAs bytes facts) (λ e. fault bytes ≡ Some e)
finished (Ok facts) bytes fine h = (h.1, file_is bytes h.1 (both_none bytes fine h.0) h.2, h.3)
finished (Err e) bytes fine h = rw (fine, h) refl

no_file : (e : Fault) (o : Option Fault) → Tells e o → o ≡ None → e ≡ fault_at 0 faults.NoMemory
no_file e o (inl memory) none = memory
no_file e o (inr told) none = absurd cc

abbrev pub Outcome : Result Content Fault → List ℕ → Type 0
Outcome r bytes = MatchResult r (λ i. (i.bytes ≡ bytes) × IsReadAs bytes i.facts) (λ e. Tells e (fault bytes))

pub found_is : (r : Result Content Fault) (bytes : List ℕ) → Outcome r bytes → IfOk r (λ i. (i.bytes ≡ bytes) × IsReadAs bytes i.facts)
found_is (Ok i) bytes h = h
found_is (Err e) bytes h = tt

pub told_is : (r : Result Content Fault) (bytes : List ℕ) → Outcome r bytes → IfErr r (λ e. Tells e (fault bytes))
told_is (Ok i) bytes h = tt
told_is (Err e) bytes h = h

pub only_is : (r : Result Content Fault) (bytes : List ℕ) (f : File) → IsFile bytes f → Outcome r bytes → MatchResult r (λ i. i.facts ≡ facts_in f) (λ e. e ≡ fault_at 0 faults.NoMemory)
only_is (Ok i) bytes f is h = h.1.2 ∙ ap facts_in (same_file bytes h.1.0 f h.1.1 is)
only_is (Err e) bytes f is h = no_file e (fault bytes) h (no_fault bytes f is)

-- the recogniser in a reader
pub same_state : (x y : Recogniser) (o : Option Recogniser) → Some x ≡ o → o ≡ Some y → x ≡ y
same_state x y o e f = cc
