-- Facts about a record without a fault.
use Rattle.ach_records.specs.Record.{is_record_kind}
use Rattle.std.proofs.Common.{◌≡◌, ℕ, Bool, true, false, cond, not, ◌||◌, List, [], ◌∷◌, Option, Some, None, length, replicate, refl, ap, ◌∙◌, inl, inr}
use Rattle.std.specs.Prelude.{◌==◌}
use Rattle.std.specs.List.{list_all}
use Rattle.std.proofs.lemmas.Bool.{eqb-true, eq-eqb, and_parts, cases_Bool}
use Rattle.ach_records.specs.Record.{kind_of, kind_by_first, addenda_kind, has_digits}
use Rattle.ach_records.specs.declared.Kind.{Kind}
use Rattle.ach_records.specs.declared.Kind.TheVariants as kinds
use Rattle.ach_files.specs.declared.fault.FileFault.{FileFault}
use Rattle.ach_files.specs.declared.fault.FileFault.TheVariants as faults
use Rattle.ach_files.specs.declared.sums.Sums.{Sums}
use Rattle.ach_files.specs.declared.stage.Stage.{Stage}
use Rattle.ach_files.specs.declared.stage.Stage.TheVariants as stages
use Rattle.ach_files.specs.Totals.{low_digits, Agrees, control_batches, control_blocks, blocks, file_control_sums}
use Rattle.ach_files.specs.Structure.{nines}
use Rattle.ach_files.specs.declared.stage.BatchesSoFar.{BatchesSoFar}
use Rattle.ach_files.specs.RecordFault.{may_follow, is_misplaced, has_amount, is_forward, sums_differ, block_fault, control_fault, fault_after_stage}

-- a test that found nothing
pub guard : (b : Bool) (f : FileFault) (o : Option FileFault) → cond b (Some f) o ≡ None → (b ≡ false) × (o ≡ None)
guard true f o e = absurd cc
guard false f o e = (refl, e)

pub not_false : (b : Bool) → not b ≡ false → b ≡ true
not_false true e = refl
not_false false e = absurd cc

pub record Fine (stage : Stage) (n : ℕ) (kind : Kind) (text : List ℕ) : Type 0 where
  pub follows : may_follow stage kind ≡ true
  pub placed : is_misplaced stage kind ≡ false
  pub digits : has_digits kind text ≡ true
  pub forward : is_forward kind text ≡ false
  pub cents : has_amount stage kind ≡ false
  pub control : control_fault stage n kind text ≡ None

placed_is : (follows misplaced cents : Bool) → not (follows || misplaced) ≡ false → (misplaced || cents) ≡ false → (follows ≡ true) × (misplaced ≡ false) × (cents ≡ false)
placed_is true false false e h = (refl, refl, refl)
placed_is false false false e h = absurd cc
placed_is f true a e h = absurd cc
placed_is f false true e h = absurd cc

pub is_fine : (stage : Stage) (n : ℕ) (kind : Kind) (text : List ℕ) → fault_after_stage stage n kind text ≡ None → Fine stage n kind text
unfolding fault_after_stage
is_fine stage n kind text e =
    let a = guard (not (may_follow stage kind || is_misplaced stage kind)) faults.BadOrder _ e in
    let b = guard (not (has_digits kind text)) faults.BadNumber _ a.1 in
    let c = guard (is_forward kind text) faults.ForwardEntry _ b.1 in
    let d = guard (is_misplaced stage kind || has_amount stage kind) faults.BadAddenda _ c.1 in
    let p = placed_is (may_follow stage kind) (is_misplaced stage kind) (has_amount stage kind) a.0 d.0 in
    record { follows = p.0; placed = p.1; digits = not_false _ b.0; forward = c.0; cents = p.2; control = d.1 }

pub fine_is : (stage : Stage) (n : ℕ) (kind : Kind) (text : List ℕ) → Fine stage n kind text → fault_after_stage stage n kind text ≡ None
unfolding fault_after_stage
fine_is stage n kind text f = rw (f.follows, f.placed, f.digits, f.forward, f.cents) f.control

never_other : (stage : Stage) → may_follow stage kinds.Other ≡ true → ⊥
never_other stages.BeforeHeader e = cc
never_other (stages.BetweenBatches d) e = cc
never_other (stages.InBatch d o) e = cc
never_other (stages.AwaitingAddenda d o w) e = cc
never_other (stages.Closed k) e = cc

never_other_addenda : (stage : Stage) → may_follow stage kinds.OtherAddenda ≡ true → ⊥
never_other_addenda stages.BeforeHeader e = cc
never_other_addenda (stages.BetweenBatches d) e = cc
never_other_addenda (stages.InBatch d o) e = cc
never_other_addenda (stages.AwaitingAddenda d o w) e = cc
never_other_addenda (stages.Closed k) e = cc

-- what may follow is a record
pub known_is : (stage : Stage) (kind : Kind) → may_follow stage kind ≡ true → is_record_kind kind ≡ true
known_is stage kinds.Other e = absurd (never_other stage e)
known_is stage kinds.OtherAddenda e = absurd (never_other_addenda stage e)
known_is stage _ e = refl

-- ---- controls

pub agrees_is : (told sums : Sums) → sums_differ told sums ≡ None → Agrees told sums
agrees_is told sums e =
    let a = guard (not (told.count == sums.count)) faults.BadCount _ e in
    let b = guard (not (told.hash == low_digits sums.hash)) faults.BadHash _ a.1 in
    let c = guard (not (told.debits == sums.debits)) faults.BadTotal _ b.1 in
    let d = guard (not (told.credits == sums.credits)) faults.BadTotal _ c.1 in
    record { count = eqb-true _ _ (not_false _ a.0); hash = eqb-true _ _ (not_false _ b.0); debits = eqb-true _ _ (not_false _ c.0); credits = eqb-true _ _ (not_false _ d.0) }

pub is_agreed : (told sums : Sums) → Agrees told sums → sums_differ told sums ≡ None
is_agreed told sums a = rw (eq-eqb _ _ a.count, eq-eqb _ _ a.hash, eq-eqb _ _ a.debits, eq-eqb _ _ a.credits) refl

blocks_agree : (b : Bool) → ◌≡◌ {A = Option FileFault} (cond b None (Some faults.BadBlock)) None → b ≡ true
blocks_agree true e = refl
blocks_agree false e = absurd cc

block_none : (n : ℕ) (text : List ℕ) (o : Option FileFault) → block_fault n text o ≡ None → (o ≡ None) × (control_blocks text ≡ blocks n)
block_none n text None e = (refl, eqb-true _ _ (blocks_agree (control_blocks text == blocks n) e))
block_none n text (Some f) e = absurd cc

pub file_control_is : (d : BatchesSoFar) (n : ℕ) (text : List ℕ) → control_fault (stages.BetweenBatches d) n kinds.FileControl text ≡ None
    → (control_batches text ≡ d.batches) × Agrees (file_control_sums text) d.sums × (control_blocks text ≡ blocks n)
unfolding control_fault
file_control_is d n text e =
    let a = guard (not (control_batches text == d.batches)) faults.BadCount _ e in
    let b = block_none n text (sums_differ (file_control_sums text) d.sums) a.1 in
    (eqb-true _ _ (not_false _ a.0), agrees_is (file_control_sums text) d.sums b.0, b.1)

pub is_file_control : (d : BatchesSoFar) (n : ℕ) (text : List ℕ) → control_batches text ≡ d.batches → Agrees (file_control_sums text) d.sums → control_blocks text ≡ blocks n
    → control_fault (stages.BetweenBatches d) n kinds.FileControl text ≡ None
unfolding control_fault
is_file_control d n text a b c = rw (eq-eqb _ _ a, is_agreed _ _ b, eq-eqb _ _ c) refl

-- ---- a record of nines

no_choice : (b : Bool) (x y : Kind) → (x ≡ kinds.Filler → ⊥) → (y ≡ kinds.Filler → ⊥) → cond b x y ≡ kinds.Filler → ⊥
no_choice true x y f g e = f e
no_choice false x y f g e = g e

never_addenda : (b c : ℕ) → addenda_kind b c ≡ kinds.Filler → ⊥
unfolding addenda_kind
never_addenda b c = no_choice _ _ _ (λ (e : kinds.Addenda05 ≡ kinds.Filler). cc) (no_choice _ _ _ (λ (e : kinds.Change98 ≡ kinds.Filler). cc) (no_choice _ _ _ (λ (e : kinds.Return99 ≡ kinds.Filler). cc) (λ (e : kinds.OtherAddenda ≡ kinds.Filler). cc)))

never_filler : (first : ℕ) (text : List ℕ) → kind_by_first first text ≡ kinds.Filler → ⊥
unfolding kind_by_first
never_filler first text = no_choice _ _ _ (λ (e : kinds.FileHeader ≡ kinds.Filler). cc) (no_choice _ _ _ (λ (e : kinds.BatchHeader ≡ kinds.Filler). cc) (no_choice _ _ _ (λ (e : kinds.Entry ≡ kinds.Filler). cc) (no_choice _ _ _ (never_addenda _ _) (no_choice _ _ _ (λ (e : kinds.BatchControl ≡ kinds.Filler). cc) (no_choice _ _ _ (λ (e : kinds.FileControl ≡ kinds.Filler). cc) (λ (e : kinds.Other ≡ kinds.Filler). cc))))))

all_same : (xs : List ℕ) → list_all (λ b. b == 57) xs ≡ true → xs ≡ replicate (length xs) 57
all_same [] e = refl
all_same (x ∷ xs) e =
    let p = and_parts (x == 57) (list_all (λ b. b == 57) xs) e in
    let h : x ≡ 57 = eqb-true x 57 p.0 in
    ap (λ n. n ∷ xs) h ∙ ap (λ t. 57 ∷ t) (all_same xs p.1)

pub filler_is : (text : List ℕ) → length text ≡ 94 → kind_of text ≡ kinds.Filler → text ≡ nines
unfolding kind_of nines
filler_is text len e =
    elim (cases_Bool (list_all (λ b. b == 57) text)) [
      | inl all ↦ all_same text all ∙ ap (λ n. replicate n 57) len
      | inr other ↦ absurd (never_filler _ text (rw other at e))
    ]
