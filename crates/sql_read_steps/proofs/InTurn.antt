-- Reads one after another.
use Rattle.std.proofs.Common.{◌≡◌, sym, subst, Result, Ok, Err, IfOk, IsTrue, inl, refl, arith}
use Rattle.sqlite.specs.State.{State, HasCleanDisk, Survives}
use Rattle.sqlite.proofs.StateLemmas.{survives_then}
use Rattle.sql_statements.specs.Queries.{Stays}
use Rattle.sql_statements.proofs.Findings.{stays_then}
use Rattle.sql_statements.specs.Findings.{Finds}
use Rattle.sql_statements.specs.Layouts.{Holds}
use Rattle.sql_tables.specs.Layout.{desk_layout}
use Rattle.sql_tables.specs.Tables.{Tables}
use Rattle.sql_read_steps.specs.Answers.{IsSeen, Answers, Learns}

-- what reads leave
pub record Leaves (old new : State) : Type 0 where
  pub stays : HasCleanDisk new → Stays old new
  pub survives : Survives old new (λ _. ⊥)

-- they tell this of the tables that are seen
pub record Told (P : Tables → Type 0) (old new : State) : Type 0 where
  pub told : HasCleanDisk new → (t : Tables) → IsSeen old t → P t
  pub leaves : Leaves old new

-- and they found the connection open
pub record Found (P : Tables → Type 0) (old new : State) : Type 0 where
  pub was_open : HasCleanDisk new → IsTrue old.is_open
  pub so : Told P old new

-- ---- one read

-- a query that found something
pub query : {P : Tables → Type 0} {old new : State} → (HasCleanDisk new → Finds desk_layout P old) → (HasCleanDisk new → Stays old new) → Survives old new (λ _. ⊥) → Found P old new
query found stays survives = record {
  was_open = λ clean. (found clean).was_open;
  so = record { told = λ clean t seen. (found clean).told t (seen (found clean).was_open); leaves = record { stays = stays; survives = survives } };
}

-- a read that found something
pub read : {A E : Type 0} {Tells : A → Tables → Type 0} {r : Result A E} {x : A} {old new : State} → Answers Tells r old new → r ≡ Ok x → Found (Tells x) old new
read {Tells = Tells} {old = old} a is = query (λ clean. subst (λ r. IfOk r (λ found. Finds desk_layout (Tells found) old)) is (a.answer clean)) a.stays a.survives

-- the same of a read that may have asked nothing
pub learnt : {A E : Type 0} {Tells : A → Tables → Type 0} {r : Result A E} {x : A} {old new : State} → Learns Tells r old new → r ≡ Ok x → Told (Tells x) old new
learnt {Tells = Tells} {old = old} a is = record {
  told = λ clean. subst (λ r. IfOk r (λ found. (t : Tables) → IsSeen old t → Tells found t)) is (a.answer clean);
  leaves = record { stays = a.stays; survives = a.survives };
}

-- what is told shows something else
pub told_as : {P Q : Tables → Type 0} {old new : State} → ((t : Tables) → P t → Q t) → Told P old new → Told Q old new
told_as so told = record { told = λ clean t seen. so t (told.told clean t seen); leaves = told.leaves }

-- ---- more reads

clean_before : (mid new : State) → Leaves mid new → HasCleanDisk new → HasCleanDisk mid
clean_before mid new leaves clean = omega (arith, leaves.survives.clean, clean)

leaves_then : {old mid new : State} → Leaves old mid → Leaves mid new → Leaves old new
leaves_then {old} {mid} {new} first next = record {
  stays = λ clean. stays_then old mid new (first.stays (clean_before mid new next clean)) (next.stays clean);
  survives = survives_then old mid new _ _ _ (λ _ db made. made) (λ _ db made. made) first.survives next.survives;
}

-- what the next read sees was seen at first
pub told_then : {P Q : Tables → Type 0} {old mid new : State} → Told P old mid → Told Q mid new → Told (λ t. P t × Q t) old new
told_then {mid = mid} {new} first next = record {
  told = λ clean t seen.
      let before = clean_before mid new next.leaves clean in
      (first.told before t seen, next.told clean t (λ is_open. let was = first.leaves.stays before is_open in subst (λ d. Holds desk_layout d t) (sym was.1) (seen was.0)));
  leaves = leaves_then first.leaves next.leaves;
}

pub both : {P Q : Tables → Type 0} {old mid new : State} → Found P old mid → Told Q mid new → Found (λ t. P t × Q t) old new
both {mid = mid} {new} first next = record { was_open = λ clean. first.was_open (clean_before mid new next.leaves clean); so = told_then first.so next }

-- ---- the result

-- what is made of what was found, where it can be made
pub answered : {A E : Type 0} {Tells : A → Tables → Type 0} {r : Result A E} {P : Tables → Type 0} {old new : State} → Found P old new → IfOk r (λ x. (t : Tables) → P t → Tells x t) → Answers Tells r old new
answered {A} {E} {Tells} {r} {P} {old} {new} found so = record { answer = go r so; stays = found.so.leaves.stays; survives = found.so.leaves.survives }
  where
    go : (r : Result A E) → IfOk r (λ x. (t : Tables) → P t → Tells x t) → HasCleanDisk new → IfOk r (λ x. Finds desk_layout (Tells x) old)
    go (Ok x) so clean = record { was_open = found.was_open clean; told = λ t h. so t (found.so.told clean t (λ _. h)) }
    go (Err e) so clean = tt

pub learned : {A E : Type 0} {Tells : A → Tables → Type 0} {r : Result A E} {P : Tables → Type 0} {old new : State} → Told P old new → IfOk r (λ x. (t : Tables) → P t → Tells x t) → Learns Tells r old new
learned {A} {E} {Tells} {r} {P} {old} {new} told so = record { answer = go r so; stays = told.leaves.stays; survives = told.leaves.survives }
  where
    go : (r : Result A E) → IfOk r (λ x. (t : Tables) → P t → Tells x t) → HasCleanDisk new → IfOk r (λ x. (t : Tables) → IsSeen old t → Tells x t)
    go (Ok x) so clean = λ t seen. so t (told.told clean t seen)
    go (Err e) so clean = tt

-- the same where the last read gives the result
pub answered_last : {A E : Type 0} {Next Tells : A → Tables → Type 0} {r : Result A E} {P : Tables → Type 0} {old mid new : State} → Found P old mid → Learns Next r mid new → ((x : A) (t : Tables) → P t → Next x t → Tells x t) → Answers Tells r old new
answered_last {A} {E} {Next} {Tells} {r} {P} {old} {mid} {new} found next so = go r next
  where
    go : (r : Result A E) → Learns Next r mid new → Answers Tells r old new
    go (Ok x) next = answered (both found (learnt next refl)) (λ t told. so x t told.0 told.1)
    go (Err e) next = let leaves = leaves_then found.so.leaves (record { stays = next.stays; survives = next.survives }) in record { answer = λ _. tt; stays = leaves.stays; survives = leaves.survives }

-- a read that asks
pub asked : {A E : Type 0} {Tells : A → Tables → Type 0} {r : Result A E} {old new : State} → Answers Tells r old new → Learns Tells r old new
asked {A} {E} {Tells} {r} {old} {new} a = record { answer = λ clean. go r (a.answer clean); stays = a.stays; survives = a.survives }
  where
    go : (r : Result A E) → IfOk r (λ x. Finds desk_layout (Tells x) old) → IfOk r (λ x. (t : Tables) → IsSeen old t → Tells x t)
    go (Ok x) found = λ t seen. found.told t (seen found.was_open)
    go (Err e) found = tt

-- nothing was asked
pub unasked : {A E : Type 0} {Tells : A → Tables → Type 0} {x : A} {s : State} → ((t : Tables) → Tells x t) → Learns {A = A} {E = E} Tells (Ok x) s s
unasked so = record {
  answer = λ clean t seen. so t;
  stays = λ clean is_open. (is_open, refl);
  survives = record { clean = omega arith; shield = λ h. h; counts = omega arith; limit = refl; closes = λ clean is_open. inl is_open; crash = λ clean db may. inl may };
}
