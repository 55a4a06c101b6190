-- That a part has nothing of others.
use Rattle.std.proofs.Common.{◌≡◌, ◌<◌, ◌≤◌, ◌^◌, ℕ, List, [], ◌∷◌, length, Bool, true, false, ◌&&◌, refl, ap, ◌∙◌}
use Rattle.std.specs.Prelude.{⊤, if◌then◌else◌, count_by, Option, Some, None, option_map, Result, Ok, bytes_eq}
use Rattle.std.specs.List.{AllByRecursion}
use Rattle.std.specs.Result.{result_ok}
use Rattle.std.proofs.lemmas.Slice.Eq.{bytes_eq-Decides}
use Rattle.ach_files.specs.declared.fault.Fault.{Fault}
use Rattle.ach_files.specs.Facts.{FileFacts}
use Rattle.desk_rules.specs.declared.bodies.company.Company.{Company}
use Rattle.desk_rules.specs.declared.bodies.company.Limits as company_limits
use Rattle.desk_history.specs.declared.identity.Identity.{Identity}
use Rattle.desk_history.specs.declared.sent_entry.SentEntry.{SentEntry}
use Rattle.desk_history.specs.Alone as core_alone
use Rattle.desk_history.specs.Alone.{is_answer, file_for, with_files, with_message}
use Rattle.desk_history.specs.History as core
use Rattle.desk_history.specs.History.{events_for, request_event, company_event, limits_event, message_day, message_company, message_limits, is_new}
use Rattle.desk_history.specs.Message.{Message, Of, SetDay, SetHolidays, PutCompany, PutLimits, Cut, TakeFile, Pair, is_accepted}
use Rattle.desk_history.specs.Operator.{IsHistory, answer_to}
use Rattle.desk_history.specs.Part.{Event, is_registered}
use Rattle.desk_history.specs.Request.{Request}
use Rattle.isolation.specs.World as steps
use Rattle.isolation.specs.World.{Step, Does, World, told}
use Rattle.isolation.specs.Alone.{IsFor, told_all, IsAlone}
use Rattle.isolation.specs.Calls.{message_step, world_of_calls}
use Rattle.isolation.specs.Heard.{due_next}
use Rattle.isolation.proofs.Folded.{same_world}

-- the steps of a history of calls
abbrev steps_of : List Pair → List (Option Step)
steps_of [] = []
steps_of (x ∷ G) = message_step (is_accepted x.answer) x.message ∷ steps_of G

told_steps : (odfi : List ℕ) (G : List Pair) → told_all odfi due_next (steps_of G) ≡ world_of_calls odfi G
told_steps odfi [] = refl
told_steps odfi (x ∷ G) = ap (λ (w : World). told odfi due_next w (message_step (is_accepted x.answer) x.message)) (told_steps odfi G)

-- ---- what gave a company an event is of it, or of no company

abbrev IsSome : List Event → Type 0
IsSome [] = ⊥
IsSome (e ∷ es) = ⊤

if_own : (b e : Bool) (k c : List ℕ) (r : Request) → bytes_eq k c ≡ b → IsSome (request_event (b && e) r) → k ≡ c
if_own true e k c r is some = (bytes_eq-Decides k c).0 is
if_own false e k c r is some = absurd some

own_event : (c k : List ℕ) (b : Bool) (e : Event) → bytes_eq k c ≡ b → IsSome (if b then e ∷ [] else []) → k ≡ c
own_event c k true e is some = (bytes_eq-Decides k c).0 is
own_event c k false e is some = absurd some

registers : (c : List ℕ) (ok : Bool) (o : Option Company) → IsSome (company_event c o) → IsFor c (if ok then option_map Does (option_map steps.Register o) else None)
registers c true (Some k) some = own_event c k.id (bytes_eq k.id c) _ refl some
registers c true None some = tt
registers c false o some = tt

limits : (c : List ℕ) (ok : Bool) (o : Option (List ℕ × company_limits.Limits)) → IsSome (limits_event c o)
    → IsFor c (if ok then option_map Does (option_map (λ x. steps.SetLimits x.0 x.1) o) else None)
limits c true (Some x) some = own_event c x.0 (bytes_eq x.0 c) _ refl some
limits c true None some = tt
limits c false o some = tt

days : (c : List ℕ) (ok : Bool) (o : Option ℕ) → IsFor c (if ok then option_map Does (option_map steps.SetDay o) else None)
days c true (Some d) = tt
days c ok o = tt

holidays : (c : List ℕ) (ok : Bool) (o : Option (List ℕ)) → IsFor c (if ok then option_map Does (option_map steps.SetHolidays o) else None)
holidays c true (Some d) = tt
holidays c ok o = tt

quiet : (c : List ℕ) (ok : Bool) → IsFor c (if ok then None else None)
quiet c true = tt
quiet c false = tt

cuts : (c : List ℕ) (ok : Bool) → IsFor c (if ok then Some (Does steps.Cut) else None)
cuts c true = tt
cuts c false = tt

files : (c : List ℕ) (ok : Bool) (file : Result FileFacts Fault) → IsFor c (message_step ok (TakeFile file))
files c true (Ok f) = tt
files c ok file = tt

module _ (odfi : List ℕ) (es : List SentEntry) (c : List ℕ) (P : List Event) where
  -- ok: accepted when it gave the event; again: accepted by the desk that serves the company alone
  is_for : (new ok again : Bool) (m : Message) → IsSome (events_for odfi es new c ok m P) → IsFor c (message_step again m)
  is_for new ok again (Of k r) some = if_own (bytes_eq k c) (is_registered P) k c r refl some
  is_for new ok again (SetDay text) some = days c again (message_day (SetDay text))
  is_for new ok again (SetHolidays list) some = holidays c again (result_ok list)
  is_for new true again (PutCompany d) some = registers c again (message_company (PutCompany d)) some
  is_for new false again (PutCompany d) some = absurd some
  is_for new true again (PutLimits d) some = limits c again (message_limits (PutLimits d)) some
  is_for new false again (PutLimits d) some = absurd some
  is_for new ok again Cut some = cuts c again
  is_for new ok again (TakeFile file) some = files c again file
  is_for new ok again m some = quiet c again

module _ (identity : Identity) (c : List ℕ) where
  by_files : (es : List Event) (G : List Pair) → AllByRecursion (IsFor c) (steps_of G) → AllByRecursion (IsFor c) (steps_of (with_files identity c es G))
  by_files [] G are = are
  by_files (e ∷ es) G are =
      let before = with_files identity c es G in
      (files c (is_accepted (answer_to identity before (TakeFile (Ok (file_for identity c before e))))) (Ok (file_for identity c before e)), by_files es G are)

  -- a message that gave these events
  by_message : (m : Message) (es : List Event) (G : List Pair) → ((again : Bool) → IsSome es → IsFor c (message_step again m)) → AllByRecursion (IsFor c) (steps_of G)
      → AllByRecursion (IsFor c) (steps_of (with_message identity c m es G))
  by_message m [] G is are = are
  by_message (TakeFile file) (e ∷ es) G is are = by_files (e ∷ es) G are
  by_message m (e ∷ es) G is are = (is (is_accepted (answer_to identity G m)) tt, are)

  own_steps : (H : List Pair) → AllByRecursion (IsFor c) (steps_of (core_alone.alone identity c H))
  own_steps [] = tt
  own_steps (x ∷ H) =
      by_message x.message _ (core_alone.alone identity c H)
      (λ again some. is_for identity.odfi (core.sent_entries identity.odfi H) c (core.part identity.odfi H c) (is_new H x.message) (is_accepted x.answer) again x.message some)
      (own_steps H)

-- the part of a history of calls
pub calls_alone : core_alone.ServedAlone → (identity : Identity) (G : List Pair) (c : List ℕ) → IsHistory identity G
    → length (core.sent_entries identity.odfi G) ≤ 9_999_999 → count_by is_answer (core.part identity.odfi G c) < 10 ^ 21
    → IsAlone identity.odfi due_next c (core.part identity.odfi G c)
calls_alone served identity G c history sent answers = record {
  steps = steps_of (core_alone.alone identity c G);
  own = own_steps identity c G;
  same =
      ap (λ (w : World). w.parts c) (told_steps identity.odfi (core_alone.alone identity c G))
      ∙ (same_world identity.odfi (core_alone.alone identity c G)).parts c
      ∙ (served identity G c history sent answers).same_part;
}
