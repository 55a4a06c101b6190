-- A company on a desk that serves it alone, compared with the desk that serves all.
use Rattle.std.proofs.Common.{◌≡◌, ℕ, ◌+◌, ◌<◌, ◌^◌, List, ◌∷◌, map, Bool, true, false, cond, ◌&&◌, refl, ap, ◌∙◌, subst, sym, arith, Some, None, bytes_eq, count_by, filter, find}
use Rattle.std.specs.List.{AllByRecursion}
use Rattle.std.proofs.lemmas.List.Sums.{sum_by-cons}
use Rattle.ach_fields.specs.Digits.{digits}
use Rattle.desk_plan.specs.declared.batch.Batch as plan
use Rattle.desk_plan.specs.Cut.{files_of}
use Rattle.desk_plan.specs.Sequences.{IsNumbered}
use Rattle.desk_rules.specs.declared.bodies.company.Company.{Company}
use Rattle.desk_history.specs.declared.identity.Identity.{Identity}
use Rattle.desk_history.specs.declared.sent_entry.SentEntry.{SentEntry}
use Rattle.desk_history.specs.Part.{Event}
use Rattle.desk_history.specs.Part as part_of
use Rattle.desk_history.specs.Message.{Message, Pair, is_accepted}
use Rattle.desk_history.specs.Sendings.{sent_sequence}
use Rattle.desk_history.specs.History.{day, holidays, companies, has_file_key, takes_key, part, sent_entries}
use Rattle.desk_history.specs.Files.{file_count, files}
use Rattle.desk_history.specs.Operator.{has_id, next_pair, IsHistory}
use Rattle.desk_history.specs.Alone.{is_answer, IsAcceptedOrOf}
use Rattle.desk_history.proofs.Alone.LoneCuts.{unnumbered, is_entry_of, cuts_on}
use Rattle.desk_history.proofs.Lines.PartLimits.{same_day, same_holidays}

-- is it the plan of a batch of the company?
abbrev pub is_plan_of : List ℕ → plan.Batch → Bool
is_plan_of c b = bytes_eq b.company c

-- what the whole desk has of the company: its registration, its entries but for their sequences, and
-- its batches in the cuts of a day
abbrev pub own_companies : List ℕ → List Pair → List Company
own_companies c H = filter (has_id c) (companies H)

abbrev pub own_sent : List ℕ → List ℕ → List Pair → List SentEntry
own_sent odfi c H = filter (is_entry_of c) (map unnumbered (sent_entries odfi H))

abbrev pub own_cuts : List ℕ → List ℕ → List Pair → ℕ → List (List plan.Batch)
own_cuts odfi c H d = map (filter (is_plan_of c)) (cuts_on odfi H d)

-- The lone desk has the company so registered, these entries and batches, and this part. Its entries
-- are numbered from 1, and it took no file whose key is a number above that of its returns and changes.
pub record IsLone (identity : Identity) (c : List ℕ) (ks : List Company) (es : List SentEntry) (cuts : ℕ → List (List plan.Batch)) (P : List Event) (G : List Pair) : Type 0 where
  pub history : IsHistory identity G
  pub accepted : AllByRecursion (λ x. IsAcceptedOrOf c x) G
  pub same_part : part identity.odfi G c ≡ P
  pub registered : companies G ≡ ks
  pub entries : map unnumbered (sent_entries identity.odfi G) ≡ es
  pub numbered : IsNumbered (map sent_sequence (sent_entries identity.odfi G))
  pub made : (d : ℕ) → file_count d (files identity.odfi G) ≡ files_of (cuts d)
  pub keys : (n : ℕ) → count_by is_answer P < n → n < 10 ^ 21 → find (takes_key (digits 21 n)) G ≡ None

-- the same, of what the whole desk has
abbrev pub IsLoneOf : Identity → List ℕ → List Pair → List Event → List Pair → Type 0
IsLoneOf identity c H P G = IsLone identity c (own_companies c H) (own_sent identity.odfi c H) (own_cuts identity.odfi c H) P G

module _ {identity : Identity} {c : List ℕ} {ks : List Company} {es : List SentEntry} {cuts : ℕ → List (List plan.Batch)} {P : List Event} {G : List Pair} where
  pub lone_day : IsLone identity c ks es cuts P G → day G ≡ part_of.day P
  lone_day h = sym (same_day identity.odfi G c) ∙ ap part_of.day h.same_part

  pub lone_holidays : IsLone identity c ks es cuts P G → holidays G ≡ part_of.holidays P
  lone_holidays h = sym (same_holidays identity.odfi G c) ∙ ap part_of.holidays h.same_part

-- ---- keys of files

pub no_file : (b : Bool) → (b && false) ≡ false
no_file true = refl
no_file false = refl

-- a message without a file takes no key
pub no_key : (key : List ℕ) (x : Pair) (G : List Pair) → has_file_key key x.message ≡ false → find (takes_key key) G ≡ None → find (takes_key key) (x ∷ G) ≡ None
no_key key x G none before =
    ap (λ (b : Bool). cond (is_accepted x.answer && b) (Some x) (find (takes_key key) G)) none
    ∙ ap (λ (b : Bool). cond b (Some x) (find (takes_key key) G)) (no_file (is_accepted x.answer))
    ∙ before

pub count-answers : (e : Event) (P : List Event) (b : Bool) → is_answer e ≡ b → count_by is_answer (e ∷ P) ≡ cond b 1 0 + count_by is_answer P
count-answers e P b is = sum_by-cons (λ (e : Event). cond (is_answer e) 1 0) e P ∙ ap (λ (b : Bool). cond b 1 0 + count_by is_answer P) is

-- ---- one more message

-- a message that is neither a cut nor a file gives the company an event, and changes nothing else
pub record GivesOne (identity : Identity) (c : List ℕ) (ks : List Company) (P : List Event) (G : List Pair) (m : Message) (e : Event) : Type 0 where
  pub may : IsAcceptedOrOf c (next_pair identity G m)
  pub no_answer : is_answer e ≡ false
  pub no_file_key : (key : List ℕ) → has_file_key key m ≡ false
  pub part_after : part identity.odfi (next_pair identity G m ∷ G) c ≡ e ∷ P
  pub registered_after : companies (next_pair identity G m ∷ G) ≡ ks
  pub sent_after : sent_entries identity.odfi (next_pair identity G m ∷ G) ≡ sent_entries identity.odfi G
  pub files_after : files identity.odfi (next_pair identity G m ∷ G) ≡ files identity.odfi G

pub event_step : (identity : Identity) (c : List ℕ) (ks before : List Company) (es : List SentEntry) (cuts : ℕ → List (List plan.Batch)) (P : List Event) (G : List Pair) (m : Message) (e : Event)
    → IsLone identity c before es cuts P G → GivesOne identity c ks P G m e → IsLone identity c ks es cuts (e ∷ P) (next_pair identity G m ∷ G)
event_step identity c ks before es cuts P G m e h q = record {
  history = (λ _. refl, h.history);
  accepted = (q.may, h.accepted);
  same_part = q.part_after;
  registered = q.registered_after;
  entries = ap (map unnumbered) q.sent_after ∙ h.entries;
  numbered = subst (λ (l : List SentEntry). IsNumbered (map sent_sequence l)) (sym q.sent_after) h.numbered;
  made = λ d. ap (file_count d) q.files_after ∙ h.made d;
  keys = λ n more few.
      let count = count-answers e P false q.no_answer in
      no_key (digits 21 n) (next_pair identity G m) G (q.no_file_key (digits 21 n)) (h.keys n (omega (arith, count, more)) few);
}
