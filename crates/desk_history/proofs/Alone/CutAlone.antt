-- A cut in a desk that serves one company alone: it is accepted where that of the whole desk is.
use Rattle.std.proofs.Common.{◌≡◌, ℕ, suc, ◌+◌, ◌≤◌, List, [], ◌∷◌, ◌++◌, length, map, Bool, true, false, cond, refl, sym, ap, ◌∙◌, subst, inl, arith, if◌then◌else◌, ◌==◌, nat_le, unwrap_or, filter, sum_by, Option, Ok}
use Rattle.std.proofs.lemmas.Bool.{and_parts, and_from, le-leb}
use Rattle.std.proofs.lemmas.List.{length-map}
use Rattle.std.proofs.lemmas.List.FromFn.{length-enumerate_from}
use Rattle.desk_plan.specs.declared.batch.Batch as plan
use Rattle.desk_plan.specs.Cut.{files_of, may_cut}
use Rattle.desk_plan.specs.Files.{division}
use Rattle.desk_plan.specs.Laws.{AcceptedAlone, NeverTwice, SentByCut}
use Rattle.desk_plan.specs.Modifiers.{most_files}
use Rattle.desk_plan.specs.Reuse.{may_send}
use Rattle.desk_plan.specs.Sequences.{IsNumbered}
use Rattle.ach_fields.specs.Trace.{most_sequence}
use Rattle.desk_rules.specs.declared.refusals.refusal.Refusal.TheVariants.{NoDay, TracesSpent, ModifiersSpent}
use Rattle.desk_rules.specs.Chain.{◌>>=◌}
use Rattle.desk_history.specs.declared.identity.Identity.{Identity}
use Rattle.desk_history.specs.declared.sent_entry.SentEntry.{SentEntry}
use Rattle.desk_history.specs.Words.{some_or, holds_or}
use Rattle.desk_history.specs.Part.{Event, CutMade}
use Rattle.desk_history.specs.Message.{Cut, Pair, is_accepted}
use Rattle.desk_history.specs.Sendings.{Sending, plan_of, sent_sequence, with_sendings}
use Rattle.desk_history.specs.History.{day, companies, sendings, events_for, sent_entries_after, part, sent_entries}
use Rattle.desk_history.specs.Files.{cut_sendings, cut_batches, file_count, files_after, files, new_files}
use Rattle.desk_history.specs.Cutting.{cut_verdict, cut_summary}
use Rattle.desk_history.specs.Operator.{answer_to, cut_answer, next_pair}
use Rattle.desk_history.specs.SentLaws.{IsAcceptedCut}
use Rattle.desk_history.proofs.Traces.AcceptedCuts.{accepted_cuts}
use Rattle.desk_history.proofs.Accounts.Companies.{companies_after}
use Rattle.desk_history.proofs.Alone.Lone.{is_plan_of, own_companies, own_cuts, IsLone, IsLoneOf, lone_day, no_key, count-answers}
use Rattle.desk_history.proofs.Alone.LoneCompany.{is_sending_of, filter-map, own_sends}
use Rattle.desk_history.proofs.Alone.LoneCuts.{unnumbered, is_entry_of, same_entries, as_sent_with, files_count, cuts_after, cuts_on, made_cut, made_is, plans_are_batches, cuts_are_batches}
use Rattle.desk_history.proofs.Lines.PartLimits.{same_day}

-- ---- how many entries and files

pub filter_shorter : {X : Type 0} (p : X → Bool) (xs : List X) → length (filter p xs) ≤ length xs
filter_shorter p [] = omega arith
filter_shorter {X} p (x ∷ xs) =
    let rest = filter_shorter p xs in
    elim (p x) as (λ b. length (cond b (x ∷ filter p xs) (filter p xs)) ≤ suc (length xs)) [ true ↦ omega arith | false ↦ omega arith ]

sent_count : SentByCut → (odfi : List ℕ) (H : List Pair) → length (with_sendings (sent_entries odfi H) (cut_sendings odfi H)) ≡ length (map sent_sequence (sent_entries odfi H)) + sum_by (λ b. b.entries) (map plan_of (cut_sendings odfi H))
sent_count law odfi H =
    sym (length-map (with_sendings (sent_entries odfi H) (cut_sendings odfi H)) sent_sequence)
    ∙ ap length (as_sent_with law (sent_entries odfi H) (cut_sendings odfi H) (plans_are_batches odfi H))
    ∙ law.count (map sent_sequence (sent_entries odfi H)) (map plan_of (cut_sendings odfi H))

new_count : (odfi : List ℕ) (H : List Pair) (d : ℕ) → length (new_files odfi H d) ≡ length (division (map plan_of (cut_sendings odfi H)))
new_count odfi H d = length-map _ _ ∙ length-enumerate_from _ _ ∙ files_count (sent_entries odfi H) (cut_sendings odfi H)

-- ---- the cut of the lone desk beside that of the whole

module _ (identity : Identity) (H : List Pair) (c : List ℕ) (G : List Pair) (h : IsLoneOf identity c H (part identity.odfi H c) G) where
  same_sends : cut_sendings identity.odfi G ≡ filter (is_sending_of c) (cut_sendings identity.odfi H)
  same_sends = ap (sendings (part identity.odfi G)) h.registered ∙ sym (own_sends c (part identity.odfi H) (part identity.odfi G) (sym h.same_part) (companies H))

  same_plans : filter (is_plan_of c) (map plan_of (cut_sendings identity.odfi H)) ≡ map plan_of (cut_sendings identity.odfi G)
  same_plans = filter-map (is_plan_of c) (is_sending_of c) plan_of (λ _. refl) (cut_sendings identity.odfi H) ∙ ap (map plan_of) (sym same_sends)

  day_is : day G ≡ day H
  day_is = lone_day h ∙ same_day identity.odfi H c

  -- after the cut the entries are still the company's
  entries_after : map unnumbered (with_sendings (sent_entries identity.odfi G) (cut_sendings identity.odfi G)) ≡ filter (is_entry_of c) (map unnumbered (with_sendings (sent_entries identity.odfi H) (cut_sendings identity.odfi H)))
  entries_after =
      ap (λ (ss : List Sending). map unnumbered (with_sendings (sent_entries identity.odfi G) ss)) same_sends
      ∙ same_entries c (sent_entries identity.odfi H) (sent_entries identity.odfi G) (cut_sendings identity.odfi H) h.entries

  module _ (counts : SentByCut) (few : length (with_sendings (sent_entries identity.odfi H) (cut_sendings identity.odfi H)) ≤ most_sequence) where
    few_alone : length (map sent_sequence (sent_entries identity.odfi G)) + sum_by (λ b. b.entries) (map plan_of (cut_sendings identity.odfi G)) ≤ most_sequence
    few_alone =
        let count = sent_count counts identity.odfi G in
        let lone = length-map (with_sendings (sent_entries identity.odfi G) (cut_sendings identity.odfi G)) unnumbered in
        let all = length-map (with_sendings (sent_entries identity.odfi H) (cut_sendings identity.odfi H)) unnumbered in
        let same = ap length entries_after in
        let shorter = filter_shorter (is_entry_of c) (map unnumbered (with_sendings (sent_entries identity.odfi H) (cut_sendings identity.odfi H))) in
        omega arith

    module _ (law : AcceptedAlone) (x : Pair) (made : IsAcceptedCut identity H x) where
      -- the lone desk makes the cut
      accepts : is_accepted (answer_to identity G Cut) ≡ true
      accepts =
          let odfi = identity.odfi in
          let is = accepted_cuts identity H x made in
          let d = is.0 in
          let plans = map plan_of (cut_sendings odfi H) in
          let whole : may_cut d (files_of (cuts_on odfi H d)) (map sent_sequence (sent_entries odfi H)) plans ≡ true =
          and_from _ _ is.1.free
          (le-leb (files_of (cuts_on odfi H d) + length (division plans)) most_files
          (let room = is.1.modifiers in let all = made_is odfi H d in let new = new_count odfi H d in omega arith)) in
          let alone = law (is_plan_of c) d (cuts_on odfi H d) plans (map sent_sequence (sent_entries odfi H)) (map sent_sequence (sent_entries odfi G))
          (cuts_are_batches odfi H d) (plans_are_batches odfi H) h.numbered
          (subst (λ (l : List plan.Batch). length (map sent_sequence (sent_entries odfi G)) + sum_by (λ b. b.entries) l ≤ most_sequence) (sym same_plans) few_alone)
          whole in
          let here = subst (λ (l : List plan.Batch). may_cut d (files_of (own_cuts odfi c H d)) (map sent_sequence (sent_entries odfi G)) l ≡ true) same_plans alone in
          let parts = and_parts (may_send d (map sent_sequence (sent_entries odfi G)) (map plan_of (cut_sendings odfi G))) (nat_le (files_of (own_cuts odfi c H d) + length (division (map plan_of (cut_sendings odfi G)))) most_files) here in
          let room : nat_le (file_count d (files odfi G) + length (new_files odfi G d)) most_files ≡ true =
          (λ i. nat_le (h.made d i + new_count odfi G d i) most_files) ∙ parts.1 in
          ap (λ (o : Option ℕ). is_accepted (cut_answer (some_or NoDay o >>= (λ e.
          cut_verdict e (sent_entries odfi G) (cut_sendings odfi G) (file_count e (files odfi G) + length (new_files odfi G e)) >>= (λ _. Ok (cut_summary odfi G e)))))) (day_is ∙ is.1.on)
          ∙ (λ i. is_accepted (cut_answer ((holds_or TracesSpent (parts.0 i) >>= (λ _. holds_or ModifiersSpent (room i))) >>= (λ _. Ok (cut_summary odfi G d)))))

-- the cuts of a day with one more
own_cut : (test : plan.Batch → Bool) (d on : ℕ) (bs : List plan.Batch) (cuts : List (List plan.Batch))
    → cuts_after true Cut d on (filter test bs) (map (filter test) cuts) ≡ map (filter test) (cuts_after true Cut d on bs cuts)
own_cut test d on bs cuts = elim (on == d) as (λ b. (if b then filter test bs ∷ map (filter test) cuts else map (filter test) cuts) ≡ map (filter test) (if b then bs ∷ cuts else cuts)) [
  | true ↦ refl
  | false ↦ refl
]

-- The lone desk has what the whole desk has of the company once both have made the cut.
pub cut_step : SentByCut → NeverTwice → AcceptedAlone → (identity : Identity) (H : List Pair) (x : Pair) (c : List ℕ) (G : List Pair)
    → IsAcceptedCut identity H x → length (with_sendings (sent_entries identity.odfi H) (cut_sendings identity.odfi H)) ≤ most_sequence → IsLoneOf identity c H (part identity.odfi H c) G
    → IsLone identity c (own_companies c H) (filter (is_entry_of c) (map unnumbered (with_sendings (sent_entries identity.odfi H) (cut_sendings identity.odfi H))))
    (λ d. map (filter (is_plan_of c)) (cuts_after true Cut d (unwrap_or (day H) 0) (map plan_of (cut_sendings identity.odfi H)) (cuts_on identity.odfi H d)))
    (CutMade ∷ part identity.odfi H c) (next_pair identity G Cut ∷ G)
cut_step counts never law identity H x c G made few h =
    let odfi = identity.odfi in
    let yes' = accepts identity H c G h counts few law x made in
    let new = ap (λ (b : Bool). sent_entries_after b Cut (sent_entries odfi G) (part odfi G) (companies G)) yes' in
    record {
      history = (λ _. refl, h.history);
      accepted = (inl yes', h.accepted);
      same_part = ap (λ (b : Bool). events_for odfi (sent_entries odfi G) true c b Cut (part odfi G c) ++ part odfi G c) yes' ∙ ap (λ (P : List Event). CutMade ∷ P) h.same_part;
      registered = ap (λ (b : Bool). companies_after b Cut (companies G)) yes' ∙ h.registered;
      entries = ap (map unnumbered) new ∙ entries_after identity H c G h;
      numbered = subst (λ (l : List SentEntry). IsNumbered (map sent_sequence l)) (sym new)
          (subst IsNumbered (sym (as_sent_with counts (sent_entries odfi G) (cut_sendings odfi G) (plans_are_batches odfi G)))
          (never.numbered (map sent_sequence (sent_entries odfi G)) (map plan_of (cut_sendings odfi G)) h.numbered (few_alone identity H c G h counts few)));
      made = λ d.
          ap (λ (b : Bool). file_count d (files_after b Cut (unwrap_or (day G) 0) (cut_batches odfi G) (files odfi G))) yes'
          ∙ made_cut d (unwrap_or (day G) 0) (sent_entries odfi G) (cut_sendings odfi G) (files odfi G) (own_cuts odfi c H d) (h.made d)
          ∙ (λ i. files_of (cuts_after true Cut d (unwrap_or (day_is identity H c G h i) 0) (sym (same_plans identity H c G h) i) (own_cuts odfi c H d)))
          ∙ ap files_of (own_cut (is_plan_of c) d (unwrap_or (day H) 0) (map plan_of (cut_sendings odfi H)) (cuts_on odfi H d));
      keys = λ n more low.
          let count = count-answers CutMade (part odfi H c) false refl in
          no_key _ (next_pair identity G Cut) G refl (h.keys n (omega (arith, count, more)) low);
    }
