-- The effect of a batch on the sent entries, and the sequences that are free after it.
use Rattle.std.proofs.Common.{◌≡◌, ℕ, zero, suc, ◌+◌, ◌-◌, ◌<◌, ◌≤◌, List, [], ◌∷◌, ◌++◌, map, reverse, Bool, true, false, not, ◌&&◌, ◌||◌, ◌==◌, Option, Some, None, refl, sym, ap, ◌∙◌, arith, append_assoc, inl, inr, nat_le, filter_map, max, option_map, if◌then◌else◌, fold}
use Rattle.std.specs.List.{range_with_len, list_any, list_all, reduce, cons_option, AllByRecursion}
use Rattle.std.proofs.lemmas.Bool.{cases_Bool, eqb-true}
use Rattle.std.proofs.lemmas.Bool.Decides.{nat_tests}
use Rattle.std.proofs.lemmas.List.{reverse-append}
use Rattle.std.proofs.lemmas.List.Elements.{recursion_from_All}
use Rattle.desk_plan.specs.declared.batch.Batch.{Batch}
use Rattle.desk_plan.specs.Batch.{IsBatch}
use Rattle.desk_plan.specs.Laws.{ByRanges, YoungestAfter}
use Rattle.desk_plan.specs.Numbers.{is_in}
use Rattle.desk_plan.specs.Reuse.{is_past, youngest, youngest_settlement, may_use, may_send, latest_settled}
use Rattle.desk_plan.specs.Sequences.{SentSequence, last_sequence, range_after, ranges, ranges_of, first_of, sequences_from, after_batch, meets}
use Rattle.desk_plan.proofs.Ranges.{shuffle, neither_and, cases_range, among, is_taken, none_taken, are_clear, clear_is_apart}

pub first_of-some : (sent : List SentSequence) (b : Batch) → 1 ≤ first_of sent b
first_of-some sent b =
    elim (cases_range (last_sequence sent) b.entries) [
      | inl on ↦ omega (arith, ap (λ (r : ℕ × ℕ). r.0) on.0)
      | inr over ↦ omega (arith, ap (λ (r : ℕ × ℕ). r.0) over.0)
    ]

module _ (on : ℕ) where
  abbrev pub entry : ℕ → SentSequence
  entry s = record { sequence = s; settled = on }

  pub one_more : (x : ℕ) (ss : List ℕ) (sent : List SentSequence) → reverse (map entry (x ∷ ss)) ++ sent ≡ reverse (map entry ss) ++ entry x ∷ sent
  one_more x ss sent = ap (λ (l : List SentSequence). l ++ sent) (reverse-append (entry x ∷ []) (map entry ss)) ∙ append_assoc (reverse (map entry ss)) (entry x ∷ []) sent

  found_in : (ss : List ℕ) (s : ℕ) (sent : List SentSequence) → youngest (reverse (map entry ss) ++ sent) s ≡ (if list_any (λ x. x == s) ss then Some (entry s) else youngest sent s)
  found_in [] s sent = refl
  found_in (x ∷ ss) s sent =
      let here : youngest (entry x ∷ sent) s ≡ (if x == s then Some (entry s) else youngest sent s) = elim (cases_Bool (x == s)) [
        | inl is ↦ ap (λ (t : Bool). if t then Some (entry x) else youngest sent s) is ∙ ap (λ n. Some (entry n)) (eqb-true x s is) ∙ ap (λ (t : Bool). if t then Some (entry s) else youngest sent s) (sym is)
        | inr other ↦ ap (λ (t : Bool). if t then Some (entry x) else youngest sent s) other ∙ ap (λ (t : Bool). if t then Some (entry s) else youngest sent s) (sym other)
      ] in
      ap (λ (l : List SentSequence). youngest l s) (one_more x ss sent)
      ∙ found_in ss s (entry x ∷ sent)
      ∙ ap (λ (o : Option SentSequence). if list_any (λ x. x == s) ss then Some (entry s) else o) here
      ∙ either (x == s) (list_any (λ x. x == s) ss) (Some (entry s)) (youngest sent s)
    where
      either : (a b : Bool) (x y : Option SentSequence) → (if b then x else (if a then x else y)) ≡ (if a || b then x else y)
      either true true x y = refl
      either true false x y = refl
      either false true x y = refl
      either false false x y = refl

  last_in : (f n : ℕ) (sent : List SentSequence) → 1 ≤ n → last_sequence (reverse (map entry (range_with_len f n)) ++ sent) ≡ f + n - 1
  last_in f zero sent some = absurd (omega arith)
  last_in f (suc zero) sent some = omega arith
  last_in f (suc (suc n)) sent some =
      ap last_sequence (one_more f (range_with_len (f + 1) (suc n)) sent)
      ∙ last_in (f + 1) (suc n) (entry f ∷ sent) (omega arith)
      ∙ omega arith

pub youngest_after : YoungestAfter
youngest_after sent b s =
    found_in b.settled (sequences_from (first_of sent b) b) s sent
    ∙ ap (λ (t : Bool). if t then Some (entry b.settled s) else youngest sent s) (among (first_of sent b) b.entries s (first_of-some sent b))

pub last_after : (sent : List SentSequence) (b : Batch) → 1 ≤ b.entries → last_sequence (after_batch sent b) ≡ (range_after (last_sequence sent) b.entries).1
last_after sent b some = last_in b.settled (first_of sent b) b.entries sent some

-- what is past, by the latest
and_one : (a : ℕ) (day : ℕ) → nat_le (a + 366) day ≡ (nat_le (a + 366) day && true)
and_one a day = grind (arith, nat_tests)

and_more : (a b day : ℕ) (rest : Bool) → (nat_le (max a b + 366) day && rest) ≡ (nat_le (a + 366) day && (nat_le (b + 366) day && rest))
and_more a b day rest = grind (arith, nat_tests)

past_fold : (day a : ℕ) (ds : List ℕ) → nat_le (fold max a ds + 366) day ≡ (nat_le (a + 366) day && list_all (λ d. nat_le (d + 366) day) ds)
past_fold day a [] = and_one a day
past_fold day a (d ∷ ds) = past_fold day (max a d) ds ∙ and_more a d day (list_all (λ d. nat_le (d + 366) day) ds)

past_reduce : (day : ℕ) (ds : List ℕ) → is_past day (reduce max ds) ≡ list_all (λ d. nat_le (d + 366) day) ds
past_reduce day [] = refl
past_reduce day (d ∷ ds) = past_fold day d ds

past_each : (day : ℕ) (sent : List SentSequence) (ss : List ℕ) → list_all (λ d. nat_le (d + 366) day) (filter_map (youngest_settlement sent) ss) ≡ list_all (may_use day sent) ss
past_each day sent [] = refl
past_each day sent (s ∷ ss) =
    let rest = filter_map (youngest_settlement sent) ss in
    elim (youngest_settlement sent s) as (λ o. list_all (λ d. nat_le (d + 366) day) (cons_option o rest) ≡ (is_past day o && list_all (may_use day sent) ss)) [
      | None ↦ past_each day sent ss
      | Some d ↦ ap (λ t. nat_le (d + 366) day && t) (past_each day sent ss)
    ]

past_latest : (day : ℕ) (sent : List SentSequence) (ss : List ℕ) → is_past day (reduce max (filter_map (youngest_settlement sent) ss)) ≡ list_all (may_use day sent) ss
past_latest day sent ss = past_reduce day (filter_map (youngest_settlement sent) ss) ∙ past_each day sent ss

-- The entries of a cut settle too late for their sequences to be used again in it.
too_late : (on day : ℕ) → day < on → nat_le (on + 366) day ≡ false
too_late on day lt = grind (arith, nat_tests)

use_after : (day : ℕ) (sent : List SentSequence) (b : Batch) (s : ℕ) → day < b.settled → may_use day (after_batch sent b) s ≡ (not (is_in (range_after (last_sequence sent) b.entries) s) && may_use day sent s)
use_after day sent b s lt =
    ap (λ (o : Option SentSequence). is_past day (option_map (λ e. e.settled) o)) (youngest_after sent b s)
    ∙ elim (is_in (range_after (last_sequence sent) b.entries) s) as (λ t. is_past day (option_map (λ e. e.settled) (if t then Some (entry b.settled s) else youngest sent s)) ≡ (not t && may_use day sent s)) [
      | true ↦ too_late b.settled day lt
      | false ↦ refl
    ]

module _ (day : ℕ) (old : List SentSequence) where
  -- what may be used is what the entries before the cut allow and no range of the cut holds
  abbrev Leaves : List SentSequence → List (ℕ × ℕ) → Type 0
  Leaves sent taken = (s : ℕ) → may_use day sent s ≡ (not (is_taken taken s) && may_use day old s)

  abbrev past : ℕ × ℕ → Bool
  past r = is_past day (latest_settled old r)

  all_leave : (sent : List SentSequence) (taken : List (ℕ × ℕ)) → Leaves sent taken → (ss : List ℕ) → list_all (may_use day sent) ss ≡ (list_all (λ s. not (is_taken taken s)) ss && list_all (may_use day old) ss)
  all_leave sent taken leaves [] = refl
  all_leave sent taken leaves (s ∷ ss) =
      (λ i. leaves s i && all_leave sent taken leaves ss i)
      ∙ shuffle (not (is_taken taken s)) (may_use day old s) (list_all (λ s. not (is_taken taken s)) ss) (list_all (may_use day old) ss)

  batch_by_range : (sent : List SentSequence) (taken : List (ℕ × ℕ)) → Leaves sent taken → AllByRecursion (λ q. q.0 ≤ q.1) taken → (f n : ℕ) → 1 ≤ n
      → list_all (may_use day sent) (range_with_len f n) ≡ (not (list_any (meets (f, f + n - 1)) taken) && past (f, f + n - 1))
  batch_by_range sent taken leaves le f n some =
      let size : n ≡ f + n - 1 + 1 - f = omega arith in
      all_leave sent taken leaves (range_with_len f n)
      ∙ (λ i. none_taken f n taken some le i && (sym (past_latest day old (range_with_len f n)) ∙ ap (λ m. is_past day (reduce max (filter_map (youngest_settlement old) (range_with_len f m)))) size) i)

  leaves_after : (sent : List SentSequence) (taken : List (ℕ × ℕ)) → Leaves sent taken → (b : Batch) → day < b.settled → Leaves (after_batch sent b) (range_after (last_sequence sent) b.entries ∷ taken)
  leaves_after sent taken leaves b lt s =
      let r = range_after (last_sequence sent) b.entries in
      use_after day sent b s lt ∙ ap (λ t. not (is_in r s) && t) (leaves s) ∙ neither_and (is_in r s) (is_taken taken s) (may_use day old s)

  sends : (batches : List Batch) (sent : List SentSequence) (taken : List (ℕ × ℕ)) → AllByRecursion IsBatch batches → AllByRecursion (λ b. day < b.settled) batches → AllByRecursion (λ q. q.0 ≤ q.1) taken → Leaves sent taken
      → may_send day sent batches ≡ (are_clear (ranges_of sent batches) taken && list_all past (ranges_of sent batches))
  sends [] sent taken all ahead le leaves = refl
  sends (b ∷ batches) sent taken all ahead le leaves =
      let some : 1 ≤ b.entries = all.0.entries.0 in
      let r = range_after (last_sequence sent) b.entries in
      let up : r.0 ≤ r.1 = omega arith in
      let rest = sends batches (after_batch sent b) (r ∷ taken) all.1 ahead.1 (up, le) (leaves_after sent taken leaves b ahead.0) in
      let rs = ranges (last_sequence (after_batch sent b)) (map (λ (b : Batch). b.entries) batches) in
      (λ i. batch_by_range sent taken leaves le (first_of sent b) b.entries some i && rest i)
      ∙ shuffle (not (list_any (meets r) taken)) (past r) (are_clear rs (r ∷ taken)) (list_all past rs)
      ∙ ap (λ m. let qs = r ∷ ranges m (map (λ (b : Batch). b.entries) batches) in are_clear qs taken && list_all past qs) (last_after sent b some)

pub by_ranges : ByRanges
by_ranges day sent batches all ahead =
    sends day sent batches sent [] (recursion_from_All IsBatch batches all) (recursion_from_All (λ b. day < b.settled) batches ahead) tt (λ s. refl)
    ∙ ap (λ t. t && list_all (past day sent) (ranges_of sent batches)) (clear_is_apart (ranges_of sent batches))
