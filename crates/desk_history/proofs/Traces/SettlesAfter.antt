-- Entries sent by a cut settle after its day.
use Rattle.std.proofs.Common.{◌≡◌, ℕ, zero, suc, ◌+◌, ◌-◌, ◌==◌, ◌<◌, ◌≤◌, List, ◌∷◌, length, Bool, true, false, Option, Some, None, ap, ◌∙◌, refl, arith, if◌then◌else◌, is_none, is_some, unwrap_or, nat_lt, ◌&&◌}
use Rattle.std.specs.List.{AllByRecursion}
use Rattle.std.proofs.lemmas.Bool.{and_parts}
use Rattle.bank_days.specs.Day.{last_day}
use Rattle.bank_days.specs.Calendar.{banking_days, first_from, nth_after}
use Rattle.desk_history.specs.Words.{or_else}
use Rattle.desk_history.specs.Part.{Event, CutMade, holidays, today}
use Rattle.desk_history.specs.Part as part_of
use Rattle.desk_history.specs.State.{decision, is_due, next_settlement}
use Rattle.desk_history.specs.Accepted.{AcceptedSubmission, settlement_day, is_sent_next}
use Rattle.desk_history.specs.Acceptance.{submissions}
use Rattle.desk_history.specs.Message.{Pair}
use Rattle.desk_history.specs.History.{day, companies, part}
use Rattle.desk_history.specs.Files.{cut_sendings}
use Rattle.desk_history.proofs.Acceptance.Growing.{settled_parts}
use Rattle.desk_history.proofs.Lines.PartLimits.{same_day}
use Rattle.desk_history.proofs.Basics.Each.{each-all}
use Rattle.desk_history.proofs.Traces.SentWith.{each-sending}

first_from-from : (p : ℕ → Bool) (more at : ℕ) → at ≤ first_from p more at
unfolding first_from
first_from-from p zero at = omega arith
first_from-from p (suc more) at =
    let later = first_from-from p more (at + 1) in
    elim (p at) as (λ b. at ≤ (if b then at else first_from p more (at + 1))) [ true ↦ omega arith | false ↦ omega arith ]

nth_after-after : (holidays : List ℕ) (d n : ℕ) → d < nth_after holidays d n
unfolding nth_after
nth_after-after holidays d n = omega (arith, first_from-from (λ e. banking_days holidays d (e - d) == n) (last_day - d) (d + 1))

settles_later : (holidays : List ℕ) (today asked : ℕ) → today < next_settlement holidays today asked
settles_later holidays today asked = let next = nth_after-after holidays today 1 in omega arith

-- the day on which the next cut makes a submission settle
record IsSentOn (P : List Event) (a : AcceptedSubmission) : Type 0 where
  on : ℕ
  settles : settlement_day (CutMade ∷ P) a ≡ Some on
  later : today P < on

value_of : (o : Option ℕ) → is_some o ≡ true → (n : ℕ) × (o ≡ Some n)
value_of None h = cc
value_of (Some n) h = (n, refl)

decided_now : (o : Option ℕ) (due : Bool) (s on : ℕ) → is_none o ≡ true → or_else o (if due then Some s else None) ≡ Some on → s ≡ on
decided_now None true s on h k = cc
decided_now None false s on h k = cc
decided_now (Some n) due s on h k = cc

sent_on : (P : List Event) (a : AcceptedSubmission) → is_sent_next P a ≡ true → IsSentOn P a
sent_on P a h =
    let both = and_parts (is_none (decision P a.place)) (is_some (settlement_day (CutMade ∷ P) a)) h in
    let value = value_of (settlement_day (CutMade ∷ P) a) both.1 in
    let now = (settled_parts (CutMade ∷ P) a value.0 value.1).1 in
    let is = decided_now (decision P a.place) (nat_lt a.place.before (length P) && is_due (holidays P) (today P) a.place.debit a.place.asked) (next_settlement (holidays P) (today P) a.place.asked) value.0 both.0 now in
    let after = settles_later (holidays P) (today P) a.place.asked in
    record { on = value.0; settles = value.1; later = omega arith }

pub sends_after : (odfi : List ℕ) (H : List Pair) (d : ℕ) → day H ≡ Some d → AllByRecursion (λ s. d < s.settled) (cut_sendings odfi H)
sends_after odfi H d is =
    each-sending (λ s. d < s.settled) (part odfi H) (companies H)
    (each-all _ (λ k. each-all _ (λ a next. after (part odfi H k.id) (same_day odfi H k.id ∙ is) a next) (submissions (part odfi H k.id))) (companies H))
  where
    after : (P : List Event) → part_of.day P ≡ Some d → (a : AcceptedSubmission) → is_sent_next P a ≡ true → d < unwrap_or (settlement_day (CutMade ∷ P) a) 0
    after P on a next =
        let sent = sent_on P a next in
        let now : unwrap_or (settlement_day (CutMade ∷ P) a) 0 ≡ sent.on = ap (λ (o : Option ℕ). unwrap_or o 0) sent.settles in
        let today_is : today P ≡ d = ap (λ (o : Option ℕ). unwrap_or o 0) on in
        let later : today P < sent.on = sent.later in
        omega arith
