-- The desk after a crash is the end of a run.
use Rattle.std.proofs.Common.{◌≡◌, ℕ, zero, suc, List, [], ◌∷◌, ◌++◌, Bool, true, false, ◌⊎◌, inl, inr, refl, sym, ap, ◌∙◌, subst, arith}
use Rattle.std.specs.Prelude.{Any, Option, Some, None}
use Rattle.desk_store.specs.declared.store.Store.{Ghosts}
use Rattle.http_message.specs.Message.{MessageValue}
use Rattle.http_session.specs.Exchanges.{Exchange, Follows}
use Rattle.http_history.specs.Versions.{Present}
use Rattle.desk_http.specs.Keeping.{DeskHistory, book_after, pending_after, settled, KeptHistory, MayBeFound, Takes, writes}
use Rattle.desk_http.proofs.Growing.{found_told}
use Rattle.isolated_runs.specs.Kept.{answered, IsKeptOf, KeptRuns}
use Rattle.isolated_runs.proofs.Sessions.{joined}

abbrev behind : DeskHistory → (pending : List MessageValue) → KeptHistory
behind h pending = record { history = h; pending = pending }

-- ---- without the pending messages

pending_none : (wrote : Bool) → [] ≡ pending_after wrote []
pending_none true = refl
pending_none false = refl

one_settled : (v : MessageValue) (answer : Option (List ℕ)) (xs : List Exchange) (h : DeskHistory) (pending : List MessageValue) (mid end : KeptHistory)
    → Takes (behind h pending) v answer mid → Follows Takes mid xs end
    → ((h : DeskHistory) (pending : List MessageValue) → Follows Takes (behind h pending) xs end → Follows Takes (settled h) (answered xs) (settled end.history))
    → Follows Takes (settled h) (answered (record { message = v; answer = answer } ∷ xs)) (settled end.history)
one_settled v None xs h pending mid end step rest next = next h (v ∷ pending) (subst (λ (b : KeptHistory). Follows Takes b xs end) step rest)
one_settled v (Some bytes) xs h pending mid end step rest next = (
  settled mid.history,
  record { answered = step.answered; pending = pending_none (writes (book_after h) step.answered.means) },
  next mid.history mid.pending rest,
)

-- the answered messages lead to the same history
settled_run : (xs : List Exchange) (h : DeskHistory) (pending : List MessageValue) (end : KeptHistory) → Follows Takes (behind h pending) xs end
    → Follows Takes (settled h) (answered xs) (settled end.history)
settled_run [] h pending end same = ap (λ (b : KeptHistory). settled b.history) same
settled_run (x ∷ xs) h pending end (mid, step, rest) = one_settled x.message x.answer xs h pending mid end step rest (λ h pending. settled_run xs h pending end)

-- ---- which messages are pending

abbrev IsUnanswered : MessageValue → Exchange → Type 0
IsUnanswered v x = (x.message ≡ v) × (x.answer ≡ None)

any_later : (v : MessageValue) (x : Exchange) (xs : List Exchange) → Any (IsUnanswered v) xs → Any (IsUnanswered v) (x ∷ xs)
any_later v x xs some = (suc some.0, some.1, omega (arith, some.2), some.3, some.4)

first_or_later : (v w : MessageValue) (ws : List MessageValue) → Any (λ p. p ≡ v) (w ∷ ws) → (w ≡ v) ⊎ Any (λ p. p ≡ v) ws
first_or_later v w ws (zero, y, within, at, is) = inl (at ∙ is)
first_or_later v w ws (suc n, y, within, at, is) = inr (n, y, omega (arith, within), at, is)

still_pending : (wrote : Bool) (v : MessageValue) (ws : List MessageValue) → Any (λ p. p ≡ v) (pending_after wrote ws) → Any (λ p. p ≡ v) ws
still_pending false v ws some = some
still_pending true v ws some = let no : ⊥ = omega (arith, some.2) in absurd no

one_pending : (u : MessageValue) (answer : Option (List ℕ)) (xs : List Exchange) (h : DeskHistory) (pending : List MessageValue) (mid end : KeptHistory) (v : MessageValue)
    → Takes (behind h pending) u answer mid → Follows Takes mid xs end
    → ((h : DeskHistory) (pending : List MessageValue) → Follows Takes (behind h pending) xs end → Any (λ p. p ≡ v) pending ⊎ Any (IsUnanswered v) xs)
    → Any (λ p. p ≡ v) pending ⊎ Any (IsUnanswered v) (record { message = u; answer = answer } ∷ xs)
one_pending u None xs h pending mid end v step rest next = elim (next h (u ∷ pending) (subst (λ (b : KeptHistory). Follows Takes b xs end) step rest)) [
  | inl some ↦ elim (first_or_later v u pending some) [
    | inl same ↦ inr (0, record { message = u; answer = None }, omega arith, refl, (same, refl))
    | inr later ↦ inl later
  ]
  | inr later ↦ inr (any_later v (record { message = u; answer = None }) xs later)
]
one_pending u (Some bytes) xs h pending mid end v step rest next = elim (next mid.history mid.pending rest) [
  | inl some ↦ inl (still_pending (writes (book_after h) step.answered.means) v pending (subst (λ (ws : List MessageValue). Any (λ p. p ≡ v) ws) step.pending some))
  | inr later ↦ inr (any_later v (record { message = u; answer = Some bytes }) xs later)
]

-- a pending message was not answered
pending_is : (xs : List Exchange) (h : DeskHistory) (pending : List MessageValue) (end : KeptHistory) (v : MessageValue) → Any (λ p. p ≡ v) end.pending → Follows Takes (behind h pending) xs end
    → Any (λ p. p ≡ v) pending ⊎ Any (IsUnanswered v) xs
pending_is [] h pending end v some same = inl (subst (λ (b : KeptHistory). Any (λ p. p ≡ v) b.pending) same some)
pending_is (x ∷ xs) h pending end v some (mid, step, rest) = one_pending x.message x.answer xs h pending mid end v step rest (λ h pending. pending_is xs h pending end v some)

-- ---- what is found

-- the run of the history that is found
found_run : (h : DeskHistory) (xs : List Exchange) (end : KeptHistory) (found : DeskHistory) → Follows Takes (settled h) xs end → MayBeFound Present end found
    → (kept : List Exchange) × IsKeptOf xs kept × Follows Takes (settled h) kept (settled found)
found_run h xs end found follows (inl same) =
    (answered xs, inl refl, subst (λ (f : DeskHistory). Follows Takes (settled h) (answered xs) (settled f)) (sym same) (settled_run xs h [] end follows))
found_run h xs end found follows (inr one) =
    let x : Exchange = record { message = one.message; answer = Some one.answer } in
    let pending : Any (IsUnanswered one.message) xs = elim (pending_is xs h [] end one.message one.is_pending follows) [ inl some ↦ (let no : ⊥ = omega (arith, some.2) in absurd no) | inr later ↦ later ] in (
      answered xs ++ x ∷ [],
      inr (x, pending, refl),
      joined Takes (answered xs) (x ∷ []) (settled h) (settled end.history) (settled found) (settled_run xs h [] end follows)
          (settled found, record { answered = one.answered; pending = pending_none (writes (book_after end.history) one.answered.means) }, refl),
    )

pub kept_runs : {S : Type 0} (g : Ghosts S) → KeptRuns g
kept_runs {S} g = record {
  new = λ identity key. record { bank = refl; operator = refl; empty = refl; none_pending = refl };
  kept = λ odfi key start now run exchanges old new k begins follows after clean was leaves.
      let (end, goes, stands) = after clean now was in
      let (found, may, kept) = stands.left k leaves in
      let same : start ≡ settled start.history = λ i. record { history = start.history; pending = begins.none_pending i } in
      let whole = joined Takes run exchanges start now end follows goes in
      let (again, is, leads) = found_run start.history (run ++ exchanges) end found (subst (λ (b : KeptHistory). Follows Takes b (run ++ exchanges) end) same whole) may in (
        found,
        again,
        is,
        subst (λ (b : KeptHistory). Follows Takes b again (settled found)) (sym same) leads,
        record { history = found_told Present end found may stands.stands.history; book = kept },
      );
}
