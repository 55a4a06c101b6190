-- Sums of submissions with one more, and the days on which submissions settle.
use Rattle.std.proofs.Common.{◌≡◌, ◌==◌, ℕ, ◌+◌, ◌<◌, List, [], ◌∷◌, ◌++◌, length, map, take, get_or, Bool, true, false, inl, inr, refl, sym, ap, ◌∙◌, arith, append-nil, length-append}
use Rattle.std.specs.Prelude.{if◌then◌else◌, filter, nat_lt, not, sum_by}
use Rattle.std.specs.BTreeSet.{insert_key}
use Rattle.std.specs.Ordering.{nat_cmp, match_ordering}
use Rattle.std.proofs.lemmas.Bool.{cases_order}
use Rattle.std.proofs.lemmas.Bool.Decides.{nat_tests}
use Rattle.std.proofs.lemmas.List.{take_more, map-append}
use Rattle.std.proofs.lemmas.List.Elements.{filter-append}
use Rattle.std.proofs.lemmas.List.Sums.{sum_by-append}
use Rattle.desk_accounts.specs.Balance.{with_day}
use Rattle.desk_rules.specs.LimitChecks.{is_debit}
use Rattle.desk_book.specs.declared.held_size.HeldSize.{HeldSize}
use Rattle.desk_cut.specs.declared.sizes.SentSize.{SentSize}
use Rattle.desk_cut.specs.Sizes.{sums_on, tallies_of, tally_of}
use Rattle.desk_history.specs.declared.status.Tally.{Tally}
use Rattle.desk_cut.specs.Sums.{IsWithin, with_size, with_sizes}

-- ---- one submission more

one_cents : (z : HeldSize) → sum_by (λ z. z.cents) (z ∷ []) ≡ z.cents
one_cents z = omega arith

tally_more : (zs : List HeldSize) (z : HeldSize) → tally_of (zs ++ z ∷ []) ≡ with_size z (tally_of zs)
tally_more zs z = λ i. record {
  cents = (sum_by-append (λ (z : HeldSize). z.cents) zs (z ∷ []) ∙ ap (λ (n : ℕ). sum_by (λ z. z.cents) zs + n) (one_cents z)) i;
  submissions = length-append zs (z ∷ []) i;
}

module _ (zs : List HeldSize) (z : HeldSize) where
  abbrev debits : List HeldSize
  debits = filter (λ z. is_debit z.direction) zs

  abbrev credits : List HeldSize
  credits = filter (λ z. not (is_debit z.direction)) zs

  in_direction : (debit : Bool)
      → record { credits = tally_of (credits ++ (if not debit then z ∷ [] else [])); debits = tally_of (debits ++ (if debit then z ∷ [] else [])) }
      ≡ (if debit then record (tallies_of zs) { debits = with_size z (tally_of debits) } else record (tallies_of zs) { credits = with_size z (tally_of credits) })
  in_direction true = λ i. record { credits = tally_of (append-nil credits i); debits = tally_more debits z i }
  in_direction false = λ i. record { credits = tally_more credits z i; debits = tally_of (append-nil debits i) }

  tallies_more : tallies_of (zs ++ z ∷ []) ≡ with_sizes z (tallies_of zs)
  tallies_more =
      (λ i. record {
        credits = tally_of (filter-append (λ z. not (is_debit z.direction)) zs (z ∷ []) i);
        debits = tally_of (filter-append (λ z. is_debit z.direction) zs (z ∷ []) i);
      })
      ∙ in_direction (is_debit z.direction)

-- at a step of a loop over what waits
pub held_more : (zs : List HeldSize) (i : ℕ) (z : HeldSize) → i < length zs → z ≡ get_or zs i z → tallies_of (take (i + 1) zs) ≡ with_sizes z (tallies_of (take i zs))
held_more zs i z lt is =
    ap tallies_of (take_more zs i z lt ∙ ap (λ (x : HeldSize). take i zs ++ x ∷ []) (sym is))
    ∙ tallies_more (take i zs) z

-- and over what is sent
module _ (day : ℕ) where
  abbrev on_day : List SentSize → List SentSize
  on_day ss = filter (λ s. s.settled == day) ss

  on_day_more : (ss : List SentSize) (s : SentSize) → sums_on day (ss ++ s ∷ []) ≡ (if s.settled == day then with_sizes s.size (sums_on day ss) else sums_on day ss)
  on_day_more ss s = ap (λ (l : List SentSize). tallies_of (map (λ s. s.size) l)) (filter-append (λ s. s.settled == day) ss (s ∷ [])) ∙ by (s.settled == day) where
    by : (t : Bool) → tallies_of (map (λ s. s.size) (on_day ss ++ (if t then s ∷ [] else []))) ≡ (if t then with_sizes s.size (sums_on day ss) else sums_on day ss)
    by true = ap tallies_of (map-append (λ (s : SentSize). s.size) (on_day ss) (s ∷ [])) ∙ tallies_more (map (λ (s : SentSize). s.size) (on_day ss)) s.size
    by false = ap (λ (l : List SentSize). tallies_of (map (λ s. s.size) l)) (append-nil (on_day ss))

  pub sent_more : (sent : List SentSize) (i : ℕ) (s : SentSize) → i < length sent → s ≡ get_or sent i s
      → sums_on day (take (i + 1) sent) ≡ (if s.settled == day then with_sizes s.size (sums_on day (take i sent)) else sums_on day (take i sent))
  sent_more sent i s lt is =
      ap (sums_on day) (take_more sent i s lt ∙ ap (λ (x : SentSize). take i sent ++ x ∷ []) (sym is))
      ∙ on_day_more (take i sent) s

-- ---- as many as one more may be

pub one_more : (n : ℕ) (t : Tally) → IsWithin n t → IsWithin (n + 1) t
one_more n t within =
    let cents = within.cents in
    let submissions = within.submissions in
    record { cents = omega (arith, cents); submissions = omega (arith, submissions) }

-- ---- days

placed : (day d : ℕ) (before same after : List ℕ) → match_ordering (nat_cmp day d) before same after ≡ (if day == d then same else (if nat_lt day d then before else after))
placed day d before same after = elim (cases_order day d) [
  | inl is ↦ grind (arith, nat_tests)
  | inr apart ↦ elim apart [ inl lower ↦ grind (arith, nat_tests) | inr higher ↦ grind (arith, nat_tests) ]
]

-- a set of days takes a day in its place
pub day_placed : (days : List ℕ) (day : ℕ) → insert_key nat_cmp days day ≡ with_day day days
day_placed [] day = refl
day_placed (d ∷ days) day =
    placed day d (day ∷ d ∷ days) (d ∷ days) (d ∷ insert_key nat_cmp days day)
    ∙ ap (λ (more : List ℕ). if day == d then d ∷ days else (if nat_lt day d then day ∷ d ∷ days else d ∷ more)) (day_placed days day)
