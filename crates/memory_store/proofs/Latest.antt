-- The latest of the settlements of a range of sequences.
use Rattle.std.proofs.Common.{◌≡◌, ℕ, ◌+◌, ◌==◌, List, [], ◌∷◌, ◌++◌, map, reverse, sym, Bool, true, false, Option, Some, None, refl, ap, ◌∙◌}
use Rattle.std.specs.Prelude.{filter_map, find, max, if◌then◌else◌, option_map}
use Rattle.std.specs.List.{range_with_len, reduce, cons_option}
use Rattle.std.proofs.lemmas.List.{append-nil, reverse-append}
use Rattle.std.proofs.lemmas.List.Elements.{filter_map-append}
use Rattle.std.proofs.lemmas.List.FromFn.{map-range_with_len_more}
use Rattle.std.proofs.lemmas.List.Sums.{fold_push}
use Rattle.memory_store.specs.Finds.{later_of, with_settlement}
use Rattle.desk_history.specs.declared.sent_entry.SentEntry.{SentEntry}
use Rattle.desk_plan.specs.Reuse.{youngest_settlement, has_sequence}
use Rattle.desk_history.specs.Sendings.{sent_sequence}

-- ---- the latest of days

reduce_push : (days : List ℕ) (d : ℕ) → reduce max (days ++ d ∷ []) ≡ later_of (reduce max days) (Some d)
reduce_push [] d = refl
reduce_push (e ∷ days) d = ap Some (fold_push max e days d)

reduce_more : (days : List ℕ) (o : Option ℕ) → reduce max (days ++ filter_map (λ d. d) (o ∷ [])) ≡ later_of (reduce max days) o
reduce_more days None = ap (reduce max) (append-nil days) ∙ same (reduce max days) where
  same : (o : Option ℕ) → o ≡ later_of o None
  same None = refl
  same (Some d) = refl
reduce_more days (Some d) = reduce_push days d

-- one more day
latest_more : (days : List (Option ℕ)) (o : Option ℕ) → reduce max (filter_map (λ d. d) (days ++ o ∷ [])) ≡ later_of (reduce max (filter_map (λ d. d) days)) o
latest_more days o = ap (reduce max) (filter_map-append (λ d. d) days (o ∷ [])) ∙ reduce_more (filter_map (λ d. d) days) o

-- those that there are of a list's elements
kept_of_all : (f : ℕ → Option ℕ) (xs : List ℕ) → filter_map (λ d. d) (map f xs) ≡ filter_map f xs
kept_of_all f [] = refl
kept_of_all f (x ∷ xs) = ap (cons_option (f x)) (kept_of_all f xs)

-- one more sequence of a range
pub latest_next : (f : ℕ → Option ℕ) (a n j : ℕ) → a + n ≡ j → reduce max (filter_map f (range_with_len a (n + 1))) ≡ later_of (reduce max (filter_map f (range_with_len a n))) (f j)
latest_next f a n j is =
    ap (reduce max) (sym (kept_of_all f (range_with_len a (n + 1))))
    ∙ ap (λ (days : List (Option ℕ)). reduce max (filter_map (λ d. d) days)) (map-range_with_len_more f a n j is)
    ∙ latest_more (map f (range_with_len a n)) (f j)
    ∙ ap (λ (days : List ℕ). later_of (reduce max days) (f j)) (kept_of_all f (range_with_len a n))

-- ---- one more entry

-- the settlement of a sequence with one more entry
pub settled_more : (sent : List SentEntry) (e : SentEntry) (s : ℕ) → with_settlement e (youngest_settlement (map sent_sequence (reverse sent))) s ≡ youngest_settlement (map sent_sequence (reverse (sent ++ e ∷ []))) s
settled_more sent e s =
    of_test (e.sequence == s)
    ∙ ap (λ (es : List SentEntry). youngest_settlement (map sent_sequence es) s) (sym (reverse-append sent (e ∷ []))) where
      of_test : (t : Bool) → (if t then Some e.settled else youngest_settlement (map sent_sequence (reverse sent)) s) ≡ option_map (λ x. x.settled) (if t then Some (sent_sequence e) else find (has_sequence s) (map sent_sequence (reverse sent)))
      of_test true = refl
      of_test false = refl
