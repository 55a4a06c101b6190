-- Entries at places that follow one another are those that have these places, one after another.
use Rattle.std.proofs.Common.{◌≡◌, ◌≤◌, ◌<◌, ◌∙◌, ap, sym, refl, arith, ℕ, suc, zero, ◌+◌, ◌==◌, true, false, ◌&&◌, cond, List, [], ◌∷◌, map, filter, find, length, Option, None, Some, option_map, option_and_then}
use Rattle.std.specs.List.{AllByRecursion, range_with_len}
use Rattle.sqlite_keyed.proofs.ListLemmas.{map-map}
use Rattle.sql_tables.proofs.Lists.{find-both, find_agrees}
use Rattle.sql_tables.specs.Composed.{settled_at}
use Rattle.sql_tables.specs.Selected.{entry_place_of, placed_of}
use Rattle.sql_tables.specs.TableReads.{entry_places_in, facts_in, is_at_place, is_place, is_placed_between, is_since, is_up_to}
use Rattle.sql_tables.specs.Tables.{Tables}
use Rattle.sql_tables.specs.declared.records.EntryRecord.{EntryRecord}
use Rattle.sql_tables.specs.declared.row.entries.EntryPlace.{EntryPlace}
use Rattle.sql_reads.specs.SettledPlaces.{settled_with}

abbrev at : List EntryRecord → ℕ → Option EntryRecord
at es place = find (is_at_place place) es

-- ---- the places of a list of entries

-- a first entry with an earlier place is not found
behind : (e : EntryRecord) (es : List EntryRecord) (place next n : ℕ) → e.place ≡ Some place → place < next → map (at (e ∷ es)) (range_with_len next n) ≡ map (at es) (range_with_len next n)
behind e es place next zero has less = refl
behind e es place next (suc n) has less =
    let no : is_at_place next e ≡ false = ap (is_place next) has ∙ apart place next less in
    λ i. cond (no i) (Some e) (at es next) ∷ behind e es place (next + 1) n has (omega (arith, less)) i
  where
    apart : (a b : ℕ) → a < b → (a == b) ≡ false
    apart a b less = grind (arith, less)

each_found : (es : List EntryRecord) (first n : ℕ) → map (λ e. e.place) es ≡ map (λ p. Some p) (range_with_len first n) → map (at es) (range_with_len first n) ≡ map (λ e. Some e) es
each_found [] first zero are = refl
each_found [] first (suc n) are = absurd (let e = are in cc)
each_found (e ∷ es) first zero are = absurd (let e = are in cc)
each_found (e ∷ es) first (suc n) are =
    let has : e.place ≡ Some first = (let e = are in cc) in
    let rest : map (λ (e : EntryRecord). e.place) es ≡ map (λ p. Some p) (range_with_len (first + 1) n) = (let e = are in cc) in
    let yes : is_at_place first e ≡ true = ap (is_place first) has ∙ same first in
    let others = behind e es first (first + 1) n has (omega arith) ∙ each_found es (first + 1) n rest in
    λ i. cond (yes i) (Some e) (at es first) ∷ others i
  where
    same : (a : ℕ) → (a == a) ≡ true
    same a = grind (arith)

-- ---- among all entries

among : (place : Option ℕ) (from to p : ℕ) → from ≤ p → p ≤ to → ((is_since from place && is_up_to to place) && is_place p place) ≡ is_place p place
among None from to p low high = refl
among (Some n) from to p low high = grind (arith, low, high)

all_among : (es : List EntryRecord) (from to p : ℕ) → from ≤ p → p ≤ to → AllByRecursion (λ e. (is_placed_between from to e && is_at_place p e) ≡ is_at_place p e) es
all_among [] from to p low high = tt
all_among (e ∷ es) from to p low high = (among e.place from to p low high, all_among es from to p low high)

found_between : (es : List EntryRecord) (from to p : ℕ) → from ≤ p → p ≤ to → at es p ≡ at (filter (is_placed_between from to) es) p
found_between es from to p low high =
    sym (find-both (is_at_place p) (is_placed_between from to) es ∙ find_agrees (λ e. is_placed_between from to e && is_at_place p e) (is_at_place p) es (all_among es from to p low high))

each_between : (es : List EntryRecord) (from to next n : ℕ) → from ≤ next → next + n ≤ to + 1 → map (at es) (range_with_len next n) ≡ map (at (filter (is_placed_between from to) es)) (range_with_len next n)
each_between es from to next zero low high = refl
each_between es from to next (suc n) low high =
    let first = found_between es from to next low (omega (arith, high)) in
    let rest = each_between es from to (next + 1) n (omega (arith, low)) (omega (arith, high)) in
    λ i. first i ∷ rest i

-- ---- when they settle

abbrev settled_of : Tables → Option EntryRecord → Option ℕ
settled_of t o = option_and_then (λ placed. option_and_then (λ f. f.settled) (facts_in placed.company placed.order t)) (option_map placed_of o)

pub settled_together : (t : Tables) (first to : ℕ) (places : List ℕ) (sent : List EntryPlace)
    → places ≡ range_with_len first (length places) → first + length places ≤ to + 1
    → sent ≡ entry_places_in first to t → map (λ e. e.place) sent ≡ map (λ p. Some p) places
    → map (λ place. settled_at place t) places ≡ map (settled_with t) sent
settled_together t first to places sent follow within are have =
    let these = filter (is_placed_between first to) t.entries in
    let run = range_with_len first (length places) in
    let had : map (λ (e : EntryRecord). e.place) these ≡ map (λ p. Some p) run =
    sym (map-map (λ (e : EntryPlace). e.place) entry_place_of these) ∙ ap (map (λ (e : EntryPlace). e.place)) (sym are) ∙ have ∙ ap (map (λ p. Some p)) follow in
    let found : map (at t.entries) places ≡ map (λ e. Some e) these =
    ap (map (at t.entries)) follow ∙ each_between t.entries first to first (length places) (omega arith) within ∙ each_found these first (length places) had in
    sym (map-map (settled_of t) (at t.entries) places) ∙ ap (map (settled_of t)) found ∙ map-map (settled_of t) (λ e. Some e) these
    ∙ sym (map-map (settled_with t) entry_place_of these) ∙ ap (map (settled_with t)) (sym are)
