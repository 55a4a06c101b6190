-- What is remembered of a company follows a new submission.
use Rattle.std.proofs.Common.{◌≡◌, ◌∙◌, refl, ap, sym, subst, ℕ, ◌+◌, ◌≤◌, Bool, true, false, List, [], ◌∷◌, ◌++◌, map, zip, length, replicate, Option, Some, None, arith}
use Rattle.std.specs.Prelude.{sum_by, ◌==◌, if◌then◌else◌, IfSome, bytes_eq}
use Rattle.std.specs.List.{range_with_len, AllByRecursion}
use Rattle.std.proofs.lemmas.Bool.{eqb-true, eq-eqb, ne_eqb}
use Rattle.std.proofs.lemmas.List.{append-nil}
use Rattle.std.proofs.lemmas.List.Sums.{sum_by-cons, sum_by-append}
use Rattle.std.proofs.lemmas.List.Elements.{filter-append}
use Rattle.std.proofs.lemmas.List.Concat.{flat_map-append}
use Rattle.desk_rules.specs.declared.bodies.submission.Entry.{Entry}
use Rattle.desk_rules.specs.declared.bodies.submission.Retry.{Retry}
use Rattle.desk_rules.specs.declared.bodies.submission.Submission.{Submission}
use Rattle.desk_rules.specs.declared.rules.entry_fact.EntryFact.{EntryFact}
use Rattle.desk_rules.specs.declared.rules.entry_fact.EntryState.TheVariants.{Held}
use Rattle.desk_rules.specs.LimitChecks.{is_debit}
use Rattle.desk_rules.specs.Size.{total_of}
use Rattle.desk_history.specs.Facts.{entry_fact}
use Rattle.desk_book.specs.declared.row.Row.{Row}
use Rattle.desk_book.specs.Standing.{row_facts, facts_in, next_row}
use Rattle.std.specs.Cmp.Lexicographic.{same_text}
use Rattle.std.proofs.lemmas.Slice.Eq.{bytes_eq-Decides}
use Rattle.remembering_store.specs.Kept.{in_direction, Holds}
use Rattle.desk_book.specs.OpenSubmissions.{standing_cents}
use Rattle.remembering_store.specs.KnownRow.{KnownRow, Fits, place_of}
use Rattle.remembering_store.specs.Laws.{rows_at}
use Rattle.remembering_store.specs.OpenRows.{row_in, order_in, Adds}
use Rattle.remembering_store.specs.Remembered.{AreSums, AreRows, IsKeptAs, AreNumbered, IsOf, KeepsOn}
use Rattle.remembering_store.specs.declared.sums.company_sums.Sums.{Sums}
use Rattle.remembering_store.specs.declared.sums.open_rows.OpenRows.{OpenRows}
use Rattle.remembering_store.proofs.Following.{whatever, turned}
use Rattle.remembering_store.proofs.Weights.{held_weight, day_weight, held_sum, day_sum, each_map, held_row_holds, held_row_settles_none}

-- ---- a submission that is handed in

new_cents : (debit : Bool) (es : List Entry) → map standing_cents (map (entry_fact debit) (zip es (replicate (length es) Held))) ≡ map (λ e. e.cents) es
new_cents debit [] = refl
new_cents debit (e ∷ es) = ap (λ (cs : List ℕ). e.cents ∷ cs) (new_cents debit es)

new_total : (debit : Bool) (es : List Entry) → sum_by (λ f. f.cents) (map (entry_fact debit) (zip es (replicate (length es) Held))) ≡ total_of es
new_total debit [] = refl
new_total debit (e ∷ es) =
    sum_by-cons (λ f. f.cents) (entry_fact debit (e, Held)) (map (entry_fact debit) (zip es (replicate (length es) Held)))
    ∙ ap (λ (n : ℕ). e.cents + n) (new_total debit es) ∙ sym (sum_by-cons (λ (x : Entry). x.cents) e es)

pub new_held : (debit : Bool) (es : List Entry) → AllByRecursion (λ f. place_of f.state ≡ Some None) (map (entry_fact debit) (zip es (replicate (length es) Held)))
new_held debit [] = tt
new_held debit (e ∷ es) = (refl, new_held debit es)

pub new_fits : (k : KnownRow) (s : Submission) → k.reference ≡ s.reference → k.debit ≡ is_debit s.direction → k.settled ≡ None → k.total ≡ total_of s.entries
    → (k.debit ≡ true → k.cents ≡ map (λ e. e.cents) s.entries) → (rs : List Row) (retry : Option Retry) → Fits k (next_row rs s retry)
new_fits k s reference debit held total cents rs retry = record {
  reference = sym reference;
  debit = sym debit;
  stands = each_map (λ f. place_of f.state ≡ Some None) (λ f. place_of f.state ≡ Some k.settled) (λ f e. e ∙ ap Some (sym held)) (row_facts (next_row rs s retry)) (new_held (is_debit s.direction) s.entries);
  total = new_total (is_debit s.direction) s.entries ∙ sym total;
  cents = λ is. new_cents (is_debit s.direction) s.entries ∙ sym (cents is);
}

-- ---- numbers

none_past : (from n : ℕ) (rs : List Row) → map (λ row. row.order) rs ≡ range_with_len from (length rs) → from + length rs ≤ n → rows_at n rs ≡ []
none_past from n [] numbered past = refl
none_past from n (row ∷ rs) numbered past =
    let here : row.order ≡ from = cc in
    let behind : map (λ row. row.order) rs ≡ range_with_len (from + 1) (length rs) = cc in
    let other : (row.order == n) ≡ false = ne_eqb row.order n (λ e. absurd (omega (arith, e, here, past))) in
    ap (λ (t : Bool). if t then row ∷ rows_at n rs else rows_at n rs) other ∙ none_past (from + 1) n rs behind (omega (arith, past))

pub none_next : (rs : List Row) → AreNumbered rs → rows_at (length rs + 1) rs ≡ []
none_next rs numbered = none_past 1 (length rs + 1) rs numbered (omega arith)

-- ---- rows

self_text : (a : List ℕ) → bytes_eq a a ≡ true
self_text a = (bytes_eq-Decides a a).1 refl

pub each_append : (P : Row → Type 0) (rs : List Row) (row : Row) → AllByRecursion P rs → P row → AllByRecursion P (rs ++ row ∷ [])
each_append P [] row each here = (here, tt)
each_append P (x ∷ rs) row each here = (each.0, each_append P rs row each.1 here)

each_other : (n : ℕ) (P Q : Row → Type 0) → ((row : Row) → (row.order == n) ≡ false → P row → Q row) → (rs : List Row) → rows_at n rs ≡ [] → AllByRecursion P rs → AllByRecursion Q rs
each_other n P Q turn [] none each = tt
each_other n P Q turn (row ∷ rs) none each = by (each_other n P Q turn rs) (row.order == n) refl none where
  by : (rows_at n rs ≡ [] → AllByRecursion P rs → AllByRecursion Q rs) → (t : Bool) → (row.order == n) ≡ t → (if t then row ∷ rows_at n rs else rows_at n rs) ≡ [] → Q row × AllByRecursion Q rs
  by rest true e none = absurd cc
  by rest false e none = (turn row e each.0, rest none each.1)

module _ (since n : ℕ) (k : KnownRow) (old new : OpenRows) (adds : Adds n k old new) (rs : List Row) (row : Row) (none : rows_at n rs ≡ []) (is : row.order ≡ n) (fits : Fits k row) where
  now_there : row_in row.order new ≡ Some k
  now_there = adds.puts row.order ∙ ap (λ (t : Bool). if t then Some k else row_in row.order old) (eq-eqb row.order n is)

  still : (q : ℕ) → (q == n) ≡ false → row_in q new ≡ row_in q old
  still q other = adds.puts q ∙ ap (λ (t : Bool). if t then Some k else row_in q old) other

  ends_with : (q : ℕ) → rows_at q (rs ++ row ∷ []) ≡ rows_at q rs ++ (if row.order == q then row ∷ [] else [])
  ends_with q = filter-append (λ r. r.order == q) rs (row ∷ [])

  pub rows_added : AreRows since old rs → AreRows since new (rs ++ row ∷ [])
  rows_added are = record {
    each = each_append (λ r. IsKeptAs since r (row_in r.order new)) rs row
        (each_other n (λ r. IsKeptAs since r (row_in r.order old)) (λ r. IsKeptAs since r (row_in r.order new))
        (λ r other was. subst (λ (o : Option KnownRow). IsKeptAs since r o) (sym (still r.order other)) was) rs none are.each)
        (subst (λ (o : Option KnownRow). IsKeptAs since row o) (sym now_there) fits);
    once = λ q. subst (λ (o : Option KnownRow). IfSome o (λ x. length (rows_at q (rs ++ row ∷ [])) ≡ 1)) (sym (adds.puts q)) (once_by q (q == n) refl);
    named = λ q. subst (λ (o : Option KnownRow). IfSome o (λ x. order_in x.reference new ≡ Some q)) (sym (adds.puts q)) (named_by q (q == n) refl);
  } where
    once_by : (q : ℕ) (t : Bool) → (q == n) ≡ t → IfSome (if t then Some k else row_in q old) (λ x. length (rows_at q (rs ++ row ∷ [])) ≡ 1)
    once_by q true e =
        let o : q ≡ n = eqb-true q n e in
        let here : rows_at q rs ≡ [] = ap (λ (m : ℕ). rows_at m rs) o ∙ none in
        let last : (row.order == q) ≡ true = eq-eqb row.order q (is ∙ sym o) in
        ap length (ends_with q ∙ ap (λ (xs : List Row). xs ++ (if row.order == q then row ∷ [] else [])) here ∙ ap (λ (t : Bool). if t then row ∷ [] else []) last)
    once_by q false e =
        let apart : (row.order == q) ≡ false = ne_eqb row.order q (λ same. absurd (let back : q ≡ n = sym same ∙ is in let yes = eq-eqb q n back in cc)) in
        whatever (length (rows_at q rs) ≡ 1) (length (rows_at q (rs ++ row ∷ [])) ≡ 1)
        (λ one. ap length (ends_with q ∙ ap (λ (t : Bool). rows_at q rs ++ (if t then row ∷ [] else [])) apart ∙ append-nil (rows_at q rs)) ∙ one) (row_in q old) (are.once q)

    named_by : (q : ℕ) (t : Bool) → (q == n) ≡ t → IfSome (if t then Some k else row_in q old) (λ x. order_in x.reference new ≡ Some q)
    named_by q true e = adds.named k.reference ∙ ap (λ (t : Bool). if t then Some n else order_in k.reference old) (self_text k.reference) ∙ ap Some (sym (eqb-true q n e))
    named_by q false e = turned (λ x. order_in x.reference old ≡ Some q) (λ x. order_in x.reference new ≡ Some q) (λ x was. adds.named x.reference ∙ by x was (bytes_eq k.reference x.reference) refl) (row_in q old) (are.named q) where
      by : (x : KnownRow) → order_in x.reference old ≡ Some q → (t : Bool) → bytes_eq k.reference x.reference ≡ t → (if t then Some n else order_in x.reference old) ≡ Some q
      by x was true e =
          let same : k.reference ≡ x.reference = same_text k.reference x.reference (sym e) in
          let no : order_in x.reference old ≡ None = ap (λ (r : List ℕ). order_in r old) (sym same) ∙ adds.unnamed in
          absurd cc
      by x was false e = was

-- ---- sums

pub sums_added : (since : ℕ) (k : KnownRow) (s0 s1 : Sums) (rs : List Row) (row : Row) → Fits k row → k.settled ≡ None → Holds k.debit k.total s0 s1 → AreSums since s0 rs → AreSums since s1 (rs ++ row ∷ [])
sums_added since k s0 s1 rs row fits held holds are = record {
  held = λ of.
      let more = ap (sum_by (held_weight of)) facts ∙ sum_by-append (held_weight of) (facts_in rs) (row_facts row) in
      let a : sum_by (held_weight of) (row_facts row) ≡ in_direction k.debit of k.total =
      held_row_holds row states of ∙ ap (λ (d : Bool). in_direction d of (sum_by (λ f. f.cents) (row_facts row))) fits.debit ∙ ap (in_direction k.debit of) fits.total in
      let c = holds.held of in
      let e = are.held of ∙ held_sum of (facts_in rs) in
      let f = held_sum of (facts_in (rs ++ row ∷ [])) in
      omega (arith, more, a, c, e, f);
  settled = λ of days from.
      let more = ap (sum_by (day_weight of days)) facts ∙ sum_by-append (day_weight of days) (facts_in rs) (row_facts row) in
      let a = held_row_settles_none row states of days in
      let c = holds.settled of days in
      let e = are.settled of days from ∙ day_sum of days (facts_in rs) in
      let f = day_sum of days (facts_in (rs ++ row ∷ [])) in
      omega (arith, more, a, c, e, f);
} where
  facts : facts_in (rs ++ row ∷ []) ≡ facts_in rs ++ row_facts row
  facts = flat_map-append row_facts rs (row ∷ []) ∙ ap (λ (fs : List EntryFact). facts_in rs ++ fs) (append-nil (row_facts row))

  states : AllByRecursion (λ f. place_of f.state ≡ Some None) (row_facts row)
  states = each_map (λ f. place_of f.state ≡ Some k.settled) (λ f. place_of f.state ≡ Some None) (λ f e. e ∙ ap Some held) (row_facts row) fits.stands

-- ---- both

rows_kept_on : (since n : ℕ) (k : KnownRow) (old new : Option OpenRows) → KeepsOn n k old new → (rs : List Row) (row : Row) → rows_at n rs ≡ [] → row.order ≡ n → Fits k row
    → IfSome old (λ m. AreRows since m rs) → IfSome new (λ m. AreRows since m (rs ++ row ∷ []))
rows_kept_on since n k old None keeps rs row none is fits are = tt
rows_kept_on since n k None (Some new) keeps rs row none is fits are = absurd keeps
rows_kept_on since n k (Some old) (Some new) adds rs row none is fits are = rows_added since n k old new adds rs row none is fits are

pub added_followed : (since : ℕ) (k : KnownRow) (s0 s1 : Sums) (old new : Option OpenRows) (n : ℕ) (rs : List Row) (row : Row) → KeepsOn n k old new → k.settled ≡ None → Holds k.debit k.total s0 s1
    → rows_at n rs ≡ [] → row.order ≡ n → Fits k row → IsOf (record { since = since; sums = s0; rows = old }) rs → IsOf (record { since = since; sums = s1; rows = new }) (rs ++ row ∷ [])
added_followed since k s0 s1 old new n rs row keeps held holds none is fits was = record {
  sums = sums_added since k s0 s1 rs row fits held holds was.sums;
  rows = rows_kept_on since n k old new keeps rs row none is fits was.rows;
}
