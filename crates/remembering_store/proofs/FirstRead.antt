-- What is kept of an open submission fits its row, and what is read of a list of them is right of their rows.
use Rattle.std.proofs.Common.{◌≡◌, ◌∙◌, refl, ap, sym, subst, ℕ, Bool, true, false, List, [], ◌∷◌, ◌++◌, append_assoc, length, map, Option, None, Some, arith, true≢false}
use Rattle.std.specs.Prelude.{if◌then◌else◌, ◌&&◌}
use Rattle.std.specs.List.{AllByRecursion}
use Rattle.std.proofs.lemmas.Bool.{eqb-true}
use Rattle.std.proofs.lemmas.List.{append-nil}
use Rattle.desk_rules.specs.declared.rules.entry_fact.EntryFact.{EntryFact}
use Rattle.desk_rules.specs.declared.rules.entry_fact.EntryState.{EntryState}
use Rattle.desk_rules.specs.declared.rules.entry_fact.EntryState.TheVariants.{Held, Sent, Returned, Lapsed}
use Rattle.desk_rules.specs.LimitChecks.{is_debit}
use Rattle.desk_book.specs.declared.open_submission.OpenSubmission.{OpenSubmission}
use Rattle.desk_book.specs.declared.row.Row.{Row}
use Rattle.desk_book.specs.OpenSubmissions.{open_submission, settle_as, settles_as, standing_cents}
use Rattle.desk_book.specs.Standing.{row_facts}
use Rattle.remembering_store.specs.KnownRow.{KnownRow, Fits, place_of}
use Rattle.remembering_store.specs.Remembered.{AreAllKept, IsOf}
use Rattle.remembering_store.specs.declared.sums.open_rows.OpenRows.{OpenRows}
use Rattle.remembering_store.specs.declared.sums.remembered.Remembered.{Remembered}

-- ---- one submission

stands : (settled : Option ℕ) (s : EntryState) → settles_as settled s ≡ true → place_of s ≡ Some settled
stands None Held is = refl
stands None (Sent on) is = absurd (true≢false (sym is))
stands None (Returned on code taken late) is = absurd (true≢false (sym is))
stands None Lapsed is = absurd (true≢false (sym is))
stands (Some day) Held is = absurd (true≢false (sym is))
stands (Some day) (Sent on) is = ap (λ (n : ℕ). Some (Some n)) (eqb-true on day is)
stands (Some day) (Returned on code taken late) is = ap (λ (n : ℕ). Some (Some n)) (eqb-true on day is)
stands (Some day) Lapsed is = absurd (true≢false (sym is))

first_and : (a b : Bool) → (a && b) ≡ true → a ≡ true
first_and true b is = refl
first_and false b is = is

rest_and : (a b : Bool) → (a && b) ≡ true → b ≡ true
rest_and true b is = is
rest_and false b is = absurd (true≢false (sym is))

all_stand : (settled : Option ℕ) (fs : List EntryFact) → settle_as settled fs ≡ true → AllByRecursion (λ f. place_of f.state ≡ Some settled) fs
all_stand settled [] is = tt
all_stand settled (f ∷ fs) is =
    (stands settled f.state (first_and (settles_as settled f.state) (settle_as settled fs) is), all_stand settled fs (rest_and (settles_as settled f.state) (settle_as settled fs) is))

abbrev known_of : OpenSubmission → KnownRow
known_of x = record { reference = x.reference; debit = is_debit x.direction; settled = x.settled; total = x.total; cents = x.cents }

uniform_fits : (row : Row) → settle_as row.settled (row_facts row) ≡ true → Fits (known_of (open_submission row)) row
uniform_fits row uniform = record {
  reference = refl;
  debit = refl;
  stands = all_stand row.settled (row_facts row) uniform;
  total = refl;
  cents = λ debit. sym (ap (λ (t : Bool). if t then map standing_cents (row_facts row) else []) debit);
}

of_known : (x : OpenSubmission) (row : Row) → x.uniform ≡ true → x ≡ open_submission row → Fits (known_of x) row
of_known x row uniform is =
    subst (λ (y : OpenSubmission). Fits (known_of y) row) (sym is) (uniform_fits row (sym (ap (λ (y : OpenSubmission). y.uniform) is) ∙ uniform))

pub open_fits : (x : OpenSubmission) (row : Row) (debit : Bool) (cents : List ℕ) → x.uniform ≡ true → debit ≡ is_debit x.direction → cents ≡ x.cents → x ≡ open_submission row
    → Fits (record { reference = x.reference; debit = debit; settled = x.settled; total = x.total; cents = cents }) row
open_fits x row debit cents uniform same are is =
    subst (λ (k : KnownRow). Fits k row) (λ i. record (known_of x) { debit = sym same i; cents = sym are i }) (of_known x row uniform is)

-- ---- one submission after another

-- what is read agrees with the first of these rows, of which the others are left
pub record IsUpTo (m : Remembered) (left : List OpenSubmission) (rs : List Row) : Type 0 where
  pub done : List Row
  pub rest : List Row
  pub whole : rs ≡ done ++ rest
  pub are : left ≡ map open_submission rest
  pub right : IsOf m done
  pub kept : AreAllKept m.rows done

not_none : (x : OpenSubmission) (xs : List OpenSubmission) → x ∷ xs ≡ [] → ⊥
not_none x xs same = cc

first_is : (x y : OpenSubmission) (xs ys : List OpenSubmission) → x ∷ xs ≡ y ∷ ys → x ≡ y
first_is x y xs ys same = cc

rest_is : (x y : OpenSubmission) (xs ys : List OpenSubmission) → x ∷ xs ≡ y ∷ ys → xs ≡ ys
rest_is x y xs ys same = cc

module _ (m n : Remembered) (x : OpenSubmission) (left : List OpenSubmission) (rs : List Row)
    (loads : (done : List Row) (row : Row) → x ≡ open_submission row → IsOf m done → AreAllKept m.rows done → IsOf n (done ++ row ∷ []) × AreAllKept n.rows (done ++ row ∷ [])) where
  next : (done rest : List Row) → rs ≡ done ++ rest → x ∷ left ≡ map open_submission rest → IsOf m done → AreAllKept m.rows done → IsUpTo n left rs
  next done [] whole are right kept = absurd (not_none x left are)
  next done (row ∷ rest) whole are right kept =
      let loaded = loads done row (first_is x (open_submission row) left (map open_submission rest) are) right kept in
      record {
        done = done ++ row ∷ [];
        rest = rest;
        whole = whole ∙ sym (append_assoc done (row ∷ []) rest);
        are = rest_is x (open_submission row) left (map open_submission rest) are;
        right = loaded.0;
        kept = loaded.1;
      }

  pub one_more : IsUpTo m (x ∷ left) rs → IsUpTo n left rs
  one_more so_far = next so_far.done so_far.rest so_far.whole so_far.are so_far.right so_far.kept

-- where nothing is left, it agrees with all of them
pub read_all : (m : Remembered) (left : List OpenSubmission) (rs : List Row) → left ≡ [] → IsUpTo m left rs → IsOf m rs
read_all m left rs none so_far = go so_far.rest so_far.whole so_far.are where
  go : (rest : List Row) → rs ≡ so_far.done ++ rest → left ≡ map open_submission rest → IsOf m rs
  go [] whole are = subst (IsOf m) (sym (whole ∙ append-nil so_far.done)) so_far.right
  go (row ∷ rest) whole are = absurd (not_none (open_submission row) (map open_submission rest) (sym are ∙ none))

-- at first nothing is read
pub begun : (m : Remembered) (items : List OpenSubmission) → IsOf m [] → (rs : List Row) → items ≡ map open_submission rs → IsUpTo m items rs
begun m items none rs are = record { done = []; rest = rs; whole = refl; are = are; right = none; kept = none_kept m.rows } where
  none_kept : (o : Option OpenRows) → AreAllKept o []
  none_kept None = tt
  none_kept (Some kept) = tt

pub none_left : (xs : List OpenSubmission) → length xs ≡ 0 → xs ≡ []
none_left [] none = refl
none_left (x ∷ xs) none = absurd (omega (arith, none))
