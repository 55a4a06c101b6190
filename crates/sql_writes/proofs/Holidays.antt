-- Days that ascend, each put in, are the list.
use Rattle.std.proofs.Common.{◌≡◌, ◌<◌, ℕ, suc, ◌+◌, cond, List, [], ◌∷◌, ◌++◌, slice_index, refl, sym, ap, ◌∙◌, subst, arith, is_gt, Less, Greater, append-nil}
use Rattle.std.proofs.lemmas.Cmp.{nat_cmp_total}
use Rattle.std.specs.List.{AllByRecursion}
use Rattle.std.specs.List.Sorted.{IsStrictlyIncreasing}
use Rattle.std.specs.Ordering.{nat_cmp, ordering_reverse}
use Rattle.sqlite_keyed.specs.Lists.{insert_sorted}
use Rattle.sqlite_keyed.proofs.ListLemmas.{all_weaker}
use Rattle.sql_statements.specs.Edits.{each_edit_from}
use Rattle.sql_tables.specs.KeyOrders.{IsInOrder}
use Rattle.sql_tables.specs.TableEdits.{set_holidays_edit}
use Rattle.sql_tables.specs.Tables.{Tables}
use Rattle.sql_writes.specs.HolidayEdits.{put_holiday_edit}

rest : (x : ℕ) (xs : List ℕ) → IsStrictlyIncreasing (x ∷ xs) → IsStrictlyIncreasing xs
rest x xs up k small = subst (λ n. slice_index xs k < slice_index (x ∷ xs) n) (one_more k) (up (suc k) (omega (arith, small)))
  where
    one_more : (n : ℕ) → suc n + 1 ≡ suc (n + 1)
    one_more n = omega arith

below : (x : ℕ) (xs : List ℕ) → IsStrictlyIncreasing (x ∷ xs) → AllByRecursion (λ y. nat_cmp x y ≡ Less) xs
below x [] up = tt
below x (y ∷ ys) up =
    let first : x < y = up 0 (omega arith) in
    let less : nat_cmp x y ≡ Less = is_less x y first in
    (less, all_weaker (λ z. nat_cmp y z ≡ Less) (λ z. nat_cmp x z ≡ Less) (λ z. nat_cmp_total.trans x y z less) ys (below y ys (rest x (y ∷ ys) up)))
  where
    is_less : (a b : ℕ) → a < b → nat_cmp a b ≡ Less
    is_less a b h = grind arith

ascend : (xs : List ℕ) → IsStrictlyIncreasing xs → IsInOrder nat_cmp xs
ascend [] up = tt
ascend (x ∷ xs) up = (below x xs up, ascend xs (rest x xs up))

last_of : (xs : List ℕ) (x : ℕ) (more : List ℕ) → IsInOrder nat_cmp (xs ++ x ∷ more) → insert_sorted nat_cmp x xs ≡ xs ++ x ∷ []
last_of [] x more up = refl
last_of (y ∷ xs) x more up =
    let above : nat_cmp x y ≡ Greater = nat_cmp_total.antisymm x y ∙ ap ordering_reverse (middle xs up.0) in
    ap (λ o. cond (is_gt o) (y ∷ insert_sorted nat_cmp x xs) (x ∷ y ∷ xs)) above ∙ ap (λ l. y ∷ l) (last_of xs x more up.1)
  where
    middle : (l : List ℕ) → AllByRecursion (λ z. nat_cmp y z ≡ Less) (l ++ x ∷ more) → nat_cmp y x ≡ Less
    middle [] all = all.0
    middle (z ∷ l) all = middle l all.1

append_more : (xs : List ℕ) (x : ℕ) (more : List ℕ) → (xs ++ x ∷ []) ++ more ≡ xs ++ x ∷ more
append_more [] x more = refl
append_more (y ∷ xs) x more = ap (λ l. y ∷ l) (append_more xs x more)

grown : (n : ℕ) (before days : List ℕ) (t : Tables) → IsInOrder nat_cmp (before ++ days) → (each_edit_from (λ _. put_holiday_edit) n days).after (record t { holidays = before }) ≡ record t { holidays = before ++ days }
grown n before [] t up = ap (λ l. record t { holidays = l }) (sym (append-nil before))
grown n before (d ∷ days) t up =
    ap (λ l. (each_edit_from (λ _. put_holiday_edit) (n + 1) days).after (record t { holidays = l })) (last_of before d days up)
    ∙ grown (n + 1) (before ++ d ∷ []) days t (subst (IsInOrder nat_cmp) (sym (append_more before d days)) up)
    ∙ ap (λ l. record t { holidays = l }) (append_more before d days)

pub all_put : (days : List ℕ) (t : Tables) → IsStrictlyIncreasing days → (each_edit_from (λ _. put_holiday_edit) 1 days).after (record t { holidays = [] }) ≡ (set_holidays_edit days).after t
all_put days t up = grown 1 [] days t (ascend days up)
