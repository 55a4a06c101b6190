-- Balances in the order of their key are told by what is found of each account and value day.
use Rattle.std.proofs.Common.{◌≡◌, ℕ, ℤ, Bool, true, false, ◌&&◌, ◌==◌, cond, List, [], ◌∷◌, find, Option, Some, None, option_map, refl, sym, ap, ◌∙◌, subst, Ordering, Less, Equal, Greater, is_eq}
use Rattle.std.specs.List.{AllByRecursion}
use Rattle.std.specs.Ordering.{ordering_reverse}
use Rattle.std.proofs.lemmas.Bool.{and_parts, and_from}
use Rattle.sqlite_keyed.proofs.ListLemmas.{all_weaker}
use Rattle.desk_accounts.proofs.Same.{same_is}
use Rattle.desk_accounts.specs.Posting.{same_account}
use Rattle.desk_accounts.specs.declared.account.Account.{Account}
use Rattle.sql_tables.specs.Beside.{is_balance_of, balance_of}
use Rattle.sql_tables.specs.Description.{key_cmp}
use Rattle.sql_tables.specs.DeskTables as the
use Rattle.sql_tables.specs.KeyOrders.{IsInOrder}
use Rattle.sql_tables.specs.declared.records.BalanceRecord.{BalanceRecord}
use Rattle.sql_writes.proofs.Conditions.{same_number, number_itself}
use Rattle.sql_writes.proofs.BalanceUpserts.{balance_total, equal_balances}

-- ---- keys

-- what passes has the account and the value day
pub same_key : (own account : Account) (number day : ℕ) → (same_account own account && number == day) ≡ true → (own ≡ account) × (number ≡ day)
same_key own account number day is =
    let both = and_parts (same_account own account) (number == day) is in
    ((same_is (same_account own account) own account refl).0 both.0, same_number number day both.1)

pub own_key : (account : Account) (day : ℕ) → (same_account account account && day == day) ≡ true
own_key account day = and_from _ _ ((same_is (same_account account account) account account refl).1 refl) (number_itself day)

-- ---- one list

abbrev IsBelow : BalanceRecord → List BalanceRecord → Type 0
IsBelow x xs = AllByRecursion (λ y. key_cmp the.balances x y ≡ Less) xs

first_found : (x : BalanceRecord) (xs : List BalanceRecord) → balance_of (x ∷ xs) x.account x.value_day ≡ Some x.cents
first_found x xs = ap (λ b. option_map (λ (y : BalanceRecord). y.cents) (cond b (Some x) (find (is_balance_of x.account x.value_day) xs))) (own_key x.account x.value_day)

none_above : (x : BalanceRecord) (xs : List BalanceRecord) → IsBelow x xs → balance_of xs x.account x.value_day ≡ None
none_above x [] below = refl
none_above x (y ∷ ys) below =
    let apart : is_balance_of x.account x.value_day y ≡ false = sym (equal_balances y x) ∙ ap is_eq (balance_total.antisymm y x ∙ ap ordering_reverse below.0) in
    ap (λ b. option_map (λ (z : BalanceRecord). z.cents) (cond b (Some y) (find (is_balance_of x.account x.value_day) ys))) apart ∙ none_above x ys below.1

none_there : {n : ℤ} → ◌≡◌ {A = Option ℤ} None (Some n) → ⊥
none_there h = cc

same_cents : {m n : ℤ} → ◌≡◌ {A = Option ℤ} (Some m) (Some n) → m ≡ n
same_cents h = cc

-- ---- two lists

-- after a first balance that both have
same_behind : (x : BalanceRecord) (xs ys : List BalanceRecord) → IsBelow x xs → IsBelow x ys → ((a : Account) (d : ℕ) → balance_of (x ∷ xs) a d ≡ balance_of (x ∷ ys) a d) → (a : Account) (d : ℕ) → balance_of xs a d ≡ balance_of ys a d
same_behind x xs ys up vp same a d = go (is_balance_of a d x) refl (same a d)
  where
    go : (b : Bool) → is_balance_of a d x ≡ b
        → option_map (λ (y : BalanceRecord). y.cents) (cond b (Some x) (find (is_balance_of a d) xs)) ≡ option_map (λ (y : BalanceRecord). y.cents) (cond b (Some x) (find (is_balance_of a d) ys))
        → balance_of xs a d ≡ balance_of ys a d
    go true e h =
        let key = same_key x.account a x.value_day d e in
        (λ i. balance_of xs (sym key.0 i) (sym key.1 i)) ∙ none_above x xs up ∙ sym (none_above x ys vp) ∙ (λ i. balance_of ys (key.0 i) (key.1 i))
    go false e h = h

pub same_balances : (xs ys : List BalanceRecord) → IsInOrder (key_cmp the.balances) xs → IsInOrder (key_cmp the.balances) ys → ((a : Account) (d : ℕ) → balance_of xs a d ≡ balance_of ys a d) → xs ≡ ys
same_balances [] [] up vp same = refl
same_balances [] (y ∷ ys) up vp same = absurd (none_there (same y.account y.value_day ∙ first_found y ys))
same_balances (x ∷ xs) [] up vp same = absurd (none_there (sym (same x.account x.value_day) ∙ first_found x xs))
same_balances (x ∷ xs) (y ∷ ys) up vp same = go (key_cmp the.balances x y) refl (same_balances xs ys up.1 vp.1)
  where
    go : (o : Ordering) → key_cmp the.balances x y ≡ o → (((a : Account) (d : ℕ) → balance_of xs a d ≡ balance_of ys a d) → xs ≡ ys) → x ∷ xs ≡ y ∷ ys
    go Less e more =
        let none = none_above x (y ∷ ys) (e, all_weaker _ (λ z. key_cmp the.balances x z ≡ Less) (λ z. balance_total.trans x y z e) ys vp.0) in
        absurd (none_there (sym none ∙ sym (same x.account x.value_day) ∙ first_found x xs))
    go Greater e more =
        let back : (key_cmp the.balances) y x ≡ Less = balance_total.antisymm y x ∙ ap ordering_reverse e in
        let none = none_above y (x ∷ xs) (back, all_weaker _ (λ z. key_cmp the.balances y z ≡ Less) (λ z. balance_total.trans y x z back) xs up.0) in
        absurd (none_there (sym none ∙ same y.account y.value_day ∙ first_found y ys))
    go Equal e more =
        let key = same_key x.account y.account x.value_day y.value_day (sym (equal_balances x y) ∙ ap is_eq e) in
        let cents : x.cents ≡ y.cents = same_cents (sym (first_found x xs) ∙ same x.account x.value_day ∙ (λ i. balance_of (y ∷ ys) (key.0 i) (key.1 i)) ∙ first_found y ys) in
        let one : x ≡ y = λ i. record { account = key.0 i; value_day = key.1 i; cents = cents i } in
        let rest : xs ≡ ys = more (same_behind x xs ys up.0 (subst (λ z. IsBelow z ys) (sym one) vp.0) (λ a d. same a d ∙ (λ i. balance_of (sym one i ∷ ys) a d))) in
        λ i. one i ∷ rest i
