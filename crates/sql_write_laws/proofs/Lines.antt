-- A line keeps that the balances are the sums of the lines.
use Rattle.std.proofs.lemmas.List.{append-nil}
use Rattle.std.proofs.Common.{◌≡◌, ℕ, ◌&&◌, ◌==◌, ℤ, pos, ◌+ℤ◌, Bool, true, false, cond, List, [], ◌∷◌, ◌++◌, Some, unwrap_or, refl, sym, ap, ◌∙◌}
use Rattle.std.proofs.lemmas.Bool.{and_parts, eqb-true}
use Rattle.std.proofs.lemmas.List.Elements.{filter-append}
use Rattle.std.proofs.lemmas.List.Sums.{fold-append}
use Rattle.desk_accounts.specs.declared.account.Account.{Account}
use Rattle.desk_accounts.specs.declared.posting.Posting.{Posting}
use Rattle.desk_accounts.specs.Balance.{lines_of, lines_on, total}
use Rattle.desk_accounts.specs.Posting.{same_account}
use Rattle.desk_accounts.proofs.Same.{same_is}
use Rattle.sql_tables.specs.Beside.{is_balance_of, balance_of, sum_if_any, AreSums}
use Rattle.sql_tables.specs.Description.{key_cmp}
use Rattle.sql_tables.specs.DeskTables as the
use Rattle.sql_tables.specs.TableEdits.{with_balance}
use Rattle.sql_tables.specs.declared.records.BalanceRecord.{BalanceRecord}
use Rattle.sql_write_laws.proofs.Upserts.{put_found}

account_same : (a b : Account) → same_account a b ≡ true → a ≡ b
account_same a b is = (same_is (same_account a b) a b refl).0 is

abbrev is_key : Account × ℕ → BalanceRecord → Bool
is_key k b = is_balance_of k.0 k.1 b

abbrev key_eq : Account × ℕ → Account × ℕ → Bool
key_eq k j = same_account k.0 j.0 && k.1 == j.1

-- the balance of an account and value day is set, and no other
pub balance_put : (account : Account) (day : ℕ) (cents : ℤ) (bs : List BalanceRecord) (a : Account) (d : ℕ) → balance_of (with_balance account day cents bs) a d ≡ cond (same_account account a && day == d) (Some cents) (balance_of bs a d)
balance_put account day cents bs a d =
    put_found (key_cmp the.balances) is_key (λ b. b.cents) key_eq (account, day) (record { account = account; value_day = day; cents = cents }) (λ b. record b { cents = cents }) cents
    (λ j. refl) (λ j b. refl) refl (λ b. refl) mine same bs (a, d)
  where
    mine : (j : Account × ℕ) (b : BalanceRecord) → is_key (account, day) b ≡ true → is_key j b ≡ key_eq (account, day) j
    mine j b is = let both = and_parts _ _ is in λ i. same_account (account_same b.account account both.0 i) j.0 && eqb-true b.value_day day both.1 i == j.1

    same : (j : Account × ℕ) → key_eq (account, day) j ≡ true → (b : BalanceRecord) → is_key j b ≡ is_key (account, day) b
    same j is b = let both = and_parts _ _ is in λ i. same_account b.account (sym (account_same account j.0 both.0) i) && b.value_day == sym (eqb-true day j.1 both.1) i

-- ---- sums

abbrev lines_at : Account → ℕ → List Posting → List Posting
lines_at a d ps = lines_on d (lines_of a ps)

lines_more : (a : Account) (d : ℕ) (ps : List Posting) (p : Posting) → lines_at a d (ps ++ p ∷ []) ≡ cond (same_account p.account a && p.value_day == d) (lines_at a d ps ++ p ∷ []) (lines_at a d ps)
lines_more a d ps p =
    ap (lines_on d) (filter-append (λ (line : Posting). same_account line.account a) ps (p ∷ []))
    ∙ filter-append (λ (line : Posting). line.value_day == d) (lines_of a ps) (lines_of a (p ∷ []))
    ∙ elim (same_account p.account a) as (λ s. lines_at a d ps ++ lines_on d (cond s (p ∷ []) []) ≡ cond (s && p.value_day == d) (lines_at a d ps ++ p ∷ []) (lines_at a d ps)) [
      | true ↦ elim (p.value_day == d) as (λ s. lines_at a d ps ++ cond s (p ∷ []) [] ≡ cond s (lines_at a d ps ++ p ∷ []) (lines_at a d ps)) [ true ↦ refl | false ↦ append-nil (lines_at a d ps) ]
      | false ↦ append-nil (lines_at a d ps)
    ]

total_more : (ls : List Posting) (p : Posting) → total (ls ++ p ∷ []) ≡ total ls +ℤ p.cents
total_more ls p = fold-append (λ sum (x : Posting). sum +ℤ x.cents) (pos 0) ls (p ∷ [])

sum_more : (ls : List Posting) (p : Posting) → sum_if_any (ls ++ p ∷ []) ≡ Some (unwrap_or (sum_if_any ls) (pos 0) +ℤ p.cents)
sum_more [] p = refl
sum_more (l ∷ ls) p = ap Some (total_more (l ∷ ls) p)

abbrev sum_before : List BalanceRecord → Posting → ℤ
sum_before bs p = unwrap_or (balance_of bs p.account p.value_day) (pos 0)

pub sums_kept : (bs : List BalanceRecord) (ps : List Posting) (p : Posting) → AreSums bs ps
    → AreSums (with_balance p.account p.value_day (unwrap_or (balance_of bs p.account p.value_day) (pos 0) +ℤ p.cents) bs) (ps ++ p ∷ [])
sums_kept bs ps p are a d =
    balance_put p.account p.value_day _ bs a d
    ∙ go (same_account p.account a && p.value_day == d) refl
    ∙ ap sum_if_any (sym (lines_more a d ps p))
  where
    go : (b : Bool) → (same_account p.account a && p.value_day == d) ≡ b
        → cond (same_account p.account a && p.value_day == d) (Some (sum_before bs p +ℤ p.cents)) (balance_of bs a d) ≡ sum_if_any (cond (same_account p.account a && p.value_day == d) (lines_at a d ps ++ p ∷ []) (lines_at a d ps))
    go true is =
        let both = and_parts _ _ is in
        let here : balance_of bs p.account p.value_day ≡ sum_if_any (lines_at a d ps) = (λ i. balance_of bs (account_same p.account a both.0 i) (eqb-true p.value_day d both.1 i)) ∙ are a d in
        ap (λ t. cond t (Some (sum_before bs p +ℤ p.cents)) (balance_of bs a d)) is
        ∙ ap (λ o. Some (unwrap_or o (pos 0) +ℤ p.cents)) here
        ∙ sym (sum_more (lines_at a d ps) p)
        ∙ ap (λ t. sum_if_any (cond t (lines_at a d ps ++ p ∷ []) (lines_at a d ps))) (sym is)
    go false is =
        ap (λ t. cond t (Some (sum_before bs p +ℤ p.cents)) (balance_of bs a d)) is
        ∙ are a d
        ∙ ap (λ t. sum_if_any (cond t (lines_at a d ps ++ p ∷ []) (lines_at a d ps))) (sym is)
