-- Lines are added to pending balances, which are written later.
use Rattle.std.proofs.Common.{◌≡◌, ◌<◌, ℕ, ℤ, pos, ◌+ℤ◌, Bool, true, false, ◌&&◌, ◌==◌, cond, IsTrue, List, [], ◌∷◌, ◌++◌, take, drop, set, get_or, length, find, Option, Some, None, option_map, unwrap_or, refl, sym, ap, ◌∙◌, subst, take-append-drop, length-set, drop_of_length-le, append-nil, arith}
use Rattle.std.specs.List.{position_or_len, refill}
use Rattle.std.specs.Option.{option_or}
use Rattle.std.specs.Prelude.{⊤, slice_get}
use Rattle.std.proofs.lemmas.List.{take_all}
use Rattle.std.proofs.lemmas.List.Folds.{find_at, find-set, find_past, find-append}
use Rattle.std.proofs.lemmas.List.Sums.{passes_at_first, fold-append}
use Rattle.std.proofs.lemmas.Option.{slice_get-get_or, slice_get_past}
use Rattle.sqlite.specs.State.{State}
use Rattle.sql_statements.specs.Layouts.{Holds}
use Rattle.sql_statements.specs.Transactions.{Makes}
use Rattle.desk_accounts.specs.Posting.{same_account}
use Rattle.desk_accounts.specs.declared.account.Account.{Account}
use Rattle.desk_accounts.specs.declared.posting.Posting.{Posting}
use Rattle.sql_tables.specs.ByName as named
use Rattle.sql_tables.specs.Beside.{balance_of}
use Rattle.sql_tables.specs.Description.{key_cmp}
use Rattle.sql_tables.specs.DeskTables as the
use Rattle.sql_tables.specs.KeyOrders.{IsInOrder}
use Rattle.sql_tables.specs.Layout.{desk_layout}
use Rattle.sql_tables.specs.TableEdits.{with_balance}
use Rattle.sql_tables.specs.declared.records.BalanceRecord.{BalanceRecord}
use Rattle.sql_write_laws.proofs.Found.{or_none}
use Rattle.sql_write_laws.proofs.Lines.{balance_put}
use Rattle.sql_writes.specs.LineEdits.{sum_is, put_balance_edit, with_line, with_lines}
use Rattle.sql_writes.specs.PendingBalances.{is_pending_of, summed, pending_of, StandsFor, AddsLine, MakesBut}
use Rattle.sql_writes.specs.declared.account_lines.pending.PendingBalance.{PendingBalance}
use Rattle.sql_writes.proofs.BalanceLists.{same_key, own_key, same_balances}
use Rattle.sql_writes.proofs.BalanceUpserts.{put_rises}

-- ---- which balances are pending

abbrev cents_of : Option PendingBalance → Option ℤ
cents_of = option_map (λ b. b.cents)

pub none_pending : (a : Account) (d : ℕ) (xs : List PendingBalance) → length xs ≡ position_or_len (is_pending_of a d) xs → pending_of xs a d ≡ None
none_pending a d xs at = ap cents_of (find_at (is_pending_of a d) xs ∙ slice_get_past xs (position_or_len (is_pending_of a d) xs) (omega (arith, at)))

pub none_in_front : (a : Account) (d n : ℕ) (xs : List PendingBalance) → pending_of xs a d ≡ None → pending_of (take n xs) a d ≡ None
none_in_front a d n xs none =
    in_front (find (is_pending_of a d) (take n xs)) (find (is_pending_of a d) (drop n xs))
    (ap cents_of (sym (find-append (is_pending_of a d) (take n xs) (drop n xs)) ∙ ap (find (is_pending_of a d)) (take-append-drop n xs)) ∙ none)
  where
    in_front : (o p : Option PendingBalance) → cents_of (option_or o p) ≡ None → cents_of o ≡ None
    in_front None p h = refl
    in_front (Some b) p h = cc

module _ (p : Posting) (sum : ℤ) where
  -- this sum of the line's account and value day is pending, and the others as before
  abbrev pub IsSet : (before after : List PendingBalance) → Type 0
  IsSet before after = (a : Account) (d : ℕ) → pending_of after a d ≡ cond (same_account p.account a && p.value_day == d) (Some sum) (pending_of before a d)

  pub set_new : (xs : List PendingBalance) → pending_of xs p.account p.value_day ≡ None → IsSet xs (xs ++ summed p sum ∷ [])
  set_new xs none a d = ap cents_of (find-append (is_pending_of a d) xs (summed p sum ∷ [])) ∙ go (same_account p.account a && p.value_day == d) refl
    where
      behind : (o : Option PendingBalance) → cents_of o ≡ None → cents_of (option_or o (Some (summed p sum))) ≡ Some sum
      behind None h = refl
      behind (Some b) h = cc

      go : (b : Bool) → (same_account p.account a && p.value_day == d) ≡ b
          → cents_of (option_or (find (is_pending_of a d) xs) (cond b (Some (summed p sum)) None)) ≡ cond b (Some sum) (pending_of xs a d)
      go true e = let key = same_key p.account a p.value_day d e in behind (find (is_pending_of a d) xs) ((λ i. pending_of xs (sym key.0 i) (sym key.1 i)) ∙ none)
      go false e = ap cents_of (or_none (find (is_pending_of a d) xs))

  pub set_there : (xs : List PendingBalance) (at : ℕ) → at ≡ position_or_len (is_pending_of p.account p.value_day) xs → at < length xs → IsSet xs (set xs at (summed p sum))
  set_there xs at first within a d = go (same_account p.account a && p.value_day == d) refl
    where
      there : is_pending_of p.account p.value_day (get_or xs at (summed p sum)) ≡ true
      there = subst (λ n. is_pending_of p.account p.value_day (get_or xs n (summed p sum)) ≡ true) (sym first) (passes_at_first (is_pending_of p.account p.value_day) xs (summed p sum) (subst (λ n. n < length xs) first within))

      go : (b : Bool) → (same_account p.account a && p.value_day == d) ≡ b → pending_of (set xs at (summed p sum)) a d ≡ cond b (Some sum) (pending_of xs a d)
      go true e =
          let key = same_key p.account a p.value_day d e in
          (λ i. pending_of (set xs at (summed p sum)) (sym key.0 i) (sym key.1 i))
          ∙ ap cents_of (find-set (is_pending_of p.account p.value_day) xs at (summed p sum) first within (own_key p.account p.value_day))
      go false e =
          let own = same_key (get_or xs at (summed p sum)).account p.account (get_or xs at (summed p sum)).value_day p.value_day there in
          ap cents_of (find_past (is_pending_of a d) xs at (summed p sum) (summed p sum) ((λ i. same_account (own.0 i) a && own.1 i == d) ∙ e) e)

-- the first balance of an account and value day is the pending one
pub there_pending : (a : Account) (d : ℕ) (xs : List PendingBalance) (at : ℕ) (b : PendingBalance) → at ≡ position_or_len (is_pending_of a d) xs → at < length xs → pending_of xs a d ≡ Some (get_or xs at b).cents
there_pending a d xs at b first within = ap cents_of (find_at (is_pending_of a d) xs ∙ subst (λ n. slice_get xs n ≡ Some (get_or xs at b)) first (slice_get-get_or xs at b within))

-- the balances as they were, with one that was set through a slice
pub set_through : (xs : List PendingBalance) (at : ℕ) (b : PendingBalance) → refill (length xs) xs (set xs at b) ≡ set xs at b
set_through xs at b =
    let same : length (set xs at b) ≡ length xs = length-set xs at b in
    ap (λ rest. take (length xs) (set xs at b ++ rest)) (drop_of_length-le xs {i = length (set xs at b)} (omega (arith, same)))
    ∙ ap (take (length xs)) (append-nil (set xs at b))
    ∙ take_all (length xs) (set xs at b) (omega (arith, same))

-- ---- what they stand for

pub stands_itself : (rows : List BalanceRecord) → IsInOrder (key_cmp the.balances) rows → StandsFor [] rows rows
stands_itself rows rise = record { rise = rise; found = λ a d. refl }

pub none_missing : (rows balances : List BalanceRecord) → IsInOrder (key_cmp the.balances) rows → StandsFor [] rows balances → rows ≡ balances
none_missing rows balances rise stands = same_balances rows balances rise stands.rise (λ a d. sym (stands.found a d))

pub line_added : (p : Posting) (sum : ℤ) (before after : List PendingBalance) (rows balances : List BalanceRecord) → IsSet p sum before after → sum ≡ unwrap_or (balance_of balances p.account p.value_day) (pos 0) +ℤ p.cents
    → StandsFor before rows balances → StandsFor after rows (with_line p balances)
line_added p sum before after rows balances is_set is stands = record {
  rise = put_rises (record { account = p.account; value_day = p.value_day; cents = unwrap_or (balance_of balances p.account p.value_day) (pos 0) +ℤ p.cents }) balances stands.rise;
  found = λ a d.
      balance_put p.account p.value_day _ balances a d
      ∙ elim (same_account p.account a && p.value_day == d) as (λ b. cond b (Some (unwrap_or (balance_of balances p.account p.value_day) (pos 0) +ℤ p.cents)) (balance_of balances a d) ≡ option_or (cond b (Some sum) (pending_of before a d)) (balance_of rows a d)) [
        | true ↦ ap Some (sym is)
        | false ↦ stands.found a d
      ]
      ∙ ap (λ o. option_or o (balance_of rows a d)) (sym (is_set a d));
}

last_written : (pending : List PendingBalance) (last : PendingBalance) (rows balances : List BalanceRecord) → StandsFor (pending ++ last ∷ []) rows balances → StandsFor pending (with_balance last.account last.value_day last.cents rows) balances
last_written pending last rows balances stands = record {
  rise = stands.rise;
  found = λ a d.
      stands.found a d
      ∙ ap (λ o. option_or (cents_of o) (balance_of rows a d)) (find-append (is_pending_of a d) pending (last ∷ []))
      ∙ either (find (is_pending_of a d) pending) (same_account last.account a && last.value_day == d) (balance_of rows a d)
      ∙ ap (option_or (pending_of pending a d)) (sym (balance_put last.account last.value_day last.cents rows a d));
}
  where
    either : (o : Option PendingBalance) (b : Bool) (r : Option ℤ) → option_or (cents_of (option_or o (cond b (Some last) None))) r ≡ option_or (cents_of o) (cond b (Some last.cents) r)
    either (Some x) b r = refl
    either None true r = refl
    either None false r = refl

-- ---- inside a transaction

pub but_same : (before after : List PendingBalance) (become : List BalanceRecord → List BalanceRecord) (s : State) → ((rows balances : List BalanceRecord) → StandsFor before rows balances → StandsFor after rows (become balances))
    → MakesBut before after become s s
but_same before after become s stand inside is_open = record {
  shown = record { was_open = is_open; is_open = is_open; now_is = refl; committed_is = refl; mode = inside };
  holds = λ t balances h stands. (t.balances, h, stand t.balances balances stands);
}

pub but_then : (a b c : List PendingBalance) (f g : List BalanceRecord → List BalanceRecord) (old mid new : State) → MakesBut a b f old mid → MakesBut b c g mid new → MakesBut a c (λ balances. g (f balances)) old new
but_then a b c f g old mid new first next inside is_open =
    let x = first inside is_open in
    let y = next (subst IsTrue (sym x.shown.mode) refl) x.shown.is_open in
    record {
      shown = record { was_open = x.shown.was_open; is_open = y.shown.is_open; now_is = refl; committed_is = y.shown.committed_is ∙ x.shown.committed_is; mode = y.shown.mode };
      holds = λ t balances h stands. let one = x.holds t balances h stands in y.holds (record t { balances = one.0 }) (f balances) one.1 one.2;
    }

pub but_written : (pending : List PendingBalance) (last : PendingBalance) (old new : State) → Makes desk_layout (put_balance_edit last.account last.value_day last.cents) old new → MakesBut (pending ++ last ∷ []) pending (λ balances. balances) old new
but_written pending last old new made inside is_open =
    let it = made inside is_open in
    record {
      shown = it.shown;
      holds = λ t balances h stands. (with_balance last.account last.value_day last.cents t.balances, (it.holds t h).0, last_written pending last t.balances balances stands);
    }

-- a line whose balance was not pending: its sum is read first
pub but_read : (p : Posting) (read : Option ℤ) (sum : ℤ) (pending : List PendingBalance) (old new : State) → Makes desk_layout (sum_is p.account p.value_day read) old new → pending_of pending p.account p.value_day ≡ None → sum ≡ unwrap_or read (pos 0) +ℤ p.cents
    → MakesBut pending (pending ++ summed p sum ∷ []) (with_line p) old new
but_read p read sum pending old new made none is inside is_open =
    let it = made inside is_open in
    record {
      shown = it.shown;
      holds = λ t balances h stands.
          let found = it.holds t h in
          let whole : balance_of balances p.account p.value_day ≡ read = stands.found p.account p.value_day ∙ ap (λ o. option_or o (balance_of t.balances p.account p.value_day)) none ∙ sym found.1 in (
            t.balances,
            found.0,
            line_added p sum pending (pending ++ summed p sum ∷ []) t.balances balances (set_new p sum pending none) (is ∙ ap (λ o. unwrap_or o (pos 0) +ℤ p.cents) (sym whole)) stands,
          );
    }

-- one more line
pub but_line : (ps : List Posting) (p : Posting) (before after : List PendingBalance) (old mid new : State) → MakesBut [] before (with_lines ps) old mid → MakesBut before after (with_line p) mid new → MakesBut [] after (with_lines (ps ++ p ∷ [])) old new
but_line ps p before after old mid new first next =
    subst (λ become. MakesBut [] after become old new) (λ i balances. sym (fold-append (λ sums q. with_line q sums) balances ps (p ∷ [])) i)
    (but_then [] before after (with_lines ps) (with_line p) old mid new first next)

-- a line whose balance is pending
pub added_there : (p : Posting) (sum : ℤ) (pending : List PendingBalance) (at : ℕ) (b : PendingBalance) → at ≡ position_or_len (is_pending_of p.account p.value_day) pending → at < length pending → sum ≡ (get_or pending at b).cents +ℤ p.cents
    → AddsLine p pending (set pending at (summed p sum))
added_there p sum pending at b first within is rows balances stands =
    let whole : balance_of balances p.account p.value_day ≡ Some (get_or pending at b).cents =
    stands.found p.account p.value_day ∙ ap (λ o. option_or o (balance_of rows p.account p.value_day)) (there_pending p.account p.value_day pending at b first within) in
    line_added p sum pending (set pending at (summed p sum)) rows balances (set_there p sum pending at first within) (is ∙ ap (λ o. unwrap_or o (pos 0) +ℤ p.cents) (sym whole)) stands

-- nothing is pending before and after it
pub but_none : (become : List BalanceRecord → List BalanceRecord) (old new : State) → MakesBut [] [] become old new → Makes desk_layout (record { after = λ t. record t { balances = become t.balances }; Tells = λ _. ⊤ }) old new
but_none become old new made inside is_open =
    let it = made inside is_open in
    record {
      shown = it.shown;
      holds = λ t h.
          let left = it.holds t t.balances h (stands_itself t.balances (h.1.stands named.balances).rise) in
          (subst (λ rows. Holds desk_layout new.now (record t { balances = rows })) (none_missing left.0 (become t.balances) (left.1.1.stands named.balances).rise left.2) left.1, tt);
    }
