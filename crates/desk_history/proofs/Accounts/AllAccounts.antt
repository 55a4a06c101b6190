-- The accounts of a history: each line is of one of them, and all sum to zero.
use Rattle.std.proofs.Common.{◌≡◌, ◌≢◌, ℕ, ◌+◌, ◌≤◌, false, cond, List, [], ◌∷◌, map, refl, sym, ap, ◌∙◌, arith, All, count_by}
use Rattle.std.specs.List.{AllByRecursion}
use Rattle.std.proofs.lemmas.List.Elements.{All-from_recursion}
use Rattle.std.proofs.lemmas.List.Sums.{sum_by-cons}
use Rattle.desk_accounts.specs.declared.account.Account.{Account}
use Rattle.desk_accounts.specs.declared.account.Account.TheVariants.{Company, Operator, Suspense}
use Rattle.desk_accounts.specs.declared.posting.Posting.{Posting}
use Rattle.desk_accounts.specs.Posting.{same_account}
use Rattle.desk_accounts.specs.Laws.{pairs, PairsCancel, AreAccountsOf}
use Rattle.desk_rules.specs.declared.bodies.company.Company as registered
use Rattle.desk_history.specs.declared.identity.Identity.{Identity}
use Rattle.desk_history.specs.Message.{Pair}
use Rattle.desk_history.specs.History.{companies}
use Rattle.desk_history.specs.Operator.{IsHistory}
use Rattle.desk_history.specs.Postings.{own_lines, postings}
use Rattle.desk_history.specs.PostingLaws.{AccountsCancel, all_accounts}
use Rattle.desk_history.proofs.Basics.Elements.{texts_turned}
use Rattle.desk_history.proofs.Basics.Each.{each-weaker}
use Rattle.desk_history.proofs.Accounts.CompaniesOnce.{count_of, count_of-cons, registered_once, stays_registered}
use Rattle.desk_history.proofs.Accounts.OwnLines.{IsRegistered, own_accounts}

never_operator : (odfi : List ℕ) (H : List Pair) → All (λ line. line.account ≢ Operator) (own_lines odfi H)
never_operator odfi H =
    All-from_recursion (λ line. line.account ≢ Operator) (own_lines odfi H)
    (own_accounts (λ _ account. account ≢ Operator) (λ x H account own. own) (λ H is. cc) (λ H c known is. cc) odfi H)

-- ---- how often an account stands among accounts

abbrev times : Account → List Account → ℕ
times a accounts = count_by (λ account. same_account a account) accounts

abbrev accounts_of : List registered.Company → List Account
accounts_of ks = map (λ k. Company k.id) ks

times-cons : (a account : Account) (accounts : List Account) → times a (account ∷ accounts) ≡ cond (same_account a account) 1 0 + times a accounts
times-cons a account accounts = sum_by-cons (λ (account : Account). cond (same_account a account) 1 0) account accounts

no_company : (a : Account) → ((c : List ℕ) → same_account a (Company c) ≡ false) → (ks : List registered.Company) → times a (accounts_of ks) ≡ 0
no_company a none [] = refl
no_company a none (k ∷ ks) = times-cons a (Company k.id) (accounts_of ks) ∙ (λ i. cond (none k.id i) 1 0 + no_company a none ks i)

times_company : (c : List ℕ) (ks : List registered.Company) → times (Company c) (accounts_of ks) ≡ count_of c ks
times_company c [] = refl
times_company c (k ∷ ks) =
    times-cons (Company c) (Company k.id) (accounts_of ks) ∙ (λ i. cond (texts_turned c k.id i) 1 0 + times_company c ks i) ∙ sym (count_of-cons c k ks)

times_all : (a : Account) (H : List Pair) → times a (all_accounts H) ≡ cond (same_account a Operator) 1 0 + (cond (same_account a Suspense) 1 0 + times a (accounts_of (companies H)))
times_all a H =
    times-cons a Operator (Suspense ∷ accounts_of (companies H)) ∙ ap (λ n. cond (same_account a Operator) 1 0 + n) (times-cons a Suspense (accounts_of (companies H)))

-- ---- each line is of one account

operator_once : (H : List Pair) → times Operator (all_accounts H) ≡ 1
operator_once H = let none = no_company Operator (λ c. refl) (companies H) in let all = times_all Operator H in omega arith

suspense_once : (H : List Pair) → times Suspense (all_accounts H) ≡ 1
suspense_once H = let none = no_company Suspense (λ c. refl) (companies H) in let all = times_all Suspense H in omega arith

company_once : (H : List Pair) (c : List ℕ) → count_of c (companies H) ≡ 1 → times (Company c) (all_accounts H) ≡ 1
company_once H c one = let same = times_company c (companies H) in let all = times_all (Company c) H in omega arith

-- of suspense, or of a registered company
abbrev IsKnown : List Pair → Account → Type 0
IsKnown H Operator = ⊥
IsKnown H Suspense = Unit {0}
IsKnown H (Company c) = IsRegistered H c

known_stays : (x : Pair) (H : List Pair) (a : Account) → IsKnown H a → IsKnown (x ∷ H) a
known_stays x H Operator h = h
known_stays x H Suspense h = tt
known_stays x H (Company c) h = stays_registered x H c h

known_once : (H : List Pair) → ((c : List ℕ) → count_of c (companies H) ≤ 1) → (a : Account) → IsKnown H a → times a (all_accounts H) ≡ 1
known_once H once Operator h = absurd h
known_once H once Suspense h = suspense_once H
known_once H once (Company c) h = company_once H c (let le = once c in omega arith)

paired : (P : Account → Type 0) → P Operator → (lines : List Posting) → AllByRecursion (λ line. P line.account) lines → AllByRecursion (λ line. P line.account) (pairs lines)
paired P operator [] h = tt
paired P operator (line ∷ lines) h = (h.0, (operator, paired P operator lines h.1))

are_accounts : (identity : Identity) (H : List Pair) → IsHistory identity H → AreAccountsOf (all_accounts H) (postings identity.odfi H)
are_accounts identity H h =
    let lines = own_lines identity.odfi H in
    let known = own_accounts IsKnown known_stays (λ H. tt) (λ H c is. is) identity.odfi H in
    All-from_recursion (λ line. times line.account (all_accounts H) ≡ 1) (pairs lines)
    (paired (λ a. times a (all_accounts H) ≡ 1) (operator_once H) lines
    (each-weaker (λ line. IsKnown H line.account) (λ line. times line.account (all_accounts H) ≡ 1) (λ line is. known_once H (registered_once identity H h) line.account is) lines known))

pub accounts_cancel : PairsCancel → AccountsCancel
accounts_cancel cancel = record {
  opposites = λ odfi H. refl;
  own = never_operator;
  lines = λ odfi H d. cancel.lines (own_lines odfi H) d;
  accounts = λ identity H d h. cancel.accounts (all_accounts H) (own_lines identity.odfi H) d (are_accounts identity H h);
}
