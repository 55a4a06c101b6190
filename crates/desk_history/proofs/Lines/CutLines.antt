-- The postings of a cut to a company's account.
use Rattle.std.proofs.Common.{◌≡◌, ℕ, List, [], ◌∷◌, ◌++◌, map, Bool, true, false, cond, ◌&&◌, refl, sym, ap, ◌∙◌, subst, inl, inr, append-nil, if◌then◌else◌, nat_lt, Option, Some, None, option_map, is_some, unwrap_or, find, filter, bytes_eq}
use Rattle.std.specs.List.{flat_map}
use Rattle.std.proofs.lemmas.Bool.{cases_Bool}
use Rattle.std.proofs.lemmas.List.Concat.{flat_map-append}
use Rattle.std.proofs.lemmas.List.Elements.{filter-append}
use Rattle.std.proofs.lemmas.Slice.Eq.{bytes_eq-Decides}
use Rattle.desk_accounts.specs.declared.account.Account.TheVariants as accounts
use Rattle.desk_accounts.specs.declared.posting.Posting.{Posting}
use Rattle.desk_accounts.specs.Balance.{lines_of}
use Rattle.desk_accounts.specs.Laws.{pairs}
use Rattle.desk_accounts.specs.Posting.{same_account}
use Rattle.desk_rules.specs.declared.bodies.company.Company.{Company}
use Rattle.desk_rules.specs.Size.{total_of}
use Rattle.desk_history.specs.declared.identity.Identity.{Identity}
use Rattle.desk_history.specs.declared.reports.StatementLine.{StatementLine}
use Rattle.desk_history.specs.Part.{Event, CutMade, limits}
use Rattle.desk_history.specs.Accepted.{AcceptedSubmission, settlement_day, is_sent_next}
use Rattle.desk_history.specs.Acceptance.{submissions}
use Rattle.desk_history.specs.Reports.{cut_line, paying_submissions}
use Rattle.desk_history.specs.Message.{Pair}
use Rattle.desk_history.specs.Sendings.{Sending}
use Rattle.desk_history.specs.History.{companies, sendings_of, part}
use Rattle.desk_history.specs.Files.{cut_sendings}
use Rattle.desk_history.specs.Postings.{sending_line}
use Rattle.desk_history.specs.Operator.{has_id, IsHistory}
use Rattle.desk_history.specs.PostingLaws.{posting_of}
use Rattle.desk_history.proofs.Accounts.Companies.{Apart, companies_apart}
use Rattle.desk_history.proofs.Lines.PartLimits.{same_limits, none_accepted}

-- ---- the lines of one account

-- opposites are lines of the operator
pub own_pairs : (c : List ℕ) (ls : List Posting) → lines_of (accounts.Company c) (pairs ls) ≡ lines_of (accounts.Company c) ls
own_pairs c [] = refl
own_pairs c (line ∷ ls) =
    elim (same_account line.account (accounts.Company c)) as (λ b. cond b (line ∷ lines_of (accounts.Company c) (pairs ls)) (lines_of (accounts.Company c) (pairs ls)) ≡ cond b (line ∷ lines_of (accounts.Company c) ls) (lines_of (accounts.Company c) ls)) [
      | true ↦ ap (λ (l : List Posting). line ∷ l) (own_pairs c ls)
      | false ↦ own_pairs c ls
    ]

-- the postings of a company's lines are its own, and no other's
own_posted : (c k : List ℕ) (ls : List StatementLine) → bytes_eq k c ≡ true → lines_of (accounts.Company c) (map (posting_of k) ls) ≡ map (posting_of k) ls
own_posted c k [] same = refl
own_posted c k (l ∷ ls) same =
    ap (λ (b : Bool). cond b (posting_of k l ∷ lines_of (accounts.Company c) (map (posting_of k) ls)) (lines_of (accounts.Company c) (map (posting_of k) ls))) same
    ∙ ap (λ (r : List Posting). posting_of k l ∷ r) (own_posted c k ls same)

others_posted : (c k : List ℕ) (ls : List StatementLine) → bytes_eq k c ≡ false → lines_of (accounts.Company c) (map (posting_of k) ls) ≡ []
others_posted c k [] differ = refl
others_posted c k (l ∷ ls) differ =
    ap (λ (b : Bool). cond b (posting_of k l ∷ lines_of (accounts.Company c) (map (posting_of k) ls)) (lines_of (accounts.Company c) (map (posting_of k) ls))) differ
    ∙ others_posted c k ls differ

-- ---- what a cut sends of a company

-- a submission that the cut after these events sends, with its company
abbrev sent_of : List Event → Company → AcceptedSubmission → Sending
sent_of P k a = record { company = k; order = a.order; content = a.content; settled = unwrap_or (settlement_day (CutMade ∷ P) a) 0 }

-- does that cut send it, with money?
abbrev is_paid : List Event → AcceptedSubmission → Bool
is_paid P a = is_sent_next P a && nat_lt 0 (total_of a.content.entries)

-- each of these with money gives its line
lines_sent : (k : Company) (P : List Event) (A : List AcceptedSubmission)
    → flat_map sending_line (map (sent_of P k) (filter (is_sent_next P) A)) ≡ map (posting_of k.id) (map (cut_line (CutMade ∷ P)) (filter (is_paid P) A))
lines_sent k P [] = refl
lines_sent k P (a ∷ A) =
    elim (is_sent_next P a) as (λ b.
    flat_map sending_line (map (sent_of P k) (cond b (a ∷ filter (is_sent_next P) A) (filter (is_sent_next P) A)))
    ≡ map (posting_of k.id) (map (cut_line (CutMade ∷ P)) (cond (b && nat_lt 0 (total_of a.content.entries)) (a ∷ filter (is_paid P) A) (filter (is_paid P) A)))) [
      | true ↦
          elim (nat_lt 0 (total_of a.content.entries)) as (λ b.
          (if b then posting_of k.id (cut_line (CutMade ∷ P) a) ∷ [] else []) ++ flat_map sending_line (map (sent_of P k) (filter (is_sent_next P) A))
          ≡ map (posting_of k.id) (map (cut_line (CutMade ∷ P)) (cond b (a ∷ filter (is_paid P) A) (filter (is_paid P) A)))) [
            | true ↦ ap (λ (r : List Posting). posting_of k.id (cut_line (CutMade ∷ P) a) ∷ r) (lines_sent k P A)
            | false ↦ lines_sent k P A
          ]
      | false ↦ lines_sent k P A
    ]

-- ---- what a cut sends of all companies

-- the lines of what a cut sends, of a company with each part
abbrev paid_lines : (List ℕ → List Event) → List ℕ → List StatementLine
paid_lines parts c = map (cut_line (CutMade ∷ parts c)) (paying_submissions (parts c))

all_sent : (parts : List ℕ → List Event) (ks : List Company)
    → flat_map sending_line (flat_map (sendings_of parts) ks) ≡ flat_map (λ k. map (posting_of k.id) (paid_lines parts k.id)) ks
all_sent parts [] = refl
all_sent parts (k ∷ ks) =
    flat_map-append sending_line (sendings_of parts k) (flat_map (sendings_of parts) ks)
    ∙ (λ i. lines_sent k (parts k.id) (submissions (parts k.id)) i ++ all_sent parts ks i)

-- of the lines of all companies, those of one company are its own, if it is among them
own_of_all : (L : List ℕ → List StatementLine) (c : List ℕ) (ks : List Company) → Apart ks
    → lines_of (accounts.Company c) (flat_map (λ k. map (posting_of k.id) (L k.id)) ks) ≡ (if is_some (find (has_id c) ks) then map (posting_of c) (L c) else [])
own_of_all L c [] apart = refl
own_of_all L c (k ∷ ks) apart =
    let rest = own_of_all L c ks apart.1 in
    let all = flat_map (λ k. map (posting_of k.id) (L k.id)) ks in
    filter-append (λ line. same_account line.account (accounts.Company c)) (map (posting_of k.id) (L k.id)) all
    ∙ elim (cases_Bool (bytes_eq k.id c)) [
      | inl same ↦
          let is : k.id ≡ c = (bytes_eq-Decides k.id c).0 same in
          let none : find (has_id c) ks ≡ None = subst (λ (n : List ℕ). find (has_id n) ks ≡ None) is apart.0 in
          (λ i. own_posted c k.id (L k.id) same i ++ (rest ∙ ap (λ (o : Option Company). if is_some o then map (posting_of c) (L c) else []) none) i)
          ∙ append-nil (map (posting_of k.id) (L k.id))
          ∙ ap (λ (n : List ℕ). map (posting_of n) (L n)) is
          ∙ ap (λ (b : Bool). if is_some (cond b (Some k) (find (has_id c) ks)) then map (posting_of c) (L c) else []) (sym same)
      | inr differ ↦
          (λ i. others_posted c k.id (L k.id) differ i ++ rest i)
          ∙ ap (λ (b : Bool). if is_some (cond b (Some k) (find (has_id c) ks)) then map (posting_of c) (L c) else []) (sym differ)
    ]

-- A cut posts to a company's account the lines that its statement has of it.
pub own_cut : (identity : Identity) (H : List Pair) (c : List ℕ) → IsHistory identity H
    → lines_of (accounts.Company c) (flat_map sending_line (cut_sendings identity.odfi H))
    ≡ map (posting_of c) (map (cut_line (CutMade ∷ part identity.odfi H c)) (paying_submissions (part identity.odfi H c)))
own_cut identity H c is =
    ap (lines_of (accounts.Company c)) (all_sent (part identity.odfi H) (companies H))
    ∙ own_of_all (paid_lines (part identity.odfi H)) c (companies H) (companies_apart identity H is)
    ∙ by_find (find (has_id c) (companies H)) (same_limits identity H c is)
  where
    by_find : (o : Option Company) → option_map (λ k. k.limits) o ≡ limits (part identity.odfi H c)
        → (if is_some o then map (posting_of c) (paid_lines (part identity.odfi H) c) else []) ≡ map (posting_of c) (paid_lines (part identity.odfi H) c)
    by_find (Some k) same = refl
    by_find None same =
        sym (ap (λ (A : List AcceptedSubmission). map (posting_of c) (map (cut_line (CutMade ∷ part identity.odfi H c)) (filter (λ a. is_sent_next (part identity.odfi H c) a && nat_lt 0 (total_of a.content.entries)) A)))
        (none_accepted (part identity.odfi H c) (sym same)))
