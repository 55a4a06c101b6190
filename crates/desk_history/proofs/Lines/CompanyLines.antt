-- The postings of a company's account are the lines of its statement.
use Rattle.std.proofs.Common.{◌≡◌, ℕ, List, [], ◌∷◌, ◌++◌, map, Bool, true, false, refl, sym, ap, ◌∙◌, if◌then◌else◌, Option, Some, None, unwrap_or, Ok, Err}
use Rattle.std.specs.List.{flat_map}
use Rattle.std.proofs.lemmas.List.{append-nil, map-append}
use Rattle.std.proofs.lemmas.List.Elements.{filter-append}
use Rattle.desk_accounts.specs.declared.account.Account.TheVariants as accounts
use Rattle.desk_accounts.specs.declared.posting.Posting.{Posting}
use Rattle.desk_accounts.specs.Balance.{lines_of}
use Rattle.desk_accounts.specs.Posting.{same_account}
use Rattle.desk_history.specs.declared.identity.Identity.{Identity}
use Rattle.desk_history.specs.Part.{Event, CutMade, Returned, Changed}
use Rattle.desk_history.specs.Reports.{cut_line, paying_submissions, lines}
use Rattle.desk_history.specs.Message.{Message, Cut, TakeFile, Pair, is_accepted}
use Rattle.desk_history.specs.History.{day, is_new_file, is_new, events_for, part, sent_entries}
use Rattle.desk_history.specs.Files.{cut_sendings}
use Rattle.desk_history.specs.Intake.{file_in}
use Rattle.desk_history.specs.Postings.{sending_line, intake_lines, cut_lines, own_lines}
use Rattle.desk_history.specs.Operator.{IsHistory}
use Rattle.desk_history.specs.PostingLaws.{posting_of, CompanyLines}
use Rattle.desk_history.proofs.Sent.Given.{IsQuiet, IsOther, other_gives}
use Rattle.desk_history.proofs.Lines.PartLimits.{same_day}
use Rattle.desk_history.proofs.Sent.PartsPossible.{sent_in_part}
use Rattle.desk_history.proofs.Lines.CutLines.{own_pairs, own_cut}
use Rattle.desk_history.proofs.Lines.ItemLines.{own_items}

-- the lines that a message adds after the history
abbrev added : List ℕ → List Pair → Bool → Message → List Posting
added odfi H ok m = cut_lines odfi H ok m ++ intake_lines odfi H (if ok then file_in H m else None)

quiet_lines : (P : List Event) (e : Event) → IsQuiet e → lines (e ∷ P) ≡ lines P
quiet_lines P CutMade quiet = absurd quiet
quiet_lines P (Returned reference index code information) quiet = absurd quiet
quiet_lines P (Changed reference index code text) quiet = absurd quiet
quiet_lines P e quiet = refl

none_added : (odfi : List ℕ) (H : List Pair) (ok : Bool) (m : Message) → IsOther ok m → added odfi H ok m ≡ []
none_added odfi H true Cut other = absurd other
none_added odfi H true (TakeFile file) other = absurd other
none_added odfi H ok m other = refl

own_added : (identity : Identity) (H : List Pair) (c : List ℕ) → IsHistory identity H → (ok : Bool) (m : Message)
    → map (posting_of c) (lines (part identity.odfi H c)) ++ lines_of (accounts.Company c) (added identity.odfi H ok m)
    ≡ map (posting_of c) (lines (events_for identity.odfi (sent_entries identity.odfi H) (is_new H m) c ok m (part identity.odfi H c) ++ part identity.odfi H c))
own_added identity H c is true Cut =
    let P = part identity.odfi H c in
    ap (λ (ls : List Posting). map (posting_of c) (lines P) ++ lines_of (accounts.Company c) ls) (append-nil (flat_map sending_line (cut_sendings identity.odfi H)))
    ∙ ap (λ (ls : List Posting). map (posting_of c) (lines P) ++ ls) (own_cut identity H c is)
    ∙ sym (map-append (posting_of c) (lines P) (map (cut_line (CutMade ∷ P)) (paying_submissions P)))
own_added identity H c is true (TakeFile (Ok f)) = by (is_new_file H f.key) where
  by : (new : Bool)
      → map (posting_of c) (lines (part identity.odfi H c)) ++ lines_of (accounts.Company c) (intake_lines identity.odfi H (if new then Some f else None))
      ≡ map (posting_of c) (lines (events_for identity.odfi (sent_entries identity.odfi H) new c true (TakeFile (Ok f)) (part identity.odfi H c) ++ part identity.odfi H c))
  by true =
      own_items c (unwrap_or (day H) 0) identity.odfi (sent_entries identity.odfi H) f.items (part identity.odfi H)
      (ap (λ (o : Option ℕ). unwrap_or o 0) (same_day identity.odfi H c)) (sent_in_part identity.odfi H c)
  by false = append-nil (map (posting_of c) (lines (part identity.odfi H c)))
own_added identity H c is true (TakeFile (Err fault)) = append-nil (map (posting_of c) (lines (part identity.odfi H c)))
own_added identity H c is ok m =
    let P = part identity.odfi H c in
    ap (λ (ls : List Posting). map (posting_of c) (lines P) ++ lines_of (accounts.Company c) ls) (none_added identity.odfi H ok m tt)
    ∙ append-nil (map (posting_of c) (lines P))
    ∙ other_gives (λ more. map (posting_of c) (lines P) ≡ map (posting_of c) (lines (more ++ P))) refl
    (λ e quiet. ap (map (posting_of c)) (sym (quiet_lines P e quiet)))
    identity.odfi (sent_entries identity.odfi H) (is_new H m) c ok m P tt

own_is_stated : (identity : Identity) (H : List Pair) (c : List ℕ) → IsHistory identity H
    → lines_of (accounts.Company c) (own_lines identity.odfi H) ≡ map (posting_of c) (lines (part identity.odfi H c))
own_is_stated identity [] c is = refl
own_is_stated identity (x ∷ H) c is =
    filter-append (λ line. same_account line.account (accounts.Company c)) (own_lines identity.odfi H) (added identity.odfi H (is_accepted x.answer) x.message)
    ∙ ap (λ (ls : List Posting). ls ++ lines_of (accounts.Company c) (added identity.odfi H (is_accepted x.answer) x.message)) (own_is_stated identity H c is.1)
    ∙ own_added identity H c is.1 (is_accepted x.answer) x.message

pub company_lines : CompanyLines
company_lines identity H c is = own_pairs c (own_lines identity.odfi H) ∙ own_is_stated identity H c is
