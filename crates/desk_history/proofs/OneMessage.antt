-- The one message of a call.
use Rattle.std.proofs.Common.{◌≡◌, ◌⊎◌, inl, inr, ℕ, List, Option, Some, None, refl, sym, ap, ◌∙◌, Ok, Err}
use Rattle.ach_files.specs.declared.fault.Fault.{Fault}
use Rattle.ach_files.specs.Structure.{File}
use Rattle.ach_files.specs.File.{IsFile, IsReadAs}
use Rattle.ach_files.specs.FirstFault.{fault}
use Rattle.ach_files.specs.Facts.{FileFacts, facts_in}
use Rattle.bank_days.specs.HolidayList.{holidays_in}
use Rattle.desk_history.specs.declared.call.Call.{Call}
use Rattle.desk_history.specs.declared.call.Call.TheVariants as calls
use Rattle.desk_history.specs.Request as request
use Rattle.desk_history.specs.Message.{Message, Of, SetDay, SetHolidays, PutCompany, PutLimits, Cut, TakeFile, FileText, Settlement, Suspense, Status, Companies}
use Rattle.desk_history.specs.Calls.{IsFileOf, IsMessageOf, OneMessage}

-- what was read of a file: its facts, or its fault
abbrev IsRead : List ℕ → Message → Type 0
IsRead bytes m = ((facts : FileFacts) × (m ≡ TakeFile (Ok facts)) × IsReadAs bytes facts) ⊎ ((f : Fault) × (m ≡ TakeFile (Err f)) × (fault bytes ≡ Some f))

read : (bytes : List ℕ) (m : Message) → IsFileOf bytes m → IsRead bytes m
read bytes (TakeFile (Ok facts)) is = inl (facts, refl, is)
read bytes (TakeFile (Err f)) is = inr (f, refl, is)
read bytes (Of c r) is = absurd is
read bytes (SetDay text) is = absurd is
read bytes (SetHolidays days) is = absurd is
read bytes (PutCompany d) is = absurd is
read bytes (PutLimits d) is = absurd is
read bytes Cut is = absurd is
read bytes (FileText d modifier) is = absurd is
read bytes Settlement is = absurd is
read bytes Suspense is = absurd is
read bytes Status is = absurd is
read bytes Companies is = absurd is

module _ (has_none : (bytes : List ℕ) (f : File) → IsFile bytes f → fault bytes ≡ None)
    (has_file : (bytes : List ℕ) → fault bytes ≡ None → (f : File) × IsFile bytes f)
    (one : (bytes : List ℕ) (f g : File) → IsFile bytes f → IsFile bytes g → f ≡ g) where
  file_message : (bytes : List ℕ) (o : Option Fault) → fault bytes ≡ o → (m : Message) × IsFileOf bytes m
  file_message bytes None is = let file = has_file bytes is in (TakeFile (Ok (facts_in file.0)), (file.0, file.1, refl))
  file_message bytes (Some f) is = (TakeFile (Err f), is)

  some : (call : Call) → (m : Message) × IsMessageOf call m
  some (calls.PutCompany d) = (PutCompany d, refl)
  some (calls.PutLimits d) = (PutLimits d, refl)
  some (calls.SetDay text) = (SetDay text, refl)
  some (calls.SetHolidays bytes) = (SetHolidays (holidays_in bytes), refl)
  some calls.Cut = (Cut, refl)
  some (calls.TakeFile bytes) = file_message bytes (fault bytes) refl
  some (calls.FileText d modifier) = (FileText d modifier, refl)
  some calls.Settlement = (Settlement, refl)
  some calls.SuspenseItems = (Suspense, refl)
  some calls.Status = (Status, refl)
  some calls.Companies = (Companies, refl)
  some (calls.Submit c d) = (Of c (request.Submit d), refl)
  some (calls.Retry c d) = (Of c (request.Retry d), refl)
  some (calls.LookUp c reference) = (Of c (request.LookUp reference), refl)
  some (calls.ReturnsOf c) = (Of c request.Returns, refl)
  some (calls.ChangesOf c) = (Of c request.Changes, refl)
  some (calls.StatementOf c) = (Of c request.Statement, refl)
  some (calls.RatesOf c) = (Of c request.Rates, refl)
  some (calls.ExposureOf c) = (Of c request.Exposure, refl)

  -- facts of one file are the same
  same_facts : (bytes : List ℕ) (a b : FileFacts) → IsReadAs bytes a → IsReadAs bytes b → a ≡ b
  same_facts bytes a b p q = p.2 ∙ ap facts_in (one bytes p.0 q.0 p.1 q.1) ∙ sym q.2

  no_fault : (bytes : List ℕ) (a : FileFacts) (f : Fault) → IsReadAs bytes a → fault bytes ≡ Some f → ⊥
  no_fault bytes a f p q = let none : Some f ≡ None = sym q ∙ has_none bytes p.0 p.1 in cc

  same_file : (bytes : List ℕ) (m n : Message) → IsRead bytes m → IsRead bytes n → m ≡ n
  same_file bytes m n (inl p) (inl q) = p.1 ∙ ap (λ (a : FileFacts). TakeFile (Ok a)) (same_facts bytes p.0 q.0 p.2 q.2) ∙ sym q.1
  same_file bytes m n (inl p) (inr q) = absurd (no_fault bytes p.0 q.0 p.2 q.2)
  same_file bytes m n (inr p) (inl q) = absurd (no_fault bytes q.0 p.0 q.2 p.2)
  same_file bytes m n (inr p) (inr q) = let same : p.0 ≡ q.0 = cc in p.1 ∙ ap (λ (f : Fault). TakeFile (Err f)) same ∙ sym q.1

  only : (call : Call) (m n : Message) → IsMessageOf call m → IsMessageOf call n → m ≡ n
  only (calls.PutCompany d) m n p q = p ∙ sym q
  only (calls.PutLimits d) m n p q = p ∙ sym q
  only (calls.SetDay text) m n p q = p ∙ sym q
  only (calls.SetHolidays bytes) m n p q = p ∙ sym q
  only calls.Cut m n p q = p ∙ sym q
  only (calls.TakeFile bytes) m n p q = same_file bytes m n (read bytes m p) (read bytes n q)
  only (calls.FileText d modifier) m n p q = p ∙ sym q
  only calls.Settlement m n p q = p ∙ sym q
  only calls.SuspenseItems m n p q = p ∙ sym q
  only calls.Status m n p q = p ∙ sym q
  only calls.Companies m n p q = p ∙ sym q
  only (calls.Submit c d) m n p q = p ∙ sym q
  only (calls.Retry c d) m n p q = p ∙ sym q
  only (calls.LookUp c reference) m n p q = p ∙ sym q
  only (calls.ReturnsOf c) m n p q = p ∙ sym q
  only (calls.ChangesOf c) m n p q = p ∙ sym q
  only (calls.StatementOf c) m n p q = p ∙ sym q
  only (calls.RatesOf c) m n p q = p ∙ sym q
  only (calls.ExposureOf c) m n p q = p ∙ sym q

  pub one_message : OneMessage
  one_message = record { some = some; only = only }
