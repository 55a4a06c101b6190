-- The values of the operator's bodies, or their first invalid field.
use Rattle.std.specs.Prelude.{ℕ, List, Option, option_and_then, Result, Ok}
use Rattle.std.specs.Result.{result_ok}
use Rattle.ach_fields.specs.Names.{id_of}
use Rattle.bank_days.specs.Day.{day_of}
use Rattle.desk_rules.specs.Chain.{◌>>=◌, good}
use Rattle.desk_rules.specs.Fields.{text_of, key_of, up_to}
use Rattle.desk_rules.specs.declared.bodies.company.Company.{Company}
use Rattle.desk_rules.specs.declared.bodies.company.Limits.{Limits}
use Rattle.desk_rules.specs.declared.bodies.draft.CompanyDraft.{CompanyDraft}
use Rattle.desk_rules.specs.declared.bodies.draft.LimitDrafts.{LimitDrafts}
use Rattle.desk_rules.specs.declared.bodies.draft.LimitsDraft.{LimitsDraft}
use Rattle.desk_rules.specs.declared.refusals.refusal.Refusal.{Refusal}
use Rattle.desk_rules.specs.declared.refusals.refusal.Field.TheVariants as field

-- three limits: of an entry, of the credit exposure, of the debit exposure
abbrev pub limits_of : LimitDrafts → Result Limits Refusal
limits_of d = do
  entry ← good field.EntryLimit 0 (option_and_then (up_to 9_999_999_999) d.entry)
  credit ← good field.CreditLimit 0 (option_and_then (up_to 999_999_999_999_999) d.credit)
  debit ← good field.DebitLimit 0 (option_and_then (up_to 999_999_999_999_999) d.debit)
  Ok (record { entry = entry; credit = credit; debit = debit })

-- the company of a draft, or its first bad field
abbrev pub company_of : CompanyDraft → Result Company Refusal
company_of d = do
  id ← good field.Id 0 (option_and_then (λ s. result_ok (id_of s)) d.id)
  name ← good field.Name 0 (option_and_then (text_of 16) d.name)
  _ ← good field.Key 0 (option_and_then key_of d.key)
  limits ← limits_of d.limits
  Ok (record { id = id; name = name; digest = d.digest; limits = limits })

-- a company and its new limits, or the first bad field
abbrev pub new_limits_of : LimitsDraft → Result (List ℕ × Limits) Refusal
new_limits_of d = do
  id ← good field.Id 0 (option_and_then (λ s. result_ok (id_of s)) d.id)
  limits ← limits_of d.limits
  Ok (id, limits)

-- a day that a desk may have: to 2096-12-31
abbrev pub desk_day_of : List ℕ → Option ℕ
desk_day_of s = option_and_then (up_to 46_386) (day_of s)

-- the desk day of a draft, or its bad field
abbrev pub desk_day_in : Option (List ℕ) → Result ℕ Refusal
desk_day_in text = good field.Day 0 (option_and_then desk_day_of text)
