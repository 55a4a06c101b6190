-- Which retry a draft is, or its first bad field.
use Rattle.std.specs.Prelude.{option_and_then, Result, Ok}
use Rattle.std.specs.Result.{result_ok}
use Rattle.ach_fields.specs.Names.{reference_of}
use Rattle.bank_days.specs.Day.{day_of}
use Rattle.desk_rules.specs.Chain.{◌>>=◌, good}
use Rattle.desk_rules.specs.Fields.{optional_of, entry_number_of}
use Rattle.desk_rules.specs.declared.bodies.draft.RetryDraft.{RetryDraft}
use Rattle.desk_rules.specs.declared.bodies.submission.Retry.{Retry}
use Rattle.desk_rules.specs.declared.refusals.refusal.Refusal.{Refusal}
use Rattle.desk_rules.specs.declared.refusals.refusal.Field.TheVariants as field

-- the retry of a draft, or its first bad field
abbrev pub retry_of : RetryDraft → Result Retry Refusal
retry_of d = do
  reference ← good field.Reference 0 (option_and_then (λ s. result_ok (reference_of s)) d.reference)
  of ← good field.Of 0 (option_and_then (λ s. result_ok (reference_of s)) d.of)
  index ← good field.Index 0 (option_and_then entry_number_of d.index)
  day ← good field.Day 0 (option_and_then day_of d.day)
  authorized ← good field.Authorized 0 (optional_of day_of d.authorized)
  Ok (record { reference = reference; of = of; index = index; day = day; authorized = authorized })
