-- The options of a message.
use Rattle.std.specs.Prelude.{ℕ, List}
use Rattle.cli_submit.specs.declared.options.SubmitOptions.{SubmitOptions}

-- the texts of the options
pub record OptionTexts : Type 0 where
  pub company : List ℕ
  pub key : List ℕ
  pub reference : List ℕ
  pub sec : List ℕ
  pub direction : List ℕ
  pub description : List ℕ
  pub day : List ℕ

abbrev pub texts_of : SubmitOptions → OptionTexts
texts_of o = record {
  company = o.company.now;
  key = o.key.now;
  reference = o.reference.now;
  sec = o.sec.now;
  direction = o.direction.now;
  description = o.description.now;
  day = o.day.now;
}
