-- The options of a new desk.
use Rattle.std.specs.Prelude.{ℕ, List}
use Rattle.cli_words.specs.declared.init_options.InitOptions.{InitOptions}

-- the texts of the options
pub record InitTexts : Type 0 where
  pub odfi : List ℕ
  pub odfi_name : List ℕ
  pub destination : List ℕ
  pub destination_name : List ℕ
  pub key : List ℕ

abbrev pub init_texts_of : InitOptions → InitTexts
init_texts_of o = record {
  odfi = o.odfi.now;
  odfi_name = o.odfi_name.now;
  destination = o.destination.now;
  destination_name = o.destination_name.now;
  key = o.key.now;
}
