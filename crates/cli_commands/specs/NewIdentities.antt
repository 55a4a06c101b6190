-- Whose desk a new one is, as the options of `init` say, or the first option that is bad.
use Rattle.std.specs.Prelude.{ℕ, List, [], ◌∷◌, ◌++◌, codes, if◌then◌else◌, Result, Ok, Err}
use Rattle.ach_fields.specs.Routing.{routing_of}
use Rattle.ach_fields.specs.declared.fault.FieldFault.{FieldFault}
use Rattle.desk_history.specs.PartyNames.{party_name_of}
use Rattle.desk_history.specs.declared.identity.Identity.{Identity}
use Rattle.desk_rules.specs.Fields.{is_key}
use Rattle.cli_words.specs.InitOptions.{InitTexts}
use Rattle.cli_commands.specs.declared.new_identity.OptionFault.{OptionFault}
use Rattle.cli_commands.specs.declared.new_identity.OptionFault.TheVariants.{Odfi, OdfiName, Destination, DestinationName, Key}

-- what is made of an option's value, or the option's fault
abbrev pub checked : {A B : Type 0} → OptionFault → Result A FieldFault → (A → Result B OptionFault) → Result B OptionFault
checked fault (Ok value) rest = rest value
checked fault (Err e) rest = Err fault

-- Whose desk it is, or the first bad option: two routing numbers, two names, and a key.
abbrev pub identity_of : InitTexts → Result Identity OptionFault
identity_of t =
    checked Odfi (routing_of t.odfi) λ odfi.
    checked OdfiName (party_name_of t.odfi_name) λ odfi_name.
    checked Destination (routing_of t.destination) λ destination.
    checked DestinationName (party_name_of t.destination_name) λ destination_name.
    if is_key t.key then Ok (record {
      odfi = odfi;
      odfi_name = odfi_name;
      destination = destination;
      destination_name = destination_name;
    }) else Err Key

-- the line of a bad option
abbrev pub fault_line : OptionFault → List ℕ
fault_line Odfi = codes "bad odfi" ++ 10 ∷ []
fault_line OdfiName = codes "bad odfi-name" ++ 10 ∷ []
fault_line Destination = codes "bad destination" ++ 10 ∷ []
fault_line DestinationName = codes "bad destination-name" ++ 10 ∷ []
fault_line Key = codes "bad key" ++ 10 ∷ []
