-- The key of each field.
use Rattle.std.specs.Prelude.{ℕ, List, codes}
use Rattle.desk_rules.specs.declared.refusals.refusal.Field.{Field}
use Rattle.desk_rules.specs.declared.refusals.refusal.Field.TheVariants as field

-- the key under which bodies have a field
abbrev pub key_of : Field → List ℕ
key_of field.Reference = codes "ref"
key_of field.Sec = codes "sec"
key_of field.Direction = codes "direction"
key_of field.Description = codes "description"
key_of field.Day = codes "day"
key_of field.Entries = codes "entries"
key_of field.Routing = codes "routing"
key_of field.Account = codes "account"
key_of field.Kind = codes "kind"
key_of field.Prenote = codes "prenote"
key_of field.Cents = codes "cents"
key_of field.Id = codes "id"
key_of field.Name = codes "name"
key_of field.Info = codes "info"
key_of field.Of = codes "of"
key_of field.Index = codes "index"
key_of field.Authorized = codes "authorized"
key_of field.Key = codes "key"
key_of field.EntryLimit = codes "entry_limit"
key_of field.CreditLimit = codes "credit_limit"
key_of field.DebitLimit = codes "debit_limit"
