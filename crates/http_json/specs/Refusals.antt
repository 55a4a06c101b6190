-- The bodies of refusals and faults.
use Rattle.std.specs.Prelude.{ℕ, List, codes}
use Rattle.serde_json.specs.Data.{Data, number, unsigned, string, object, member, no_members}
use Rattle.desk_rules.specs.declared.refusals.refusal.Refusal.{Refusal}
use Rattle.desk_rules.specs.declared.refusals.refusal.Refusal.TheVariants.{BadField, NotRetryable}
use Rattle.desk_rules.specs.declared.refusals.names.RefusalName.{RefusalName}
use Rattle.desk_rules.specs.RefusalNames.{number_of, text_of, name_of}
use Rattle.desk_rules.specs.ReturnCodes.{code_text}
use Rattle.http_json.specs.FieldKeys.{key_of}

-- a fault's body
abbrev pub fault_body : (name : List ℕ) → Data
fault_body name = object (member (codes "error") (string name) no_members)

-- the body of a refusal that has no more than its name and number
abbrev pub numbered_body : RefusalName → Data
numbered_body name = object
    (member (codes "error") (string (text_of name))
    (member (codes "number") (number (unsigned (number_of name))) no_members))

-- the body of a bad field
abbrev pub bad_field_body : (key : List ℕ) → (index : ℕ) → Data
bad_field_body key index = object
    (member (codes "error") (string (codes "BadField"))
    (member (codes "field") (string key)
    (member (codes "index") (number (unsigned index))
    (member (codes "number") (number (unsigned 2)) no_members))))

-- the body of a refused retry of an entry that was returned with this code
abbrev pub not_retryable_text_body : (code : List ℕ) → Data
not_retryable_text_body code = object
    (member (codes "code") (string code)
    (member (codes "error") (string (codes "NotRetryable"))
    (member (codes "number") (number (unsigned 12)) no_members)))

-- and by the number of the code
abbrev pub not_retryable_body : (code : ℕ) → Data
not_retryable_body code = not_retryable_text_body (code_text code)

-- a refusal's body
abbrev pub refusal_body : Refusal → Data
refusal_body (BadField f i) = bad_field_body (key_of f) i
refusal_body (NotRetryable code) = not_retryable_body code
refusal_body r = numbered_body (name_of r)
