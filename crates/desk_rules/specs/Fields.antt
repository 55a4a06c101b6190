-- The value of each field of a body, `None` where it is bad.
use Rattle.std.specs.Prelude.{ℕ, Bool, true, false, ◌&&◌, ◌==◌, List, length, nat_le, nat_lt, if◌then◌else◌, Option, Some, None, option_map, codes}
use Rattle.std.specs.List.{list_all}
use Rattle.std.specs.Result.{result_ok}
use Rattle.std.specs.Str.{bytes_eq}
use Rattle.ach_fields.specs.Text.{short_text_of}
use Rattle.desk_rules.specs.declared.bodies.draft.Optional.{Optional}
use Rattle.desk_rules.specs.declared.bodies.draft.Optional.TheVariants.{Absent, Wrong, Given}
use Rattle.desk_rules.specs.declared.bodies.submission.SecCode.{SecCode}
use Rattle.desk_rules.specs.declared.bodies.submission.SecCode.TheVariants.{Ppd, Ccd}
use Rattle.desk_rules.specs.declared.bodies.submission.Direction.{Direction}
use Rattle.desk_rules.specs.declared.bodies.submission.Direction.TheVariants.{Credit, Debit}
use Rattle.desk_rules.specs.declared.bodies.submission.AccountKind.{AccountKind}
use Rattle.desk_rules.specs.declared.bodies.submission.AccountKind.TheVariants.{Checking, Savings}

-- the three letters of a standard entry class
abbrev pub sec_text : SecCode → List ℕ
sec_text Ppd = codes "PPD"
sec_text Ccd = codes "CCD"

-- `PPD` or `CCD`
abbrev pub sec_of : List ℕ → Option SecCode
sec_of s = if bytes_eq s (codes "PPD") then Some Ppd else (if bytes_eq s (codes "CCD") then Some Ccd else None)

-- `credit` or `debit`
abbrev pub direction_of : List ℕ → Option Direction
direction_of s = if bytes_eq s (codes "credit") then Some Credit else (if bytes_eq s (codes "debit") then Some Debit else None)

-- `checking` or `savings`
abbrev pub kind_of : List ℕ → Option AccountKind
kind_of s = if bytes_eq s (codes "checking") then Some Checking else (if bytes_eq s (codes "savings") then Some Savings else None)

-- a text of 1 to n characters
abbrev pub text_of : ℕ → List ℕ → Option (List ℕ)
text_of n s = if nat_lt 0 (length s) then result_ok (short_text_of n s) else None

-- a text of 1 to 10 characters that is not one of the desk's own descriptions
abbrev pub description_of : List ℕ → Option (List ℕ)
description_of s =
    if bytes_eq s (codes "RETRY PYMT") then None
    else (if bytes_eq s (codes "REVERSAL") then None else text_of 10 s)

-- an optional field
abbrev pub optional_of : {A B : Type 0} → (A → Option B) → Optional A → Option (Option B)
optional_of f Absent = Some None
optional_of f Wrong = None
optional_of f (Given x) = option_map Some (f x)

-- whether an entry is a prenote
abbrev pub prenote_of : Optional Bool → Option Bool
prenote_of Absent = Some false
prenote_of Wrong = None
prenote_of (Given b) = Some b

-- ten digits of cents
abbrev pub most_entry_cents : ℕ
most_entry_cents = 9_999_999_999

-- an amount of an entry
abbrev pub cents_within : ℕ → Option ℕ
cents_within n = if nat_le n most_entry_cents then Some n else None

-- nothing for a prenote, else 1 to ten digits of cents
abbrev pub entry_cents_of : (prenote : Bool) → ℕ → Option ℕ
entry_cents_of true n = if n == 0 then Some 0 else None
entry_cents_of false n = if nat_le 1 n && nat_le n most_entry_cents then Some n else None

-- the number of an entry in its submission
abbrev pub entry_number_of : ℕ → Option ℕ
entry_number_of n = if nat_le 1 n && nat_le n 1000 then Some n else None

-- `!` to `~`
abbrev pub is_key_character : ℕ → Bool
is_key_character c = nat_le 33 c && nat_le c 126

-- a key has 8 to 64 characters, none of them a blank
abbrev pub is_key : List ℕ → Bool
is_key s = nat_le 8 (length s) && nat_le (length s) 64 && list_all is_key_character s

abbrev pub key_of : List ℕ → Option (Unit {0})
key_of s = if is_key s then Some tt else None

-- a number up to a largest
abbrev pub up_to : (most : ℕ) → ℕ → Option ℕ
up_to most n = if nat_le n most then Some n else None
