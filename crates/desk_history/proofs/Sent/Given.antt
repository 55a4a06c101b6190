-- The events that messages other than cuts and files give a company.
use Rattle.std.specs.Prelude.{if◌then◌else◌, ⊤, Option, Some, None, option_map, option_to_list, bytes_eq, ℕ, List, [], ◌∷◌, Bool, true, false, ◌&&◌}
use Rattle.std.specs.Result.{result_ok}
use Rattle.desk_rules.specs.declared.bodies.company.Company.{Company}
use Rattle.desk_rules.specs.declared.bodies.company.Limits.{Limits}
use Rattle.desk_rules.specs.Operator.{company_of, new_limits_of}
use Rattle.desk_history.specs.declared.sent_entry.SentEntry.{SentEntry}
use Rattle.desk_history.specs.Request as request
use Rattle.desk_history.specs.Request.{Request}
use Rattle.desk_history.specs.Part.{Event, DaySet, HolidaysSet, Registered, Limited, Asked, CutMade, Returned, Changed, is_registered}
use Rattle.desk_history.specs.Message.{Message, Of, SetDay, SetHolidays, PutCompany, PutLimits, Cut, TakeFile}
use Rattle.desk_history.specs.History.{message_day, company_event, limits_event, request_event, events_for}

-- neither a cut nor a return or change
abbrev pub IsQuiet : Event → Type 0
IsQuiet CutMade = ⊥
IsQuiet (Returned reference index code information) = ⊥
IsQuiet (Changed reference index code text) = ⊥
IsQuiet _ = ⊤

-- no accepted cut, and no accepted file
abbrev pub IsOther : Bool → Message → Type 0
IsOther true Cut = ⊥
IsOther true (TakeFile file) = ⊥
IsOther ok m = ⊤

-- what the operator set
abbrev pub IsSetting : Event → Type 0
IsSetting (DaySet d) = ⊤
IsSetting (HolidaysSet days) = ⊤
IsSetting (Registered name digest limits) = ⊤
IsSetting (Limited limits) = ⊤
IsSetting _ = ⊥

-- no company's request, no accepted cut, and no accepted file
abbrev pub MaySet : Bool → Message → Type 0
MaySet ok (Of c r) = ⊥
MaySet true Cut = ⊥
MaySet true (TakeFile file) = ⊥
MaySet ok m = ⊤

setting_quiet : (e : Event) → IsSetting e → IsQuiet e
setting_quiet (Asked r) set = absurd set
setting_quiet CutMade set = absurd set
setting_quiet (Returned reference index code information) set = absurd set
setting_quiet (Changed reference index code text) set = absurd set
setting_quiet e set = tt

-- what holds of no event and of each quiet one holds of what a request gives
pub asked_gives : (M : List Event → Type 0) → M [] → ((r : Request) → M (Asked r ∷ [])) → (b : Bool) (r : Request) → M (request_event b r)
asked_gives M none one true (request.Submit d) = one (request.Submit d)
asked_gives M none one true (request.Retry d) = one (request.Retry d)
asked_gives M none one true r = none
asked_gives M none one false r = none

-- a fact about the events that the operator's other messages give
pub settings_give : (M : List Event → Type 0) → M [] → ((e : Event) → IsSetting e → M (e ∷ []))
    → (odfi : List ℕ) (es : List SentEntry) (new : Bool) (c : List ℕ) (ok : Bool) (m : Message) (P : List Event) → MaySet ok m → M (events_for odfi es new c ok m P)
settings_give M none one odfi es new c ok (Of k r) P may = absurd may
settings_give M none one odfi es new c true (SetDay text) P may = by (message_day (SetDay text)) where
  by : (o : Option ℕ) → M (option_to_list (option_map DaySet o))
  by None = none
  by (Some d) = one (DaySet d) tt
settings_give M none one odfi es new c true (SetHolidays days) P may = by (result_ok days) where
  by : (o : Option (List ℕ)) → M (option_to_list (option_map HolidaysSet o))
  by None = none
  by (Some days) = one (HolidaysSet days) tt
settings_give M none one odfi es new c true (PutCompany d) P may = by (result_ok (company_of d)) where
  by : (o : Option Company) → M (company_event c o)
  by None = none
  by (Some k) = elim (bytes_eq k.id c) as (λ b. M (if b then Registered k.name k.digest k.limits ∷ [] else [])) [ true ↦ one (Registered k.name k.digest k.limits) tt | false ↦ none ]
settings_give M none one odfi es new c true (PutLimits d) P may = by (result_ok (new_limits_of d)) where
  by : (o : Option (List ℕ × Limits)) → M (limits_event c o)
  by None = none
  by (Some x) = elim (bytes_eq x.0 c) as (λ b. M (if b then Limited x.1 ∷ [] else [])) [ true ↦ one (Limited x.1) tt | false ↦ none ]
settings_give M none one odfi es new c true Cut P may = absurd may
settings_give M none one odfi es new c true (TakeFile file) P may = absurd may
settings_give M none one odfi es true c false (TakeFile file) P may = none
settings_give M none one odfi es false c false (TakeFile file) P may = none
settings_give M none one odfi es new c ok m P may = none

-- and of what any other message gives
pub other_gives : (M : List Event → Type 0) → M [] → ((e : Event) → IsQuiet e → M (e ∷ []))
    → (odfi : List ℕ) (es : List SentEntry) (new : Bool) (c : List ℕ) (ok : Bool) (m : Message) (P : List Event) → IsOther ok m → M (events_for odfi es new c ok m P)
other_gives M none one odfi es new c ok (Of k r) P other = asked_gives M none (λ r. one (Asked r) tt) (bytes_eq k c && is_registered P) r
other_gives M none one odfi es new c true Cut P other = absurd other
other_gives M none one odfi es new c true (TakeFile file) P other = absurd other
other_gives M none one odfi es new c ok m P other = settings_give M none (λ e set. one e (setting_quiet e set)) odfi es new c ok m P tt
