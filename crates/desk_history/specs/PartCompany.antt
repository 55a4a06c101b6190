-- The company's own row, in its part.
use Rattle.std.specs.Prelude.{◌≡◌, ℕ, List, find, Option, option_map, option_and_then}
use Rattle.desk_rules.specs.declared.bodies.company.Company.{Company}
use Rattle.desk_rules.specs.declared.bodies.company.Limits.{Limits}
use Rattle.desk_history.specs.declared.identity.Identity.{Identity}
use Rattle.desk_history.specs.History.{companies, part}
use Rattle.desk_history.specs.Message.{Pair}
use Rattle.desk_history.specs.Operator.{has_id, IsHistory}
use Rattle.desk_history.specs.Part.{Event, limits, Registration, registration, digest}

abbrev pub registered_company : (id : List ℕ) → Registration → Limits → Company
registered_company id r limits = record { id = id; name = r.name; digest = r.digest; limits = limits }

-- the company with the limits that were set last
abbrev pub company : (id : List ℕ) → List Event → Option Company
company id P = option_and_then (λ r. option_map (registered_company id r) (limits P)) (registration P)

-- The digest of a company's key is that of its part: a company is registered once.
abbrev pub DigestOfPart : Type 0
DigestOfPart = (identity : Identity) (H : List Pair) (c : List ℕ) → IsHistory identity H
    → option_map (λ k. k.digest) (find (has_id c) (companies H)) ≡ digest (part identity.odfi H c)

-- A company is what its part says of it.
abbrev pub CompanyOfPart : Type 0
CompanyOfPart = (identity : Identity) (H : List Pair) (c : List ℕ) → IsHistory identity H
    → find (has_id c) (companies H) ≡ company c (part identity.odfi H c)
