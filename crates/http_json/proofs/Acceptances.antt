-- The body of an acceptance, member by member.
use Rattle.std.proofs.Common.{◌≡◌, ◌∷◌, ℕ, List, false}
use Rattle.serde_json.specs.Written.{compact_text}
use Rattle.http_json.specs.Members.{last_members_text}
use Rattle.http_json.proofs.Objects.{compact_text-object_of}
use Rattle.http_json.specs.Acceptance.{acceptance_members, acceptance_body}

pub acceptance_text : (reference : List ℕ) (cents entries order : ℕ)
    → compact_text (acceptance_body reference cents entries order) ≡ 123 ∷ last_members_text false (acceptance_members reference cents entries order)
unfolding acceptance_body
acceptance_text reference cents entries order = compact_text-object_of (acceptance_members reference cents entries order)
