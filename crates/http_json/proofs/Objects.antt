-- The text of an object, member by member.
use Rattle.std.proofs.Common.{◌≡◌, ◌++◌, ◌∷◌, [], ℕ, List, Bool, true, false, refl, ap, sym, ◌∙◌, append_assoc}
use Rattle.json.specs.Print.{quoted}
use Rattle.serde_json.specs.Data.{Data}
use Rattle.serde_json.specs.Written.{comma_if, compact_text, members_text}
use Rattle.http_json.specs.Members.{members_of, object_of, member_text, more_members_text, last_members_text}

member_first : (later : Bool) (key : List ℕ) (value : Data) (rest : List ℕ)
    → comma_if later ++ (quoted key ++ 58 ∷ (compact_text value ++ rest)) ≡ member_text later key value ++ rest
unfolding member_text
member_first later key value rest =
    sym (append_assoc (comma_if later) (quoted key ++ 58 ∷ compact_text value) rest ∙ ap (λ t. comma_if later ++ t) (append_assoc (quoted key) (58 ∷ compact_text value) rest))

members_text-members_of : (later : Bool) (ms : List (List ℕ × Data)) → members_text later (members_of ms) ≡ last_members_text later ms
members_text-members_of later [] = refl
members_text-members_of later (m ∷ ms) =
    member_first later m.0 m.1 (members_text true (members_of ms)) ∙ ap (λ t. member_text later m.0 m.1 ++ t) (members_text-members_of true ms)

-- an object is written member by member
pub compact_text-object_of : (ms : List (List ℕ × Data)) → compact_text (object_of ms) ≡ 123 ∷ last_members_text false ms
compact_text-object_of ms = ap (λ t. 123 ∷ t) (members_text-members_of false ms)

-- members behind another, and those behind them
pub last_members_text-append : (ms ns : List (List ℕ × Data)) → last_members_text true (ms ++ ns) ≡ more_members_text ms ++ last_members_text true ns
last_members_text-append [] ns = refl
last_members_text-append (m ∷ ms) ns =
    ap (λ t. member_text true m.0 m.1 ++ t) (last_members_text-append ms ns)
    ∙ sym (append_assoc (member_text true m.0 m.1) (more_members_text ms) (last_members_text true ns))
