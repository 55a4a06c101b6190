-- Objects whose members are a list, and their texts member by member.
use Rattle.std.specs.Prelude.{ℕ, ◌+◌, ◌*◌, Bool, true, List, [], ◌∷◌, ◌++◌, length}
use Rattle.json.specs.Print.{quoted}
use Rattle.serde_json.specs.Data.{Data, Members, no_members, member, object}
use Rattle.serde_json.specs.Written.{comma_if, compact_text}

-- the members of an object, each a key and its value
abbrev pub members_of : List (List ℕ × Data) → Members
members_of [] = no_members
members_of (m ∷ ms) = member m.0 m.1 (members_of ms)

-- the object that has these members, in this order
abbrev pub object_of : List (List ℕ × Data) → Data
object_of ms = object (members_of ms)

-- the text of a member: a comma if another one comes before it, its key, a colon and its value
unfoldable pub member_text : (later : Bool) → (key : List ℕ) → Data → List ℕ
member_text later key value = comma_if later ++ (quoted key ++ 58 ∷ compact_text value)

-- the text of members that follow another
abbrev pub more_members_text : List (List ℕ × Data) → List ℕ
more_members_text [] = []
more_members_text (m ∷ ms) = member_text true m.0 m.1 ++ more_members_text ms

-- the text of the last members of an object, with its closing bracket
abbrev pub last_members_text : (later : Bool) → List (List ℕ × Data) → List ℕ
last_members_text later [] = 125 ∷ []
last_members_text later (m ∷ ms) = member_text later m.0 m.1 ++ last_members_text true ms

-- the most bytes that a member has whose value is this text: six for a byte of either, and six around them
abbrev pub text_member_bound : (key value : List ℕ) → ℕ
text_member_bound key value = 6 * length key + 6 * length value + 6
