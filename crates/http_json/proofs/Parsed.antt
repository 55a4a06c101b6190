-- Parsed JSON and the data that it stands for.
use Rattle.std.proofs.Common.{◌≡◌, ◌∙◌, sym, ap, refl, ℕ, List, Bool, true, false, cond, ◌&&◌, true≢false}
use Rattle.std.specs.Prelude.{Option, Some, None, option_map, option_and_then, unwrap_or, is_some, nat_lt, nat_le, ◌^◌}
use Rattle.std.specs.Float.{binary64, float_is_finite}
use Rattle.fast_float.specs.Text.{Parts, digits_of, nearest, with_sign}
use Rattle.std.specs.Str.{bytes_eq}
use Rattle.std.proofs.lemmas.Slice.Eq.{bytes_eq-Decides}
use Rattle.json.specs.Json as json
use Rattle.json.specs.Find.{later_or}
use Rattle.json.specs.Find as parsed
use Rattle.serde_json.specs.Data.{Num, negative, float, Data, null, number, array, object, Items, item, Members, no_members, put}
use Rattle.serde_json.specs.Find.{get, get_member, as_str, as_bool, as_number, as_u64, as_array}
use Rattle.serde_json.specs.Read.{is_integer, number_from, number_of, of_json, of_items, of_members}
use Rattle.serde_json.proofs.Views.{get_member-put, get_member-put_other}
use Rattle.http_json.specs.View.{data_of, items_data, members_data, is_in_range, items_in_range, members_in_range}

-- ---- what is read

number_read : (n : Option Num) → option_map number n ≡ cond (is_some n) (Some (unwrap_or (option_map number n) null)) None
number_read None = refl
number_read (Some n) = refl

mapped : {A B : Type 0} (f : A → B) (x : A) (b : Bool) → option_map f (cond b (Some x) None) ≡ cond b (Some (f x)) None
mapped f x true = refl
mapped f x false = refl

both_items : (a b : Bool) (d : Data) (ds : Items) → option_and_then (λ e. option_map (item e) (cond b (Some ds) None)) (cond a (Some d) None) ≡ cond (a && b) (Some (item d ds)) None
both_items false b d ds = refl
both_items true false d ds = refl
both_items true true d ds = refl

first_member : (a : Bool) (k : List ℕ) (d : Data) (ms : json.Members) (found : Members)
    → of_members ms (put k d found) ≡ cond (members_in_range ms) (Some (members_data ms (put k d found))) None
    → option_and_then (λ e. of_members ms (put k e found)) (cond a (Some d) None) ≡ cond (a && members_in_range ms) (Some (members_data ms (put k d found))) None
first_member true k d ms found e = e
first_member false k d ms found e = refl

mutual
  -- a value is read where its numbers are in range
  pub read_data : (j : json.Json) → of_json j ≡ cond (is_in_range j) (Some (data_of j)) None
  read_data json.null = refl
  read_data (json.boolean b) = refl
  read_data (json.number s) = number_read (number_of s)
  read_data (json.string s) = refl
  read_data (json.array js) = ap (option_map array) (read_items js) ∙ mapped array (items_data js) (items_in_range js)
  read_data (json.object ms) = ap (option_map object) (read_members ms no_members) ∙ mapped object (members_data ms no_members) (members_in_range ms)

  read_items : (js : json.Items) → of_items js ≡ cond (items_in_range js) (Some (items_data js)) None
  read_items json.no_items = refl
  read_items (json.item j js) =
      (λ i. option_and_then (λ d. option_map (item d) (read_items js i)) (read_data j i))
      ∙ both_items (is_in_range j) (items_in_range js) (data_of j) (items_data js)

  read_members : (ms : json.Members) (found : Members) → of_members ms found ≡ cond (members_in_range ms) (Some (members_data ms found)) None
  read_members json.no_members found = refl
  read_members (json.member k j ms) found =
      ap (λ (x : Option Data). option_and_then (λ d. of_members ms (put k d found)) x) (read_data j)
      ∙ first_member (is_in_range j) k (data_of j) ms found (read_members ms (put k (data_of j) found))

-- ---- what is found

abbrev pub first_of : Option Data → Option Data → Option Data
first_of None later = later
first_of (Some d) later = Some d

put_found : (b : Bool) (name k : List ℕ) (d : Data) (found : Members) → bytes_eq k name ≡ b → get_member name (put k d found) ≡ cond b (Some d) (get_member name found)
put_found true name k d found same =
    let is : k ≡ name = (bytes_eq-Decides k name).0 same in
    ap (λ n. get_member n (put k d found)) (sym is) ∙ get_member-put k d found
put_found false name k d found other =
    get_member-put_other name k d found (λ same. true≢false (sym ((bytes_eq-Decides k name).1 (sym same)) ∙ other))

one_more : (b : Bool) (o : Option json.Json) (j : json.Json) (rest : Option Data)
    → first_of (option_map data_of o) (cond b (Some (data_of j)) rest) ≡ first_of (option_map data_of (later_or o (cond b (Some j) None))) rest
one_more true None j rest = refl
one_more false None j rest = refl
one_more b (Some i) j rest = refl

members_found : (name : List ℕ) (ms : json.Members) (found : Members) → get_member name (members_data ms found) ≡ first_of (option_map data_of (parsed.get_member name ms)) (get_member name found)
members_found name json.no_members found = refl
members_found name (json.member k j ms) found =
    members_found name ms (put k (data_of j) found)
    ∙ ap (first_of (option_map data_of (parsed.get_member name ms))) (put_found (bytes_eq k name) name k (data_of j) found refl)
    ∙ one_more (bytes_eq k name) (parsed.get_member name ms) j (get_member name found)

alone : (o : Option Data) → first_of o None ≡ o
alone None = refl
alone (Some d) = refl

no_number : {A : Type 0} (f : Data → Option A) → f null ≡ None → ((n : Num) → f (number n) ≡ None) → (n : Option Num) → f (unwrap_or (option_map number n) null) ≡ None
no_number f nothing none None = nothing
no_number f nothing none (Some n) = none n

-- the value of a key
pub value_found : (name : List ℕ) (j : json.Json) → get name (data_of j) ≡ option_map data_of (parsed.get name j)
value_found name json.null = refl
value_found name (json.boolean b) = refl
value_found name (json.number s) = no_number (get name) refl (λ n. refl) (number_of s)
value_found name (json.string s) = refl
value_found name (json.array js) = refl
value_found name (json.object ms) = members_found name ms no_members ∙ alone (option_map data_of (parsed.get_member name ms))

pub text_data : (j : json.Json) → as_str (data_of j) ≡ parsed.as_str j
text_data json.null = refl
text_data (json.boolean b) = refl
text_data (json.number s) = no_number as_str refl (λ n. refl) (number_of s)
text_data (json.string s) = refl
text_data (json.array js) = refl
text_data (json.object ms) = refl

pub flag_data : (j : json.Json) → as_bool (data_of j) ≡ parsed.as_bool j
flag_data json.null = refl
flag_data (json.boolean b) = refl
flag_data (json.number s) = no_number as_bool refl (λ n. refl) (number_of s)
flag_data (json.string s) = refl
flag_data (json.array js) = refl
flag_data (json.object ms) = refl

number_or_null : (n : Option Num) → as_number (unwrap_or (option_map number n) null) ≡ n
number_or_null None = refl
number_or_null (Some n) = refl

pub number_data : (j : json.Json) → as_number (data_of j) ≡ option_and_then number_of (parsed.as_number j)
number_data json.null = refl
number_data (json.boolean b) = refl
number_data (json.number s) = number_or_null (number_of s)
number_data (json.string s) = refl
number_data (json.array js) = refl
number_data (json.object ms) = refl

pub items_found : (j : json.Json) → as_array (data_of j) ≡ option_map items_data (parsed.as_array j)
items_found json.null = refl
items_found (json.boolean b) = refl
items_found (json.number s) = no_number as_array refl (λ n. refl) (number_of s)
items_found (json.string s) = refl
items_found (json.array js) = refl
items_found (json.object ms) = refl

-- ---- numbers

picked : (a b : Bool) (m n : Num) → as_u64 m ≡ None → as_u64 n ≡ None → option_and_then as_u64 (cond a (Some m) (cond b (Some n) None)) ≡ None
picked true b m n first second = first
picked false true m n first second = second
picked false false m n first second = refl

-- a number with a minus is none from 0 on
pub no_unsigned : (p : Parts) → option_and_then as_u64 (number_from true p) ≡ None
no_unsigned p =
    picked (is_integer p && nat_lt 0 (digits_of p) && nat_le (digits_of p) (2 ^ 63)) (float_is_finite (nearest binary64 true p))
    (negative (with_sign true (digits_of p))) (float (nearest binary64 true p)) refl refl
