-- An argument that takes a number, parsed by `clap`'s rules: it has one, within the argument's range.
use Rattle.std.proofs.Common.{codes, ◌≡◌, ◌∙◌, ◌<◌, ◌≤◌, ◌^◌, ap, cond, drop, map, ℕ, Bool, true, false, true≢false, zero, suc, List, [], ◌∷◌, length, is_some, Option, Some, None, Result, Ok, Err, refl, sym, subst, inl, inr, arith}
use Rattle.std.specs.List.{All, find, list_all, slice_index_or}
use Rattle.std.specs.Str.{bytes_eq}
use Rattle.std.specs.Str.Parse.{IsNumeral, ParsesUnsigned, starts_with_minus, without_leading_plus}
use Rattle.std.specs.Prelude.{◌==◌, option_map, pos, slice_get, unwrap_or}
use Rattle.std.specs.Borrow.{Bor}
use Rattle.std.proofs.lemmas.Int.{ints}
use Rattle.std.proofs.lemmas.List.{get_or-map, length-map}
use Rattle.std.proofs.lemmas.List.Elements.{All-get_or}
use Rattle.std.proofs.lemmas.Slice.Eq.{bytes_eq-Decides}
use Rattle.clap.specs.Built.{IsAuto, IsParsedFrom, IsPlain, SameRules}
use Rattle.clap.specs.Facts.{Entry, EntryPasses, HasId, HasReading, PassesArg, args_of, groups_of, least_values, parser_of, parser_of_value, unwrap_or_range}
use Rattle.clap.specs.Faults.{has_free_rules}
use Rattle.clap.specs.Matches.{ReadsOne, found_of, matched_of, one_text}
use Rattle.clap.specs.Simple.{IsSimple, is_ready, is_ready_leaf}
use Rattle.clap.specs.Values.{Accepts, IsSignedIn, IsUnsignedIn, read_as, reading_of}
use Rattle.clap.specs.Texts.{items_of}
use Rattle.clap.specs.Valid.{IsFreeArg}
use Rattle.clap.specs.Lexer.{without_minus}
use Rattle.clap.specs.Words.{App, Rule, Text, app_of, rows_of, rule_of}
use Rattle.clap.specs.declared.builder.action.ArgAction.TheVariants.{Count, Set}
use Rattle.clap.specs.declared.builder.arg.Arg.{Arg}
use Rattle.clap.specs.declared.builder.command.Command.{Command}
use Rattle.clap.specs.declared.builder.command.Command.TheViews.{out-Command}
use Rattle.clap.specs.declared.builder.range.ValueRange.{ValueRange}
use Rattle.clap.specs.declared.builder.value_parser.Reading.{Reading}
use Rattle.clap.specs.declared.builder.value_parser.ValueParser.{ValueParser}
use Rattle.clap.specs.declared.parser.matches.ArgMatches.{ArgMatches}
use Rattle.clap.specs.declared.parser.matches.Found.{Found}
use Rattle.clap.specs.declared.parser.matches.MatchedArg.{MatchedArg}
use Rattle.clap.proofs.CallerLemmas.{default_present, entry_by_id, present_has_entry, required_present, same_rules_by_id}
use Rattle.clap.proofs.FaultLemmas.{free_args}
use Rattle.clap.proofs.SimpleLemmas.{ready_simple, simple_groups}
use Rattle.clap.proofs.WalkLemmas.{one_text-rows}
use Rattle.cli_words.specs.Arguments.{number_between}
use Rattle.cli_words.specs.CommandLine.{HasNumber, number_in, number_of}

-- ---- what a command's rules say of its arguments

-- the argument at a place has the rule there
rule_at : (c : Command) (rules : List Rule) → map rule_of (args_of c) ≡ rules → (k : ℕ) (d : Arg) (r : Rule) → k < length (args_of c)
    → rule_of (slice_index_or (args_of c) k d) ≡ slice_index_or rules k r
rule_at c rules is k d r lt = sym (get_or-map rule_of (args_of c) k d r lt) ∙ ap (λ (xs : List Rule). slice_index_or xs k r) is

some_arg : (xs : List Arg) (rules : List Rule) → map rule_of xs ≡ rules → 0 < length rules → Arg
some_arg [] rules is lt = absurd (let none : 0 ≡ length rules = ap length is in omega arith)
some_arg (x ∷ xs) rules is lt = x

simple_by : (c : Command) (app : App) → app_of c ≡ app → is_ready app.top ≡ true → list_all is_ready_leaf app.subs ≡ true → IsSimple c
simple_by c app is ready leaves = ready_simple c (ap (λ (a : App). is_ready a.top) is ∙ ready) (ap (λ (a : App). list_all is_ready_leaf a.subs) is ∙ leaves)

plain_by : (c : Command) → IsSimple c → All IsFreeArg (args_of c) → All (λ (a : Arg). a.groups.items ≡ []) (args_of c) → IsPlain c
plain_by c simple free no_groups =
    ((λ k d lt. ((free k d lt).exclusive, (free k d lt).conflicts, (free k d lt).overrides, no_groups k d lt)), simple.groups)

apart : (a b : Text) → bytes_eq a b ≡ false → a ≡ b → ⊥
apart a b other is = true≢false (sym ((bytes_eq-Decides a b).1 is) ∙ other)

-- ---- what an entry gives

-- an entry whose argument has a value
first_some : (xs : List (Bor Text)) → 0 < length xs → is_some (option_map (λ s. s.now) (slice_get xs 0)) ≡ true
first_some [] lt = absurd (omega arith)
first_some (x ∷ xs) lt = refl

found_some : (xs : List Entry) (id : Text) (i : ℕ) → i < length xs → ((d : Entry) → bytes_eq (slice_index_or xs i d).0.now id ≡ true)
    → is_some (option_map (λ e. e.1) (find (λ e. bytes_eq e.0.now id) xs)) ≡ true
found_some [] id i lt hit = absurd (omega arith)
found_some (x ∷ xs) id zero lt hit = rw (hit x) refl
found_some (x ∷ xs) id (suc i) lt hit = go (bytes_eq x.0.now id) (found_some xs id i (omega arith) hit)
  where
    go : (b : Bool) → is_some (option_map (λ (e : Entry). e.1) (find (λ e. bytes_eq e.0.now id) xs)) ≡ true
        → is_some (option_map (λ (e : Entry). e.1) (cond b (Some x) (find (λ e. bytes_eq e.0.now id) xs))) ≡ true
    go true e = refl
    go false e = e

id_has_entry : (f : Found) (id : Text) → HasId f id → is_some (matched_of f id) ≡ true
id_has_entry f id has = found_some f.entries.items id has.0 has.1 has.2

-- the text that a typed getter reads, of an entry with a first value
head_passes : (P : Bor Text → Type 0) (how : Reading) (vs : List (Bor Text)) → All P vs
    → is_some (option_map (λ s. s.now) (slice_get vs 0)) ≡ true
    → (v : Bor Text) × (option_map (λ s. read_as how s.now) (slice_get vs 0) ≡ Some (read_as how v.now)) × P v
head_passes P how [] h some = cc
head_passes P how (v ∷ vs) h some = (v, refl, All-get_or P (v ∷ vs) 0 v (omega arith) h)

one_text_at_entry : (f : Found) (id : Text) (x : MatchedArg) (how : Reading) (t : Text) → matched_of f id ≡ Some x → x.reading ≡ how
    → option_map (λ s. read_as how s.now) (slice_get x.vals.items 0) ≡ Some t → one_text f id ≡ Some t
one_text_at_entry f id x how t found is v = rw (found, is) v

-- ---- an argument of a command that was parsed, which has an id and a parser of its own

module _ (c : Command) (m : ArgMatches) (p : IsParsedFrom c m) (plain : IsPlain c) (globals : (out-Command c).has_globals ≡ false)
    (k : ℕ) (d : Arg) (lt : k < length (args_of c))
    (unique : (j : ℕ) (e : Arg) → j < length (args_of c) → bytes_eq (slice_index_or (args_of c) j e).id.now (slice_index_or (args_of c) k d).id.now ≡ true → j ≡ k)
    (named : (slice_index_or (args_of c) k d).id.now ≡ [] → ⊥) (own : IsAuto (slice_index_or (args_of c) k d) → ⊥) where
  -- the entry of the argument's id, by what holds of each entry
  entry_of : (x : MatchedArg) → matched_of (found_of m) (slice_index_or (args_of c) k d).id.now ≡ Some x
      → (e : Entry) × (e.1 ≡ x) × (e.0.now ≡ (slice_index_or (args_of c) k d).id.now) × EntryPasses p.built e
  entry_of x found =
      let parsed = p.parsed (p.from.globals ∙ globals) in
      let got = entry_by_id (EntryPasses p.built) (found_of m).entries.items (slice_index_or (args_of c) k d).id.now x parsed.values found in
      (got.0, got.1, (bytes_eq-Decides got.0.0.now (slice_index_or (args_of c) k d).id.now).0 got.2, got.3)

  no_group : (e : Entry) → e.0.now ≡ (slice_index_or (args_of c) k d).id.now → EntryPasses p.built e → e.1.is_group ≡ true → ⊥
  no_group e key pass group =
      let none : groups_of p.built ≡ [] = (p.from.plain plain).1 in
      elim (pass.3 group) [
        | inl empty ↦ named (sym key ∙ empty)
        | inr lots ↦
            let bad : 0 < 0 = rw none at lots in
            omega arith
      ]

  -- an argument that takes a value has one, if it has an entry
  has_value : (slice_index_or (args_of c) k d).action ≡ Some Set → (slice_index_or (args_of c) k d).val_delim ≡ None
      → 1 ≤ least_values (slice_index_or (args_of c) k d) → (x : MatchedArg) → matched_of (found_of m) (slice_index_or (args_of c) k d).id.now ≡ Some x
      → is_some (option_map (λ s. s.now) (slice_get x.vals.items 0)) ≡ true
  has_value set delim least x found =
      let got = entry_of x found in
      let rules = λ (j : ℕ) (y : Arg). same_rules_by_id c m p k d lt unique own j y in
      elim got.3.1 [
        | inl h ↦ absurd (no_group got.0 got.2 got.3 h.0)
        | inr (inl v) ↦ first_some x.vals.items (rw got.1 at v)
        | inr (inr (inl h)) ↦
            let any = h.1 in
            let s = rules any.0 any.1 any.2 any.3 (rw got.2 at any.4.0) in
            let is_set : any.1.action ≡ Some Set = s.action Set set in
            let bad : Set ≡ Count = rw is_set at any.4.1 in
            cc
        | inr (inr (inr h)) ↦
            let s = rules h.0 h.1 h.2 h.3 (rw got.2 at h.4.0) in
            elim h.4.1 [
              | inl none ↦
                  let one = s.least set least in
                  absurd (omega arith)
              | inr has ↦
                  let bad : false ≡ true = rw (s.val_delim, delim) at has in
                  cc
            ]
      ]

  -- what an argument with the id takes, and how its values are read
  takes_by : (q : ValueParser) → (slice_index_or (args_of c) k d).value_parser ≡ Some q → (slice_index_or (args_of c) k d).ignore_case ≡ false
      → (y : Arg) → SameRules (slice_index_or (args_of c) k d) y → (t : Text) → Accepts y.ignore_case (parser_of y) t → Accepts false q t
  takes_by q parser case y same t accepted =
      let is_q : parser_of y ≡ q = ap parser_of_value (same.parser q parser) in
      let as_q : Accepts y.ignore_case q t = subst (λ (w : ValueParser). Accepts y.ignore_case w t) is_q accepted in
      subst (λ (b : Bool). Accepts b q t) (same.ignore_case ∙ case) as_q

  reads_by : (q : ValueParser) → (slice_index_or (args_of c) k d).value_parser ≡ Some q → (y : Arg) → SameRules (slice_index_or (args_of c) k d) y
      → (how : Reading) → reading_of (parser_of y) ≡ how → how ≡ reading_of q
  reads_by q parser y same how is = sym is ∙ ap (λ (o : Option ValueParser). reading_of (parser_of_value o)) (same.parser q parser)

  passes_by : (q : ValueParser) → (slice_index_or (args_of c) k d).value_parser ≡ Some q → (slice_index_or (args_of c) k d).ignore_case ≡ false
      → (t : Text) → PassesArg p.built (slice_index_or (args_of c) k d).id.now t → Accepts false q t
  passes_by q parser case t pass =
      takes_by q parser case pass.1 (same_rules_by_id c m p k d lt unique own pass.0 pass.1 pass.2 pass.3 pass.4.0) t pass.4.1

  reading_by : (q : ValueParser) → (slice_index_or (args_of c) k d).value_parser ≡ Some q → (how : Reading)
      → HasReading p.built (slice_index_or (args_of c) k d).id.now how → how ≡ reading_of q
  reading_by q parser how has =
      reads_by q parser has.1 (same_rules_by_id c m p k d lt unique own has.0 has.1 has.2 has.3 has.4.0) how has.4.1

  values_pass : (x : MatchedArg) → matched_of (found_of m) (slice_index_or (args_of c) k d).id.now ≡ Some x
      → All (λ (v : Bor Text). PassesArg p.built (slice_index_or (args_of c) k d).id.now v.now) x.vals.items
  values_pass x found =
      let got = entry_of x found in
      elim got.3.0 [
        | inl group ↦ absurd (no_group got.0 got.2 got.3 group)
        | inr vals ↦ subst (λ (w : Text). All (λ v. PassesArg p.built w v.now) x.vals.items) got.2 (rw got.1 at vals)
      ]

  has_reading : (x : MatchedArg) → matched_of (found_of m) (slice_index_or (args_of c) k d).id.now ≡ Some x
      → HasReading p.built (slice_index_or (args_of c) k d).id.now x.reading
  has_reading x found =
      let got = entry_of x found in
      elim got.3.4 [
        | inl group ↦ absurd (no_group got.0 got.2 got.3 group)
        | inr how ↦ subst (λ (w : Text). HasReading p.built w x.reading) got.2 (rw got.1 at how)
      ]

  -- and the value passed the argument's parser, and is read as that says
  value_read : (q : ValueParser) → (slice_index_or (args_of c) k d).value_parser ≡ Some q → (slice_index_or (args_of c) k d).ignore_case ≡ false
      → (x : MatchedArg) → matched_of (found_of m) (slice_index_or (args_of c) k d).id.now ≡ Some x
      → is_some (option_map (λ s. s.now) (slice_get x.vals.items 0)) ≡ true
      → (t : Text) × (one_text (found_of m) (slice_index_or (args_of c) k d).id.now ≡ Some (read_as (reading_of q) t)) × Accepts false q t
  value_read q parser case x found first =
      read_first (reading_by q parser x.reading (has_reading x found))
      (head_passes (λ v. PassesArg p.built (slice_index_or (args_of c) k d).id.now v.now) (reading_of q) x.vals.items (values_pass x found) first)
    where
      read_first : x.reading ≡ reading_of q
          → ((v : Bor Text) × (option_map (λ s. read_as (reading_of q) s.now) (slice_get x.vals.items 0) ≡ Some (read_as (reading_of q) v.now))
          × PassesArg p.built (slice_index_or (args_of c) k d).id.now v.now)
          → (t : Text) × (one_text (found_of m) (slice_index_or (args_of c) k d).id.now ≡ Some (read_as (reading_of q) t)) × Accepts false q t
      read_first is head = (
        head.0.now,
        one_text_at_entry (found_of m) (slice_index_or (args_of c) k d).id.now x (reading_of q) (read_as (reading_of q) head.0.now) found is head.1,
        passes_by q parser case head.0.now head.2,
      )

-- ---- numbers

without_minus-cond : (t : Text) → without_minus t ≡ cond (starts_with_minus t) (drop 1 t) t
without_minus-cond [] = refl
without_minus-cond (x ∷ xs) = go (x == 45)
  where
    go : (b : Bool) → unwrap_or (cond b (Some xs) None) (x ∷ xs) ≡ cond b xs (x ∷ xs)
    go true = refl
    go false = refl

-- a text that passed a range above zero is read as a number in it
number_passed : (low high : ℕ) (t : Text) → 1 ≤ low → high < 2 ^ 63 → IsSignedIn (pos low) (pos high) t → IsUnsignedIn low high (without_minus t)
number_passed low high t one fits passed = go (starts_with_minus t) refl
  where
    go : (b : Bool) → starts_with_minus t ≡ b → IsUnsignedIn low high (without_minus t)
    go true minus =
        let least = rw minus at passed.2 in
        absurd (omega (arith, ints))
    go false minus =
        let least = rw minus at passed.2 in
        let most = rw minus at passed.3 in
        let numeral : IsNumeral 10 (without_leading_plus t) = rw minus at passed.0 in
        let same : without_minus t ≡ t = rw (without_minus-cond t, minus) refl in
        subst (IsUnsignedIn low high) (sym same) (numeral, omega (arith, ints), omega (arith, ints), omega (arith, ints))

-- the rule r, at place k of a command, is that of an argument of its own which takes a number
pub record IsRanged (app : App) (k : ℕ) (r : Rule) (low high : ℕ) : Type 0 where
  pub ready : is_ready app.top ≡ true
  pub leaves : list_all is_ready_leaf app.subs ≡ true
  pub simple : list_all (λ (a : Rule). a.is_simple) app.top.rules ≡ true
  pub free : has_free_rules app.top ≡ true
  pub place : k < length app.top.rules
  pub here : slice_index_or app.top.rules k r ≡ r
  pub parser : r.parser ≡ Some (number_between low high)
  pub case : r.ignore_case ≡ false
  pub set : r.action ≡ Some Set
  pub range : r.range ≡ None
  pub least : 1 ≤ low
  pub most : high < 2 ^ 63
  pub named : r.id ≡ [] → ⊥
  pub not_help : bytes_eq r.id (codes "help") ≡ false
  pub not_version : bytes_eq r.id (codes "version") ≡ false
  pub unique : (j : ℕ) → j < length app.top.rules → bytes_eq (slice_index_or app.top.rules j r).id r.id ≡ true → j ≡ k

module _ (c : Command) (app : App) (m : ArgMatches) (p : IsParsedFrom c m) (is : app_of c ≡ app) (k : ℕ) (r : Rule) (low high : ℕ)
    (ranged : IsRanged app k r low high) where
  rules_are : map rule_of (args_of c) ≡ app.top.rules
  rules_are = ap (λ (a : App). a.top.rules) is

  many : length (args_of c) ≡ length app.top.rules
  many = sym (length-map (args_of c) rule_of) ∙ ap length rules_are

  in_place : k < length (args_of c)
  in_place = subst (λ n. k < n) (sym many) ranged.place

  other : Arg
  other = some_arg (args_of c) app.top.rules rules_are (let place = ranged.place in omega arith)

  abbrev arg : Arg
  arg = slice_index_or (args_of c) k other

  rule_is : rule_of arg ≡ r
  rule_is = rule_at c app.top.rules rules_are k other r in_place ∙ ranged.here

  id_is : arg.id.now ≡ r.id
  id_is = ap (λ (x : Rule). x.id) rule_is

  simple : IsSimple c
  simple = simple_by c app is ranged.ready ranged.leaves

  plain : IsPlain c
  plain =
      plain_by c simple (free_args c simple (ap (λ (a : App). has_free_rules a.top) is ∙ ranged.free))
      (simple_groups c (ap (λ (a : App). list_all (λ (x : Rule). x.is_simple) a.top.rules) is ∙ ranged.simple))

  unique : (j : ℕ) (e : Arg) → j < length (args_of c) → bytes_eq (slice_index_or (args_of c) j e).id.now arg.id.now ≡ true → j ≡ k
  unique j e lt same =
      let there : (slice_index_or (args_of c) j e).id.now ≡ (slice_index_or app.top.rules j r).id = ap (λ (x : Rule). x.id) (rule_at c app.top.rules rules_are j e r lt) in
      ranged.unique j (subst (λ n. j < n) many lt) (rw (there, id_is) at same)

  named : arg.id.now ≡ [] → ⊥
  named empty = ranged.named (sym id_is ∙ empty)

  own : IsAuto arg → ⊥
  own auto = elim auto [
    | inl help ↦ apart r.id (codes "help") ranged.not_help (sym id_is ∙ help)
    | inr version ↦ apart r.id (codes "version") ranged.not_version (sym id_is ∙ version)
  ]

  least : 1 ≤ least_values arg
  least =
      let none : arg.num_vals ≡ None = ap (λ (x : Rule). x.range) rule_is ∙ ranged.range in
      subst (λ (o : Option ValueRange). 1 ≤ (unwrap_or_range o).start_inclusive) (sym none) (omega arith)

  number_of_entry : (x : MatchedArg) → matched_of (found_of m) arg.id.now ≡ Some x → HasNumber low high r.id (rows_of (found_of m))
  number_of_entry x found =
      let set : arg.action ≡ Some Set = ap (λ (y : Rule). y.action) rule_is ∙ ranged.set in
      let parser : arg.value_parser ≡ Some (number_between low high) = ap (λ (y : Rule). y.parser) rule_is ∙ ranged.parser in
      let case : arg.ignore_case ≡ false = ap (λ (y : Rule). y.ignore_case) rule_is ∙ ranged.case in
      let delim = (simple.args k other in_place).delimiter in
      let first = has_value c m p plain simple.globals k other in_place unique named own set delim least x found in
      let read = value_read c m p plain simple.globals k other in_place unique named own (number_between low high) parser case x found first in
      let text : one_text (found_of m) r.id ≡ Some (without_minus read.0) = subst (λ (w : Text). one_text (found_of m) w ≡ Some (without_minus read.0)) id_is read.1 in
      (without_minus read.0, sym (one_text-rows (found_of m) r.id) ∙ text, number_passed low high read.0 ranged.least ranged.most read.2)

  given_number : is_some (matched_of (found_of m) arg.id.now) ≡ true → HasNumber low high r.id (rows_of (found_of m))
  given_number some = go (matched_of (found_of m) arg.id.now) refl some
    where
      go : (o : Option MatchedArg) → matched_of (found_of m) arg.id.now ≡ o → is_some o ≡ true → HasNumber low high r.id (rows_of (found_of m))
      go None e none = absurd (true≢false (sym none))
      go (Some x) e some = number_of_entry x e

  -- it has a number where it has to be there
  pub required_number : r.required ≡ true → app.top.subcommand_negates_reqs ≡ false → HasNumber low high r.id (rows_of (found_of m))
  required_number required negates =
      let wanted : arg.required ≡ true = ap (λ (x : Rule). x.required) rule_is ∙ required in
      let no_negation : (out-Command c).subcommand_negates_reqs ≡ false = ap (λ (a : App). a.top.subcommand_negates_reqs) is ∙ negates in
      given_number (present_has_entry (found_of m) arg.id.now (required_present c m p plain simple.globals no_negation k other in_place wanted))

  -- and where it has a default
  pub default_number : 0 < length r.defaults → HasNumber low high r.id (rows_of (found_of m))
  default_number some =
      let texts_are : map (λ s. s.now) (items_of arg.default_vals) ≡ r.defaults = ap (λ (x : Rule). x.defaults) rule_is in
      let as_many : length (items_of arg.default_vals) ≡ length r.defaults = sym (length-map (items_of arg.default_vals) (λ (s : Bor Text). s.now)) ∙ ap length texts_are in
      let wants : 0 < length (items_of arg.default_vals) = subst (λ n. 0 < n) (sym as_many) some in
      given_number (id_has_entry (found_of m) arg.id.now (default_present c m p simple.globals k other in_place ((simple.args k other in_place).default_ifs, wants)))

-- a number in a range that fits the type is read as it is
pub number_read : {E : Type 0} (G : Text → Result ℕ E → Type 0) (k low high : ℕ) (f : Found) (id : Text) (r : Option ℕ)
    → HasNumber low high id (rows_of f) → high < 2 ^ k → ((u : Text) (x : Result ℕ E) → G u x → ParsesUnsigned k 10 u x)
    → ((t : Text) → one_text f id ≡ Some t → ReadsOne G t r) → r ≡ Some (number_in id (rows_of f))
number_read {E} G k low high f id r has fits only reads =
    go r (reads has.0 (one_text-rows f id ∙ has.1)) ∙ ap (λ (o : Option Text). Some (number_of (unwrap_or o []))) (sym has.1)
  where
    go : (o : Option ℕ) → ReadsOne G has.0 o → o ≡ Some (number_of has.0)
    go (Some v) read = ap (λ (n : ℕ). Some n) (only has.0 (Ok v) read).1
    go None read = absurd (only has.0 (Err read.0) read.1 (has.2.0, let most = has.2.3 in omega arith))
