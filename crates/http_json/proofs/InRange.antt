-- One value more, whose numbers are in range or not.
use Rattle.std.proofs.Common.{◌≡◌, refl, Bool, true, false, ◌&&◌, List, [], ◌∷◌, ◌++◌, ℕ}
use Rattle.std.specs.Borrow.{Bor}
use Rattle.std.specs.declared.alloc.Global.{Global}
use Rattle.json.specs.Value.{value_view, items_view, members_view}
use Rattle.json.specs.declared.value.Value.{Value}
use Rattle.http_json.specs.View.{is_in_range, items_in_range, members_in_range}

pub and_true : (b : Bool) → b ≡ (b && true)
and_true true = refl
and_true false = refl

pub one_more_in_range : (before : Bool) (vs : List (Value Global)) (v : Value Global)
    → ((before && items_in_range (items_view vs)) && is_in_range (value_view v)) ≡ (before && items_in_range (items_view (vs ++ v ∷ [])))
one_more_in_range false vs v = refl
one_more_in_range true [] v = and_true (is_in_range (value_view v))
one_more_in_range true (u ∷ us) v = one_more_in_range (is_in_range (value_view u)) us v

pub one_more_member_in_range : (before : Bool) (ms : List (Bor (List ℕ) × Value Global)) (m : Bor (List ℕ) × Value Global)
    → ((before && members_in_range (members_view ms)) && is_in_range (value_view m.1)) ≡ (before && members_in_range (members_view (ms ++ m ∷ [])))
one_more_member_in_range false ms m = refl
one_more_member_in_range true [] m = and_true (is_in_range (value_view m.1))
one_more_member_in_range true (l ∷ ls) m = one_more_member_in_range (is_in_range (value_view l.1)) ls m
