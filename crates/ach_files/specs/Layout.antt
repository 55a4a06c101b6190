-- The layout of bytes: the whole records, and the place of the next byte.
use Rattle.std.specs.Prelude.{◌≡◌, ℕ, Bool, true, false, ◌||◌, List, [], ◌∷◌, ◌++◌, length, if◌then◌else◌, ◌==◌}
use Rattle.std.specs.List.{fold}

-- the place of the next byte: in a record, after these of its bytes; right after a record; after a CR that follows one;
-- after its line end; in the tail
pub data Place : Type 0 where
  InRecord : (bytes : List ℕ) → Place
  AfterRecord : Place
  AfterReturn : Place
  AfterLine : Place
  InTail : Place

-- a record may begin here
abbrev pub may_begin : Place → Bool
may_begin (InRecord bytes) = length bytes == 0
may_begin AfterRecord = true
may_begin AfterReturn = false
may_begin AfterLine = true
may_begin InTail = false

-- the effect of a byte: it belongs to a record, after these of its bytes; it leads to another place; or it is not
-- allowed there
pub data Move : Type 0 where
  Put : (bytes : List ℕ) → Move
  Go : (place : Place) → Move
  Stray : Move

abbrev pub is_end : ℕ → Bool
is_end b = (b == 10) || (b == 13)

-- After a record one LF or one CR LF is skipped; a CR or LF after that begins the tail, which has only CR and LF.
unfoldable pub move_at : Place → ℕ → Move
move_at (InRecord bytes) b = Put bytes
move_at AfterRecord b = if b == 10 then Go AfterLine else if b == 13 then Go AfterReturn else Put []
move_at AfterReturn b = if b == 10 then Go AfterLine else if b == 13 then Go InTail else Stray
move_at AfterLine b = if is_end b then Go InTail else Put []
move_at InTail b = if is_end b then Go InTail else Stray

-- the whole records so far, and the place of the next byte
pub record Layout : Type 0 where
  pub records : List (List ℕ)
  pub place : Place

abbrev pub layout_after_move : Layout → ℕ → Move → Layout
layout_after_move l b (Put bytes) =
    if length bytes == 93 then record { records = l.records ++ (bytes ++ b ∷ []) ∷ []; place = AfterRecord }
    else record { records = l.records; place = InRecord (bytes ++ b ∷ []) }
layout_after_move l b (Go place) = record { records = l.records; place = place }
layout_after_move l b Stray = l

unfoldable pub next_layout : Layout → ℕ → Layout
next_layout l b = layout_after_move l b (move_at l.place b)

abbrev pub start : Layout
start = record { records = []; place = InRecord [] }

unfoldable pub layout : List ℕ → Layout
layout bytes = fold next_layout start bytes

-- a record may begin after these bytes
abbrev pub MayBeginAfter : List ℕ → Type 0
MayBeginAfter bytes = may_begin (layout bytes).place ≡ true
