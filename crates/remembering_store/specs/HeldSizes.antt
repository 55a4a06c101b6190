-- What is remembered of the sizes of held submissions, and when it agrees with the book.
use Rattle.std.specs.Prelude.{◌≡◌, true, false, not, List, map, filter, None, IfSome, is_some}
use Rattle.std.specs.BTreeSet.{contains}
use Rattle.std.specs.HashMap.{get}
use Rattle.std.specs.List.{AllByRecursion}
use Rattle.std.specs.Ordering.{nat_cmp}
use Rattle.desk_book.specs.Book.{Book}
use Rattle.desk_book.specs.HeldSizes.{size_of}
use Rattle.desk_book.specs.Standing.{is_held, original_of_row}
use Rattle.desk_book.specs.declared.held_size.HeldSize.{HeldSize}
use Rattle.desk_book.specs.declared.row.Row.{Row}
use Rattle.remembering_store.specs.CompanyKeys.{is_same_company}
use Rattle.remembering_store.specs.declared.company_key.CompanyKey.{CompanyKey}
use Rattle.remembering_store.specs.declared.held.KnownHeld.{KnownHeld}
use Rattle.remembering_store.specs.declared.held.held_of.HeldOf.{HeldOf}

-- ---- of rows

abbrev pub row_size : List Row → Row → HeldSize
row_size rs row = size_of row.order row.content (is_some row.retry) (original_of_row rs row.retry)

-- the sizes of those that are held
abbrev pub held_sizes_among : List Row → List HeldSize
held_sizes_among rs = map (row_size rs) (filter is_held rs)

-- that of a row that is no retry
abbrev pub plain_size : Row → HeldSize
plain_size row = size_of row.order row.content false None

-- no held one is a retry
abbrev pub ArePlain : List Row → Type 0
ArePlain rs = AllByRecursion (λ row. is_held row ≡ true → row.retry ≡ None) rs

-- ---- what is kept

-- the sizes of what no cut has decided
abbrev pub kept : HeldOf → List HeldSize
kept m = filter (λ z. not (contains nat_cmp m.decided z.order)) m.sizes.items

-- they are those of a company's rows
pub record AreKept (m : HeldOf) (rs : List Row) : Type 0 where
  pub sizes : kept m ≡ map plain_size (filter is_held rs)
  pub plain : ArePlain rs

abbrev pub HeldRight : KnownHeld → Book → Type 0
HeldRight m b = (k : CompanyKey) → IfSome (get is_same_company m.companies k) (λ x. AreKept x (b.rows k.company))

-- what agreed with a book agrees with the one after a step
abbrev pub FollowsHeld : (old new : KnownHeld) → (Book → Book) → Type 0
FollowsHeld old new after = (b : Book) → HeldRight old b → HeldRight new (after b)
