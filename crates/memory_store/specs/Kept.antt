-- The rows that a store in memory keeps, and the book that they are.
use Rattle.std.specs.Prelude.{◌≡◌, map, All}
use Rattle.desk_book.specs.Book.{Book}
use Rattle.memory_store.specs.declared.list_store.KeptSubmission.{KeptSubmission}
use Rattle.memory_store.specs.declared.list_store.ListStore.{ListStore}
use Rattle.memory_store.specs.Indexed.{IsIndexed, AreSettled}
use Rattle.memory_store.specs.Open.{IsBounded}
use Rattle.memory_store.specs.Placed.{ArePlaced}
use Rattle.desk_store.specs.Rows.{Rows, CompanyRow, flat_book}

abbrev pub row_in : KeptSubmission → CompanyRow
row_in k = record {
  company = k.company;
  row = record { order = k.order; content = k.content; retry = k.retry; settled = k.settled; lapsed = k.lapsed; states = k.states.items };
}

abbrev pub rows_in : ListStore → Rows
rows_in s = record {
  identity = s.identity;
  operator_key = s.operator_key;
  day = s.day;
  holidays = s.holidays;
  companies = s.companies.items;
  submissions = map row_in s.submissions.items;
  returned = s.returned.items;
  changed = s.changed.items;
  postings = s.postings.items;
  sent = s.sent.items;
  printed = s.printed.items;
  suspense = s.suspense.items;
  files = s.files.items;
  taken = s.taken.items;
}

-- the book that its rows are, and no other
abbrev pub IsBookOf : ListStore → Book → Type 0
IsBookOf s b = b ≡ flat_book (rows_in s)

-- it holds this book, its indexes find what the book has, and a submission without a settlement day has no open entry
pub record IsHeld (s : ListStore) (b : Book) : Type 0 where
  pub book : IsBookOf s b
  pub indexed : IsIndexed s.sent.items s.traces
  pub settled : AreSettled s.sent.items s.settlements
  pub bounded : All IsBounded (map row_in s.submissions.items)
  pub placed : ArePlaced (map row_in s.submissions.items) s.places
