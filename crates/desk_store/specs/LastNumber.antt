-- The number of the last sent entry.
use Rattle.desk_book.specs.Book.{Book}
use Rattle.desk_book.specs.Reads.{last_sequence, sent_count}
use Rattle.desk_store.specs.declared.store.LastNumber.{LastNumber}

abbrev pub last_number : Book → LastNumber
last_number b = record { sequence = last_sequence b; place = sent_count b }
