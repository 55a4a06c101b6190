use Rattle.std.proofs.Common.{◌≡◌, map, reverse, subst, sym, ap, ◌∙◌}
use Rattle.std.proofs.lemmas.List.{reverse-reverse}
use Rattle.desk_book.specs.OnIntake.{traced_entries}
use Rattle.desk_book.specs.Reads.{last_sequence, sent_count, latest_settled}
use Rattle.desk_history.specs.declared.identity.Identity.{Identity}
use Rattle.sql_tables.specs.ByName as named
use Rattle.sql_tables.specs.Encodes.{AreYoungest}
use Rattle.sql_tables.specs.Composed.{latest_in}
use Rattle.sql_read_laws.proofs.LastNumbers.{last_is}
use Rattle.sql_read_laws.proofs.ReadsAs.{reads_as}
use Rattle.sql_read_laws.proofs.TracedFound.{traced_found, latest_found}
use Rattle.sql_read_laws.proofs.numbers.numbers_of_tables.Goals as goal

pub returns : goal.returns
returns c = record {
  sent_count = λ last trees t b stored is told.
      (last_is (reverse is.rows.sent) t.numbers (subst (AreYoungest t.numbers) (sym (reverse-reverse is.rows.sent)) is.encodes.numbers) (stored.stands named.numbers).rise last told).0 ∙ sym (ap sent_count is.book);
  last_sequence = λ last trees t b stored is told.
      (last_is (reverse is.rows.sent) t.numbers (subst (AreYoungest t.numbers) (sym (reverse-reverse is.rows.sent)) is.encodes.numbers) (stored.stands named.numbers).rise last told).1 ∙ sym (ap last_sequence is.book);
  traced_entries = λ traces found trees t b stored is told.
      let own : t.desk.identity ≡ is.rows.identity = ap (λ d. d.identity) is.encodes.desk in
      told.1
      ∙ (λ i. map (λ trace. traced_found t is.rows is.encodes (stored.stands named.submissions).rise is.beside c.numbers_and_digits.ensures t.desk.identity.odfi told.0 (ap (λ (k : Identity). k.odfi) own) trace i) traces)
      ∙ sym (ap (traced_entries traces) is.book);
  latest_settled = λ from to. reads_as (latest_in from to) (latest_settled from to) (λ trees t r stored e beside. latest_found t r e (stored.stands named.submissions).rise beside (stored.stands named.numbers).rise from to);
}
