use Rattle.std.proofs.Common.{◌≡◌, ◌∙◌, Ok, option_map, unwrap_or}
use Rattle.sqlite.specs.Held.{state}
use Rattle.desk_store.specs.LastNumber.{last_number}
use Rattle.desk_store.specs.declared.store.LastNumber.{LastNumber}
use Rattle.sql_tables.specs.TableReads.{IsLastNumber}
use Rattle.sql_tables.specs.Tables.{Tables}
use Rattle.sql_store.proofs.Reading.{made_of, reads}
use Rattle.sql_store.proofs.store.SqlStoreStore.last_number.Goals as goal

pub returns : goal.returns
returns g c =
    let old = state g.S.Store c.args.self.now.conn in
    let new = state g.S.Store c.last_number.new.conn in
    let last = c.in_ok-last.last in
    let Tells : LastNumber → Tables → Type 0 = λ y t. (y.sequence ≡ unwrap_or (option_map (λ n. n.sequence) last) 0) × (y.place ≡ unwrap_or (option_map (λ n. n.place) last) 0) × IsLastNumber last t in
    reads g.S.Store _ _ Tells last_number
    (λ y trees t b stored encodes is. λ i. record {
      sequence = (is.0 ∙ c.numbers_of_tables.ensures.last_sequence last trees t b stored encodes is.2) i;
      place = (is.1 ∙ c.numbers_of_tables.ensures.sent_count last trees t b stored encodes is.2) i;
    })
    (Ok c.number_of.result)
    (made_of IsLastNumber Tells c.last_number.result last (Ok c.number_of.result) old new c.in_ok-last.ensures (λ t is. (c.number_of.ensures.sequence, c.number_of.ensures.place, is)) c.last_number.ensures)
