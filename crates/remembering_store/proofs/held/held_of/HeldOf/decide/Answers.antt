use Rattle.std.proofs.Common.{◌∙◌, refl, sym}
use Rattle.desk_book.specs.Standing.{lapsed_row, sent_row}
use Rattle.remembering_store.proofs.HeldSizes.{kept_decided, lapsed_gone, once_ok, sent_gone, size_decided}
use Rattle.remembering_store.proofs.held.held_of.HeldOf.decide.Goals as goal

pub returns-clause-sent : goal.returns-clause-sent
returns-clause-sent c = λ ok on rs are.
    let m = c.args.self.now in
    let n = record m { decided = c.insert.new.self } in
    kept_decided c.args.order (sent_row on) (sent_gone on) m n rs (size_decided m n c.args.order refl (once_ok c.insert.result (sym c.is_ok.ensures.value ∙ ok) c.insert.ensures.updates).0) are

pub returns-clause-lapsed : goal.returns-clause-lapsed
returns-clause-lapsed c = λ ok rs are.
    let m = c.args.self.now in
    let n = record m { decided = c.insert.new.self } in
    kept_decided c.args.order lapsed_row lapsed_gone m n rs (size_decided m n c.args.order refl (once_ok c.insert.result (sym c.is_ok.ensures.value ∙ ok) c.insert.ensures.updates).0) are
