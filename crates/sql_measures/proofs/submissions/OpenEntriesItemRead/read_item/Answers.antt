use Rattle.std.proofs.Common.{◌≡◌, ◌∙◌, true, false, sym}
use Rattle.desk_rules.specs.Exposure.{is_open_credit}
use Rattle.sql_read_steps.proofs.InTurn.{read, learned, unasked}
use Rattle.sql_measures.proofs.OpenEntries.{read_closed}
use Rattle.sql_measures.specs.Counted.{state_alone}
use Rattle.sql_measures.proofs.submissions.OpenEntriesItemRead.read_item.Goals as goal

pub returns-then-not-is_open_credit : goal.returns-then-not-is_open_credit
returns-then-not-is_open_credit g c =
    let closed : is_open_credit (state_alone c.args.head.now) c.args.self.now.since ≡ false = rw c.entry_state.ensures at (sym c.is_open_credit.ensures ∙ c.if-not-is_open_credit.true) in
    unasked (λ t. c.new.ensures.items ∙ read_closed t c.args.head.now c.args.self.now.since closed)
