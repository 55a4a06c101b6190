use Rattle.std.proofs.Common.{◌≡◌, ◌∙◌, false, sym}
use Rattle.desk_rules.specs.Exposure.{is_open_debit}
use Rattle.sql_read_steps.proofs.InTurn.{unasked}
use Rattle.sql_measures.proofs.RowFacts.{debit_none}
use Rattle.sql_measures.specs.Counted.{state_alone}
use Rattle.sql_measures.proofs.open_cents.debit_of.Goals as goal

pub returns-else-is_open_debit : goal.returns-else-is_open_debit
returns-else-is_open_debit g c =
    let closed : is_open_debit (state_alone c.args.head.now) c.args.today c.args.calendar.now ≡ false = rw c.entry_state.ensures at (sym c.is_open_debit.ensures ∙ c.if-is_open_debit.false) in
    unasked (λ t debit. sym (debit_none t c.args.head.now c.args.today c.args.calendar.now closed))
