use Rattle.std.proofs.Common.{◌≡◌, ◌∙◌, true, false, sym}
use Rattle.desk_rules.specs.Exposure.{is_open_credit}
use Rattle.sql_read_steps.proofs.InTurn.{query, learned, unasked}
use Rattle.sql_measures.proofs.RowFacts.{credit_open, credit_none}
use Rattle.sql_measures.specs.Counted.{state_alone}
use Rattle.sql_measures.proofs.open_cents.credit_of.Goals as goal

pub returns-in_ok-cents : goal.returns-in_ok-cents
returns-in_ok-cents g c =
    let counts : is_open_credit (state_alone c.args.head.now) c.args.today ≡ true = rw c.entry_state.ensures at (sym c.is_open_credit.ensures ∙ c.if-is_open_credit.true) in
    learned (query (rw c.in_ok-cents.ensures at c.cents_of.ensures.answer) c.cents_of.ensures.stays c.cents_of.ensures.survives).so
    (λ t are credit. credit_open t c.args.head.now c.args.today c.in_ok-cents.cents are credit counts)

pub returns-else-is_open_credit : goal.returns-else-is_open_credit
returns-else-is_open_credit g c =
    let closed : is_open_credit (state_alone c.args.head.now) c.args.today ≡ false = rw c.entry_state.ensures at (sym c.is_open_credit.ensures ∙ c.if-is_open_credit.false) in
    unasked (λ t credit. sym (credit_none t c.args.head.now c.args.today closed))
