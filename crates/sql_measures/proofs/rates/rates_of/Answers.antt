use Rattle.std.proofs.Common.{◌∙◌, ◌-◌, ap}
use Rattle.desk_rules.specs.ReturnRates.{rates}
use Rattle.sql_read_steps.proofs.InTurn.{read, both, answered}
use Rattle.sql_measures.proofs.RatedHeads.{rates_are}
use Rattle.sql_measures.proofs.rates.rates_of.Goals as goal

pub returns : goal.returns
returns g c =
    let settled = read c.settled_facts.ensures c.in_ok-all.was in
    let returned = read c.returned_facts.ensures c.in_ok-returned.was in
    answered (both settled returned.so)
    (λ t told. c.rates.ensures ∙ ap (λ facts. rates facts c.args.today) (c.deref.ensures.value ∙ c.in_ok-append.ensures.items) ∙ rates_are t c.args.company c.args.today c.saturating_sub-since.result (c.saturating_sub-since.ensures ∙ ap (λ n. n - 59) c.number_of.ensures) c.in_ok-all.all.items c.in_ok-returned.returned.items told.0 told.1)
