-- Which entries count for the return rates of a day: what lies outside of their window adds nothing.
use Rattle.std.specs.Prelude.{◌≡◌, ℕ, Bool, ◌&&◌, ◌||◌, List, filter}
use Rattle.desk_rules.specs.declared.rules.entry_fact.EntryFact.{EntryFact}
use Rattle.desk_rules.specs.declared.rules.rate.Level.TheVariants.{Overall}
use Rattle.desk_rules.specs.ReturnRates.{has_settled, is_live_debit, rates, was_returned}

-- a live debit that settled in the window, or whose return was taken in it
abbrev pub is_rated : (day : ℕ) → EntryFact → Bool
is_rated day f = is_live_debit f && (has_settled f.state day || was_returned Overall f.state day)

-- these rates are those of all facts
abbrev pub RatedFactsSuffice : Type 0
RatedFactsSuffice = (facts : List EntryFact) (day : ℕ) → rates (filter (is_rated day) facts) day ≡ rates facts day
