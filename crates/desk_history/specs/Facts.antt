-- The facts about a company's entries that rules read.
use Rattle.std.specs.Prelude.{ℕ, Bool, List, map}
use Rattle.std.specs.List.{flat_map, enumerate_from}
use Rattle.desk_rules.specs.declared.rules.entry_fact.EntryFact.{EntryFact}
use Rattle.desk_rules.specs.declared.rules.entry_fact.EntryState.{EntryState}
use Rattle.desk_rules.specs.declared.bodies.submission.Entry.{Entry}
use Rattle.desk_rules.specs.LimitChecks.{is_debit}
use Rattle.desk_history.specs.Part.{Event}
use Rattle.desk_history.specs.Accepted.{AcceptedSubmission, state_of}

-- the fact of an entry in its state
abbrev pub entry_fact : (debit : Bool) → Entry × EntryState → EntryFact
entry_fact debit x = record { debit = debit; prenote = x.0.prenote; cents = x.0.cents; state = x.1 }

abbrev pub fact_of : List Event → AcceptedSubmission → ℕ → Entry → EntryFact
fact_of P a index e = entry_fact (is_debit a.content.direction) (e, state_of P a index)

-- one for each entry of the accepted submissions
abbrev pub facts : List Event → List AcceptedSubmission → List EntryFact
facts P A = flat_map (λ a. map (λ x. fact_of P a x.0 x.1) (enumerate_from 1 a.content.entries)) A
