use Rattle.std.proofs.Common.{rules, ◌≡◌, ◌∙◌, ap, sym, List, []}
use Rattle.sql_read_steps.proofs.InTurn.{read, answered}
use Rattle.desk_book.specs.OpenSubmissions.{open_cents}
use Rattle.desk_rules.specs.declared.rules.entry_fact.EntryFact.{EntryFact}
use Rattle.sql_measures.proofs.OpenEntries.{none_of, read_empty, read_facts, some_of}
use Rattle.sql_measures.proofs.submissions.by_facts.Goals as goal

pub returns-then-is_empty : goal.returns-then-is_empty
returns-then-is_empty g c =
    let none : c.in_ok-facts.facts.items ≡ [] = none_of c.in_ok-facts.facts.items _ c.in_ok-facts.facts.ok.0 (sym c.is_empty.ensures ∙ c.if-is_empty.true) in
    answered (read c.facts.ensures c.in_ok-facts.was) (λ t are since counts. c.new.ensures.items ∙ read_empty t c.args.head.now since counts (sym are ∙ none))

pub returns : goal.returns
returns g c =
    answered (read c.facts.ensures c.in_ok-facts.was)
    (λ t are since counts. c.in_ok-found.ensures ∙ read_facts t c.args.head.now since counts c.in_ok-facts.facts.items _ _ are (search rules) (search rules) (some_of c.in_ok-facts.facts.items _ c.in_ok-facts.facts.ok.0 (sym c.is_empty.ensures ∙ c.if-is_empty.false)))
