-- What was found last of a submission is kept for the entries that follow.
use Rattle.std.specs.Prelude.{◌≡◌, ⊤, ℕ, List, Option, Some, None, Result}
use Rattle.sqlite_trees.specs.declared.store.Store.{Ghosts}
use Rattle.sqlite.specs.Held.{Held}
use Rattle.sql_tables.specs.TableReads.{facts_in}
use Rattle.sql_tables.specs.Tables.{Tables}
use Rattle.sql_tables.specs.declared.row.submissions.SubmissionFacts.{SubmissionFacts}
use Rattle.sql_queries.specs.Asking.{Asks}
use Rattle.sql_read_steps.specs.Answers.{LearnsOn}
use Rattle.sql_reads.specs.declared.last_submission.LastSubmission.{LastSubmission}

-- the submission with a number in its company says this of its entries
abbrev pub AreFactsOf : (company : List ℕ) → (order : ℕ) → Tables → SubmissionFacts → Type 0
AreFactsOf company order t facts = Some facts ≡ facts_in company order t

-- what was found last of a submission is so of these tables
abbrev pub IsKnown : Option LastSubmission → Tables → Type 0
IsKnown None t = ⊤
IsKnown (Some last) t = AreFactsOf last.company last.order t last.facts

-- where what was known before is so of the tables, this is told of them, and what is known after is so too
abbrev pub Knowing : (before after : Option LastSubmission) → (Tables → Type 0) → Tables → Type 0
Knowing before after Tells t = IsKnown before t → Tells t × IsKnown after t

module _ {S A E : Type 0} (g : Ghosts S) (old new : Held S)
    (before after : Option LastSubmission) (result : Result A E) where
  -- What the next of several reads promises: where what was known before is so of the tables, it finds this of them,
  -- and what is known after is so too. `g` says what a database over this storage holds.
  abbrev pub AsksNext : (value : Tables → A) → Type 0
  AsksNext value = Asks g old new result (λ found. Knowing before after (λ t. found ≡ value t))

  -- the same of a read that may ask nothing
  abbrev pub LearnsNext : (value : Tables → A) → Type 0
  LearnsNext value = LearnsOn g old new result (λ found. Knowing before after (λ t. found ≡ value t))
