-- The law of runs is not empty: there are runs, and a desk whose answers depend on other companies does not meet it.
use Rattle.std.specs.Prelude.{◌≡◌, ℕ, ◌+◌, true, List, map, replicate, Option, Some, None, is_some}
use Rattle.std.specs.List.{list_all}
use Rattle.http_message.specs.Message.{MessageValue}
use Rattle.http_session.specs.Exchanges.{Exchange, Follows}
use Rattle.isolated_runs.specs.Runs.{RunsFromParts}

-- Whatever is asked, by whomever and in whatever order, has a run in which each message is answered.
abbrev pub RunsExist : {Behind : Type 0} → (step : Behind → MessageValue → (answer : Option (List ℕ)) → Behind → Type 0) → Type 0
RunsExist {Behind} step =
    (start : Behind) (vs : List MessageValue)
    → (xs : List Exchange) × (end : Behind) × Follows step start xs end × (map (λ x. x.message) xs ≡ vs) × (list_all (λ x. is_some x.answer) xs ≡ true)

-- ---- a desk that counts messages, and answers each with as many bytes

abbrev pub begins_with_none : (odfi key : List ℕ) → (count : ℕ) → Type 0
begins_with_none odfi key count = count ≡ 0

abbrev pub counts : (count : ℕ) → MessageValue → (answer : Option (List ℕ)) → (after : ℕ) → Type 0
counts count v (Some bytes) after = (bytes ≡ replicate count 0) × (after ≡ count + 1)
counts count v None after = after ≡ count

-- A company learns from its answers how much others ask: they do not follow from the company's part.
abbrev pub LeakIsRefuted : Type 0
LeakIsRefuted = RunsFromParts begins_with_none counts → ⊥
