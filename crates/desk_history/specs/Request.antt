-- The requests of a company.
use Rattle.std.specs.Prelude.{ℕ, List}
use Rattle.desk_rules.specs.declared.bodies.draft.Draft.{Draft}
use Rattle.desk_rules.specs.declared.bodies.draft.RetryDraft.{RetryDraft}

pub data Request : Type 0 where
  Submit : Draft → Request
  Retry : RetryDraft → Request
  LookUp : (reference : List ℕ) → Request
  Returns : Request
  Changes : Request
  Statement : Request
  Rates : Request
  Exposure : Request
