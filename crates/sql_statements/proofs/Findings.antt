-- What several reads found.
use Rattle.std.proofs.Common.{subst, sym, ◌∙◌}
use Rattle.sqlite.specs.State.{State}
use Rattle.sql_statements.specs.Queries.{Stays}
use Rattle.sql_statements.specs.Findings.{Finds}
use Rattle.sql_statements.specs.Layouts.{Layout, Holds}

pub stays_then : (old mid new : State) → Stays old mid → Stays mid new → Stays old new
stays_then old mid new first next is_open =
    let b = next is_open in
    let a = first b.0 in
    (a.0, b.1 ∙ a.1)

module _ (layout : Layout) where
  -- what a later read found was so before
  pub finds_before : (Tells : layout.Tables → Type 0) (old mid : State) → Stays old mid → Finds layout Tells mid → Finds layout Tells old
  finds_before Tells old mid stays found =
      let was = stays found.was_open in
      record { was_open = was.0; told = λ t h. found.told t (subst (λ d. Holds layout d t) (sym was.1) h) }

  pub finds_both : (First Next : layout.Tables → Type 0) (s : State) → Finds layout First s → Finds layout Next s → Finds layout (λ t. First t × Next t) s
  finds_both First Next s a b = record { was_open = a.was_open; told = λ t h. (a.told t h, b.told t h) }

  pub finds_as : (Tells Other : layout.Tables → Type 0) → ((t : layout.Tables) → Tells t → Other t) → (s : State) → Finds layout Tells s → Finds layout Other s
  finds_as Tells Other so s found = record { was_open = found.was_open; told = λ t h. so t (found.told t h) }

  -- one read after another
  pub finds_then : (First Next : layout.Tables → Type 0) (old mid : State) → Finds layout First old → Stays old mid → Finds layout Next mid → Finds layout (λ t. First t × Next t) old
  finds_then First Next old mid a stays b = finds_both First Next old a (finds_before Next old mid stays b)
