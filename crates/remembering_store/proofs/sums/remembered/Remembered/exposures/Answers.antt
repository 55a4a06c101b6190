use Rattle.std.proofs.Common.{rules, arith, ◌≡◌, List, Option, Some, None, ◌+◌, true, false}
use Rattle.std.proofs.lemmas.Grind.{common_steps}
use Rattle.std.proofs.lemmas.Bool.Decides.{nat_tests}
use Rattle.std.specs.Prelude.{IfSome}
use Rattle.desk_book.specs.declared.row.Row.{Row}
use Rattle.desk_book.specs.Sums.{exposures_on}
use Rattle.remembering_store.specs.OpenSums.{from_day, comes_back_by}
use Rattle.remembering_store.specs.Kept.{held_in, settled_in}
use Rattle.remembering_store.specs.Remembered.{IsOf}
use Rattle.remembering_store.proofs.Reading.{read_right}
use Rattle.remembering_store.proofs.sums.remembered.Remembered.exposures.Goals as goal

for_some : {A : Type 0} (P Q : A → Type 0) → ((x : A) → P x → Q x) → (o : Option A) → IfSome o P → IfSome o Q
for_some P Q turn None is = tt
for_some P Q turn (Some x) is = turn x is

pub returns : goal.returns
returns c =
    let m = c.args.self.now in
    let first = c.in_ok-first.first in
    for_some (λ x. (x.0 ≡ held_in false m.sums + settled_in false (from_day c.args.today) m.sums) × (x.1 ≡ held_in true m.sums + settled_in true (comes_back_by c.args.today c.args.calendar.now) m.sums))
    (λ x. (rs : List Row) → IsOf m rs → x ≡ exposures_on rs c.args.today c.args.calendar.now)
    (λ x read rs is. read_right m.since first c.args.today c.args.calendar.now c.in_ok-first.ensures (first_of (search rules, grind (arith, common_steps), grind (arith, nat_tests))) m.sums rs is.sums x read) c.exposures.result c.exposures.ensures
