use Rattle.std.proofs.Common.{◌≡◌, ◌∙◌, Some, refl, sym, ap, subst, IsSome}
use Rattle.std.specs.List.{position_from}
use Rattle.memory_files.specs.Kept.{has_path}
use Rattle.memory_files.specs.Opening.{kept_at, AreThose}
use Rattle.memory_files.proofs.Keeping.{none_is, place_is}
use Rattle.memory_files.proofs.Taking.{takes_none, takes_out}
use Rattle.memory_files.proofs.memory_files.MemoryFiles.take.Goals as goal

pub returns-in_err-at-clause-taken : goal.returns-in_err-at-clause-taken
returns-in_err-at-clause-taken c = rw c.from_residual.ensures (
  none_is c.args.self.now.places.items c.args.path.now 0 (ap (λ places. position_from (has_path c.args.path.now) 0 places) (sym c.deref.ensures.value) ∙ sym c.place_of.ensures.value ∙ c.in_err-at.was),
  record { kept = λ path. refl; opened = refl; others = refl },
)

pub returns-in_err-kept-clause-taken : goal.returns-in_err-kept-clause-taken
returns-in_err-kept-clause-taken c =
    let here = place_is c.args.self.now.places.items c.args.path.now c.in_ok-at.at (ap (λ places. position_from (has_path c.args.path.now) 0 places) (sym c.deref.ensures.value) ∙ sym c.place_of.ensures.value ∙ c.in_ok-at.was) in
    let none = sym (c.exchange.ensures.before c.args.path.now here) ∙ c.in_err-kept.was in
    rw c.from_residual-in_err-kept.ensures (none, takes_none c.args.self.now _ c.args.path.now c.in_ok-at.at here none c.exchange.ensures.after refl refl)

pub returns-clause-taken : goal.returns-clause-taken
returns-clause-taken c =
    let here = place_is c.args.self.now.places.items c.args.path.now c.in_ok-at.at (ap (λ places. position_from (has_path c.args.path.now) 0 places) (sym c.deref.ensures.value) ∙ sym c.place_of.ensures.value ∙ c.in_ok-at.was) in
    let found : kept_at c.args.self.now c.args.path.now ≡ Some c.in_ok-kept.kept = sym (c.exchange.ensures.before c.args.path.now here) ∙ c.in_ok-kept.was in (
      subst (λ kept. IsSome kept) (sym found) refl,
      takes_out c.args.self.now _ c.args.path.now c.into_files.result c.in_ok-at.at here c.exchange.ensures.after refl refl
          (subst (λ kept. AreThose kept c.into_files.result) (sym found) c.into_files.ensures.same),
    )
