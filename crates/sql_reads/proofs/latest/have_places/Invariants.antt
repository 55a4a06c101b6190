use Rattle.std.proofs.Common.{◌≡◌, drop, map, Some}
use Rattle.sql_reads.proofs.latest.have_places.Given as goal

-- all have their places where the rest do
abbrev pub invariant-loop-at : goal.invariant-loop-at
invariant-loop-at l =
    map (λ e. e.place) (drop l.at l.sent) ≡ map (λ p. Some p) (drop l.at l.places) → map (λ e. e.place) l.sent ≡ map (λ p. Some p) l.places
