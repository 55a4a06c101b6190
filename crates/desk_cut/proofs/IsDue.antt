-- What is sent of what waits is due.
use Rattle.std.proofs.Common.{◌≡◌, ◌<◌, ◌∙◌, ℕ, List, [], ◌∷◌, Bool, true, false, ◌||◌, length, map, refl, ap, subst, arith}
use Rattle.std.specs.Prelude.{not, filter, if◌then◌else◌}
use Rattle.desk_book.specs.declared.held_size.HeldSize.{HeldSize}
use Rattle.desk_cut.specs.declared.sizes.SentSize.{SentSize}
use Rattle.desk_cut.specs.Sizes.{any_beyond, any_due, is_size_due, lapses, sent_size, sent_sizes}

module _ (holidays : List ℕ) (day : ℕ) where
  some_due : (zs : List HeldSize) → 0 < length (sent_sizes holidays day zs) → any_due holidays day zs ≡ true
  some_due [] some = absurd (omega arith)
  some_due (z ∷ zs) some = at (some_due zs) (is_size_due holidays day z) some where
    at : (0 < length (sent_sizes holidays day zs) → any_due holidays day zs ≡ true) → (t : Bool)
        → 0 < length (map (sent_size holidays day) (filter (λ z. not (lapses holidays day z)) (if t then z ∷ filter (is_size_due holidays day) zs else filter (is_size_due holidays day) zs)))
        → (t || any_due holidays day zs) ≡ true
    at more true some = refl
    at more false some = more some

  -- one that would settle too far ahead is one
  beyond_some : (ss : List SentSize) → any_beyond ss ≡ true → 0 < length ss
  beyond_some [] beyond = cc
  beyond_some (s ∷ ss) beyond = omega arith

  pub beyond_due : (zs : List HeldSize) → any_beyond (sent_sizes holidays day zs) ≡ true → any_due holidays day zs ≡ true
  beyond_due zs beyond = some_due zs (beyond_some (sent_sizes holidays day zs) beyond)

  pub sent_due : (zs : List HeldSize) (sent : List SentSize) → sent ≡ sent_sizes holidays day zs → 0 < length sent → any_due holidays day zs ≡ true
  sent_due zs sent is some = some_due zs (subst (λ (n : ℕ). 0 < n) (ap length is) some)
