-- The contents of a writer that took a text, and then another or a part of it.
use Rattle.std.proofs.Common.{ℕ, List, ◌++◌, append_assoc, Option, inl, inr, sym, ap, ◌∙◌}
use Rattle.std.proofs.KnownBytes.{Appends-trans}
use Rattle.std.specs.Io.KnownBytes.{Appends}
use Rattle.io_retries.specs.Prefixes.{AppendsPrefix}
use Rattle.io_retries.specs.Written.{IsWrittenOrCutOff}
use Rattle.io_retries.specs.declared.sink.Sink as sink

-- the first text, and then a prefix of the second
cut_in_second : (old mid new : Option (List ℕ)) (first second : List ℕ) → Appends old mid first → AppendsPrefix mid new second
    → AppendsPrefix old new (first ++ second)
cut_in_second old mid new first second whole cut =
    (first ++ cut.0, cut.1, ap (λ (l : List ℕ). first ++ l) cut.2 ∙ sym (append_assoc first cut.0 cut.1), Appends-trans old mid new first cut.0 whole cut.3)

-- the first text, and then the second, unless a write of that failed
pub written_on : {W : Type 0} (w : sink.Ghosts W) (old mid new : W) (first second : List ℕ) → Appends (w.contents old) (w.contents mid) first
    → IsWrittenOrCutOff second w mid new → IsWrittenOrCutOff (first ++ second) w old new
written_on w old mid new first second whole (inl written) = inl (Appends-trans _ _ _ first second whole written.0, written.1)
written_on w old mid new first second whole (inr cut) = inr (cut_in_second _ _ _ first second whole cut.0, cut.1)
