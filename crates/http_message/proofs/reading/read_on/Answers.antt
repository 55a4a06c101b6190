use Rattle.std.proofs.Common.{◌≡◌, ◌⊎◌, inl, inr, ◌++◌, Bool, true, false, length, sym, ap, ◌∙◌, arith, append_assoc}
use Rattle.std.specs.Prelude.{◌==◌}
use Rattle.std.specs.List.{list_all, list_any}
use Rattle.std.proofs.KnownBytes.{Consumes-trans}
use Rattle.http_message.specs.Input.{is_line_end_byte}
use Rattle.http_message.proofs.BlankLemmas.{piece_is, still_blank, still_no_head}
use Rattle.http_message.proofs.reading.read_on.Goals as goal
use Rattle.http_message.proofs.reading.read_on.Goals.{then-blank, else-blank, then-not-blank, else-not-blank}

not_both : (b : Bool) → b ≡ true → b ≡ false → ⊥
not_both true is off = absurd (cc)
not_both false is off = absurd (cc)

pub loop-unread-preserved : goal.loop-unread-preserved
loop-unread-preserved g c =
    let (taken, takes, grown, inside, blank) = c.loop-unread.invariant in
    let more = c.in_ok-fill.ensures.ok in
    let known = c.loop-unread.unread in
    let all = c.fill.new.self in
    let few = c.bytes-bytes.ensures.few in
    let value = c.bytes-bytes.ensures.value in
    let size = ap length value in
    let piece = piece_is c.bytes-known.result.now more.taken all c.bytes-bytes.result.now value (more.grown ∙ ap (λ l. l ++ more.taken) (sym c.bytes-known.ensures.value)) in
    let now : c.if-blank.blank ≡ list_all is_line_end_byte all = elim c.if-blank.branch [
      | then-blank w ↦
          still_blank known more.taken all c.loop-unread.blank c.if-blank.blank more.grown blank
          (λ on. w.blank-is ∙ w.is_blank-blank-then-blank.ensures ∙ ap (list_all is_line_end_byte) piece) (λ off. absurd (not_both _ w.if-blank.true off))
      | else-blank w ↦
          still_blank known more.taken all c.loop-unread.blank c.if-blank.blank more.grown blank (λ on. absurd (not_both _ on w.if-blank.false)) (λ off. w.blank-is ∙ off)
    ] in
    let none : (list_all is_line_end_byte all ≡ true) ⊎ (list_any (λ b. b == 10) more.taken ≡ false) = elim c.if-not-blank.branch [
      | then-not-blank w ↦
          inr (ap (list_any (λ b. b == 10)) (sym piece) ∙ sym w.contains.ensures.value ∙ sym w.value-is ∙ c.if-contains.false)
      | else-not-blank w ↦ inl (sym now ∙ w.if-not-blank.false)
    ] in (
      taken ++ more.taken,
      Consumes-trans _ _ _ _ _ takes more.takes,
      more.grown ∙ ap (λ l. l ++ more.taken) grown ∙ append_assoc _ taken more.taken,
      (omega (arith, few, size), still_no_head known more.taken all inside.1 more.grown none),
      now,
    )
