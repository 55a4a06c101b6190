use Rattle.std.proofs.Common.{◌≡◌, false, refl, ap, sym, ◌∙◌, arith}
use Rattle.std.specs.Prelude.{bytes_eq}
use Rattle.http_message.specs.Framing.{is_post}
use Rattle.http_message.proofs.FramingLemmas.{good_length, no_length, not_found}
use Rattle.http_message.specs.declared.framing.Framing.TheVariants.{Body}
use Rattle.http_message.proofs.framing.framing_of.Goals as goal
use Rattle.http_message.proofs.framing.framing_of.Goals.{in-Some+in-Some-content_length, in-None}

pub returns-in-Some-length : goal.returns-in-Some-length
returns-in-Some-length c = elim c.match-value_of.branch [
  | in-Some+in-Some-content_length w ↦
      let none = not_found _ _ c.value_of-2.ensures (sym c.is_some.ensures ∙ c.if-is_some.false) in
      let one = sym w.is_repeated.ensures ∙ w.if-not-is_repeated.true in
      let found = good_length c.args.method.now _ _ _ w.in-Some-content_length.length w.in-Some.ensures one (w.in-Some-content_length.ensures.valid.0 refl) w.in-Some-content_length.ensures.value none in
      let same : w.in-Some-content_length.length ≡ c.in-Some-length.length = cc in
      found.0 (omega arith)
  | in-None w ↦ absurd (cc)
]

pub returns-in-Some-2 : goal.returns-in-Some-2
returns-in-Some-2 c = elim c.match-value_of.branch [
  | in-Some+in-Some-content_length w ↦
      let none = not_found _ _ c.value_of-2.ensures (sym c.is_some.ensures ∙ c.if-is_some.false) in
      let one = sym w.is_repeated.ensures ∙ w.if-not-is_repeated.true in
      let found = good_length c.args.method.now _ _ _ w.in-Some-content_length.length w.in-Some.ensures one (w.in-Some-content_length.ensures.valid.0 refl) w.in-Some-content_length.ensures.value none in
      let same : w.in-Some-content_length.length ≡ c.in-Some-2.length = cc in
      let again : c.in-Some-length.length ≡ c.in-Some-2.length = cc in
      ap Body (sym same) ∙ found.1 (omega arith)
  | in-None w ↦ absurd (cc)
]

pub returns-in-None-2 : goal.returns-in-None-2
returns-in-None-2 c = elim c.match-value_of.branch [
  | in-Some+in-Some-content_length w ↦ absurd (cc)
  | in-None w ↦
      let none = not_found _ _ c.value_of-2.ensures (sym c.is_some.ensures ∙ c.if-is_some.false) in
      let get : is_post c.args.method.now ≡ false = ap (bytes_eq c.args.method.now) (sym c.as_str.ensures.value ∙ sym c.as_bytes.ensures.value) ∙ sym c.eq.ensures ∙ c.if-eq.false in
      no_length c.args.method.now _ _ w.in-None.ensures get none
]
