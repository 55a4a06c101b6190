use Rattle.std.proofs.Common.{◌≡◌, ◌-◌, ◌≤◌, ℕ, List, Ok, length, take, drop, ◌++◌, replicate, true, false, arith, refl, sym, ap, ◌∙◌, length-append, length-drop, rules}
use Rattle.std.specs.Prelude.{nat_lt}
use Rattle.std.proofs.lemmas.Bool.{le-ltb}
use Rattle.std.proofs.lemmas.List.{length-take-le}
use borrow.Rule.Slice.PartMut.{put_mid}
use Rattle.std.specs.List.{list_all}
use Rattle.ach_fields.specs.Characters.{is_printable}
use Rattle.ach_fields.specs.Text.{text_field}
use Rattle.ach_fields.proofs.Texts.{text_with_blanks_after}
use Rattle.ach_fields.proofs.text.put_text.Goals as goal

written : (s field prefix blanks : List ℕ) → length s ≤ length field → list_all is_printable s ≡ true → prefix ≡ s
    → blanks ≡ replicate (length field - length s) 32
    → text_field (length field) s ≡ Ok (put_mid (length s) (length (prefix ++ drop (length s) field) - length s) (prefix ++ drop (length s) field) blanks)
written s field prefix blanks le plain e b =
    let room : nat_lt (length field) (length s) ≡ false = le-ltb _ _ le in
    let long : length (prefix ++ drop (length s) field) - length s ≡ length field - length s =
    omega (arith, length-append prefix (drop (length s) field), length-drop (length s) field, ap length e) in
    let rest : length (drop (length s) field) ≡ length field - length s = length-drop (length s) field in
    let whole = text_with_blanks_after s field (drop (length s) field) blanks (length field - length s) le rest refl b in
    rw (room, plain) (sym (ap (λ (t : List ℕ). Ok t) (
    (λ i. put_mid (length s) (long i) (e i ++ drop (length s) field) blanks) ∙ whole)))

room_after : (s field prefix : List ℕ) → length s ≤ length field → prefix ≡ s
    → length (take (length (prefix ++ drop (length s) field) - length s) (drop (length s) (prefix ++ drop (length s) field))) ≡ length field - length s
room_after s field prefix le e =
    let whole : length (prefix ++ drop (length s) field) ≡ length field =
    omega (arith, length-append prefix (drop (length s) field), length-drop (length s) field, ap length e) in
    let after = length-drop (length s) (prefix ++ drop (length s) field) in
    length-take-le _ _ (omega arith) ∙ omega arith

pub returns : goal.returns
returns c =
    let copied = c.copy_from_slice.ensures.after in
    let filled = c.fill.ensures.after (λ y h. h) in
    let plain : list_all is_printable c.args.text.now ≡ true = search rules in
    written c.args.text.now c.args.field.now c.copy_from_slice.new.self c.fill.new.self (omega arith) plain copied
    (filled ∙ ap (λ n. replicate n 32) (room_after c.args.text.now c.args.field.now c.copy_from_slice.new.self (omega arith) copied))
