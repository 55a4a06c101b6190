use Rattle.std.proofs.Common.{true, ◌≡◌, ◌+◌, ◌<◌, None, take, ◌++◌, ◌∷◌, [], ℕ, List, length, drop, get_or, arith, sym, ap, ◌∙◌, subst, length-append}
use Rattle.std.proofs.lemmas.List.{length-take-le}
use Rattle.std.proofs.lemmas.Result.{err_from_is_err_and}
use Rattle.ach_files.specs.FirstFault.{Tells, early_fault, place_fault}
use Rattle.ach_files.specs.Layout.{Layout, may_begin, layout}
use Rattle.ach_files.specs.Has.{item_room}
use Rattle.ach_files.specs.Memory.{item_count, items_in}
use Rattle.ach_files.proofs.Firsts.{tells_prefix, tells_early, early_more, layout_more, split_at, first_taken}
use Rattle.ach_files.proofs.recogniser.Recogniser.take_some.Goals as goal

pub slice_bounds-take_whole-end : goal.slice_bounds-take_whole-end
slice_bounds-take_whole-end c = sym (length-take-le 94 c.args.bytes.now (c.is_at_record.ensures.whole c.if-is_at_record.true))

pub take_whole-requires-clause-whole : goal.take_whole-requires-clause-whole
take_whole-requires-clause-whole c = length-take-le 94 c.args.bytes.now (c.is_at_record.ensures.whole c.if-is_at_record.true)

pub returns-in_err-take_whole-clause-read : goal.returns-in_err-take_whole-clause-read
returns-in_err-take_whole-clause-read c = λ seen has.
    let p = err_from_is_err_and c.from_residual.result c.from_residual.ensures.1 in
    let begin : may_begin (layout seen).place ≡ true = ap may_begin (sym has.has.layout.place) ∙ c.is_at_record.ensures.may_begin c.if-is_at_record.true in
    rw (p.1, p.2) (tells_prefix seen c.args.bytes.now 94 _ (c.in_err-take_whole.ensures.read seen begin has))

pub returns-in_err-take-clause-read : goal.returns-in_err-take-clause-read
returns-in_err-take-clause-read c = λ seen has.
    let p = err_from_is_err_and c.from_residual-in_err-take.result c.from_residual-in_err-take.ensures.1 in
    let bytes = c.args.bytes.now in
    let b = get_or bytes 0 0 in
    let whole : bytes ≡ b ∷ drop 1 bytes = split_at bytes 0 c.requires in
    let fault_in_record : Tells c.in_err-take.field-0.0 (place_fault (length seen) (layout seen) b) = c.in_err-take.ensures.read (layout seen) (length seen) has.has in
    rw (p.1, p.2) (subst (λ (bs : List ℕ). Tells c.in_err-take.field-0.0 (early_fault (seen ++ bs))) (sym whole) (tells_early seen b (drop 1 bytes) _ has.fine fault_in_record))

pub returns-then-is_at_record-clause-read : goal.returns-then-is_at_record-clause-read
returns-then-is_at_record-clause-read c = λ seen has.
    let begin : may_begin (layout seen).place ≡ true = ap may_begin (sym has.has.layout.place) ∙ c.is_at_record.ensures.may_begin c.if-is_at_record.true in
    c.in_ok-take_whole.ensures.read seen begin has

pub returns-clause-read : goal.returns-clause-read
returns-clause-read c = λ seen has.
    let bytes = c.args.bytes.now in
    let b = get_or bytes 0 0 in
    let t = c.in_ok-take.ensures.read (layout seen) (length seen) has.has in
    let len : length (seen ++ b ∷ []) ≡ length seen + 1 = omega (arith, length-append seen (b ∷ [])) in
    rw (first_taken bytes c.requires) (record { has = rw (layout_more seen b, len) t.1; fine = early_more seen b has.fine t.0 })

pub returns-in_err-take_whole-clause-memory : goal.returns-in_err-take_whole-clause-memory
returns-in_err-take_whole-clause-memory c = λ seen has.
    let p = err_from_is_err_and c.from_residual.result c.from_residual.ensures.1 in
    let begin : may_begin (layout seen).place ≡ true = ap may_begin (sym has.has.layout.place) ∙ c.is_at_record.ensures.may_begin c.if-is_at_record.true in
    rw (p.1, p.2) (λ e.
    let a = c.in_err-take_whole.ensures.memory seen begin has e in
    record { count = 94; within = c.is_at_record.ensures.whole c.if-is_at_record.true; fine = a.0; more = a.1 })

pub returns-in_err-take-clause-memory : goal.returns-in_err-take-clause-memory
returns-in_err-take-clause-memory c = λ seen has.
    let p = err_from_is_err_and c.from_residual-in_err-take.result c.from_residual-in_err-take.ensures.1 in
    let bytes = c.args.bytes.now in
    let b = get_or bytes 0 0 in
    let first : seen ++ b ∷ [] ≡ seen ++ take 1 bytes = ap (λ (t : List ℕ). seen ++ t) (sym (first_taken bytes c.requires)) in
    rw (p.1, p.2) (λ e.
    let a = c.in_err-take.ensures.memory (layout seen) (length seen) has.has e in
    let more : item_room c.args.self.now < item_count (seen ++ b ∷ []) = subst (λ (l : Layout). item_room c.args.self.now < items_in l.records) (sym (layout_more seen b)) a.1 in
    record {
      count = 1;
      within = c.requires;
      fine = subst (λ (s : List ℕ). early_fault s ≡ None) first (early_more seen b has.fine a.0);
      more = subst (λ (s : List ℕ). item_room c.args.self.now < item_count s) first more;
    })
