use Rattle.std.proofs.Common.{◌≡◌, ◌+◌, ◌∷◌, ◌++◌, [], ℕ, List, Some, None, length, arith, refl, sym, ap, ◌∙◌, length-append, subst}
use Rattle.std.specs.Option.{option_to_list}
use Rattle.std.proofs.lemmas.Result.{err_from_is_err_and}
use Rattle.sha2.specs.Hashers.{Holds256}
use Rattle.ach_files.specs.SoFar.{file_so_far, facts_so_far, digest_message_so_far}
use Rattle.ach_files.specs.declared.fault.FileFault.{FileFault}
use Rattle.ach_files.proofs.OutOfMemory.{fault_never, room_gone}
use Rattle.ach_files.proofs.Records.{fault_is, stage_more, facts_more, digest_more}
use Rattle.ach_files.proofs.recogniser.Recogniser.take_record.Goals as goal

pub returns-clause-records : goal.returns-clause-records
returns-clause-records c = λ records has.
    let text = c.args.self.now.part in
    let kind = c.kind_of-kind.result in
    let stage = c.args.self.now.stage in
    let follows = c.in_default.ensures.follows refl in
    let count : c.args.number ≡ length records + 1 = omega (arith, has.count, c.requires.number) in
    let none = fault_is records text stage c.args.number kind None has.stage count c.kind_of-kind.ensures c.in_default.ensures.value in (
      none,
      record {
        count = omega (arith, count, length-append records (text ∷ []));
        stage = c.advance-self.ensures.value ∙ stage_more records text kind stage c.kind_of-kind.ensures has.stage;
        facts = c.in_ok-keep_item.ensures.ok ∙ rw (has.facts, c.completed_item-item.ensures) (facts_more records text kind stage c.kind_of-kind.ensures has.stage);
        digest = subst (λ (m : List ℕ). Holds256 c.digest_record.new.hasher m) (digest_more records text kind stage c.kind_of-kind.ensures has.stage follows) (c.digest_record.ensures (digest_message_so_far (file_so_far records)) has.digest);
      },
    )

pub returns-in-Some-clause-memory : goal.returns-in-Some-clause-memory
returns-in-Some-clause-memory c = λ records has e.
    absurd (fault_never c.args.self.now.stage c.args.number c.kind_of-kind.result c.args.self.now.part (sym c.in-Some.ensures.value ∙ ap (λ (f : FileFault). Some f) e))

pub returns-in_err-keep_item-clause-memory : goal.returns-in_err-keep_item-clause-memory
returns-in_err-keep_item-clause-memory c = λ records has.
    let text = c.args.self.now.part in
    let kind = c.kind_of-kind.result in
    let stage = c.args.self.now.stage in
    let count : c.args.number ≡ length records + 1 = omega (arith, has.count, c.requires.number) in
    let none = fault_is records text stage c.args.number kind None has.stage count c.kind_of-kind.ensures c.in_default.ensures.value in
    let facts = facts_so_far (file_so_far records) in
    let more : facts ++ option_to_list c.completed_item-item.result ≡ facts_so_far (file_so_far (records ++ text ∷ [])) =
    rw c.completed_item-item.ensures (facts_more records text kind stage c.kind_of-kind.ensures has.stage) in
    let full = c.in_err-keep_item.ensures.full in
    let p = err_from_is_err_and c.from_residual.result c.from_residual.ensures.1 in
    rw p.1 (λ e. (none, room_gone _ facts _ c.completed_item-item.result more full.0 (omega (arith, full.1, c.args.self.now.facts.ok.0, ap length has.facts))))
