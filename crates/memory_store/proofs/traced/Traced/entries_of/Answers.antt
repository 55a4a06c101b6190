use Rattle.std.proofs.Common.{◌≡◌, ◌∙◌, ◌+◌, ◌++◌, [], ◌∷◌, List, Option, ap, append_assoc, drop, map, sym}
use Rattle.std.proofs.lemmas.List.{drop_more}
use Rattle.desk_book.specs.declared.named_entry.NamedEntry.{NamedEntry}
use Rattle.memory_store.specs.Traced.{traced_among}
use Rattle.memory_store.proofs.traced.Traced.entries_of.Goals as goal

pub loop-trace-preserved : goal.loop-trace-preserved
loop-trace-preserved c sent right whole finds =
    let trace = c.trace-item.result in
    let traces = c.args.traces.now in
    let at = c.loop-trace.trace-index in
    let named = c.loop-trace.named.items in
    let later = drop (at + 1) traces in
    let name = traced_among c.args.self.now.odfi sent c.args.self.now.kept.now in
    let split : drop at traces ≡ trace ∷ later = drop_more traces at trace c.loop-trace-test.true ∙ ap (λ (one : Option (List _)). one ∷ later) (sym c.trace-item.is) in
    ap (λ (xs : List (Option NamedEntry)). xs ++ map name later) c.in_ok-push.ensures.items
    ∙ append_assoc named (c.entry_of-one.result ∷ []) (map name later)
    ∙ ap (λ (one : Option NamedEntry). named ++ one ∷ map name later) (c.entry_of-one.ensures sent right whole finds)
    ∙ ap (λ (ts : List (Option (List _))). named ++ map name ts) (sym split)
    ∙ c.loop-trace.invariant sent right whole finds
