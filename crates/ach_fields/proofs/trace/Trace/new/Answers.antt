use Rattle.ach_fields.proofs.Traces.{trace_text-is_trace}
use Rattle.ach_fields.proofs.trace.Trace.new.Goals as goal

pub invariant_of-result : goal.invariant_of-result
invariant_of-result c = rw c.trace_text.ensures (trace_text-is_trace c.args.dfi c.args.sequence)
