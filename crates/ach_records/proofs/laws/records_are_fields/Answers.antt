use Rattle.ach_records.proofs.Cuts.{fields_joined, fields_lengths, fields_cut}
use Rattle.ach_records.proofs.laws.records_are_fields.Goals as goal

pub returns : goal.returns
returns c = record { whole = fields_joined; lengths = fields_lengths; cut = fields_cut }
