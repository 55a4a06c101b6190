use Rattle.std.proofs.Common.{inl, inr, sym}
use Rattle.sql_files.proofs.closing.close_files.Goals as goal

pub returns-in-Ok : goal.returns-in-Ok
returns-in-Ok g c =
    let was = c.in-Ok.ensures in
    record {
      last = was.ok.0;
      are_its = sym was.ok.1;
      closed = was.ok.2;
      ends = inl (record { log = was.usable.0; db = was.usable.1; copied = was.copied });
    }

pub returns-in-Err : goal.returns-in-Err
returns-in-Err g c =
    let was = c.in-Err.ensures.err in
    record {
      last = c.in-Err.store;
      are_its = c.close.ensures;
      closed = was.0;
      ends = inr (c.in-Err._error, was.1);
    }
