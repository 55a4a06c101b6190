use Rattle.std.proofs.Common.{[], sym}
use Rattle.std.proofs.lemmas.List.{take_rest}
use Rattle.std.proofs.KnownBytes.{Consumes-nil}
use Rattle.http_message.proofs.StartLemmas.{body_arrives, bad_length_is}
use Rattle.http_message.proofs.reading.read_rest.Goals as goal

pub returns-in-BadLength-clause-arrived : goal.returns-in-BadLength-clause-arrived
returns-in-BadLength-clause-arrived g c =
    let (h, at) = c.requires.start in
    record { taken = []; takes = Consumes-nil _; is = bad_length_is _ _ _ h at (sym (c.in-BadLength.ensures.head h at.parts)); few = c.requires.few }

pub returns-in-Ok-Some-clause-arrived : goal.returns-in-Ok-Some-clause-arrived
returns-in-Ok-Some-clause-arrived g c =
    let (h, at) = c.requires.start in
    let read = rw c.in-Ok-Some.field-0-is at c.in-Ok-Some.ensures.read in
    body_arrives _ _ _ _ _ h _ _ _ _ at c.in-Body.ensures.at (sym (c.in-Body.ensures.head h at.parts)) (take_rest c.args.bytes.now c.args.head.len) c.requires.few read

pub returns-in-Ok-None-clause-arrived : goal.returns-in-Ok-None-clause-arrived
returns-in-Ok-None-clause-arrived g c =
    let (h, at) = c.requires.start in
    let read = rw c.in-Ok-None.field-0-is at c.in-Ok-None.ensures.read in
    body_arrives _ _ _ _ _ h _ _ _ _ at c.in-Body.ensures.at (sym (c.in-Body.ensures.head h at.parts)) (take_rest c.args.bytes.now c.args.head.len) c.requires.few read

pub returns-in-Err-Fault-clause-arrived : goal.returns-in-Err-Fault-clause-arrived
returns-in-Err-Fault-clause-arrived g c =
    let (h, at) = c.requires.start in
    let read = rw c.in-Err-Fault.field-0-is at c.in-Err-Fault.ensures.read in
    body_arrives _ _ _ _ _ h _ _ _ _ at c.in-Body.ensures.at (sym (c.in-Body.ensures.head h at.parts)) (take_rest c.args.bytes.now c.args.head.len) c.requires.few read

pub returns-in-Err-NoRoom-clause-arrived : goal.returns-in-Err-NoRoom-clause-arrived
returns-in-Err-NoRoom-clause-arrived g c =
    let (h, at) = c.requires.start in
    let read = rw c.in-Err-NoRoom.field-0-is at c.in-Err-NoRoom.ensures.read in
    body_arrives _ _ _ _ _ h _ _ _ _ at c.in-Body.ensures.at (sym (c.in-Body.ensures.head h at.parts)) (take_rest c.args.bytes.now c.args.head.len) c.requires.few read
