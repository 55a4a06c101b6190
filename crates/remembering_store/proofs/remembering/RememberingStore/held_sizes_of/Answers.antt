use Rattle.std.proofs.Common.{◌∙◌, sym}
use Rattle.remembering_store.proofs.HeldSizes.{sizes_of_book}
use Rattle.remembering_store.proofs.Unchanged.{other_held}
use Rattle.remembering_store.proofs.remembering.RememberingStore.held_sizes_of.Goals as goal

pub returns-in-Some : goal.returns-in-Some
returns-in-Some g c = record {
  before = λ clean. clean;
  read = λ clean b held. (
    c.in-Some.ensures.result b held.known.held ∙ sym (sizes_of_book c.args.company b),
    record { held = held.held; numbered = held.numbered; known = other_held c.args.self.now.known c.read.new.self b (c.in-Some.ensures.known b held.known.held) held.known },
  );
  left = λ clean k new. new;
}

pub returns-in-Ok : goal.returns-in-Ok
returns-in-Ok g c = record {
  before = c.in-Ok.ensures.before;
  read = λ clean b held.
      let got = c.in-Ok.ensures.read clean b held.held in
      let sizes = c.remember.ensures b (c.deref.ensures.value ∙ got.0 ∙ sizes_of_book c.args.company b) (c.read.ensures.known b held.known.held) in
      (got.0, record { held = got.1; numbered = held.numbered; known = other_held c.args.self.now.known c.remember.new.self b sizes held.known });
  left = c.in-Ok.ensures.left;
}

pub returns-in-Err : goal.returns-in-Err
returns-in-Err g c = record {
  before = c.in-Err.ensures.before;
  read = λ clean b held. record {
    held = c.in-Err.ensures.read clean b held.held;
    numbered = held.numbered;
    known = other_held c.args.self.now.known c.read.new.self b (c.read.ensures.known b held.known.held) held.known;
  };
  left = c.in-Err.ensures.left;
}
