use Rattle.remembering_store.proofs.Unchanged.{other_sums}
use Rattle.remembering_store.proofs.remembering.Remembering.learn.Goals as goal

pub returns : goal.returns
returns g c = record {
  before = c.in-Ok.ensures.before;
  read = λ clean b held.
      let got = c.in-Ok.ensures.read clean b held.held in
      record {
        held = got.1;
        numbered = held.numbered;
        known = other_sums c.args.self.now.known c.remember.new.self b
            (c.remember.ensures b (c.forget.ensures b held.known.sums) (c.in-Some-read.ensures (b.rows c.args.company) (held.numbered c.args.company) got.0)) held.known;
      };
  left = c.in-Ok.ensures.left;
}

pub returns-in_default-read : goal.returns-in_default-read
returns-in_default-read g c = record {
  before = c.in-Ok.ensures.before;
  read = λ clean b held.
      let got = c.in-Ok.ensures.read clean b held.held in
      record { held = got.1; numbered = held.numbered; known = other_sums c.args.self.now.known c.forget.new.self b (c.forget.ensures b held.known.sums) held.known };
  left = c.in-Ok.ensures.left;
}

pub returns-in_default-open_entries : goal.returns-in_default-open_entries
returns-in_default-open_entries g c = record {
  before = c.open_entries.ensures.before;
  read = λ clean b held. record { held = c.in_default-open_entries.ensures.read clean b held.held; numbered = held.numbered; known = other_sums c.args.self.now.known c.forget.new.self b (c.forget.ensures b held.known.sums) held.known };
  left = c.open_entries.ensures.left;
}
