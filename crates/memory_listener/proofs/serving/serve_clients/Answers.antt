use Rattle.memory_listener.proofs.ServedClients.{were_served}
use Rattle.memory_listener.proofs.serving.serve_clients.Goals as goal

pub returns-clause-told : goal.returns-clause-told
returns-clause-told g c = λ whole.
    let (sessions, served, stands) = c.serve.ensures.told in
    (sessions, were_served _ c.args.connections c.args.clients.now c.serve.new.listener c.serve.result sessions served whole, stands)
