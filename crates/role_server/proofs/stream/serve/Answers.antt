-- Without memory for the store nothing is served.
use Rattle.role_server.specs.Served.{first_store}
use Rattle.role_server.specs.declared.refusal.ServeRefusal.TheVariants.{NoMemory}
use Rattle.role_server.proofs.StreamLemmas.{nothing_served, stops_for}
use Rattle.role_server.proofs.stream.serve.Goals as goal

pub returns-in_err-store-clause-err : goal.returns-in_err-store-clause-err
returns-in_err-store-clause-err g c =
    let s = first_store c.args.a.now c.args.role in
    stops_for s _ NoMemory c.from_residual.result c.from_residual.ensures.1 (nothing_served s (g.R.Source.remaining c.args.input.now) (g.W.Sink.contents c.args.output.now))
