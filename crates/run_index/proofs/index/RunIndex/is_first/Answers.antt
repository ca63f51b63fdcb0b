-- An event is the first of its key exactly if the key's first position is its own.
use Rattle.std.proofs.Common.{ap}
use Rattle.run_index.proofs.ChainLemmas.{first_or_repeat, read_at}
use Rattle.run_index.proofs.index.RunIndex.is_first.Goals as goal

pub returns : goal.returns
returns c =
    let run = c.args.self.now in
    let e = c.index-run-position.result in
    let at = read_at run c.events-run.result.now c.args.position e c.events-run.ensures (rw c.events-run.ensures c.requires) c.index-run-position.is in
    first_or_repeat run c.instance.result.now.key c.args.position c.first.result e at (ap (λ i. i.key) c.instance.ensures) c.first.ensures
