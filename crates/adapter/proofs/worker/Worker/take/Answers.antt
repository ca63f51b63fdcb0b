-- One word is drawn at most.
use Rattle.std.proofs.Common.{subst, sym}
use Rattle.rand_pcg.specs.Lcg.{Lcg}
use Rattle.adapter.specs.Worker.{IsDrawnFrom, worker_generator}
use Rattle.adapter.proofs.WorkerLemmas.{pick_drawn}
use Rattle.adapter.proofs.worker.Worker.take.Goals as goal

pub invariant_of-self : goal.invariant_of-self
invariant_of-self g c =
    let first = worker_generator g.N.Scene.job c.self.inside.role c.self.inside.thread in
    subst (λ (h : Lcg). IsDrawnFrom first h) (sym c.step_take.ensures.taken.word) (pick_drawn first c.self.inside.rng c.args.state.now.desk.inbox c.self.invariant)
