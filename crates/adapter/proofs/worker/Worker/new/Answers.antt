-- No word is drawn yet.
use Rattle.std.proofs.Common.{◌≡◌, subst, sym}
use Rattle.agent_scripts.specs.Job.{Job}
use Rattle.adapter.specs.Worker.{worker_generator}
use Rattle.adapter.proofs.worker.Worker.new.Goals as goal

pub invariant_of-result : goal.invariant_of-result
invariant_of-result g c = record {
  words = 0;
  after = subst (λ (j : Job). c.first_generator.result ≡ worker_generator j c.args.role c.args.thread) (sym c.requires.scene) c.first_generator.ensures;
}
