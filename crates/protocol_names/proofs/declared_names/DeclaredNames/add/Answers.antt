-- One name more.
use Rattle.protocol_names.proofs.Duplicates.{named_push}
use Rattle.protocol_names.proofs.declared_names.DeclaredNames.add.Goals as goal

pub returns : goal.returns
returns c = λ words named. named_push words c.args.word.now c.args.self.now.names c.add.new.self c.args.self.now.first c.fault_if-fault.result c.earlier-self.result c.in_ok-again.again named (rw c.as_slice.ensures at c.in_ok-again.ensures.known) c.fault_if-fault.ensures c.earlier-self.ensures (rw c.as_slice.ensures at c.in_ok-again.ensures.ok)
