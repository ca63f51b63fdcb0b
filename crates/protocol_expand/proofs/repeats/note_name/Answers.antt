-- The table says whether the name was there.
use Rattle.protocol_expand.proofs.Noted.{noted_answer}
use Rattle.protocol_expand.proofs.repeats.note_name.Goals as goal

pub returns : goal.returns
returns c = λ words noted. noted_answer words c.args.word.now c.args.names.now c.add.new.self c.add.result noted (rw c.as_slice.ensures at c.add.ensures.known) (rw c.as_slice.ensures at c.add.ensures.ok)
