-- What some legal run emits can have been sent, under the key of the instance, and the converse.
use Rattle.std.proofs.Common.{refl}
use Rattle.questions.proofs.laws.dead_is_a_question.Goals as goal

pub returns : goal.returns
returns c = λ x m. (
  (λ possible. (possible.run, possible.yes.instance, possible.legal, possible.yes.emitted, possible.yes.message_is)),
  (λ emitted. record {
    run = emitted.0;
    legal = emitted.2;
    key = emitted.1.key;
    yes = record { instance = emitted.1; emitted = emitted.3; under = refl; message_is = emitted.4 };
  }),
)
