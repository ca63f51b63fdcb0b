-- What a tree asks is about the protocol, by its lemma.
use Rattle.question_text.specs.Tree.{phrase_of}
use Rattle.question_text.proofs.MeaningLemmas.{about_means}
use Rattle.question_text.proofs.meaning_laws.asked_of_the_protocol.Goals as goal

pub returns : goal.returns
returns c = λ x tree q asks. about_means x (phrase_of tree) q asks
