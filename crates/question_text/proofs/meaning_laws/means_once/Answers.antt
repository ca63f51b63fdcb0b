-- One question, one unknown name, and not both, by their lemmas.
use Rattle.std.proofs.Common.{subst, sym}
use Rattle.question_text.specs.Meaning.{MeansQuestion}
use Rattle.question_text.specs.Tree.{Phrase, phrase_of}
use Rattle.question_text.specs.Unknown.{IsFirstUnknownIn, names_in}
use Rattle.question_text.proofs.MeaningLemmas.{AreDistinct, known_means, same_means}
use Rattle.question_text.proofs.UnknownLemmas.{none_unknown, one_unknown}
use Rattle.question_text.proofs.meaning_laws.means_once.Goals as goal

pub returns-clause-question : goal.returns-clause-question
returns-clause-question c = λ x one other q r same asks also.
    let once : AreDistinct = record { messages = c.messages_are_named_once.ensures; roles = c.roles_are_named_once.ensures; params = c.params_are_named_once.ensures } in
    same_means once x (phrase_of one) q r asks (subst (λ (p : Phrase). MeansQuestion x p r) (sym same) also)

pub returns-clause-unknown : goal.returns-clause-unknown
returns-clause-unknown c = λ x one other name again same first also.
    one_unknown x (names_in (phrase_of one)) name again first (subst (λ (p : Phrase). IsFirstUnknownIn x (names_in p) again) (sym same) also)

pub returns-clause-exclusive : goal.returns-clause-exclusive
returns-clause-exclusive c = λ x one other q name same asks first.
    none_unknown x (names_in (phrase_of one)) name (known_means x (phrase_of one) q asks) (subst (λ (p : Phrase). IsFirstUnknownIn x (names_in p) name) (sym same) first)
