-- A text that is refused for the name declares nothing for it.
use Rattle.std.proofs.Common.{◌∙◌, sym}
use Rattle.answer_words.proofs.NamingLemmas.{not_memory}
use Rattle.answer_words.proofs.namings.declared.Goals as goal

pub returns-in-Some : goal.returns-in-Some
returns-in-Some c =
    let refusal = c.in-Err.refusal in
    let judged = not_memory refusal c.in-Some._rejection (sym c.text_rejection.ensures ∙ c.in-Some.is) in
    λ x declares. c.texts_are_judged_once.ensures.exclusive c.args.name.now c.args.text.now x refusal declares (c.in-Err.ensures.refused judged)
