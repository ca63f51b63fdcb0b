-- The protocol, and then what may be meant.
use Rattle.std.proofs.Common.{◌∙◌, ◌++◌, ℕ, List, Option, ap, refl, sym}
use Rattle.std.proofs.lemmas.Result.{on_ok_weaker}
use Rattle.std.specs.Option.{option_map}
use Rattle.answer_words.specs.Meant.{meant_text}
use Rattle.answer_words.specs.inner.LentNaming.{naming_of}
use Rattle.answer_words.proofs.TextLemmas.{said_appended}
use Rattle.answer_words.proofs.meant.push_meant.Goals as goal

pub returns-in-Some : goal.returns-in-Some
returns-in-Some c =
    let n = naming_of c.args.naming.now in
    on_ok_weaker c.push_prefixed.result (λ grown. said_appended _ _ _ _ _ _ _ _ c.in_ok-append.ensures.ok c.in_ok-append-2.ensures.ok refl (grown ∙ ap (λ (o : Option (List ℕ)). c.append-2.new.self ++ meant_text n o) (sym (ap (option_map (λ name. name.now)) c.in-Some.is) ∙ c.in_ok-name.ensures))) c.push_prefixed.ensures
