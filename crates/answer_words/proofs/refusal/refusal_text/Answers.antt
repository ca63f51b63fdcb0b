-- The parts of the words come one after the other.
use Rattle.std.proofs.Common.{◌∙◌, Option, subst, sym}
use Rattle.std.specs.Option.{option_map}
use Rattle.answer_words.specs.declared.fault.Fault.{Fault}
use Rattle.answer_words.specs.Place.{spot_of}
use Rattle.answer_words.specs.Refusal.{IsTextFor}
use Rattle.answer_words.proofs.RefusalLemmas.{fault_words}
use Rattle.answer_words.proofs.refusal.refusal_text.Goals as goal

pub returns : goal.returns
returns c =
    let input = c.args.input.now in
    let rejection = c.args.rejection.now in
    let words = c.push_what_to_do.new.text in
    subst (λ (fault : Option Fault). IsTextFor input rejection fault words) (sym c.in-Some.is ∙ c.fault_of.ensures) (fault_words input rejection c.in-Some.fault (option_map spot_of c.field_place-place.result) c.in_ok-text.text c.push_place_of.new.text c.push_what_is_wrong.new.text c.push_detail.new.text words c.field_place-place.ensures c.in_ok-text.ensures c.in_ok-push_place_of.ensures c.in_ok-push_what_is_wrong.ensures c.in_ok-push_detail.ensures c.in_ok-push_what_to_do.ensures)
