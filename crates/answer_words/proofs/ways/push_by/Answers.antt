-- The place after its label.
use Rattle.std.proofs.lemmas.Result.{on_ok_weaker}
use Rattle.answer_words.specs.Place.{place_of, spot_of}
use Rattle.answer_words.proofs.RefusalLemmas.{placed}
use Rattle.answer_words.proofs.ways.push_by.Goals as goal
use Rattle.answer_words.specs.declared.wording.details.TheConstants as details

pub returns : goal.returns
returns c =
    on_ok_weaker c.push_place.result (λ grown. placed c.args.text.now details.BY_REFERENCE.now c.append.new.self c.push_place.new.text (spot_of c.place_of.result) (place_of c.args.input.now c.args.offset) c.in_ok-append.ensures.ok c.place_of.ensures.place grown) c.push_place.ensures
