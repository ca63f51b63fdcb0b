-- The nearest line, and its place.
use Rattle.std.proofs.Common.{◌≡◌, ◌∙◌, ◌++◌, ℕ, List, Option, ap, sym}
use Rattle.std.proofs.lemmas.Result.{on_ok_weaker}
use Rattle.std.specs.Option.{option_map}
use Rattle.tool_input.specs.Lines.{lines}
use Rattle.answer_words.specs.declared.place.Place.{Place}
use Rattle.answer_words.specs.Nearest.{nearest_line}
use Rattle.answer_words.specs.Place.{spot_of}
use Rattle.answer_words.proofs.RefusalLemmas.{nearest_said}
use Rattle.answer_words.proofs.part_lines.push_near_line.Goals as goal
use Rattle.answer_words.specs.declared.wording.details.TheConstants as details

pub returns-in-Some : goal.returns-in-Some
returns-in-Some c =
    let part = c.args.part.now in
    let texts = lines c.args.input.now in
    let wanted : c.as_slice.result.now ≡ details.PART_MARK.now ++ part =
    c.as_slice.ensures ∙ c.in_ok-append.ensures.ok ∙ ap (λ (t : List ℕ). t ++ part) c.in_ok-wanted.ensures in
    let found = sym (ap (λ (w : List ℕ). nearest_line w texts) wanted) ∙ sym c.nearest_line.ensures ∙ ap (λ (o : Option Place). option_map spot_of o) c.in-Some.is in
    on_ok_weaker c.push_place.result (λ grown. nearest_said c.args.text.now c.append-in-Some.new.self c.push_place.new.text (spot_of c.in-Some.place) (nearest_line (details.PART_MARK.now ++ part) texts) found c.in_ok-append-in-Some.ensures.ok grown) c.push_place.ensures
