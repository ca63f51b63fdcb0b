-- The limits in words.
use Rattle.std.specs.Prelude.{ℕ, List}
use Rattle.bspl_types.specs.declared.refusals.What.{What}
use Rattle.bspl_types.specs.declared.refusals.What.TheVariants.{Carried, Depth, Keys, Messages}
use Rattle.bspl_types.specs.declared.refusals.What.TheVariants.{Parameters, Protocols, Roles, Text}
use Rattle.answer_words.specs.declared.wording.TheConstants as wording

-- how many there may be of what is counted
abbrev pub limit_text : What → List ℕ
limit_text Text = wording.TEXT_LIMIT.now
limit_text Protocols = wording.PROTOCOL_LIMIT.now
limit_text Depth = wording.DEPTH_LIMIT.now
limit_text Roles = wording.ROLE_LIMIT.now
limit_text Parameters = wording.PARAMETER_LIMIT.now
limit_text Keys = wording.KEY_LIMIT.now
limit_text Carried = wording.CARRIED_LIMIT.now
limit_text Messages = wording.MESSAGE_LIMIT.now
