-- Which names were found.
use Rattle.std.proofs.Common.{◌≡◌, map, take}
use Rattle.std.specs.List.{filter}
use Rattle.std.specs.Str.{bytes_eq}
use Rattle.bspl_types.specs.Expansion.{role_name}
use Rattle.answer_words.proofs.lent_naming.sent_naming.Given as goal

-- those of the messages so far that the role sends
abbrev pub invariant-loop-message : goal.invariant-loop-message
invariant-loop-message l =
    map (λ name. name.now) l.names ≡
    map (λ m. m.name)
    (filter (λ m. bytes_eq (role_name l.x m.sender) l.role) (take l.message-index l.x.messages))
