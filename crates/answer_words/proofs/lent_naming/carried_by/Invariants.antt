-- No message before has the name.
use Rattle.std.proofs.Common.{◌≡◌, drop}
use Rattle.std.specs.List.{find}
use Rattle.std.specs.Str.{bytes_eq}
use Rattle.answer_words.proofs.lent_naming.carried_by.Given as goal

-- the first one is that of the messages that are left
abbrev pub invariant-loop-message : goal.invariant-loop-message
invariant-loop-message l =
    find (λ m. bytes_eq m.name l.name) (drop l.message-index l.messages) ≡
    find (λ m. bytes_eq m.name l.name) l.messages
