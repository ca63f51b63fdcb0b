-- What to do about a line of a script, by the word that it begins with.
use Rattle.std.specs.Prelude.{ℕ, ◌-◌, nat_eq, if◌then◌else◌, List, [], ◌∷◌, codes, length, take}
use Rattle.std.specs.List.{ends_with}
use Rattle.std.specs.Str.{bytes_eq}
use Rattle.text_lines.specs.Fields.{Field, fields_of}
use Rattle.answer_words.specs.declared.wording.refusals.TheConstants as refusals

-- the form of the lines that begin with the word, and their rules
abbrev pub line_rule : List ℕ → List ℕ
line_rule word =
    if bytes_eq word (codes "keys")
    then refusals.KEYS_RULE.now
    else if bytes_eq word (codes "key")
    then refusals.KEY_RULE.now
    else if bytes_eq word (codes "seed")
    then refusals.SEED_RULE.now
    else if bytes_eq word (codes "loss")
    then refusals.LOSS_RULE.now
    else if bytes_eq word (codes "repeat")
    then refusals.REPEAT_RULE.now
    else if bytes_eq word (codes "order")
    then refusals.ORDER_RULE.now
    else if bytes_eq word (codes "decline")
    then refusals.DECLINE_RULE.now
    else if bytes_eq word (codes "value")
    then refusals.VALUE_RULE.now
    else refusals.OTHER_RULE.now

-- what those that name something of the protocol name
abbrev pub naming_words : List ℕ → List ℕ
naming_words word =
    if bytes_eq word (codes "order")
    then refusals.ORDER_NAMES.now
    else if bytes_eq word (codes "value")
    then refusals.VALUE_NAMES.now
    else refusals.OTHER_NAMES.now

-- the fields of a line, of which a CR at its end is none
abbrev pub line_fields : List ℕ → List Field
line_fields line =
    fields_of (if ends_with nat_eq line (codes "\r") then take (length line - 1) line else line)

-- the word that a line with these fields begins with
abbrev pub word_of : List Field → Field
word_of [] = []
word_of (word ∷ more) = word
