-- No word before is the one.
use Rattle.std.proofs.Common.{◌≡◌, length}
use Rattle.std.specs.List.{list_any}
use Rattle.std.specs.Str.{bytes_eq}
use Rattle.text_lines.specs.Fields.{fields_of}
use Rattle.answer_words.proofs.exclusion.is_listed.Given as goal

-- it is one of all exactly if it is one of those that are left
abbrev pub invariant-words : goal.invariant-words
invariant-words l =
    list_any (bytes_eq l.word) (fields_of l.rest) ≡ list_any (bytes_eq l.word) (fields_of l.listed)

-- fewer words are left at each turn
abbrev pub decreases-words : goal.decreases-words
decreases-words l = length (fields_of l.rest)
