-- A text has fewer lines than a number of 64 bits can count.
use Rattle.std.proofs.Common.{arith}
use Rattle.answer_words.proofs.exclusion.excluding_place.Goals as goal

pub line_of-refused-requires : goal.line_of-refused-requires
line_of-refused-requires c = let begun = c.place_of-begin.ensures.within in let within = c.in_ok-part.ensures.within in omega arith

pub last_excluding-requires : goal.last_excluding-requires
last_excluding-requires c = let begun = c.place_of-begin.ensures.within in let within = c.in_ok-part.ensures.within in omega arith
