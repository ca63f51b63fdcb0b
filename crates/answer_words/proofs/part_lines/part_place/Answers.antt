-- A text has fewer lines than a number of 64 bits can count.
use Rattle.std.proofs.Common.{arith}
use Rattle.answer_words.proofs.part_lines.part_place.Goals as goal

pub line_of-requires : goal.line_of-requires
line_of-requires c = let begun = c.place_of-begin.ensures.within in let within = c.in_ok-part.ensures.within in omega arith
