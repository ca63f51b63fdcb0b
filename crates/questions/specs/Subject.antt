-- Which questions are about a protocol: it has the messages, roles and parameters that they name.
use Rattle.std.specs.Prelude.{◌<◌, length}
use Rattle.std.specs.List.{All}
use Rattle.bspl_types.specs.declared.expanded.Expanded.{Expanded}
use Rattle.questions.specs.declared.question.Happening.{Happening}
use Rattle.questions.specs.declared.question.Happening.TheVariants as happenings
use Rattle.questions.specs.declared.question.Question.{Question}
use Rattle.questions.specs.declared.question.Question.TheVariants as asks

-- the protocol has what is said to have happened
abbrev pub IsAboutHappening : Expanded → Happening → Type 0
IsAboutHappening x (happenings.Sent m) = m < length x.messages
IsAboutHappening x (happenings.Received m) = m < length x.messages
IsAboutHappening x (happenings.Knows role p) = (role < length x.roles) × (p < length x.params)
IsAboutHappening x (happenings.Bound p) = p < length x.params

-- the protocol has what the question names
abbrev pub IsAbout : Expanded → Question → Type 0
IsAbout x (asks.Happened h) = IsAboutHappening x h
IsAbout x (asks.Before one other) = IsAboutHappening x one × IsAboutHappening x other
IsAbout x (asks.Can m) = m < length x.messages
IsAbout x (asks.Rest excused) = All (λ m. m < length x.messages) excused
IsAbout x (asks.Not' _ q) = IsAbout x q
IsAbout x (asks.And' _ q _ r) = IsAbout x q × IsAbout x r
IsAbout x (asks.Or' _ q _ r) = IsAbout x q × IsAbout x r
