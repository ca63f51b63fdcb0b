-- Which protocols have their lines.
use Rattle.std.proofs.Common.{drop}
use Rattle.answer_words.specs.Namings.{namings_of}
use Rattle.answer_words.proofs.NamingLemmas.{HasNamed}
use Rattle.answer_words.proofs.namings.push_namings.Given as goal

-- what was written, with the lines for those that are left, lists all
abbrev pub invariant-loop-protocol : goal.invariant-loop-protocol
invariant-loop-protocol l =
    HasNamed l.spelled (namings_of l.fault l.line l.name) l.protocols (drop l.protocol-index l.protocols) l.fn.text l.text
