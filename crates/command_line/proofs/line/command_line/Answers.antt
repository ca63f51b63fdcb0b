-- What the arguments say is judged.
use Rattle.std.proofs.Common.{◌≡◌, true, false, map, string_bytes, sym, ◌∙◌}
use Rattle.std.proofs.lemmas.List.Folds.{list_all-map}
use Rattle.command_line.specs.RawArgs.{parsed_of}
use Rattle.command_line.specs.Known.{is_known}
use Rattle.command_line.proofs.Known.{line_known}
use Rattle.command_line.proofs.LineLemmas.{line_of_words, none_from_words}
use Rattle.command_line.proofs.line.command_line.Goals as goal

pub returns-then-not-are_known : goal.returns-then-not-are_known
returns-then-not-are_known c = λ line is.
    let known = line_known (map string_bytes c.args.args.now) line is in
    let yes_known : c.are_known.result ≡ true = c.are_known.ensures ∙ sym (list_all-map is_known string_bytes c.args.args.now) ∙ known in
    let no_known : c.are_known.result ≡ false = c.if-not-are_known.true in
    cc

pub returns-in-Some : goal.returns-in-Some
returns-in-Some c = line_of_words (parsed_of c.in-Some.given) c.line_of.result (rw c.in-Some.is at c.in_ok-given.ensures) c.line_of.ensures

pub returns-in-None : goal.returns-in-None
returns-in-None c = none_from_words (rw c.in-None.is at c.in_ok-given.ensures)
