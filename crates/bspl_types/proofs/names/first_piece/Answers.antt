-- A text with the byte is its first piece and the others.
use Rattle.std.proofs.Common.{◌+◌}
use Rattle.std.specs.Prelude.{◌==◌}
use Rattle.std.proofs.lemmas.List.{take_rest}
use Rattle.bspl_types.proofs.Pieces.{two_pieces}
use Rattle.bspl_types.proofs.names.first_piece.Goals as goal

pub returns-else-end-text : goal.returns-else-end-text
returns-else-end-text c = two_pieces (λ b. b == 35) c.args.text.now c.first_index-end.result _ (take_rest c.args.text.now (c.first_index-end.result + 1)) c.first_index-end.ensures.index c.first_index-end.ensures.within c.if-end-text.false
