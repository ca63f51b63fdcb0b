-- A piece is answered line by line, and what is left of it begins a line.
use Rattle.std.proofs.Common.{◌≡◌, ◌≢◌, ◌∷◌, ◌++◌, subst, sym}
use Rattle.std.specs.Prelude.{All}
use Rattle.std.proofs.lemmas.List.Elements.{All-nil}
use Rattle.kept_lines.proofs.PieceLemmas.{piece_all, piece_line, piece_none}
use Rattle.kept_lines.proofs.batch.Batch.of_piece.Goals as goal

pub lines-init : goal.lines-init
lines-init g c =
    record {
      up_to = rw (c.new.ensures, c.new-2.ensures) (piece_none g.A.Responder.answers c.args.responder.now c.args.begun.now c.args.piece.now);
      unended = c.requires;
    }

pub lines-preserved : goal.lines-preserved
lines-preserved g c =
    let more = c.in-Some.more.now in
    let parts : c.lines.rest.now ≡ c.split_once.result.0.now ++ 10 ∷ more = rw c.in-Some.is at c.split_once.ensures.whole in
    record {
      up_to = piece_line g.A.Responder.answers c.args.responder.now c.lines.responder c.end_line.new.responder c.args.begun.now c.args.piece.now c.lines.rest.now c.lines.begun c.end_line.new.begun c.split_once.result.0.now more c.lines.batch c.end_line.new.self c.lines.invariant.up_to parts c.split_once.ensures.first c.in_ok-end_line.ensures.adds c.in_ok-end_line.ensures.begun;
      unended = subst (All (λ byte. byte ≢ 10)) (sym c.in_ok-end_line.ensures.begun) (All-nil (λ byte. byte ≢ 10));
    }

pub returns-in_default : goal.returns-in_default
returns-in_default g c =
    let whole : c.lines.rest.now ≡ c.split_once.result.0.now = rw c.in_default.is at c.split_once.ensures.whole in
    piece_all g.A.Responder.answers c.args.responder.now c.lines.responder c.args.begun.now c.args.piece.now c.lines.rest.now c.lines.begun c.hold.new.begun c.lines.batch.replies c.lines.batch.acts c.lines.invariant.up_to (rw whole c.split_once.ensures.first) (rw whole c.in_ok-hold.ensures)
