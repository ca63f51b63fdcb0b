-- The next line goes on, or is refused.
use Rattle.std.proofs.Common.{◌≡◌, List, ℕ, [], ◌∷◌, Option, Some, None, arith}
use Rattle.std.specs.Prelude.{MatchOption}
use Rattle.agent_scripts.specs.Lines.{script_lines}
use Rattle.script_text.proofs.ReadingLemmas.{all_read, line_more, refused_next}
use Rattle.script_text.proofs.reader.read_lines.Goals as goal

-- a text is its first line, and others
parted : {X : Type 0} (text line : List ℕ) (bytes : X → List ℕ) (after : Option X) → MatchOption after (script_lines text ≡ line ∷ []) (λ a. script_lines text ≡ line ∷ script_lines (bytes a)) → (others : List (List ℕ)) × (script_lines text ≡ line ∷ others)
parted text line bytes None is = ([], is)
parted text line bytes (Some a) is = (script_lines (bytes a), is)

pub returns-in-Refused : goal.returns-in-Refused
returns-in-Refused c =
    let line = c.first_line.result.0.now in
    let parts = parted c.lines.left.now line (λ a. a.now) c.first_line.result.1 c.first_line.ensures.lines in
    let read = rw parts.1 at c.lines.invariant.read in
    let was = rw c.in-Refused.is at c.in_ok-more.ensures in
    rw was.1 (refused_next c.args.x.now c.args.text.now line parts.0 c.lines.statements c.lines.number c.in-Refused.refusal read was.0 was.2)

pub returns-in_default : goal.returns-in_default
returns-in_default c =
    let line = c.first_line.result.0.now in
    let whole = rw c.in_default.is at c.first_line.ensures.lines in
    let read = rw whole at c.lines.invariant.read in
    let went = rw c.in-More.is at c.in_ok-more.ensures in
    all_read c.args.x.now c.args.text.now c.in-More.more _ (line_more c.args.x.now c.args.text.now line [] c.lines.statements c.in-More.more c.lines.number read went)

pub lines-preserved : goal.lines-preserved
lines-preserved c =
    let line = c.first_line.result.0.now in
    let whole = rw c.in-Some.is at c.first_line.ensures.lines in
    let shorter = rw c.in-Some.is at c.first_line.ensures.shorter in
    let read = rw whole at c.lines.invariant.read in
    let went = rw c.in-More.is at c.in_ok-more.ensures in
    record {
      read = line_more c.args.x.now c.args.text.now line (script_lines c.in-Some.after.now) c.lines.statements c.in-More.more c.lines.number read went;
      room = omega (arith, c.lines.invariant.room, shorter);
    }
