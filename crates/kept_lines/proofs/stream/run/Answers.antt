-- How far the loop over the input comes.
use Rattle.std.proofs.Common.{◌≡◌, ◌≢◌, ◌≤◌, ◌+◌, ℕ, List, [], length, take, refl, sym, subst, arith, rules, length-take-le}
use Rattle.std.specs.Prelude.{All}
use Rattle.std.proofs.lemmas.List.Elements.{All-take}
use Rattle.std.specs.Io.KnownBytes.{Consumes}
use Rattle.kept_lines.specs.StreamEnd.{stream_refusal}
use Rattle.kept_lines.specs.declared.stream_refusal.StreamRefusal.TheVariants.{ReadFault}
use Rattle.kept_lines.specs.inner.Coming.{begun_limit}
use Rattle.kept_lines.proofs.ComingLemmas.{end_is_cut, input_ends, more_passes, more_stops, reading_fails, too_many}
use Rattle.kept_lines.proofs.RefusalLemmas.{cut_stops, stops_for}
use Rattle.kept_lines.proofs.StreamLemmas.{first_passes, first_stops, first_too_many}
use Rattle.kept_lines.proofs.stream.run.Goals as goal

pub returns-then-ahead-limit-clause-err : goal.returns-then-ahead-limit-clause-err
returns-then-ahead-limit-clause-err g c =
    first_too_many g.A.Responder.answers c.args.responder.now c.args.ahead.now c.args.limit (g.R.Source.remaining c.args.input.now) (g.W.Sink.contents c.args.output.now) (g.J.Journal.kept c.args.journal.now) (omega (arith, c.if-ahead-limit.true))

pub returns-in_err-step-clause-err : goal.returns-in_err-step-clause-err
returns-in_err-step-clause-err g c =
    stops_for g.A.Responder.answers c.args.responder.now c.args.ahead.now c.args.limit _ c.from_residual.result (stream_refusal c.in_err-step.field-0.0) c.from_residual.ensures.1
    (first_stops g.A.Responder.answers c.args.responder.now c.args.ahead.now c.args.limit (g.R.Source.remaining c.args.input.now) (g.W.Sink.contents c.args.output.now) (g.W.Sink.contents c.step.new.output) (g.J.Journal.kept c.args.journal.now) (g.J.Journal.kept c.step.new.journal) c.step.new.responder c.step.new.begun c.in_err-step.field-0.0 (omega (arith, c.if-ahead-limit.false)) (rw c.new-begun.ensures at c.in_err-step.ensures.order))

pub pieces-init : goal.pieces-init
pieces-init g c = record {
  room = refl;
  come = first_passes g.A.Responder.answers c.args.responder.now c.args.ahead.now c.args.limit (g.R.Source.remaining c.args.input.now) (g.W.Sink.contents c.args.output.now) (g.W.Sink.contents c.step.new.output) (g.J.Journal.kept c.args.journal.now) (g.J.Journal.kept c.step.new.journal) c.step.new.responder c.step.new.begun (omega (arith, c.if-ahead-limit.false)) (rw c.new-begun.ensures at c.in_ok-step.ensures.order);
  reads = refl;
  writes = search rules;
  keeps = search rules;
}

pub returns-in_err-count-clause-err : goal.returns-in_err-count-clause-err
returns-in_err-count-clause-err g c =
    stops_for g.A.Responder.answers c.args.responder.now c.args.ahead.now c.args.limit _ c.from_residual-in_err-count.result ReadFault c.from_residual-in_err-count.ensures.1
    (reading_fails g.A.Responder.answers c.args.responder.now c.args.ahead.now c.args.limit _ _ _ _ _ _ _ c.pieces.taken c.pieces.responder c.pieces.begun c.pieces.invariant.come c.in_err-count.ensures.bytes)

pub returns-in_err-write_last-clause-err : goal.returns-in_err-write_last-clause-err
returns-in_err-write_last-clause-err g c =
    let taken : Consumes (g.R.Source.remaining c.pieces.input) (g.R.Source.remaining c.read.new.self) [] = rw c.if-count-eq0.true at c.in_ok-count.ensures.bytes.0 in
    stops_for g.A.Responder.answers c.args.responder.now c.args.ahead.now c.args.limit _ c.from_residual-in_err-write_last.result (stream_refusal c.in_err-write_last.field-0.0) c.from_residual-in_err-write_last.ensures.1
    (cut_stops g.A.Responder.answers c.args.responder.now c.args.ahead.now c.args.limit _ c.in_err-write_last.field-0.0 (search rules)
    (end_is_cut g.A.Responder.answers c.args.responder.now c.args.ahead.now c.args.limit _ _ _ _ _ _ _ c.pieces.taken c.pieces.responder c.pieces.begun c.pieces.invariant.come (g.W.Sink.contents c.write_last.new.output) g.A.Responder.unread g.met.A.Responder.leaves_unread taken (c.in_ok-count.ensures.bytes.1 c.if-count-eq0.true (omega arith)) c.in_err-write_last.ensures.err))

pub returns-then-count-eq0-clause-ok : goal.returns-then-count-eq0-clause-ok
returns-then-count-eq0-clause-ok g c =
    let taken : Consumes (g.R.Source.remaining c.pieces.input) (g.R.Source.remaining c.read.new.self) [] = rw c.if-count-eq0.true at c.in_ok-count.ensures.bytes.0 in
    input_ends g.A.Responder.answers c.args.responder.now c.args.ahead.now c.args.limit _ _ _ _ _ _ _ c.pieces.taken c.pieces.responder c.pieces.begun c.pieces.invariant.come (g.W.Sink.contents c.write_last.new.output) g.A.Responder.unread g.met.A.Responder.leaves_unread taken (c.in_ok-count.ensures.bytes.1 c.if-count-eq0.true (omega arith)) c.in_ok-write_last.ensures.ok

pub returns-then-count-limit-clause-err : goal.returns-then-count-limit-clause-err
returns-then-count-limit-clause-err g c =
    let size : length (take c.in_ok-count.count c.read.new.into) ≡ c.in_ok-count.count = length-take-le c.in_ok-count.count c.read.new.into c.in_ok-count.ensures.bound in
    too_many g.A.Responder.answers c.args.responder.now c.args.ahead.now c.args.limit _ _ _ _ _ _ _ c.pieces.taken c.pieces.responder c.pieces.begun c.pieces.invariant.come (take c.in_ok-count.count c.read.new.into) c.in_ok-count.ensures.bytes.0 (omega (arith, size, c.pieces.invariant.come.short))

pub step-requires-in-pieces : goal.step-requires-in-pieces
step-requires-in-pieces g c =
    let come = c.pieces.invariant.come in
    subst (All (λ byte. byte ≢ 10)) (sym come.held) (All-take (λ byte. byte ≢ 10) begun_limit come.some.rest come.unended)

pub pieces-preserved : goal.pieces-preserved
pieces-preserved g c =
    let piece : List ℕ = take c.in_ok-count.count c.read.new.into in
    let size : length piece ≡ c.in_ok-count.count = length-take-le c.in_ok-count.count c.read.new.into c.in_ok-count.ensures.bound in
    let short : c.pieces.taken + length piece ≤ c.args.limit = omega (arith, size, c.pieces.invariant.come.short) in
    record {
      room = omega arith;
      come = rw size at (more_passes g.A.Responder.answers c.args.responder.now c.args.ahead.now c.args.limit (g.R.Source.remaining c.args.input.now) (g.R.Source.remaining c.pieces.input) (g.R.Source.remaining c.read.new.self) (g.W.Sink.contents c.args.output.now) (g.W.Sink.contents c.pieces.output) (g.J.Journal.kept c.args.journal.now) (g.J.Journal.kept c.pieces.journal) c.pieces.taken c.pieces.responder c.pieces.begun c.pieces.invariant.come piece c.in_ok-count.ensures.bytes.0 (g.W.Sink.contents c.step-in-pieces.new.output) (g.J.Journal.kept c.step-in-pieces.new.journal) c.step-in-pieces.new.responder c.step-in-pieces.new.begun short c.in_ok-step-2.ensures.order);
      reads = search rules;
      writes = search rules;
      keeps = search rules;
    }

pub returns-in_err-step-2-clause-err : goal.returns-in_err-step-2-clause-err
returns-in_err-step-2-clause-err g c =
    let piece : List ℕ = take c.in_ok-count.count c.read.new.into in
    let size : length piece ≡ c.in_ok-count.count = length-take-le c.in_ok-count.count c.read.new.into c.in_ok-count.ensures.bound in
    let short : c.pieces.taken + length piece ≤ c.args.limit = omega (arith, size, c.pieces.invariant.come.short) in
    stops_for g.A.Responder.answers c.args.responder.now c.args.ahead.now c.args.limit _ c.from_residual-in_err-step-2.result (stream_refusal c.in_err-step-2.field-0.0) c.from_residual-in_err-step-2.ensures.1
    (more_stops g.A.Responder.answers c.args.responder.now c.args.ahead.now c.args.limit (g.R.Source.remaining c.args.input.now) (g.R.Source.remaining c.pieces.input) (g.R.Source.remaining c.read.new.self) (g.W.Sink.contents c.args.output.now) (g.W.Sink.contents c.pieces.output) (g.J.Journal.kept c.args.journal.now) (g.J.Journal.kept c.pieces.journal) c.pieces.taken c.pieces.responder c.pieces.begun c.pieces.invariant.come piece c.in_ok-count.ensures.bytes.0 (g.W.Sink.contents c.step-in-pieces.new.output) (g.J.Journal.kept c.step-in-pieces.new.journal) c.step-in-pieces.new.responder c.step-in-pieces.new.begun short c.in_err-step-2.field-0.0 c.in_err-step-2.ensures.order)
