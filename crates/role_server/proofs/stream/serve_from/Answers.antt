-- As far as the stream was answered.
use Rattle.std.proofs.Common.{sym, subst}
use Rattle.bspl_types.specs.Limits.{input_limit}
use Rattle.kept_lines.specs.Stream.{StopsAnswering}
use Rattle.kept_lines.specs.declared.stream_refusal.StreamRefusal.{StreamRefusal}
use Rattle.role_server.specs.Served.{ServesLine}
use Rattle.role_server.specs.Stream.{passed, unkept}
use Rattle.role_server.proofs.stream.serve_from.Goals as goal

pub returns-in-Err-clause-err : goal.returns-in-Err-clause-err
returns-in-Err-clause-err g c =
    let passes = unkept (passed g.R.Source.remaining g.W.Sink.contents c.args.input.now c.answer_stream-served.new.input c.args.output.now c.answer_stream-served.new.output) in
    let stops : StopsAnswering ServesLine c.args.store c.args.ahead.now input_limit passes c.in-Err.refusal = rw c.new-role.ensures at c.in-Err.ensures.err in
    subst (λ (refusal : StreamRefusal). StopsAnswering ServesLine c.args.store c.args.ahead.now input_limit passes refusal) (sym c.serve_refusal.ensures) stops
