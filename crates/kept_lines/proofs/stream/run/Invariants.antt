-- What the loop over the input keeps, and why it ends.
use Rattle.std.proofs.Common.{◌≡◌, ◌-◌, length}
use Rattle.kept_lines.specs.inner.Coming.{IsAnsweredSoFar}
use Rattle.kept_lines.proofs.StreamLemmas.{flow}
use Rattle.kept_lines.proofs.stream.run.Given as goal

-- what came is answered, and no fault was counted
abbrev pub invariant-pieces : goal.invariant-pieces
invariant-pieces g l = record {
  room : length l.piece ≡ 16384;
  come : IsAnsweredSoFar g.A.Responder.answers l.fn.responder l.ahead l.limit
      (flow (g.R.Source.remaining l.fn.input) (g.R.Source.remaining l.input) (g.W.Sink.contents l.fn.output) (g.W.Sink.contents l.output) (g.J.Journal.kept l.fn.journal) (g.J.Journal.kept l.journal))
      l.taken l.responder l.begun;
  reads : g.R.Source.faults l.input ≡ g.R.Source.faults l.fn.input;
  writes : g.W.Sink.faults l.output ≡ g.W.Sink.faults l.fn.output;
  keeps : g.J.Journal.faults l.journal ≡ g.J.Journal.faults l.fn.journal;
}

-- how many bytes may still come
abbrev pub decreases-pieces : goal.decreases-pieces
decreases-pieces g l = l.limit - l.taken
