-- What has been written, by searches of the protocol.
use Rattle.std.proofs.Common.{◌≡◌}
use Rattle.page_sections.specs.inner.Rules.{FirstAreShown}
use Rattle.page_sections.proofs.rules.push_judged.Given as goal

-- the rules that were passed over are shown
abbrev pub invariant-loop-index : goal.invariant-loop-index
invariant-loop-index l = FirstAreShown l.a l.fn.conflicts l.rules l.index l.fn.text l.text × (l.searches ≡ l.a)
