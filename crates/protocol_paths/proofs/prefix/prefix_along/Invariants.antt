-- What has been put together.
use Rattle.std.proofs.Common.{◌≡◌, take}
use Rattle.bspl_parser.specs.declared.document.Declaration.{Declaration}
use Rattle.protocol_paths.specs.inner.Links.{scope_along}
use Rattle.protocol_paths.proofs.prefix.prefix_along.Given as goal

-- the prefix at the end of the links so far
abbrev pub invariant-loop-step : goal.invariant-loop-step
invariant-loop-step l = (top : Declaration) → l.prefix.text ≡ (scope_along top (take l.step-index l.links)).prefix
