-- What has been written.
use Rattle.std.proofs.Common.{◌≡◌, ◌++◌, take}
use Rattle.std.proofs.Common.{map}
use Rattle.html.specs.Fragment.{as_html}
use Rattle.html.specs.Fragment.{fragment_of}
use Rattle.html.proofs.fragment.push_fragments.Given as goal

-- the fragments so far are written
abbrev pub invariant-loop-fragment : goal.invariant-loop-fragment
invariant-loop-fragment l = l.text ≡ l.fn.text ++ as_html (map fragment_of (take l.fragment-index l.fragments))
