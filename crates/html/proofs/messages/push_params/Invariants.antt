-- What has been written.
use Rattle.std.proofs.Common.{◌≡◌, ◌++◌, take}
use Rattle.std.specs.List.{flat_map}
use Rattle.html.specs.Fragment.{as_html}
use Rattle.html.specs.Tables.{param_item}
use Rattle.html.proofs.messages.push_params.Given as goal

-- the parameters so far are written
abbrev pub invariant-loop-c : goal.invariant-loop-c
invariant-loop-c l = l.text ≡ l.fn.text ++ as_html (flat_map (param_item l.x) (take l.c-index l.carried))
