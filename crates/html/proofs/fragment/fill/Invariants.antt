-- What has been written, and what the rest of the template is for.
use Rattle.std.proofs.Common.{◌≡◌, ◌++◌, drop, map}
use Rattle.html.specs.Fragment.{fitted, fragment_of, as_html}
use Rattle.html.proofs.fragment.fill.Given as goal

-- the text and the rest of the template, with the fragments that are left, are the whole
abbrev pub invariant-loop-fragment : goal.invariant-loop-fragment
invariant-loop-fragment l =
    l.text ++ as_html (fitted l.rest (map fragment_of (drop l.fragment-index l.fragments)))
    ≡ l.fn.text ++ as_html (fitted l.template (map fragment_of l.fragments))
