-- Which names were found.
use Rattle.std.proofs.Common.{◌≡◌, ◌++◌, map, take}
use Rattle.protocol_names.specs.Names.{texts}
use Rattle.answer_words.proofs.names.push_params.Given as goal

-- those of the parameters so far
abbrev pub invariant-loop-param : goal.invariant-loop-param
invariant-loop-param l =
    map (λ name. name.now) l.names ≡
    map (λ name. name.now) l.fn.names ++ texts (map (λ f. f.name) (take l.param-index l.params))
