-- Which names were found.
use Rattle.std.proofs.Common.{◌≡◌, map, take}
use Rattle.std.specs.List.{filter}
use Rattle.bspl_types.specs.Choice.{is_chosen}
use Rattle.bspl_types.specs.Expansion.{param_name}
use Rattle.answer_words.proofs.lent_naming.out_naming.Given as goal

-- those of the parameters so far that are adorned `out` and are no keys
abbrev pub invariant-loop-carried : goal.invariant-loop-carried
invariant-loop-carried l =
    map (λ name. name.now) l.names ≡
    map (λ c. param_name l.x c.param) (filter (is_chosen l.x.keys) (take l.carried-index l.list))
