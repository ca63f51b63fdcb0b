-- All fates are known.
use Rattle.std.proofs.Common.{◌≡◌, List, Option, Some, IfSome, map, subst, ◌∙◌}
use Rattle.message_fates.specs.declared.fate.Fate.{Fate}
use Rattle.message_fates.proofs.FateLemmas.{known_found}
use Rattle.message_fates.proofs.fates.fates_by.Goals as goal

pub returns-in-Some : goal.returns-in-Some
returns-in-Some c =
    let known = c.find_known.new.known in
    let all = subst (λ (found : Option (List Fate)). IfSome found (λ fates. known ≡ map Some fates)) c.in-Some.is c.in_ok-fates.ensures in
    known_found c.args.protocol.now c.args.budget known c.in-Some.fates (c.find_known.ensures.as_many ∙ c.requires.one_each) all c.in_ok-find_known.ensures.known
