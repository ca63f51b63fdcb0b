-- Nothing that speaks against the message was found, or a repeated parameter does.
use Rattle.std.proofs.Common.{rules, ◌≢◌, length, refl}
use Rattle.std.proofs.lemmas.Bool.{false≢true}
use Rattle.protocol_expand.proofs.OneReason.{missing_exists, refused_exactly, repeated_is_not_admitted}
use Rattle.protocol_expand.proofs.Refused.{faultless}
use Rattle.protocol_expand.proofs.message_fault.check.Goals as goal

pub returns-in_err-message-2-clause-exact : goal.returns-in_err-message-2-clause-exact
returns-in_err-message-2-clause-exact c =
    refused_exactly _ _ c.from_residual-in_err-message-2.ensures.0 (repeated_is_not_admitted c.args.keys.now c.args.m.now c.in-Some.param c.in-Some.ensures)

pub returns-in_err-param-clause-exact : goal.returns-in_err-param-clause-exact
returns-in_err-param-clause-exact c =
    refused_exactly _ _ c.from_residual-in_err-param.ensures.0 (repeated_is_not_admitted c.args.keys.now c.args.m.now c.in-Some.param c.in-Some.ensures)

pub returns-in-Some-clause-exact : goal.returns-in-Some-clause-exact
returns-in-Some-clause-exact c = (
  λ wrong. absurd (false≢true wrong),
  λ admitted. absurd (repeated_is_not_admitted c.args.keys.now c.args.m.now c.in-Some.param c.in-Some.ensures admitted),
)

pub name_of-requires-in-Some-missing_key : goal.name_of-requires-in-Some-missing_key
name_of-requires-in-Some-missing_key c = missing_exists (length c.args.params.now) c.args.m.now.carried c.args.keys.now c.in-Some-missing_key.param c.requires.keys_exist c.in-Some-missing_key.ensures

pub returns-clause-exact : goal.returns-clause-exact
returns-clause-exact c =
    let two_roles : c.args.m.now.sender ≢ c.args.m.now.receiver = search rules in
    (λ _. faultless c.args.keys.now c.args.m.now two_roles c.in_default.ensures c.in_default-missing_key.ensures, λ _. refl)
