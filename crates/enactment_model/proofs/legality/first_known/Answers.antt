-- What the message's sender knows is what the instance's sender knows.
use Rattle.std.proofs.Common.{sym, subst}
use Rattle.std.specs.Prelude.{◌↔◌, IfSome, IsSome}
use Rattle.std.proofs.lemmas.Option.{get_or_from_slice_get}
use Rattle.bspl_types.specs.Expansion.{no_message}
use Rattle.bspl_types.specs.History.{history_of}
use Rattle.bspl_types.specs.Knowledge.{IsKnown}
use Rattle.role_knowledge.specs.FirstKnown.{IsFirstKnown}
use Rattle.enactment_model.proofs.legality.first_known.Goals as goal

pub returns : goal.returns
returns c =
    let x = c.args.x.now in
    let i = c.args.instance.now in
    let before = c.args.before.now in
    let p = c.args.param in
    let message_is = get_or_from_slice_get x.messages i.message c.at-message.result.now no_message c.at-message.ensures in
    record {
      exact = subst (λ m. IsSome c.knows.result ↔ IsKnown x (history_of x m.sender before) i.key p) (sym message_is) c.knows.ensures.exact;
      first = subst (λ m. IfSome c.knows.result (IsFirstKnown x (history_of x m.sender before) i.key p)) (sym message_is) c.knows.ensures.first;
    }
