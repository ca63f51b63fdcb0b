-- A rival is an earlier producer under the key of the event at the position.
use Rattle.std.proofs.Common.{Some, refl, sym, ap, ◌∙◌, subst}
use Rattle.std.specs.List.{Contains}
use Rattle.std.proofs.lemmas.Option.{get_or_from_slice_get, slice_get_read}
use Rattle.bspl_types.specs.declared.protocol.Adornment.TheVariants.{Out}
use Rattle.bspl_types.specs.Expansion.{no_message}
use Rattle.enactment_model.proofs.ConflictLemmas.{rival_from_producer}
use Rattle.enactment_model.proofs.conflicts.first_rival.Goals as goal

pub returns : goal.returns
returns c =
    let x = c.args.x.now in
    let i = c.in-Emit.instance in
    let message_is = get_or_from_slice_get x.messages i.message c.at.result.now no_message c.at.ensures in
    rival_from_producer x c.args.run.now c.args.param c.args.second i
    (slice_get_read c.args.run.now _ c.args.second c.index-run-second.result refl c.requires.within c.index-run-second.is ∙ ap Some c.in-Emit.is)
    (subst (λ m. Contains m.carried (record { param = c.args.param; adornment = Out })) (sym message_is) (c.produces.ensures.0 c.if-not-produces.false))
    c.first_producer.result c.first_producer.ensures
