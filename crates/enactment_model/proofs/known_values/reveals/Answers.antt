-- The event carries the pair exactly if the test finds it.
use Rattle.std.proofs.Common.{◌≡◌, sym, ap, ◌∙◌}
use Rattle.std.specs.List.{zip}
use Rattle.std.proofs.lemmas.Bool.Decides.{Decides-eqb}
use Rattle.std.proofs.lemmas.Option.{get_or_from_slice_get}
use Rattle.bspl_types.specs.Adornment.{valued}
use Rattle.bspl_types.specs.Expansion.{message_of, no_message}
use Rattle.bspl_types.specs.History.{instance_of}
use Rattle.bspl_types.specs.Instance.{pairs}
use Rattle.enactment_model.specs.inner.Carrying.{has_pair}
use Rattle.enactment_model.proofs.CarryingLemmas.{found_pair, pair_found}
use Rattle.enactment_model.proofs.known_values.reveals.Goals as goal
use Rattle.enactment_model.proofs.known_values.reveals.Goals.{then-role, else-role}

pub returns-then-same : goal.returns-then-same
returns-then-same c =
    let x = c.args.x.now in
    let e = c.args.event.now in
    let p = c.args.param in
    let v = c.args.value in
    let i = c.instance-instance.result.now in
    let exact = c.equal_values_are_one.ensures.values in
    let message_is = get_or_from_slice_get x.messages i.message c.at.result.now no_message c.at.ensures in
    let carried_is = c.as_slice-carried.ensures ∙ sym (ap (λ m. m.carried) message_is) in
    let found : c.carries.result ≡ has_pair (pairs x (instance_of e)) p v =
    c.carries.ensures ∙ ap (λ carried. has_pair (zip (valued carried) c.as_slice.result.now) p v) carried_is
    ∙ ap (λ values. has_pair (zip (valued (message_of x i.message).carried) values) p v) c.as_slice.ensures.values
    ∙ ap (λ j. has_pair (pairs x j) p v) c.instance-instance.ensures in
    elim c.if-role.branch [
      | then-role w ↦
          let under = ap (λ j. j.key) (sym c.instance-instance.ensures) ∙ w.same.ensures.exact.0 (sym w.value-is ∙ c.if-same.true) in (
            λ yes. let (a, carries) = pair_found exact (pairs x (instance_of e)) p v (sym found ∙ yes) in
                record { own = sym c.role.ensures ∙ w.if-role.true; under = under; adornment = a; carries = carries },
            λ reveals. found ∙ found_pair exact (pairs x (instance_of e)) p v reveals.adornment reveals.carries,
          )
      | else-role w ↦ absurd (w.if-role.false ((Decides-eqb c.role.result c.args.role).0 (sym w.value-is ∙ c.if-same.true)))
    ]
