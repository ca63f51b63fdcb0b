-- Each parameter adorned `in` or `out` gets its value.
use Rattle.std.proofs.Common.{◌≡◌, ◌+◌, ◌++◌, ◌∷◌, [], true, false, get_or, take, List, sym, ap, ◌∙◌, subst, arith, All}
use Rattle.std.specs.List.{AllZip}
use Rattle.std.proofs.lemmas.List.{take_all}
use Rattle.std.proofs.lemmas.List.Elements.{All-get_or}
use Rattle.bspl_types.specs.declared.protocol.Carried.{Carried}
use Rattle.bspl_types.specs.declared.protocol.Adornment.TheVariants.{In}
use Rattle.bspl_types.specs.Adornment.{has_value, valued}
use Rattle.bspl_types.specs.Expansion.{message_of}
use Rattle.witness_replay.specs.inner.Values.{HasValueOf, IsInKnown}
use Rattle.witness_replay.proofs.ValueLemmas.{valued_more, valued_same}
use Rattle.witness_replay.proofs.values.values_after.Goals as goal
use Rattle.witness_replay.proofs.values.values_after.Goals.{then-has_value+in_ok-push, else-has_value}

pub value_after-requires-clause-known : goal.value_after-requires-clause-known
value_after-requires-clause-known c =
    let is : c.as_slice-carried.result.now ≡ (message_of c.args.x.now c.args.m).carried = c.as_slice-carried.ensures ∙ ap (λ n. n.carried) c.message_at.ensures in
    let all : All (IsInKnown c.args.x.now c.args.before.now c.args.m) c.as_slice-carried.result.now = subst (λ (cs : List Carried). All (IsInKnown c.args.x.now c.args.before.now c.args.m) cs) (sym is) c.requires.known in
    All-get_or (IsInKnown c.args.x.now c.args.before.now c.args.m) c.as_slice-carried.result.now c.loop-c.c-index (record { param = 0; adornment = In }) (omega arith) all

pub loop-c-preserved : goal.loop-c-preserved
loop-c-preserved c =
    let R = HasValueOf c.args.x.now c.args.before.now c.args.m in
    let carried = c.as_slice-carried.result.now in
    let at = get_or carried c.loop-c.c-index (record { param = 0; adornment = In }) in
    elim c.if-has_value.branch [
      | then-has_value+in_ok-push w ↦
          let has : has_value at.adornment ≡ true = sym c.has_value.ensures ∙ w.if-has_value.true in
          let is : c.if-has_value.values ≡ c.loop-c.values ++ w.value_after.result ∷ [] = w.values-is ∙ w.in_ok-push.ensures.ok in
          subst (AllZip R (valued (take (c.loop-c.c-index + 1) carried))) (sym is) (valued_more R carried c.loop-c.c-index (record { param = 0; adornment = In }) c.loop-c.values w.value_after.result (omega arith) has c.loop-c.invariant w.value_after.ensures)
      | else-has_value w ↦
          let none : has_value at.adornment ≡ false = sym c.has_value.ensures ∙ w.if-has_value.false in
          subst (AllZip R (valued (take (c.loop-c.c-index + 1) carried))) (sym w.values-is) (valued_same R carried c.loop-c.c-index (record { param = 0; adornment = In }) c.loop-c.values (omega arith) none c.loop-c.invariant)
    ]

pub returns : goal.returns
returns c =
    let is : c.as_slice-carried.result.now ≡ (message_of c.args.x.now c.args.m).carried = c.as_slice-carried.ensures ∙ ap (λ n. n.carried) c.message_at.ensures in
    let whole : take c.loop-c.c-index c.as_slice-carried.result.now ≡ (message_of c.args.x.now c.args.m).carried = take_all c.loop-c.c-index c.as_slice-carried.result.now (omega arith) ∙ is in
    subst (λ (cs : List Carried). AllZip (HasValueOf c.args.x.now c.args.before.now c.args.m) (valued cs) c.loop-c.values) whole c.loop-c.invariant
