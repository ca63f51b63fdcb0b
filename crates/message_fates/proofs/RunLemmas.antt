-- Events whose instances fit.
use Rattle.std.proofs.Common.{◌≡◌, List, [], ◌∷◌, ◌++◌, subst}
use Rattle.std.proofs.lemmas.List.Elements.{All-append, All-cons, All-nil}
use Rattle.bspl_types.specs.declared.event.Event.{Event}
use Rattle.bspl_types.specs.declared.event.Event.TheVariants.{Emit, Receive}
use Rattle.bspl_types.specs.declared.event.Instance.{Instance}
use Rattle.bspl_types.specs.declared.expanded.Expanded.{Expanded}
use Rattle.bspl_types.specs.History.{IsRun, instance_of}
use Rattle.bspl_types.specs.Instance.{Fits}

-- an instance that fits is emitted and received after those of a run
both_more : (x : Expanded) (run : List Event) (i : Instance) → Fits x i → IsRun x run → IsRun x (run ++ Emit i ∷ Receive i ∷ [])
both_more x run i fits is =
    let Fit = λ (e : Event). Fits x (instance_of e) in
    All-append Fit run (Emit i ∷ Receive i ∷ []) is (All-cons Fit (Emit i) (Receive i ∷ []) fits (All-cons Fit (Receive i) [] fits (All-nil Fit)))

-- also if it fits what is lent
pub lent_more : (x lent : Expanded) (run : List Event) (i : Instance) → lent ≡ x → Fits lent i → IsRun x run → IsRun x (run ++ Emit i ∷ Receive i ∷ [])
lent_more x lent run i same fits is = both_more x run i (subst (λ y. Fits y i) same fits) is
