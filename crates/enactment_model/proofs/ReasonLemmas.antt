-- An emission is enabled exactly if each of its parameters is allowed, and what keeps one back.
use Rattle.std.proofs.Common.{◌≡◌, ◌≢◌, ℕ, ◌+◌, ◌<◌, List, [], ◌∷◌, ◌++◌, length, take, drop, get_or, Result, Ok, Err, refl, sym, ap, ◌∙◌, subst, arith, length-take}
use Rattle.std.specs.Prelude.{◌↔◌, IfErr}
use Rattle.std.specs.Result.{IsErrAnd}
use Rattle.std.specs.List.{All, Contains}
use Rattle.std.proofs.lemmas.List.{append-nil, append_assoc, drop_more, get_or_default, take-append-drop, take_more}
use Rattle.std.proofs.lemmas.List.Elements.{All-contains}
use Rattle.bspl_types.specs.declared.event.Event.{Event}
use Rattle.bspl_types.specs.declared.event.Instance.{Instance}
use Rattle.bspl_types.specs.declared.expanded.Expanded.{Expanded}
use Rattle.bspl_types.specs.declared.protocol.Adornment.{Adornment}
use Rattle.bspl_types.specs.declared.protocol.Adornment.TheVariants.{In, Out, Nil}
use Rattle.bspl_types.specs.declared.protocol.Carried.{Carried}
use Rattle.bspl_types.specs.declared.value.Value.{Value}
use Rattle.bspl_types.specs.Expansion.{message_of}
use Rattle.bspl_types.specs.Instance.{pairs}
use Rattle.bspl_types.specs.Knowledge.{CanEmit, IsEnabled, IsKnown}
use Rattle.role_knowledge.specs.Blocked.{IsPermitted, Permits}
use Rattle.enactment_model.specs.declared.bad_event.Why.{Why}
use Rattle.enactment_model.specs.BadEvent.{IsAllowed, IsFirstBadEvent, IsFirstReason, IsReasonOf, MayNotFollow}
use Rattle.enactment_model.specs.Legal.{IsLegal, LegalAfter, MayFollow}
use Rattle.enactment_model.specs.inner.Carrying.{IsKnownPair}
use Rattle.enactment_model.proofs.KnowledgeLemmas.{carried_with_value}

-- allowed parameters let the instance be emitted
enabled_if_allowed : (x : Expanded) (history : List Event) (i : Instance) → i.message < length x.messages → All (IsAllowed x history i) (message_of x i.message).carried → IsEnabled x history i
enabled_if_allowed x history i known all =
    let one = All-contains (IsAllowed x history i) (message_of x i.message).carried in
    record {
      can = record {
        known = known;
        ins = λ p adorned. (one (record { param = p; adornment = In }) all adorned).permitted;
        outs = λ p adorned. (one (record { param = p; adornment = Out }) all adorned).permitted;
        nils = λ p adorned. (one (record { param = p; adornment = Nil }) all adorned).permitted;
      };
      same = λ p v carries. (one (record { param = p; adornment = In }) all (carried_with_value x i In p v carries).0).same v refl carries;
    }

-- a message that can be emitted has permitted parameters alone
permitted_if_emits : (x : Expanded) (history : List Event) (m : ℕ) (key : List Value) → CanEmit x history m key → (c : Carried) → Contains (message_of x m).carried c → IsPermitted x history key c
permitted_if_emits x history m key can c =
    elim c.adornment as (λ a. Contains (message_of x m).carried (record { param = c.param; adornment = a }) → Permits a (IsKnown x history key c.param)) [
      | In ↦ can.ins c.param
      | Out ↦ can.outs c.param
      | Nil ↦ can.nils c.param
    ]

-- so an instance is enabled exactly if its parameters are allowed
pub enabled_exactly : (x : Expanded) (history : List Event) (i : Instance) → i.message < length x.messages → (All (IsAllowed x history i) (message_of x i.message).carried ↔ IsEnabled x history i)
enabled_exactly x history i known = (
  enabled_if_allowed x history i known,
  λ enabled k d within.
      let c = get_or (message_of x i.message).carried k d in
      record {
        permitted = permitted_if_emits x history i.message i.key enabled.can c (k, within, get_or_default (message_of x i.message).carried k c d within);
        same = λ v _ carries. enabled.same c.param v carries;
      },
)

-- an `in` parameter that is known, with each value that the instance has for it, is allowed
pub known_allowed : (x : Expanded) (history : List Event) (i : Instance) (c : Carried) → c.adornment ≡ In → IsKnown x history i.key c.param → All (IsKnownPair x history i.key c.param) (pairs x i) → IsAllowed x history i c
known_allowed x history i c is_in known all =
    record {
      permitted = subst (λ a. Permits a (IsKnown x history i.key c.param)) (sym is_in) known;
      same = λ v _ carries. (All-contains (IsKnownPair x history i.key c.param) (pairs x i) (record { param = c.param; adornment = In }, v) all carries).known refl;
    }

-- an `out` or `nil` parameter that is permitted is not known
pub permitted_unknown : (a : Adornment) (K : Type 0) → a ≢ In → Permits a K → ¬ K
permitted_unknown In K not_in permitted = absurd (not_in refl)
permitted_unknown Out K not_in permitted = permitted
permitted_unknown Nil K not_in permitted = permitted

-- the parameter that is refused, after those that are allowed
pub first_reason_at : (x : Expanded) (history : List Event) (i : Instance) (carried : List Carried) (k : ℕ) (d : Carried) (why : Why) → k < length carried → All (IsAllowed x history i) (take k carried) → IsReasonOf x history i (get_or carried k d) why → IsFirstReason x history i carried why
first_reason_at x history i carried k d why within allowed reason =
    record {
      before = take k carried;
      refused = get_or carried k d;
      after = drop (k + 1) carried;
      split = sym (take-append-drop k carried) ∙ ap (λ rest. take k carried ++ rest) (drop_more carried k d within);
      allowed = allowed;
      reason = reason;
    }

-- an error that is handed on is the one that came
pub handed_on : {A E : Type 0} (answer : Result A E) (e : E) (P : E → Type 0) → IsErrAnd answer (λ f. f ≡ e) → P e → IfErr answer P
handed_on (Ok value) e P is holds = tt
handed_on (Err f) e P is holds = subst P (sym is) holds

-- an event that may follow a legal run makes a legal run
legal_after_push : (x : Expanded) (before run : List Event) (e : Event) → LegalAfter x before run → MayFollow x (before ++ run) e → LegalAfter x before (run ++ e ∷ [])
legal_after_push x before [] e legal follows = (subst (λ h. MayFollow x h e) (append-nil before) follows, tt)
legal_after_push x before (first ∷ run) e legal follows =
    (legal.0, legal_after_push x (before ++ first ∷ []) run e legal.1 (subst (λ h. MayFollow x h e) (sym (append_assoc before (first ∷ []) run)) follows))

-- from the start of a run
pub legal_push : (x : Expanded) (run : List Event) (e : Event) → IsLegal x run → MayFollow x run e → IsLegal x (run ++ e ∷ [])
legal_push x run e legal follows = legal_after_push x [] run e legal follows

-- one more event of the run that may follow those before it
pub legal_more : (x : Expanded) (run : List Event) (k : ℕ) (e : Event) → k < length run → e ≡ get_or run k e → IsLegal x (take k run) → MayFollow x (take k run) e → IsLegal x (take (k + 1) run)
legal_more x run k e within is legal follows =
    subst (IsLegal x) (sym (take_more run k e within ∙ ap (λ f. take k run ++ f ∷ []) (sym is))) (legal_push x (take k run) e legal follows)

-- an event that may not follow the legal events before it is the first bad one
pub bad_at : (x : Expanded) (run : List Event) (k : ℕ) (e : Event) (why : Why) → k < length run → e ≡ get_or run k e → IsLegal x (take k run) → MayNotFollow x (take k run) e why → IsFirstBadEvent x run (record { place = k + 1; why = why })
bad_at x run k e why within is legal not =
    record {
      before = take k run;
      event = e;
      after = drop (k + 1) run;
      split = sym (take-append-drop k run) ∙ ap (λ rest. take k run ++ rest) (drop_more run k e within ∙ ap (λ f. f ∷ drop (k + 1) run) (sym is));
      legal = legal;
      place = omega (arith, length-take k run);
      why = not;
    }
