-- What a role knows from the events so far, and from one more.
use Rattle.std.proofs.Common.{◌≡◌, ℕ, ◌+◌, ◌<◌, ◌≤◌, List, [], ◌∷◌, ◌++◌, length, take, drop, get_or, inl, inr, sym, ap, ◌∙◌, subst}
use Rattle.std.specs.Prelude.{◌==◌}
use Rattle.std.specs.List.{Contains}
use Rattle.std.proofs.lemmas.Bool.{cond_both, cond-true, eq-eqb}
use Rattle.std.proofs.lemmas.Bool.Decides.{Decides-eqb}
use Rattle.std.proofs.lemmas.List.{append-nil, drop_more, take-append-drop, take_all, take_more}
use Rattle.std.proofs.lemmas.List.Elements.{Contains-append_cases, Contains-append_right, filter-append}
use Rattle.list_base.proofs.Members.{here_same, only}
use Rattle.bspl_types.specs.declared.event.Event.{Event}
use Rattle.bspl_types.specs.declared.expanded.Expanded.{Expanded}
use Rattle.bspl_types.specs.declared.value.Value.{Value}
use Rattle.bspl_types.specs.History.{history_of, role_of}
use Rattle.bspl_types.specs.Knowledge.{IsKnown, Knows}
use Rattle.role_knowledge.specs.FirstKnown.{IsFirstKnown}

-- what two histories together make known, one of them does
known_cases : (x : Expanded) (h t : List Event) (key : List Value) (p : ℕ) → ¬ IsKnown x h key p → ¬ IsKnown x t key p → ¬ IsKnown x (h ++ t) key p
known_cases x h t key p not_first not_second (v, knows) =
    elim (Contains-append_cases h t knows.event knows.among) [
      | inl among ↦ not_first (v, record { event = knows.event; among = among; under = knows.under; adornment = knows.adornment; carries = knows.carries })
      | inr among ↦ not_second (v, record { event = knows.event; among = among; under = knows.under; adornment = knows.adornment; carries = knows.carries })
    ]

-- one event more that makes nothing known to the role
pub unknown_more : (x : Expanded) (role : ℕ) (events : List Event) (i : ℕ) (d : Event) (key : List Value) (p : ℕ) → i < length events → (role_of x (get_or events i d) ≡ role → ¬ IsKnown x (get_or events i d ∷ []) key p) → ¬ IsKnown x (history_of x role (take i events)) key p → ¬ IsKnown x (history_of x role (take (i + 1) events)) key p
unknown_more x role events i d key p within by_event before =
    let e = get_or events i d in
    let h = history_of x role (take i events) in
    subst (λ history. ¬ IsKnown x history key p)
    (sym (ap (history_of x role) (take_more events i d within) ∙ filter-append (λ f. role_of x f == role) (take i events) (e ∷ [])))
    (cond_both (role_of x e == role) (e ∷ []) [] (λ t. ¬ IsKnown x (h ++ t) key p)
    (λ of_role. known_cases x h (e ∷ []) key p before (by_event ((Decides-eqb (role_of x e) role).0 of_role)))
    (λ _. subst (λ history. ¬ IsKnown x history key p) (sym (append-nil h)) before))

-- at the end these are all events
pub unknown_of_all : (x : Expanded) (role : ℕ) (events : List Event) (i : ℕ) (key : List Value) (p : ℕ) → length events ≤ i → ¬ IsKnown x (history_of x role (take i events)) key p → ¬ IsKnown x (history_of x role events) key p
unknown_of_all x role events i key p past unknown =
    subst (λ run. ¬ IsKnown x (history_of x role run) key p) (take_all i events past) unknown

-- the history before an event of the role, that event, and the history after it
history_split : (x : Expanded) (role : ℕ) (events : List Event) (i : ℕ) (d : Event) → i < length events → role_of x (get_or events i d) ≡ role → history_of x role events ≡ history_of x role (take i events) ++ get_or events i d ∷ history_of x role (drop (i + 1) events)
history_split x role events i d within of_role =
    let e = get_or events i d in
    let rest = history_of x role (drop (i + 1) events) in
    ap (history_of x role) (sym (take-append-drop i events))
    ∙ filter-append (λ f. role_of x f == role) (take i events) (drop i events)
    ∙ ap (λ run. history_of x role (take i events) ++ history_of x role run) (drop_more events i d within)
    ∙ ap (λ history. history_of x role (take i events) ++ history) (cond-true (role_of x e == role) (e ∷ rest) rest (eq-eqb (role_of x e) role of_role))

-- the event that makes the value known, after those that make nothing known
pub first_known_at : (x : Expanded) (role : ℕ) (events : List Event) (i : ℕ) (d : Event) (key : List Value) (p : ℕ) (v : Value) → i < length events → ¬ IsKnown x (history_of x role (take i events)) key p → role_of x (get_or events i d) ≡ role → Knows x (get_or events i d ∷ []) key p v → IsFirstKnown x (history_of x role events) key p v
first_known_at x role events i d key p v within before of_role knows =
    record {
      before = history_of x role (take i events);
      event = get_or events i d;
      after = history_of x role (drop (i + 1) events);
      split = history_split x role events i d within of_role;
      unknown = before;
      knows = knows;
    }

-- what is known first is known
pub known_from_first : (x : Expanded) (history : List Event) (key : List Value) (p : ℕ) (v : Value) → IsFirstKnown x history key p v → IsKnown x history key p
known_from_first x history key p v first =
    let k = first.knows in
    let among = Contains-append_right first.before (first.event ∷ first.after) k.event (here_same first.event first.after k.event (only first.event k.event k.among)) in
    (v, record { event = k.event; among = subst (λ h. Contains h k.event) (sym first.split) among; under = k.under; adornment = k.adornment; carries = k.carries })
