-- What an agent does rests on its own history.
use Rattle.std.proofs.Common.{◌≡◌, ℕ, ◌⊎◌, Bool, true, inl, inr, List, [], ◌∷◌, ◌++◌, length, get_or, refl, sym, ap, ◌∙◌, subst, arith, All, Contains}
use Rattle.std.specs.Prelude.{◌==◌}
use Rattle.std.specs.List.{filter}
use Rattle.std.proofs.lemmas.Bool.{cond-true}
use Rattle.std.proofs.lemmas.Bool.Decides.{Decides-eqb}
use Rattle.std.proofs.lemmas.List.{length-append}
use Rattle.std.proofs.lemmas.List.Elements.{All-contains, All-contains_itself, All-head, All-push, All-tail, filter-append, filter_passes}
use Rattle.list_base.proofs.Filtered.{filtered_member, kept_member}
use Rattle.list_base.proofs.Membership.{member_at}
use Rattle.bspl_types.specs.declared.event.Event.{Event}
use Rattle.bspl_types.specs.declared.event.Event.TheVariants.{Emit, Receive}
use Rattle.bspl_types.specs.declared.expanded.Expanded.{Expanded}
use Rattle.bspl_types.specs.declared.value.Value.{Value}
use Rattle.bspl_types.specs.Expansion.{message_of}
use Rattle.bspl_types.specs.History.{history_of, instance_of, role_of}
use Rattle.bspl_types.specs.Knowledge.{CanEmit}
use Rattle.stamped_history.specs.PlayedLaws.{HistoriesPlay, HistoriesSettle, OrdersAreOwn, PlayedGrows}
use Rattle.enactment_model.specs.Liveness.{IsEmitted}
use Rattle.stamped_history.specs.Played.{IsPassed, IsPlayed}
use Rattle.stamped_history.specs.Rules.{Rules}

-- an event is in its role's history
in_own : (x : Expanded) (role : ℕ) (run : List Event) (e : Event) → role_of x e ≡ role → Contains run e → Contains (history_of x role run) e
in_own x role run e own among = kept_member (λ f. role_of x f == role) run e ((Decides-eqb (role_of x e) role).1 own) among

-- a role's history, parted at an event of its own
history_parted : (x : Expanded) (before after : List Event) (e : Event) → history_of x (role_of x e) (before ++ e ∷ after) ≡ history_of x (role_of x e) before ++ e ∷ history_of x (role_of x e) after
history_parted x before after e =
    let role : ℕ = role_of x e in
    filter-append (λ f. role_of x f == role) before (e ∷ after)
    ∙ ap (λ es. history_of x role before ++ es) (cond-true (role_of x e == role) (e ∷ history_of x role after) (history_of x role after) ((Decides-eqb (role_of x e) role).1 refl))

-- a filter that all items pass keeps the list
all_kept : {X : Type 0} (p : X → Bool) (xs : List X) → All (λ x. p x ≡ true) xs → filter p xs ≡ xs
all_kept p [] all = refl
all_kept {X} p (x ∷ xs) all =
    cond-true (p x) (x ∷ filter p xs) (filter p xs) (All-head (λ (y : X). p y ≡ true) x xs all)
    ∙ ap (λ ys. x ∷ ys) (all_kept p xs (All-tail (λ (y : X). p y ≡ true) x xs all))

-- a role's history of its own history is that history
history_again : (x : Expanded) (role : ℕ) (run : List Event) → history_of x role (history_of x role run) ≡ history_of x role run
history_again x role run = all_kept (λ e. role_of x e == role) (history_of x role run) (filter_passes (λ e. role_of x e == role) run)

-- what the role emitted stands in its history, and the other way round
emitted_own : (x : Expanded) (run : List Event) (m : ℕ) (key : List Value) → IsEmitted run key m → IsEmitted (history_of x (message_of x m).sender run) key m
emitted_own x run m key was =
    record {
      instance = was.instance;
      emitted = in_own x (message_of x m).sender run (Emit was.instance) (ap (λ k. (message_of x k).sender) was.message_is) was.emitted;
      message_is = was.message_is;
      under = was.under;
    }

emitted_any : (x : Expanded) (role : ℕ) (run : List Event) (m : ℕ) (key : List Value) → IsEmitted (history_of x role run) key m → IsEmitted run key m
emitted_any x role run m key was =
    record {
      instance = was.instance;
      emitted = (filtered_member (λ f. role_of x f == role) run (Emit was.instance) was.emitted).0;
      message_is = was.message_is;
      under = was.under;
    }

-- a message that the role passed in its history it passed in the run
passed_any : (x : Expanded) (rules : Rules) (role : ℕ) (before : List Event) (m n : ℕ) (key : List Value) → (message_of x m).sender ≡ role → IsPassed x rules (history_of x role before) m n key → IsPassed x rules before m n key
passed_any x rules role before m n key own (inl declined) = inl declined
passed_any x rules role before m n key own (inr (inl was)) = inr (inl (emitted_any x role before m key was))
passed_any x rules role before m n key own (inr (inr cannot)) = inr (inr (λ can. cannot (
    subst (λ h. CanEmit x h m key) (ap (λ r. history_of x r before) own ∙ sym (history_again x role before) ∙ ap (λ r. history_of x r (history_of x role before)) (sym own)) can)))

-- what is played in a role's history is played in the run
played_any : (x : Expanded) (rules : Rules) (before : List Event) (e : Event) → OrdersAreOwn x rules → IsPlayed x rules (history_of x (role_of x e) before) e → IsPlayed x rules before e
played_any x rules before (Emit i) orders chosen =
    record {
      accepted = chosen.accepted;
      first = λ was. chosen.first (emitted_own x before i.message i.key was);
      values = chosen.values;
      passed = λ n m number tries.
          let role : ℕ = (message_of x i.message).sender in
          passed_any x rules role before m n i.key (orders role m (member_at (rules.order role) tries.index m tries.first_at)) (chosen.passed n m number tries);
    }
played_any x rules before (Receive i) orders delivered =
    record {
      kept = delivered.kept;
      once = λ received. delivered.once (in_own x (message_of x i.message).receiver before (Receive i) refl received);
    }

-- a run is played if each role's history is
pub plays : HistoriesPlay
plays x rules run orders each =
    record {
      workload = λ k d within.
          let e : Event = get_or run k d in
          let role : ℕ = role_of x e in
          All-contains (λ f. Contains rules.keys (instance_of f).key) (history_of x role run) e (each role).workload
          (in_own x role run e refl (All-contains_itself run k d within));
      events = λ before after e is.
          let role : ℕ = role_of x e in
          played_any x rules before e orders
          ((each role).events (history_of x role before) (history_of x role after) e (ap (history_of x role) is ∙ history_parted x before after e));
    }

-- the parts of a list with one item more: the item is that one, or one of the list
end_or_before : {X : Type 0} (xs before after : List X) (x y : X) → xs ++ x ∷ [] ≡ before ++ y ∷ after → ((xs ≡ before) × (x ≡ y)) ⊎ ((rest : List X) × (xs ≡ before ++ y ∷ rest))
end_or_before [] [] after x y is = inl (refl, (cc))
end_or_before [] (b ∷ before) after x y is = absurd (omega (arith, ap length is, length-append before (y ∷ after)))
end_or_before (a ∷ xs) [] after x y is = let same : a ≡ y = cc in inr (xs, ap (λ z. z ∷ xs) same)
end_or_before {X} (a ∷ xs) (b ∷ before) after x y is =
    let same : a ≡ b = cc in
    let tail : xs ++ x ∷ [] ≡ before ++ y ∷ after = cc in
    elim (end_or_before xs before after x y tail) [
      | inl last ↦ inl (let rest = last.0 in (cc), last.1)
      | inr early ↦ inr (early.0, let rest = early.1 in (cc))
    ]

-- one more event that is played
pub grows : PlayedGrows
grows x rules events e played workload next =
    record {
      workload = All-push (λ f. Contains rules.keys (instance_of f).key) events e played.workload workload;
      events = λ before after f is. elim (end_or_before events before after e f is) [
        | inl last ↦ subst (λ b. IsPlayed x rules b f) last.0 (subst (IsPlayed x rules events) last.1 next)
        | inr early ↦ played.events before early.0 f early.1
      ];
    }

-- a run is settled if the roles' histories are
pub settles : HistoriesSettle
settles x rules run settled =
    record {
      delivered = λ n i number emitted kept.
          (filtered_member (λ f. role_of x f == (message_of x i.message).receiver) run (Receive i)
          (settled.delivered n i number (in_own x (message_of x i.message).sender run (Emit i) refl emitted) kept)).0;
      exhausted = λ n m key number accepted never.
          settled.exhausted n m key number accepted (λ was. never (emitted_any x (message_of x m).sender run m key was));
    }
