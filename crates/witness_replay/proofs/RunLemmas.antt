-- A run of kinds: its events by their kinds, their instances and their key.
use Rattle.std.proofs.Common.{◌≡◌, inl, inr, ℕ, zero, suc, ◌<◌, ◌≤◌, List, [], ◌∷◌, ◌++◌, length, map, take, get_or, Some, slice_get, Contains, refl, sym, ap, ◌∙◌, subst, arith, length-append, length-take}
use Rattle.std.proofs.lemmas.Bool.{cases_lt}
use Rattle.std.proofs.lemmas.List.{get_or_append_left, get_or-take, map-append, take_all, take-append-le, take-map}
use Rattle.std.proofs.Math.Seq.{get_or-append_seam}
use Rattle.std.proofs.lemmas.Option.{get_or_from_slice_get, none-some, same_Some, slice_get-get_or, slice_get_within}
use Rattle.list_base.proofs.Membership.{early_index, index_of}
use Rattle.bspl_types.specs.declared.event.Event.{Event}
use Rattle.bspl_types.specs.declared.event.Event.TheVariants.{Emit, Receive}
use Rattle.bspl_types.specs.declared.event.Instance.{Instance}
use Rattle.bspl_types.specs.declared.expanded.Expanded.{Expanded}
use Rattle.bspl_types.specs.History.{instance_of, IsRun}
use Rattle.bspl_types.specs.Instance.{Fits}
use Rattle.first_occurrences.specs.Occurrence.{kind_of}
use Rattle.witness_replay.specs.Witness.{IsRunOfKinds, IsWitnessEvent, key_of_ones}
use Rattle.witness_replay.proofs.ListedLemmas.{each_member, mapped_from, mapped_member}

-- what an event of such a run has: it fits, and is under the key of ones
pub record IsUnderOnes (x : Expanded) (e : Event) : Type 0 where
  pub fits : Fits x (instance_of e)
  pub key : (instance_of e).key ≡ key_of_ones x

module _ (x : Expanded) (kinds : List ℕ) (run : List Event) (is_run : IsRunOfKinds x kinds run) where
  -- an emission of the run
  emission_under : (position : ℕ) (i : Instance) → slice_get run position ≡ Some (Emit i) → IsUnderOnes x (Emit i)
  emission_under position i at = let witness = is_run.each position (Emit i) at in record { fits = witness.fits; key = witness.key }

  -- a reception has the instance of an emission
  under_at : (position : ℕ) (e : Event) → slice_get run position ≡ Some e → IsUnderOnes x e
  under_at position (Emit i) at = emission_under position i at
  under_at position (Receive i) at =
      let (earlier, less, emitted) = early_index run position (Emit i) (is_run.each position (Receive i) at) in
      let under = emission_under earlier i emitted in
      record { fits = under.fits; key = under.key }

  -- each event
  pub under_ones : (e : Event) → Contains run e → IsUnderOnes x e
  under_ones e among = let (position, at) = index_of run e among in under_at position e at

  -- so it is a run
  pub run_fits : IsRun x run
  run_fits = each_member (λ e. Fits x (instance_of e)) run (λ e among. (under_ones e among).fits)

  -- the kind of an event is among the kinds
  pub kind_among : (e : Event) → Contains run e → Contains kinds (kind_of e)
  kind_among e among = subst (λ (ks : List ℕ). Contains ks (kind_of e)) is_run.kinds_of (mapped_member kind_of run e among)

  -- and each kind has an event
  pub event_of : (kind : ℕ) → Contains kinds kind → (e : Event) × Contains run e × (kind_of e ≡ kind)
  event_of kind among = mapped_from kind_of run kind (subst (λ (ks : List ℕ). Contains ks kind) (sym is_run.kinds_of) among)

  -- the kind at the position of an event
  pub kind_at : (position : ℕ) (e : Event) → slice_get run position ≡ Some e → slice_get kinds position ≡ Some (kind_of e)
  kind_at position e at = subst (λ (ks : List ℕ). slice_get ks position ≡ Some (kind_of e)) is_run.kinds_of (mapped_at run position e at)
    where
      mapped_at : (events : List Event) (k : ℕ) (f : Event) → slice_get events k ≡ Some f → slice_get (map kind_of events) k ≡ Some (kind_of f)
      mapped_at [] k f found = absurd (none-some f found)
      mapped_at (g ∷ events) zero f found = ap Some (ap kind_of (same_Some g f found))
      mapped_at (g ∷ events) (suc k) f found = mapped_at events k f found

-- what is at an index of the first items is there in the list
taken_at : {X : Type 0} (n : ℕ) (xs : List X) (k : ℕ) (x : X) → slice_get (take n xs) k ≡ Some x → (k < n) × (slice_get xs k ≡ Some x)
taken_at n xs k x at =
    let within = slice_get_within (take n xs) k x at in
    let early : k < n = omega (arith, within, length-take n xs) in
    let inside : k < length xs = omega (arith, within, length-take n xs) in
    (early, slice_get-get_or xs k x inside ∙ ap Some (sym (get_or-take n xs k x early) ∙ get_or_from_slice_get (take n xs) k x x at))

-- the first items of the first items
taken_twice : {X : Type 0} (k n : ℕ) (xs : List X) → k ≤ n → take k (take n xs) ≡ take k xs
taken_twice zero n xs less = refl
taken_twice (suc k) zero xs less = absurd (omega (arith, less))
taken_twice (suc k) (suc n) [] less = refl
taken_twice {X} (suc k) (suc n) (x ∷ xs) less = ap (λ (ys : List X). x ∷ ys) (taken_twice k n xs (omega (arith, less)))

-- the first events are a run of the first kinds
pub run_prefix : (x : Expanded) (kinds : List ℕ) (run : List Event) (n : ℕ) → IsRunOfKinds x kinds run → IsRunOfKinds x (take n kinds) (take n run)
run_prefix x kinds run n is_run =
    record {
      kinds_of = sym (take-map kind_of n run) ∙ ap (take n) is_run.kinds_of;
      each = λ position e at.
          let (early, there) = taken_at n run position e at in
          subst (λ (before : List Event). IsWitnessEvent x before e) (sym (taken_twice position n run (omega arith))) (is_run.each position e there);
    }

-- one event more
pub run_more : (x : Expanded) (kinds : List ℕ) (run : List Event) (kind : ℕ) (e : Event) → IsRunOfKinds x kinds run → IsWitnessEvent x run e → kind_of e ≡ kind → IsRunOfKinds x (kinds ++ kind ∷ []) (run ++ e ∷ [])
run_more x kinds run kind e is_run witness of_kind =
    record {
      kinds_of = map-append kind_of run (e ∷ []) ∙ ap (λ (ks : List ℕ). ks ++ kind_of e ∷ []) is_run.kinds_of ∙ ap (λ k. kinds ++ k ∷ []) of_kind;
      each = λ position f at. elim (cases_lt position (length run)) [
        | inl early ↦
            let there : slice_get run position ≡ Some f = slice_get-get_or run position f early ∙ ap Some (sym (get_or_append_left run (e ∷ []) f position early) ∙ get_or_from_slice_get (run ++ e ∷ []) position f f at) in
            subst (λ (before : List Event). IsWitnessEvent x before f) (sym (take-append-le position run (e ∷ []) (omega arith))) (is_run.each position f there)
        | inr late ↦
            let within = slice_get_within (run ++ e ∷ []) position f at in
            let last : position ≡ length run = omega (arith, within, length-append run (e ∷ [])) in
            let is : e ≡ f = sym (get_or-append_seam run e [] f) ∙ ap (λ k. get_or (run ++ e ∷ []) k f) (sym last) ∙ get_or_from_slice_get (run ++ e ∷ []) position f f at in
            let before : take position (run ++ e ∷ []) ≡ run = ap (λ k. take k (run ++ e ∷ [])) last ∙ take-append-le (length run) run (e ∷ []) (omega arith) ∙ take_all (length run) run (omega arith) in
            subst (λ (events : List Event). IsWitnessEvent x events f) (sym before) (subst (IsWitnessEvent x run) is witness)
      ];
    }

-- no event yet
pub run_none : (x : Expanded) → IsRunOfKinds x [] []
run_none x = record { kinds_of = refl; each = λ position e at. absurd (none-some e at) }
