-- The chain of an index is extended at its front.
use Rattle.std.proofs.Common.{◌≡◌, ℕ, ◌+◌, ◌-◌, ◌<◌, cond, nat_eq, List, [], ◌∷◌, ◌++◌, length, get_or, Some, inl, inr, refl, sym, ap, ◌∙◌, subst, arith, length-append}
use Rattle.std.specs.Prelude.{MatchBool, slice_get, slice_index_or, unwrap_or}
use Rattle.std.specs.BTreeMap.{BTreeMap, get}
use Rattle.std.specs.Ordering.{is_eq}
use Rattle.std.proofs.lemmas.Bool.{cases_Bool, cases_lt, true≢false}
use Rattle.std.proofs.lemmas.Bool.Decides.{Decides-eqb}
use Rattle.std.proofs.lemmas.List.{get_or_append_left, get_or_at}
use Rattle.std.proofs.lemmas.Option.{same_Some, slice_get-get_or, slice_get_within}
use Rattle.bspl_types.specs.declared.event.Event.{Event}
use Rattle.bspl_types.specs.declared.value.Value.{Value}
use Rattle.bspl_types.specs.History.{instance_of}
use Rattle.key_table.specs.EventOrder.{TiedEventsAreOne, event_cmp}
use Rattle.key_table.specs.KeyOrder.{TiedKeysAreOne, key_cmp}
use Rattle.run_index.specs.FirstOfKey.{IsFirstOfKey, IsRepeatOfKey}
use Rattle.run_index.specs.inner.Chain.{HasFirstsFrom, IsFirstFrom, IsIndexFrom, IsNextUnder}

-- from the end on there is no event
pub none_from_end : (run : List Event) (key : List Value) (n : ℕ) → n ≡ length run → IsNextUnder run key n n
none_from_end run key n is_end =
    record {
      after = omega arith;
      within = omega (arith, is_end);
      skipped = λ k e from before at. absurd (omega (arith, from, before));
      under = λ e at. absurd (omega (arith, is_end, slice_get_within run n e at));
    }

-- an event is the first one under its key from its position on
pub first_here : (run : List Event) (n : ℕ) (e : Event) → slice_get run n ≡ Some e → IsNextUnder run (instance_of e).key n n
first_here run n e at =
    record {
      after = omega arith;
      within = omega (arith, slice_get_within run n e at);
      skipped = λ k f from before there. absurd (omega (arith, from, before));
      under = λ f there. ap (λ g. (instance_of g).key) (same_Some f e (sym there ∙ at));
    }

-- an event under another key is skipped
pub other_here : (run : List Event) (key : List Value) (n found : ℕ) (e : Event) → slice_get run n ≡ Some e → ((instance_of e).key ≡ key → ⊥) → IsNextUnder run key (n + 1) found → IsNextUnder run key n found
other_here run key n found e at other next =
    record {
      after = omega (arith, next.after);
      within = next.within;
      skipped = λ k f from before there same. elim (cases_lt n k) [
        | inl later ↦ next.skipped k f (omega (arith, later)) before there same
        | inr here ↦ let is : k ≡ n = omega (arith, here, from) in other (ap (λ g. (instance_of g).key) (same_Some e f (sym at ∙ ap (slice_get run) (sym is) ∙ there)) ∙ same)
      ];
      under = next.under;
    }

-- the event that is read at an index of the run
pub read_at : (run shown : List Event) (k : ℕ) (e : Event) → shown ≡ run → k < length shown → e ≡ get_or shown k e → slice_get run k ≡ Some e
read_at run shown k e same within is = subst (λ es. slice_get es k ≡ Some e) same (slice_get-get_or shown k e within ∙ ap Some (sym is))

-- an event is the first one of its key exactly if the key's first position is its own
pub first_or_repeat : (run : List Event) (key : List Value) (position first : ℕ) (event : Event) → slice_get run position ≡ Some event → key ≡ (instance_of event).key → IsNextUnder run key 0 first → MatchBool (nat_eq first position) (IsFirstOfKey run position) (IsRepeatOfKey run position)
first_or_repeat run key position first event at is_key next = elim (cases_Bool (nat_eq first position)) [
  | inl is_yes ↦
      let here : first ≡ position = (Decides-eqb first position).0 is_yes in
      rw is_yes (λ e is k other before there same. next.skipped k other (omega arith) (omega (arith, here, before)) there (same ∙ ap (λ f. (instance_of f).key) (same_Some e event (sym is ∙ at)) ∙ sym is_key))
  | inr is_no ↦
      let before : first < position = elim (cases_lt first position) [
        | inl less ↦ less
        | inr more ↦ elim (cases_lt position first) [
          | inl skipped ↦ absurd (next.skipped position event (omega arith) skipped at (sym is_key))
          | inr least ↦ absurd (true≢false (sym ((Decides-eqb first position).1 (omega (arith, more, least))) ∙ is_no))
        ]
      ] in
      rw is_no (λ e is.
      let other = get_or run first e in
      let there : slice_get run first ≡ Some other = slice_get-get_or run first e (omega (arith, before, slice_get_within run position event at)) in
      record {
        earlier = first;
        other = other;
        before = before;
        at = there;
        same = next.under other there ∙ is_key ∙ ap (λ f. (instance_of f).key) (same_Some event e (sym at ∙ is));
      })
]

-- the empty index has no event of the run
pub index_start : (run : List Event) (firsts : BTreeMap (List Value) ℕ) → firsts.entries ≡ [] → IsIndexFrom run (length run) firsts []
index_start run firsts empty =
    record {
      count = omega arith;
      first = λ key. rw empty (none_from_end run key (length run) refl);
      next = λ k e from at. absurd (omega (arith, from, slice_get_within run k e at));
    }

-- the empty map has the position of no event of the run
pub firsts_start : (run : List Event) (acts : BTreeMap Event ℕ) → acts.entries ≡ [] → HasFirstsFrom run (length run) acts
firsts_start run acts empty event = rw empty (record {
  within = omega arith;
  none_before = λ k from before at. absurd (omega (arith, from, before));
  there = λ within. absurd (omega (arith, within));
})

-- an event is the first of its kind from its position on
event_here : (run : List Event) (p : ℕ) (e : Event) → slice_get run p ≡ Some e → IsFirstFrom run e p p
event_here run p e at =
    record {
      within = omega (arith, slice_get_within run p e at);
      none_before = λ k from before there. absurd (omega (arith, from, before));
      there = λ within. at;
    }

-- another event is passed over
event_later : (run : List Event) (p found : ℕ) (e other : Event) → slice_get run p ≡ Some e → (e ≡ other → ⊥) → IsFirstFrom run other (p + 1) found → IsFirstFrom run other p found
event_later run p found e other at differs later =
    record {
      within = later.within;
      none_before = λ k from before there. elim (cases_lt p k) [
        | inl more ↦ later.none_before k (omega (arith, more)) before there
        | inr here ↦ let is : k ≡ p = omega (arith, here, from) in differs (same_Some e other (sym at ∙ ap (slice_get run) (sym is) ∙ there))
      ];
      there = later.there;
    }

-- the map has the position of one more event
pub firsts_more : TiedEventsAreOne → (run : List Event) (n p : ℕ) (event : Event) (acts more : BTreeMap Event ℕ) → n ≡ p + 1 → slice_get run p ≡ Some event → HasFirstsFrom run n acts → ((q : Event) → get event_cmp more q ≡ cond (is_eq (event_cmp event q)) (Some p) (get event_cmp acts q)) → HasFirstsFrom run p more
firsts_more exact run n p event acts more is_next at old updates q = elim (cases_Bool (is_eq (event_cmp event q))) [
  | inl is_yes ↦ rw (updates q, is_yes) (subst (λ e. IsFirstFrom run e p p) ((exact event q).0 is_yes) (event_here run p event at))
  | inr is_no ↦ rw (updates q, is_no) (event_later run p (unwrap_or (get event_cmp acts q) (length run)) event q at (λ same. true≢false (sym ((exact event q).1 same) ∙ is_no)) (subst (λ k. IsFirstFrom run q k (unwrap_or (get event_cmp acts q) (length run))) is_next (old q)))
]

-- one more event at the front of the index
pub index_more : TiedKeysAreOne → (run : List Event) (n p next : ℕ) (event : Event) (firsts more : BTreeMap (List Value) ℕ) (following : List ℕ) → n ≡ p + 1 → slice_get run p ≡ Some event → IsIndexFrom run n firsts following → next ≡ unwrap_or (get key_cmp firsts (instance_of event).key) (length run) → ((q : List Value) → get key_cmp more q ≡ cond (is_eq (key_cmp (instance_of event).key q)) (Some p) (get key_cmp firsts q)) → IsIndexFrom run p more (following ++ next ∷ [])
index_more exact run n p next event firsts more following is_next at index is_old updates =
    let key = (instance_of event).key in
    let count : length following + n ≡ length run = index.count in
    record {
      count = omega (arith, length-append following (next ∷ []), count, is_next);
      first = λ q. elim (cases_Bool (is_eq (key_cmp key q))) [
        | inl is_yes ↦ rw (updates q, is_yes) (subst (λ k. IsNextUnder run k p p) ((exact key q).0 is_yes) (first_here run p event at))
        | inr is_no ↦ rw (updates q, is_no) (other_here run q p (unwrap_or (get key_cmp firsts q) (length run)) event at (λ same. true≢false (sym ((exact key q).1 same) ∙ is_no)) (subst (λ k. IsNextUnder run q k (unwrap_or (get key_cmp firsts q) (length run))) is_next (index.first q)))
      ];
      next = λ k e from is. elim (cases_lt p k) [
        | inl later ↦
            let early : length run - 1 - k < length following = omega (arith, count, is_next, later, slice_get_within run k e is) in
            subst (IsNextUnder run (instance_of e).key (k + 1)) (sym (get_or_append_left following (next ∷ []) 0 (length run - 1 - k) early)) (index.next k e (omega (arith, is_next, later)) is)
        | inr here ↦
            let is_p : p ≡ k = omega (arith, from, here) in
            let same : event ≡ e = same_Some event e (sym at ∙ ap (slice_get run) is_p ∙ is) in
            let last : slice_index_or (following ++ next ∷ []) (length run - 1 - k) 0 ≡ next = get_or_at following next [] 0 (length run - 1 - k) (omega (arith, count, is_next, is_p)) in
            subst (IsNextUnder run (instance_of e).key (k + 1)) (sym (last ∙ is_old))
            (subst (λ f. IsNextUnder run (instance_of f).key (k + 1) (unwrap_or (get key_cmp firsts key) (length run))) same
            (subst (λ j. IsNextUnder run key j (unwrap_or (get key_cmp firsts key) (length run))) (is_next ∙ ap (λ j. j + 1) is_p) (index.first key)))
      ];
    }
