-- A local history with one more entry.
use Rattle.std.proofs.Common.{◌≡◌, ℕ, ◌⊎◌, List, [], ◌∷◌, ◌++◌, length, get_or, drop, inl, inr, refl, sym, ap, ◌∙◌, subst, arith}
use Rattle.std.specs.List.{All, Contains}
use Rattle.std.proofs.lemmas.List.{map_push}
use Rattle.std.proofs.lemmas.List.Elements.{All-contains, All-push, Contains-append_right, Contains-get_or}
use Rattle.list_base.proofs.Members.{here}
use Rattle.bspl_types.specs.declared.event.Event.{Event}
use Rattle.bspl_types.specs.declared.expanded.Expanded.{Expanded}
use Rattle.bspl_types.specs.declared.protocol.Carried.{Carried}
use Rattle.bspl_types.specs.declared.value.Value.{Value}
use Rattle.bspl_types.specs.Admission.{IsAdmitted}
use Rattle.bspl_types.specs.History.{instance_of, IsRun, role_of}
use Rattle.bspl_types.specs.Instance.{Fits, pairs}
use Rattle.bspl_types.specs.Knowledge.{Knows}
use Rattle.role_knowledge.specs.Laws.{FirstKnownIsOne}
use Rattle.stamped_history.specs.declared.entry.Entry.{Entry}
use Rattle.stamped_history.specs.Entries.{events_of, last_stamp}
use Rattle.stamped_history.specs.Local.{EachFollows, IsLocal, KnowsOneValue, MayFollowAs}
use Rattle.local_store.specs.Reception.{AllAgree, Agrees}
use Rattle.local_store.proofs.InstanceLemmas.{knows_cases, knows_more, knows_own, one_pair}

-- the events, with one more
pub events_more : (entries : List Entry) (e : Entry) → events_of (entries ++ e ∷ []) ≡ events_of entries ++ e.event ∷ []
events_more entries e = map_push (λ f. f.event) entries e

-- and the clock
pub clock_more : (entries : List Entry) (e : Entry) → last_stamp (entries ++ e ∷ []) ≡ e.stamp
clock_more [] e = refl
clock_more (f ∷ []) e = refl
clock_more (f ∷ (g ∷ entries)) e = clock_more (g ∷ entries) e

too_long : {X : Type 0} (zs : List X) (y : X) (after : List X) → 0 ≡ length (zs ++ y ∷ after) → ⊥
too_long [] y after is = omega (arith, is)
too_long (w ∷ zs) y after is = omega (arith, is)

-- a part of a longer list is the last item, or a part of the list before it
split_cases : {X : Type 0} (xs : List X) (x : X) (before : List X) (y : X) (after : List X) → xs ++ x ∷ [] ≡ before ++ y ∷ after → ((before ≡ xs) × (x ≡ y)) ⊎ ((rest : List X) × (xs ≡ before ++ y ∷ rest))
split_cases [] x [] y after same = inl (refl, ap (λ zs. get_or zs 0 x) same)
split_cases [] x (z ∷ before) y after same = absurd (too_long before y after (ap length (ap (drop 1) same)))
split_cases (z ∷ xs) x [] y after same = inr (xs, ap (λ w. w ∷ xs) (ap (λ zs. get_or zs 0 z) same))
split_cases (z ∷ xs) x (w ∷ before) y after same =
    let head : z ≡ w = ap (λ zs. get_or zs 0 z) same in
    elim (split_cases xs x before y after (ap (drop 1) same)) [
      | inl (is, item) ↦ inl ((λ i. sym head i ∷ is i), item)
      | inr (rest, is) ↦ inr (rest, (λ i. head i ∷ is i))
    ]

-- each entry still follows those before it
follows_more : (x : Expanded) (entries : List Entry) (e : Entry) → EachFollows x entries → MayFollowAs x entries e.event e.stamp e.number → EachFollows x (entries ++ e ∷ [])
follows_more x entries e each next before after f split = elim (split_cases entries e before f after split) [
  | inl (is, item) ↦ subst (λ es. MayFollowAs x es f.event f.stamp f.number) (sym is) (subst (λ g. MayFollowAs x entries g.event g.stamp g.number) item next)
  | inr (rest, is) ↦ each before rest f is
]

-- one value is known of a parameter, if the event's agree with what is known
one_value_more : FirstKnownIsOne → (x : Expanded) → IsAdmitted x → (history : List Event) (e : Event) → KnowsOneValue x history → AllAgree x history (instance_of e) → KnowsOneValue x (history ++ e ∷ [])
one_value_more law x admitted history e one agree key p v w first second = elim (knows_cases x history e key p v first) [
  | inl before ↦ elim (knows_cases x history e key p w second) [
    | inl other ↦ one key p v w before other
    | inr (under, (c, among, param)) ↦ agreed key p v w before under c among param
  ]
  | inr (under, (c, among, param)) ↦ elim (knows_cases x history e key p w second) [
    | inl other ↦ sym (agreed key p w v other under c among param)
    | inr (_, (d, later, same)) ↦ one_pair law x admitted e c d v w among later (param ∙ sym same)
  ]
]
  where
    agreed : (q : List Value) (r : ℕ) (u a : Value) → Knows x history q r u → (instance_of e).key ≡ q → (c : Carried) → Contains (pairs x (instance_of e)) (c, a) → c.param ≡ r → u ≡ a
    agreed q r u a known under c among param = All-contains (Agrees x history (instance_of e).key) (pairs x (instance_of e)) (c, a) agree among u (subst (λ k. Knows x history k c.param u) (sym under) (subst (λ n. Knows x history q n u) (sym param) known))

-- so the history is local
pub local_more : FirstKnownIsOne → (x : Expanded) (role : ℕ) (entries : List Entry) (e : Entry) → IsAdmitted x → IsLocal x role entries → Fits x (instance_of e.event) → role_of x e.event ≡ role → MayFollowAs x entries e.event e.stamp e.number → AllAgree x (events_of entries) (instance_of e.event) → IsLocal x role (entries ++ e ∷ [])
local_more law x role entries e admitted local fits own next agree =
    let more = sym (events_more entries e) in
    record {
      fits = subst (IsRun x) more (All-push (λ f. Fits x (instance_of f)) (events_of entries) e.event local.fits fits);
      own = subst (All (λ f. role_of x f ≡ role)) more (All-push (λ f. role_of x f ≡ role) (events_of entries) e.event local.own own);
      follows = follows_more x entries e local.follows next;
      one_value = subst (KnowsOneValue x) more (one_value_more law x admitted (events_of entries) e.event local.one_value agree);
    }

-- the event is the last one
last_among : (events : List Event) (e : Event) → Contains (events ++ e ∷ []) e
last_among events e = Contains-append_right events (e ∷ []) e (here e [])

-- what is known after an event agrees with its values
agree_last : (x : Expanded) (history : List Event) (e : Event) → KnowsOneValue x (history ++ e ∷ []) → AllAgree x history (instance_of e)
agree_last x history e one k d within v known =
    let pair = get_or (pairs x (instance_of e)) k d in
    let own = knows_own x (history ++ e ∷ []) e (instance_of e).key pair.0 pair.1 (last_among history e) refl (Contains-get_or (pairs x (instance_of e)) k d within) in
    one (instance_of e).key pair.0.param v pair.1 (knows_more x history e (instance_of e).key pair.0.param v known) own

-- the last entry of a local history is the role's, may follow the others, and agrees with what they know
pub record MayComeLast (x : Expanded) (role : ℕ) (entries : List Entry) (e : Entry) : Type 0 where
  pub fits : Fits x (instance_of e.event)
  pub own : role_of x e.event ≡ role
  pub follows : MayFollowAs x entries e.event e.stamp e.number
  pub agree : AllAgree x (events_of entries) (instance_of e.event)

pub local_last : (x : Expanded) (role : ℕ) (entries : List Entry) (e : Entry) → IsLocal x role (entries ++ e ∷ []) → MayComeLast x role entries e
local_last x role entries e local =
    let more = events_more entries e in record {
      fits = All-contains (λ f. Fits x (instance_of f)) (events_of entries ++ e.event ∷ []) e.event (subst (IsRun x) more local.fits) (last_among (events_of entries) e.event);
      own = All-contains (λ f. role_of x f ≡ role) (events_of entries ++ e.event ∷ []) e.event (subst (All (λ f. role_of x f ≡ role)) more local.own) (last_among (events_of entries) e.event);
      follows = local.follows entries [] e refl;
      agree = agree_last x (events_of entries) e.event (subst (KnowsOneValue x) more local.one_value);
    }
