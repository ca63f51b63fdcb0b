-- A store emits one instance of a message under a key with the chosen values, or has one block.
use Rattle.std.proofs.Common.{◌≡◌, ℕ, true, false, List, [], ◌∷◌, length, map, refl, sym, ap, subst, ◌∙◌, arith, inl, inr}
use Rattle.std.specs.Prelude.{◌==◌}
use Rattle.std.specs.List.{All, Contains, filter, list_any, zip}
use Rattle.std.proofs.lemmas.Bool.{cases_Bool, cond-false, cond-true, true≢false}
use Rattle.std.proofs.lemmas.Bool.Decides.{Decides-eqb}
use Rattle.std.proofs.lemmas.List.Elements.{All-head, All-tail, Contains-append_right, filter_passes}
use Rattle.std.proofs.lemmas.Option.{same_Some}
use Rattle.list_base.proofs.Members.{here, here_same, only, there}
use Rattle.list_base.proofs.Membership.{index_of}
use Rattle.bspl_types.specs.declared.envelope.Stamped.{Stamped}
use Rattle.bspl_types.specs.declared.event.Event.{Event}
use Rattle.bspl_types.specs.declared.expanded.Expanded.{Expanded}
use Rattle.bspl_types.specs.declared.protocol.Adornment.TheVariants.{In, Out, Nil}
use Rattle.bspl_types.specs.declared.protocol.Carried.{Carried}
use Rattle.bspl_types.specs.declared.value.Value.{Value}
use Rattle.bspl_types.specs.Adornment.{has_value, valued}
use Rattle.bspl_types.specs.Choice.{is_chosen}
use Rattle.bspl_types.specs.Expansion.{message_of}
use Rattle.bspl_types.specs.Instance.{pairs}
use Rattle.bspl_types.specs.KeyAgrees.{KeyAgrees}
use Rattle.bspl_types.specs.Knowledge.{CanEmit, IsKnown, Knows}
use Rattle.local_store.specs.Emission.{IsEmission}
use Rattle.local_store.specs.State.{StoreState, acts_of}
use Rattle.role_knowledge.specs.declared.block.Block.{Block}
use Rattle.role_knowledge.specs.declared.block.Block.TheVariants.{Missing, Bound}
use Rattle.role_knowledge.specs.Blocked.{IsBlockOf, IsFirstBlock}
use Rattle.role_knowledge.specs.FirstKnown.{IsFirstKnown}
use Rattle.stamped_history.specs.Local.{KnowsOneValue}

-- a parameter that the test finds is among the keys
key_found : (keys : List ℕ) (p : ℕ) → list_any (λ key. key == p) keys ≡ true → Contains keys p
key_found [] p found = absurd (true≢false (sym found))
key_found (key ∷ keys) p found = elim (cases_Bool (key == p)) [
  | inl same ↦ here_same key keys p ((Decides-eqb key p).0 same)
  | inr none ↦ there key keys p (key_found keys p (rw none at found))
]

-- the value of a key parameter is the key's
key_value : (keys : List ℕ) (key : List Value) (c : Carried) (v w : Value) → Contains keys c.param → KeyAgrees keys key (c, v) → KeyAgrees keys key (c, w) → v ≡ w
key_value keys key c v w among one other =
    let at = index_of keys c.param among in
    same_Some v w (sym (one.same at.0 at.1) ∙ other.same at.0 at.1)

-- a parameter with a value that its sender does not choose: it is known, or a key
unchosen : (keys : List ℕ) (key : List Value) (c : Carried) (v w : Value) → is_chosen keys c ≡ false → has_value c.adornment ≡ true → (c.adornment ≡ In → v ≡ w) → KeyAgrees keys key (c, v) → KeyAgrees keys key (c, w) → v ≡ w
unchosen keys key c v w free has known one other = (elim c.adornment as (λ a. c.adornment ≡ a → v ≡ w) [
  | In ↦ λ is. known is
  | Out ↦ λ is. elim (cases_Bool (list_any (λ k. k == c.param) keys)) [
    | inl found ↦ key_value keys key c v w (key_found keys c.param found) one other
    | inr none ↦ let chosen : is_chosen keys c ≡ true = rw (is, none) refl in absurd (true≢false (sym chosen ∙ free))
  ]
  | Nil ↦ λ is. absurd (true≢false (sym has ∙ ap has_value is))
]) refl

-- the chosen ones among the first pair and the others
module _ (keys : List ℕ) (c : Carried) (v : Value) (rest : List (Carried × Value)) where
  chosen_first : is_chosen keys c ≡ true → map (λ (q : Carried × Value). q.1) (filter (λ q. is_chosen keys q.0) ((c, v) ∷ rest)) ≡ v ∷ map (λ (q : Carried × Value). q.1) (filter (λ q. is_chosen keys q.0) rest)
  chosen_first chosen = ap (map (λ (q : Carried × Value). q.1)) (cond-true (is_chosen keys c) ((c, v) ∷ filter (λ q. is_chosen keys q.0) rest) (filter (λ q. is_chosen keys q.0) rest) chosen)

  chosen_later : is_chosen keys c ≡ false → map (λ (q : Carried × Value). q.1) (filter (λ q. is_chosen keys q.0) ((c, v) ∷ rest)) ≡ map (λ (q : Carried × Value). q.1) (filter (λ q. is_chosen keys q.0) rest)
  chosen_later none = ap (map (λ (q : Carried × Value). q.1)) (cond-false (is_chosen keys c) ((c, v) ∷ filter (λ q. is_chosen keys q.0) rest) (filter (λ q. is_chosen keys q.0) rest) none)

-- the chosen values, the known ones and the key's are all values
same_values : (keys : List ℕ) (key : List Value) (cs : List Carried) (vs ws : List Value) → length vs ≡ length cs → length ws ≡ length cs → All (λ c. has_value c.adornment ≡ true) cs
    → ((c : Carried) (v w : Value) → c.adornment ≡ In → Contains (zip cs vs) (c, v) → Contains (zip cs ws) (c, w) → v ≡ w)
    → All (KeyAgrees keys key) (zip cs vs) → All (KeyAgrees keys key) (zip cs ws)
    → map (λ (q : Carried × Value). q.1) (filter (λ q. is_chosen keys q.0) (zip cs vs)) ≡ map (λ (q : Carried × Value). q.1) (filter (λ q. is_chosen keys q.0) (zip cs ws)) → vs ≡ ws
same_values keys key [] [] [] first second has known one other chosen = refl
same_values keys key [] (v ∷ vs) ws first second has known one other chosen = absurd (omega (arith, first))
same_values keys key [] [] (w ∷ ws) first second has known one other chosen = absurd (omega (arith, second))
same_values keys key (c ∷ cs) [] ws first second has known one other chosen = absurd (omega (arith, first))
same_values keys key (c ∷ cs) (v ∷ vs) [] first second has known one other chosen = absurd (omega (arith, second))
same_values keys key (c ∷ cs) (v ∷ vs) (w ∷ ws) first second has known one other chosen =
    let values = λ (qs : List (Carried × Value)). map (λ (q : Carried × Value). q.1) (filter (λ q. is_chosen keys q.0) qs) in
    let rest = λ (later : values (zip cs vs) ≡ values (zip cs ws)). same_values keys key cs vs ws (omega (arith, first)) (omega (arith, second)) (All-tail (λ d. has_value d.adornment ≡ true) c cs has)
    (λ d u t is left right. known d u t is (there (c, v) (zip cs vs) (d, u) left) (there (c, w) (zip cs ws) (d, t) right))
    (All-tail (KeyAgrees keys key) (c, v) (zip cs vs) one) (All-tail (KeyAgrees keys key) (c, w) (zip cs ws) other) later in
    elim (cases_Bool (is_chosen keys c)) [
      | inl first_is ↦
          let both : (v ∷ values (zip cs vs)) ≡ (w ∷ values (zip cs ws)) = sym (chosen_first keys c v (zip cs vs) first_is) ∙ chosen ∙ chosen_first keys c w (zip cs ws) first_is in
          let same : v ≡ w = cc in
          let later : values (zip cs vs) ≡ values (zip cs ws) = cc in
          λ i. same i ∷ rest later i
      | inr none ↦
          let later : values (zip cs vs) ≡ values (zip cs ws) = sym (chosen_later keys c v (zip cs vs) none) ∙ chosen ∙ chosen_later keys c w (zip cs ws) none in
          let same = unchosen keys key c v w none (All-head (λ d. has_value d.adornment ≡ true) c cs has) (λ is. known c v w is (here (c, v) (zip cs vs)) (here (c, w) (zip cs ws))) (All-head (KeyAgrees keys key) (c, v) (zip cs vs) one) (All-head (KeyAgrees keys key) (c, w) (zip cs ws) other) in
          λ i. same i ∷ rest later i
    ]

-- what an emission knows of an `in` parameter
known_in : (s : StoreState) (message : ℕ) (key outs : List Value) (m : Stamped) (e : IsEmission s message key outs m) (c : Carried) (v : Value) → c.adornment ≡ In → Contains (pairs s.protocol m.instance) (c, v) → Knows s.protocol (acts_of s) key c.param v
known_in s message key outs m e c v is among =
    e.ins c.param v (subst (λ a. Contains (pairs s.protocol m.instance) (record { param = c.param; adornment = a }, v)) is among)

-- the pairs of an instance of the message
pairs_are : (s : StoreState) (message : ℕ) (key outs : List Value) (m : Stamped) → IsEmission s message key outs m → pairs s.protocol m.instance ≡ zip (valued (message_of s.protocol message).carried) m.instance.values
pairs_are s message key outs m e = ap (λ (k : ℕ). zip (valued (message_of s.protocol k).carried) m.instance.values) e.message_is

-- the emission is one
pub one_emission : (s : StoreState) (message : ℕ) (key outs : List Value) (m n : Stamped) → KnowsOneValue s.protocol (acts_of s) → IsEmission s message key outs m → IsEmission s message key outs n → m ≡ n
one_emission s message key outs m n one_value one two =
    let x = s.protocol in
    let carried = (message_of x message).carried in
    let cs = valued carried in
    let ps = pairs_are s message key outs m one in
    let qs = pairs_are s message key outs n two in
    let values = same_values x.keys key cs m.instance.values n.instance.values
    (one.fits.each_value ∙ ap (λ (k : ℕ). length (valued (message_of x k).carried)) one.message_is)
    (two.fits.each_value ∙ ap (λ (k : ℕ). length (valued (message_of x k).carried)) two.message_is)
    (filter_passes (λ c. has_value c.adornment) carried)
    (λ c v w is left right. one_value key c.param v w
    (known_in s message key outs m one c v is (subst (λ (zs : List (Carried × Value)). Contains zs (c, v)) (sym ps) left))
    (known_in s message key outs n two c w is (subst (λ (zs : List (Carried × Value)). Contains zs (c, w)) (sym qs) right)))
    (subst (λ (zs : List (Carried × Value)). All (KeyAgrees x.keys key) zs) ps (subst (λ (k : List Value). All (KeyAgrees x.keys k) (pairs x m.instance)) one.key_is one.fits.key_values))
    (subst (λ (zs : List (Carried × Value)). All (KeyAgrees x.keys key) zs) qs (subst (λ (k : List Value). All (KeyAgrees x.keys k) (pairs x n.instance)) two.key_is two.fits.key_values))
    (ap (λ (zs : List (Carried × Value)). map (λ (q : Carried × Value). q.1) (filter (λ q. is_chosen x.keys q.0) zs)) (sym ps) ∙ one.outs_are ∙ sym two.outs_are
    ∙ ap (λ (zs : List (Carried × Value)). map (λ (q : Carried × Value). q.1) (filter (λ q. is_chosen x.keys q.0) zs)) qs) in
    let messages = one.message_is ∙ sym two.message_is in
    let keys = one.key_is ∙ sym two.key_is in
    let stamps = one.stamp_is ∙ sym two.stamp_is in
    let counts = one.number_is ∙ sym two.number_is in
    λ i. record { instance = record { message = messages i; key = keys i; values = values i }; stamp = stamps i; number = counts i }

-- what is known first is known
pub known_from_first : (x : Expanded) (history : List Event) (key : List Value) (p : ℕ) (v : Value) → IsFirstKnown x history key p v → IsKnown x history key p
known_from_first x history key p v f =
    let event = f.knows.event in
    let here_it_is = here_same f.event f.after event (only f.event event f.knows.among) in (
      v,
      record {
        event = event;
        among = subst (λ (es : List Event). Contains es event) (sym f.split) (Contains-append_right f.before (f.event ∷ f.after) event here_it_is);
        under = f.knows.under;
        adornment = f.knows.adornment;
        carries = f.knows.carries;
      },
    )

-- what can be emitted has no block
not_blocked_by : (x : Expanded) (history : List Event) (key : List Value) (message : ℕ) (c : Carried) (block : Block) → CanEmit x history message key → Contains (message_of x message).carried c → IsBlockOf x history key c block → ⊥
not_blocked_by x history key message c (Missing p) can among why =
    why.1.unknown (can.ins c.param (subst (λ a. Contains (message_of x message).carried (record { param = c.param; adornment = a })) why.1.adorned among))
not_blocked_by x history key message c (Bound p kept) can among why =
    let known = known_from_first x history key c.param kept why.1.first in
    (elim c.adornment as (λ a. c.adornment ≡ a → ⊥) [
      | In ↦ λ is. why.1.adorned is
      | Out ↦ λ is. can.outs c.param (subst (λ a. Contains (message_of x message).carried (record { param = c.param; adornment = a })) is among) known
      | Nil ↦ λ is. can.nils c.param (subst (λ a. Contains (message_of x message).carried (record { param = c.param; adornment = a })) is among) known
    ]) refl

pub not_blocked : (x : Expanded) (history : List Event) (key : List Value) (message : ℕ) (block : Block) → CanEmit x history message key → IsFirstBlock x history key (message_of x message).carried block → ⊥
not_blocked x history key message block can first =
    let among = subst (λ (cs : List Carried). Contains cs first.blocked) (sym first.split) (Contains-append_right first.before (first.blocked ∷ first.after) first.blocked (here first.blocked first.after)) in
    not_blocked_by x history key message first.blocked block can among first.why
