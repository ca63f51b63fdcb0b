-- How the order is closed under one entry more.
use Rattle.std.proofs.Common.{◌≡◌, ◌≢◌, ℕ, zero, suc, ◌+◌, ◌<◌, ◌≤◌, ◌⊎◌, inl, inr, Bool, Option, Some, None, option_map, Result, Ok, Err, OnOk, IfErr, IfSome, List, [], ◌∷◌, ◌++◌, length, map, take, slice_get, sym, ap, refl, ◌∙◌, subst, arith, All, AllPairs, Contains, get_or, length-append}
use Rattle.std.proofs.lemmas.Bool.{eq-eqb, ne_eqb}
use Rattle.std.proofs.lemmas.Option.{get_or_from_slice_get}
use Rattle.std.proofs.lemmas.List.{take-append-le}
use Rattle.std.proofs.lemmas.List.Elements.{Contains-append_left, Contains-get_or}
use Rattle.list_base.proofs.Members.{nowhere, cons_cases}
use Rattle.list_base.proofs.Membership.{member_at}
use Rattle.clause_core.specs.declared.literal.Lit.{Lit}
use Rattle.clause_core.specs.Literal.{negated}
use Rattle.clause_core.specs.Clause.{HasExactly}
use Rattle.clause_core.specs.Propagation.{IsFalsified}
use Rattle.order_axioms.specs.declared.kind_pair.KindPair.{KindPair}
use Rattle.order_axioms.specs.declared.order.Order.{Order}
use Rattle.order_axioms.specs.Cycles.{IsNoPair, IsPair}
use Rattle.order_axioms.specs.Order.{AreKinds, AreTwoKinds, ClausesForbidCycles, ForbidsCycle, comes_before, forbidden_cycle}
use Rattle.sat_trail.specs.declared.entry.Entry.{Entry}
use Rattle.sat_trail.specs.Entry.{entry_of, values_of}
use Rattle.sat_trail.specs.State.{State, numbering_of}
use Rattle.order_propagator.specs.declared.named_trail.NamedTrail.{NamedTrail}
use Rattle.order_propagator.specs.declared.stop.Stop.{Stop}
use Rattle.order_propagator.specs.inner.Closed.{IsMissing, IsSetTrue}
use Rattle.order_propagator.specs.inner.Closing.{ClosesCycle, ClosesLit, IsClosedUpTo, IsStop, IsStopAt}
use Rattle.order_propagator.specs.inner.Making.{CanMake, Grows, MayBeMade}
use Rattle.order_propagator.proofs.ClosedLemmas.{closed_more, value_next}
use Rattle.order_propagator.proofs.EntryLemmas.{value-kept, value-prefix}
use Rattle.order_propagator.proofs.LiteralLemmas.{denial_fails, one_of, other_way, true_false}
use Rattle.order_propagator.proofs.RuleLemmas.{two_open}

-- what holds in any case holds where a call succeeds
pub on-ok : {A E : Type 0} (r : Result A E) (P : Type 0) → P → OnOk r P
on-ok (Ok x) P holds = holds
on-ok (Err e) P holds = tt

-- and what follows from it
pub on-ok-then : {A E : Type 0} (r : Result A E) (P Q : Type 0) → (P → Q) → OnOk r P → OnOk r Q
on-ok-then (Ok x) P Q then holds = then holds
on-ok-then (Err e) P Q then holds = tt

-- a clause that was found false stops propagation
pub stop-found : {A : Type 0} (t : State) (found : Option ℕ) (r : Result A Stop) → IfErr r (IsStopAt found) → IfSome found (IsFalsified (numbering_of t) (values_of t.entries)) → IfErr r (IsStop t)
stop-found t found (Ok x) stops falsified = tt
stop-found t None (Err s) stops falsified = absurd stops
stop-found t (Some n) (Err s) stops falsified = subst (IsStop t) (sym stops) falsified

-- where something is missing no literal of the clause is true: one that is would deny what is known, or be what is missing
none-true : (order : Order) (values : ℕ → Option Bool) (x y z : ℕ) (clause : List Lit) → HasExactly clause (forbidden_cycle order x y z) → IsMissing order values x y z → All (λ l. ¬ IsSetTrue values l) clause
none-true order values x y z clause exactly missing k d within = untrue (get_or clause k d) (Contains-get_or clause k d within)
  where
    denied : (l : Lit) → IsSetTrue values l → IsSetTrue values (negated l) → ⊥
    denied l holds other = true_false values (negated l) other (denial_fails values l holds)

    untrue : (l : Lit) → Contains clause l → ¬ IsSetTrue values l
    untrue l among = elim (one_of (negated (comes_before order x y)) (negated (comes_before order y z)) (negated (comes_before order z x)) l ((exactly l).0 among)) [
      | inl is ↦ subst (λ (m : Lit). ¬ IsSetTrue values m) is (denied (comes_before order x y) missing.before)
      | inr rest ↦ elim rest [
        | inl is ↦ subst (λ (m : Lit). ¬ IsSetTrue values m) is (λ holds. missing.lacks (record {
          after = λ second. absurd (denied (comes_before order y z) second holds);
          before = λ third. subst (IsSetTrue values) (other_way order z y missing.kinds.distinct.1) holds;
        }))
        | inr is ↦ subst (λ (m : Lit). ¬ IsSetTrue values m) is (λ holds. missing.lacks (record {
          after = λ second. subst (IsSetTrue values) (other_way order x z missing.kinds.distinct.2) holds;
          before = λ third. absurd (denied (comes_before order z x) third holds);
        }))
      ]
    ]

-- so the clause may be made
pub may-be-made : (order : Order) (t : NamedTrail) (x y z number : ℕ) → ClausesForbidCycles → CanMake order t → ForbidsCycle order number x y z → IsMissing order (values_of t.trail.entries) x y z → MayBeMade order t.trail number
may-be-made order t x y z number law can forbids missing = record {
  clause = forbids.clause;
  has_number = forbids.has_number;
  open_at = two_open order t.trail number forbids.clause law can.trail can.below forbids.has_number
      (none-true order (values_of t.trail.entries) x y z forbids.clause forbids.exactly missing);
}

-- three kinds are two
two-kinds : (order : Order) (x y z : ℕ) → AreKinds order x y z → AreTwoKinds order x y
two-kinds order x y z kinds = record {
  from_one = (kinds.from_one.0, kinds.from_one.1);
  up_to = (kinds.up_to.0, kinds.up_to.1);
  distinct = kinds.distinct.0;
}

-- a literal that speaks of no kinds leaves nothing to close
pub closes-none : (order : Order) (known now : ℕ → Option Bool) (names : List ℕ) (l : Lit) → IsNoPair order l → ClosesLit order known names now l
closes-none order known now names l none x y z kinds says = absurd (none x y (two-kinds order x y z kinds) says)

-- a literal is closed if the cycles of its kinds with each other kind are
pub closes-pair : (order : Order) (known now : ℕ → Option Bool) (names : List ℕ) (l : Lit) (pair : KindPair) → IsPair order l pair → ((z : ℕ) → AreKinds order pair.first pair.second z → ClosesCycle order known names now pair.first pair.second z) → ClosesLit order known names now l
closes-pair order known now names l pair is closed x y z kinds says =
    let same = is.only x y (two-kinds order x y z kinds) says in
    subst (λ k. ClosesCycle order known names now k y z) (sym same.0)
    (subst (λ k. ClosesCycle order known names now pair.first k z) (sym same.1)
    (closed z (subst (λ k. AreKinds order pair.first k z) same.1 (subst (λ k. AreKinds order k y z) same.0 kinds))))

-- an entry of a list is found by its variable
entry-among : (es : List Entry) (f : Entry) → AllPairs (λ d e. d.lit.var ≢ e.lit.var) es → Contains es f → entry_of es f.lit.var ≡ Some f
entry-among [] f once among = absurd (nowhere f among)
entry-among (x ∷ xs) f once among = elim (cons_cases x xs f among) [
  | inl same ↦ rw (eq-eqb x.lit.var f.lit.var (ap (λ (o : Entry). o.lit.var) same)) (ap Some same)
  | inr later ↦ rw (ne_eqb x.lit.var f.lit.var (λ same. once 0 (suc later.0) f (omega arith) (omega (arith, later.1)) (same ∙ ap (λ (o : Entry). o.lit.var) (sym later.2))))
      (entry-among xs f (λ i j d less within. once (suc i) (suc j) d (omega (arith, less)) (omega (arith, within))) later)
]

-- the entry of a literal at a position
pub entry-at : (es : List Entry) (i : ℕ) (l : Lit) → slice_get (map (λ (e : Entry). e.lit) es) i ≡ Some l → (e : Entry) × (slice_get es i ≡ Some e) × (e.lit ≡ l)
entry-at [] i l got = cc
entry-at (e ∷ es) zero l got = (e, refl, (let same : e.lit ≡ l = cc in same))
entry-at (e ∷ es) (suc i) l got = entry-at es i l got

-- a literal at a position is true
pub lit-holds : (es : List Entry) (i : ℕ) (l : Lit) → AllPairs (λ d e. d.lit.var ≢ e.lit.var) es → slice_get (map (λ (e : Entry). e.lit) es) i ≡ Some l → IsSetTrue (values_of es) l
lit-holds es i l once got =
    let at = entry-at es i l got in
    subst (IsSetTrue (values_of es)) at.2
    (ap (option_map (λ (e : Entry). e.lit.positive)) (entry-among es at.0 once (member_at es i at.0 at.1)))

-- the order is closed under one entry more
pub closed-next : (order : Order) (a b : NamedTrail) (head : ℕ) (l : Lit) → IsClosedUpTo order a head → head < length a.trail.entries → slice_get (map (λ (e : Entry). e.lit) a.trail.entries) head ≡ Some l → Grows order a b → ClosesLit order (values_of a.trail.entries) b.names (values_of b.trail.entries) l → IsClosedUpTo order b (head + 1)
closed-next order a b head l closed some got g closes = record {
  within = subst (λ es. head + 1 ≤ length es) (sym entries) (omega (arith, some, length-append a.trail.entries g.added));
  closed = closed_more order a.names b.names (values_of (take head a.trail.entries)) (values_of (take (head + 1) b.trail.entries)) (values_of a.trail.entries) (values_of a.trail.entries) (values_of b.trail.entries) l
      closed.closed last known names later closes;
}
  where
    entries : b.trail.entries ≡ a.trail.entries ++ g.added
    entries = ap (λ (s : State). s.entries) g.entries

    first : take (head + 1) b.trail.entries ≡ take (head + 1) a.trail.entries
    first = ap (take (head + 1)) entries ∙ take-append-le (head + 1) a.trail.entries g.added (omega (arith, some))

    last : (v : ℕ) (b' : Bool) → values_of (take (head + 1) b.trail.entries) v ≡ Some b' → (values_of (take head a.trail.entries) v ≡ Some b') ⊎ ((v ≡ l.var) × (b' ≡ l.positive))
    last v b' given =
        let at = entry-at a.trail.entries head l got in
        subst (λ (k : Lit). (values_of (take head a.trail.entries) v ≡ Some b') ⊎ ((v ≡ k.var) × (b' ≡ k.positive))) at.2
        (value_next a.trail.entries head at.0 v b' some (get_or_from_slice_get a.trail.entries head at.0 at.0 at.1) (subst (λ es. values_of es v ≡ Some b') first given))

    known : (v : ℕ) (b' : Bool) → values_of (take (head + 1) b.trail.entries) v ≡ Some b' → values_of a.trail.entries v ≡ Some b'
    known v b' given = value-prefix (head + 1) a.trail.entries v b' (subst (λ es. values_of es v ≡ Some b') first given)

    names : (name : ℕ) → Contains a.names name → Contains b.names name
    names name among = subst (λ ns. Contains ns name) (sym g.names) (Contains-append_left a.names g.made name among)

    later : (v : ℕ) (b' : Bool) → values_of a.trail.entries v ≡ Some b' → values_of b.trail.entries v ≡ Some b'
    later v b' given = subst (λ es. values_of es v ≡ Some b') (sym entries) (value-kept a.trail.entries g.added v b' given)
