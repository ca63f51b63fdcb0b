-- The clauses of rest, taken out of those that an assignment satisfies.
use Rattle.std.proofs.Common.{◌≡◌, ◌⊎◌, inl, inr, ℕ, ◌+◌, ◌-◌, ◌<◌, Bool, true, [], ◌∷◌, ◌++◌, map, length, take, get_or, Some, slice_get, Option, refl, sym, ap, ◌∙◌, subst, arith, Contains, length-take}
use Rattle.std.specs.Prelude.{◌==◌, IsSomeAnd, IsTrue}
use Rattle.std.specs.List.{enumerate_from, filter}
use Rattle.std.proofs.lemmas.Bool.{both_ways, eqb-true}
use Rattle.std.proofs.lemmas.List.{get_or-take}
use Rattle.std.proofs.lemmas.List.Elements.{All-contains, Contains-append_cases, Contains-append_right}
use Rattle.std.proofs.lemmas.Option.{slice_get-get_or}
use Rattle.list_base.proofs.Filtered.{filtered_member, kept_member}
use Rattle.list_base.proofs.Members.{here}
use Rattle.bspl_types.specs.declared.expanded.Expanded.{Expanded}
use Rattle.bspl_types.specs.declared.protocol.Adornment.{Adornment}
use Rattle.bspl_types.specs.declared.protocol.Adornment.TheVariants.{In, Out, Nil}
use Rattle.bspl_types.specs.declared.protocol.Carried.{Carried}
use Rattle.bspl_types.specs.declared.protocol.ParamInfo.{ParamInfo}
use Rattle.bspl_types.specs.Expansion.{Adorns, message_of}
use Rattle.bspl_types.specs.Shape.{is_public_value}
use Rattle.clause_core.specs.Clause.{Satisfies, SatisfiesAll}
use Rattle.clause_core.specs.Literal.{MakesTrue, negated, positive}
use Rattle.clause_core.specs.Written.{Written}
use Rattle.clause_encoding.specs.declared.wants.Want.{Want}
use Rattle.clause_encoding.specs.Carriers.{binds, fresh_parameters, in_parameters, is_in, sender_carriers}
use Rattle.clause_encoding.specs.Rest.{arrival_clauses, blockers, exhaustion_clause, exhaustion_clauses, public_values, rest_clauses, unbound_clauses, unbound_clauses_of, unbound_variables, want_clauses, want_clauses_of, want_variables, wanted_by, wants_by, wants_of}
use Rattle.clause_encoding.specs.Variables.{kind_count, message_numbers, occurs, received, sent}
use Rattle.enactment_model.specs.Liveness.{HasPublicValue}
use Rattle.witness_replay.proofs.FamilyLemmas.{all_left, all_right}
use Rattle.witness_replay.proofs.ListedLemmas.{joined_from, joined_member, mapped_from, mapped_member, numbered_from, numbered_item, range_member}
use Rattle.witness_replay.proofs.LiteralLemmas.{satisfied_cases, satisfied_only, satisfied_rest}

-- the families are satisfied
pub record SatisfiesRest (x : Expanded) (v : ℕ → Bool) : Type 0 where
  pub arrival : SatisfiesAll v (arrival_clauses x)
  pub exhaustion : SatisfiesAll v (exhaustion_clauses x)
  pub want : SatisfiesAll v (want_clauses x)
  pub unbound : SatisfiesAll v (unbound_clauses x)
  pub some : Satisfies v (map (λ (u : ℕ × ℕ). positive u.0) (unbound_variables x))

-- what satisfies them together satisfies each
pub rest_families : (x : Expanded) (v : ℕ → Bool) → SatisfiesAll v (rest_clauses x) → SatisfiesRest x v
rest_families x v satisfied =
    let arrival = arrival_clauses x in
    let exhaustion = exhaustion_clauses x in
    let want = want_clauses x in
    let some = map (λ (u : ℕ × ℕ). positive u.0) (unbound_variables x) in
    let four = all_left (Satisfies v) (arrival ++ exhaustion ++ want ++ unbound_clauses x) (some ∷ []) satisfied in
    let three = all_left (Satisfies v) (arrival ++ exhaustion ++ want) (unbound_clauses x) four in
    let two = all_left (Satisfies v) (arrival ++ exhaustion) want three in
    record {
      arrival = all_left (Satisfies v) arrival exhaustion two;
      exhaustion = all_right (Satisfies v) arrival exhaustion two;
      want = all_right (Satisfies v) (arrival ++ exhaustion) want three;
      unbound = all_right (Satisfies v) (arrival ++ exhaustion ++ want) (unbound_clauses x) four;
      some =
          All-contains (Satisfies v) (rest_clauses x) some satisfied
          (Contains-append_right (arrival ++ exhaustion ++ want ++ unbound_clauses x) (some ∷ []) some (here some []));
    }

-- an adornment that passes the test is `in`
only_in : (a : Adornment) → is_in a ≡ true → a ≡ In
only_in In passes = refl
only_in Out passes = absurd (both_ways (is_in Out) refl passes)
only_in Nil passes = absurd (both_ways (is_in Nil) refl passes)

-- a parameter listed as `in` is adorned so
adorned_in : (x : Expanded) (m p : ℕ) → Contains (in_parameters (message_of x m)) p → Adorns x m In p
adorned_in x m p listed =
    let (c, member, same) = mapped_from (λ (d : Carried). d.param) (filter (λ c. is_in c.adornment) (message_of x m).carried) p listed in
    let (among, passes) = filtered_member (λ (d : Carried). is_in d.adornment) (message_of x m).carried c member in
    subst (λ (q : ℕ). Adorns x m In q) same (subst (λ (a : Adornment). Adorns x m a c.param) (only_in c.adornment passes) among)

-- what is wanted is a parameter that its message adorns `in`
wanted_in : (x : Expanded) (want : Want) → Contains (wants_of x) want → Adorns x want.message In want.param
wanted_in x want among =
    let (m, number, part) = joined_from (wants_by x) (message_numbers x) want among in
    let (p, listed, is) = mapped_from (λ (p : ℕ). record { message = m; param = p }) (in_parameters (message_of x m)) want part in
    subst (λ (w : Want). Adorns x w.message In w.param) is (adorned_in x m p listed)

-- the sender of the message lacks an `in` parameter: no kind occurs that makes it known there
pub record Lacks (x : Expanded) (v : ℕ → Bool) (m : ℕ) : Type 0 where
  pub param : ℕ
  pub adorned : Adorns x m In param
  pub unknown : (kind : ℕ) → Contains (sender_carriers x m param) kind → v kind ≡ true → ⊥

-- a kind occurs that makes an `out` or `nil` parameter known there
pub record IsBlocked (x : Expanded) (v : ℕ → Bool) (m : ℕ) : Type 0 where
  pub param : ℕ
  pub fresh : Contains (fresh_parameters (message_of x m)) param
  pub kind : ℕ
  pub carrier : Contains (sender_carriers x m param) kind
  pub occurring : v kind ≡ true

-- a public parameter with a value that is in no message that is sent
pub record IsUnsent (x : Expanded) (v : ℕ → Bool) : Type 0 where
  pub param : ℕ
  pub public : HasPublicValue x param
  pub unsent : (m : ℕ) → m < length x.messages → binds (message_of x m) param ≡ true → v (sent m) ≡ true → ⊥

-- a numbered public parameter that passes the test is public and has a value
numbered_value : (x : Expanded) (p : ℕ) (info : ParamInfo) → Contains (enumerate_from 0 (take x.public x.params)) (p, info) → is_public_value info.adornment ≡ true → HasPublicValue x p
numbered_value x p info among passes =
    let first = take x.public x.params in
    let numbered = numbered_from 0 first p info among in
    let up_to = numbered.up_to in
    let early : p < x.public = omega (arith, length-take x.public x.params, up_to) in
    let within : p < length x.params = omega (arith, length-take x.public x.params, up_to) in
    let is : get_or first p info ≡ info = ap (λ (n : ℕ). get_or first n info) (let same : p ≡ p - 0 = omega arith in same) ∙ numbered.item info in
    let at : slice_get x.params p ≡ Some info = slice_get-get_or x.params p info within ∙ ap Some (sym (get_or-take x.public x.params p info early) ∙ is) in
    record { public = early; adorned = subst (λ (found : Option ParamInfo). IsSomeAnd found (λ i. IsTrue (is_public_value i.adornment))) (sym at) passes }

-- the parameters that may be unbound are public and have a value
public_value : (x : Expanded) (p : ℕ) → Contains (public_values x) p → HasPublicValue x p
public_value x p among =
    let numbers = enumerate_from 0 (take x.public x.params) in
    let (entry, member, same) = mapped_from (λ (q : ℕ × ParamInfo). q.0) (filter (λ (q : ℕ × ParamInfo). is_public_value q.1.adornment) numbers) p among in
    let (numbered, passes) = filtered_member (λ (q : ℕ × ParamInfo). is_public_value q.1.adornment) numbers entry member in
    subst (HasPublicValue x) same (numbered_value x entry.0 entry.1 numbered passes)

module _ (x : Expanded) (v : ℕ → Bool) (satisfied : SatisfiesRest x v) where
  -- what is sent is received
  pub arrives : (m : ℕ) → m < length x.messages → v (sent m) ≡ true → v (received m) ≡ true
  arrives m known sending =
      let clause : ℕ → Written = λ n. negated (occurs (sent n)) ∷ occurs (received n) ∷ [] in
      let holds : Satisfies v (clause m) = All-contains (Satisfies v) (arrival_clauses x) (clause m) satisfied.arrival (mapped_member clause (message_numbers x) m (range_member (length x.messages) m known)) in
      satisfied_only v (occurs (received m)) (satisfied_rest v (sent m) (occurs (received m) ∷ []) sending holds)

  -- a true variable of what the sender may lack is of a parameter that it lacks
  lacks : (m variable : ℕ) → Contains (wanted_by x m) variable → v variable ≡ true → Lacks x v m
  lacks m variable wanted chosen =
      let (entry, member, same) = mapped_from (λ (q : ℕ × Want). q.0) (filter (λ (q : ℕ × Want). q.1.message == m) (want_variables x)) variable wanted in
      let (numbered, passes) = filtered_member (λ (q : ℕ × Want). q.1.message == m) (want_variables x) entry member in
      let want = entry.1 in
      let is : want.message ≡ m = eqb-true want.message m passes in
      let clause : ℕ → Written = λ c. negated (positive entry.0) ∷ negated (occurs c) ∷ [] in
      record {
        param = want.param;
        adorned = subst (λ (n : ℕ). Adorns x n In want.param) is (wanted_in x want (numbered_item _ (wants_of x) entry.0 want numbered));
        unknown = λ kind carrier occurring.
            let listed : Contains (sender_carriers x want.message want.param) kind = subst (λ (n : ℕ). Contains (sender_carriers x n want.param) kind) (sym is) carrier in
            let holds : Satisfies v (clause kind) =
            All-contains (Satisfies v) (want_clauses x) (clause kind) satisfied.want
            (joined_member (want_clauses_of x) (want_variables x) entry (clause kind) numbered (mapped_member clause (sender_carriers x want.message want.param) kind listed)) in
            both_ways (v kind) (satisfied_only v (negated (occurs kind)) (satisfied_rest v entry.0 (negated (occurs kind) ∷ []) (ap v same ∙ chosen) holds)) occurring;
      }

  -- a kind that blocks the message and occurs
  blocked : (m kind : ℕ) → Contains (blockers x m) kind → v kind ≡ true → IsBlocked x v m
  blocked m kind blocks occurring =
      let (p, fresh, carrier) = joined_from (sender_carriers x m) (fresh_parameters (message_of x m)) kind blocks in
      record { param = p; fresh = fresh; kind = kind; carrier = carrier; occurring = occurring }

  -- a message that is not sent has a parameter that keeps it from being sent
  pub exhausted : (m : ℕ) → m < length x.messages → (v (sent m) ≡ true → ⊥) → Lacks x v m ⊎ IsBlocked x v m
  exhausted m known unsent =
      let lacking = map positive (wanted_by x m) in
      let blocking = map occurs (blockers x m) in
      let holds : Satisfies v (exhaustion_clause x m) =
      All-contains (Satisfies v) (exhaustion_clauses x) (exhaustion_clause x m) satisfied.exhaustion
      (mapped_member (exhaustion_clause x) (message_numbers x) m (range_member (length x.messages) m known)) in
      elim (satisfied_cases v (occurs (sent m)) (lacking ++ blocking) holds) [
        | inl sends ↦ absurd (unsent sends)
        | inr (k, l, within, is, makes) ↦ elim (Contains-append_cases lacking blocking l (k, within, is)) [
          | inl one ↦
              let (variable, wanted, same) = mapped_from positive (wanted_by x m) l one in
              inl (lacks m variable wanted (subst (MakesTrue v) (sym same) makes))
          | inr other ↦
              let (kind, blocks, same) = mapped_from occurs (blockers x m) l other in
              inr (blocked m kind blocks (subst (MakesTrue v) (sym same) makes))
        ]
      ]

  -- some public parameter is in no message that is sent
  pub some_unsent : IsUnsent x v
  some_unsent =
      let (k, l, within, is, makes) = satisfied.some in
      let (entry, member, same) = mapped_from (λ (u : ℕ × ℕ). positive u.0) (unbound_variables x) l (k, within, is) in
      let chosen : v entry.0 ≡ true = subst (MakesTrue v) (sym same) makes in
      let clause : ℕ → Written = λ m. negated (positive entry.0) ∷ negated (occurs (sent m)) ∷ [] in
      record {
        param = entry.1;
        public = public_value x entry.1 (numbered_item (kind_count x + 1) (public_values x) entry.0 entry.1 member);
        unsent = λ m known passes sending.
            let listed = kept_member (λ n. binds (message_of x n) entry.1) (message_numbers x) m passes (range_member (length x.messages) m known) in
            let holds : Satisfies v (clause m) =
            All-contains (Satisfies v) (unbound_clauses x) (clause m) satisfied.unbound
            (joined_member (unbound_clauses_of x) (unbound_variables x) entry (clause m) member (mapped_member clause (filter (λ n. binds (message_of x n) entry.1) (message_numbers x)) m listed)) in
            both_ways (v (sent m)) (satisfied_only v (negated (occurs (sent m))) (satisfied_rest v entry.0 (negated (occurs (sent m)) ∷ []) chosen holds)) sending;
      }
