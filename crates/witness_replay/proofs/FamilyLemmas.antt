-- The clauses of each family, taken out of those that an assignment satisfies.
use Rattle.std.proofs.Common.{◌≡◌, ◌≢◌, inl, inr, ℕ, ◌<◌, Bool, true, false, not, List, [], ◌∷◌, ◌++◌, map, length, All, Contains, refl, sym, ap, subst}
use Rattle.std.specs.Prelude.{◌==◌}
use Rattle.std.specs.List.{filter, flat_map}
use Rattle.std.proofs.lemmas.Bool.{both_ways, cases_Bool, eqb-true}
use Rattle.std.proofs.lemmas.List.Elements.{All-contains, Contains-append_left, Contains-append_right}
use Rattle.list_base.proofs.Filtered.{kept_member}
use Rattle.bspl_types.specs.declared.expanded.Expanded.{Expanded}
use Rattle.bspl_types.specs.declared.protocol.Adornment.TheVariants.{In, Out, Nil}
use Rattle.bspl_types.specs.Expansion.{Adorns, message_of}
use Rattle.clause_core.specs.Clause.{Satisfies, SatisfiesAll}
use Rattle.clause_core.specs.Literal.{MakesTrue, negated}
use Rattle.clause_core.specs.Written.{Written}
use Rattle.clause_encoding.specs.declared.variables.Variables.{Variables}
use Rattle.clause_encoding.specs.Carriers.{fresh_parameters, in_parameters, is_in, sender_carriers}
use Rattle.clause_encoding.specs.Families.{delivery_clauses, fresh_clauses_of, freshness_clauses, occurrence_clauses, order_clauses, premise_clause, premise_clauses, shared_clauses}
use Rattle.clause_encoding.specs.Variables.{IsKind, kinds_following, message_numbers, occurs, received, sent, stands_before}
use Rattle.witness_replay.specs.inner.Order.{is_before}
use Rattle.witness_replay.proofs.KindLemmas.{among_after}
use Rattle.witness_replay.proofs.ListedLemmas.{each_member, joined_member, mapped_from, mapped_member, range_member}
use Rattle.witness_replay.proofs.LiteralLemmas.{fails_if_negated, passes_if_true, satisfied_cases, satisfied_only, satisfied_rest}

-- the families are satisfied
pub record SatisfiesFamilies (x : Expanded) (vars : Variables) (v : ℕ → Bool) : Type 0 where
  pub order : SatisfiesAll v (order_clauses vars)
  pub occurrence : SatisfiesAll v (occurrence_clauses vars)
  pub delivery : SatisfiesAll v (delivery_clauses x vars)
  pub premises : SatisfiesAll v (premise_clauses x vars)
  pub freshness : SatisfiesAll v (freshness_clauses x vars)

-- what all items of two lists have, those of the first have
pub all_left : {X : Type 0} (P : X → Type 0) (xs ys : List X) → All P (xs ++ ys) → All P xs
all_left P xs ys all = each_member P xs (λ x among. All-contains P (xs ++ ys) x all (Contains-append_left xs ys x among))

-- and those of the second
pub all_right : {X : Type 0} (P : X → Type 0) (xs ys : List X) → All P (xs ++ ys) → All P ys
all_right P xs ys all = each_member P ys (λ x among. All-contains P (xs ++ ys) x all (Contains-append_right xs ys x among))

-- what satisfies them together satisfies each
pub families : (x : Expanded) (vars : Variables) (v : ℕ → Bool) → SatisfiesAll v (shared_clauses x vars) → SatisfiesFamilies x vars v
families x vars v satisfied =
    let order = order_clauses vars in
    let occurrence = occurrence_clauses vars in
    let delivery = delivery_clauses x vars in
    let premises = premise_clauses x vars in
    let four = all_left (Satisfies v) (order ++ occurrence ++ delivery ++ premises) (freshness_clauses x vars) satisfied in
    let three = all_left (Satisfies v) (order ++ occurrence ++ delivery) premises four in
    let two = all_left (Satisfies v) (order ++ occurrence) delivery three in
    record {
      order = all_left (Satisfies v) order occurrence two;
      occurrence = all_right (Satisfies v) order occurrence two;
      delivery = all_right (Satisfies v) (order ++ occurrence) delivery three;
      premises = all_right (Satisfies v) (order ++ occurrence ++ delivery) premises four;
      freshness = all_right (Satisfies v) (order ++ occurrence ++ delivery ++ premises) (freshness_clauses x vars) satisfied;
    }

-- what differs fails the test
other_kind : (i j : ℕ) → i ≢ j → not (j == i) ≡ true
other_kind i j apart = elim (cases_Bool (j == i)) [ inl same ↦ absurd (apart (sym (eqb-true j i same))) | inr none ↦ ap not none ]

module _ (x : Expanded) (vars : Variables) (v : ℕ → Bool) (satisfied : SatisfiesFamilies x vars v) where
  -- a kind that stands before one that occurs occurs
  pub occurs_too : (i j : ℕ) → IsKind vars i → IsKind vars j → i ≢ j → v i ≡ true → is_before vars v i j ≡ false → v j ≡ true
  occurs_too i j kind_i kind_j apart occurring not_before =
      let clause = negated (occurs i) ∷ occurs j ∷ stands_before vars i j ∷ [] in
      let holds : Satisfies v clause =
      All-contains (Satisfies v) (occurrence_clauses vars) clause satisfied.occurrence
      (joined_member (λ a. map (λ b. negated (occurs a) ∷ occurs b ∷ stands_before vars a b ∷ []) (filter (λ b. not (b == a)) (kinds_following vars 0))) (kinds_following vars 0) i clause (among_after vars 0 i kind_i.from_one kind_i)
      (mapped_member (λ b. negated (occurs i) ∷ occurs b ∷ stands_before vars i b ∷ []) (filter (λ b. not (b == i)) (kinds_following vars 0)) j
      (kept_member (λ b. not (b == i)) (kinds_following vars 0) j (other_kind i j apart) (among_after vars 0 j kind_j.from_one kind_j)))) in
      elim (satisfied_cases v (occurs j) (stands_before vars i j ∷ []) (satisfied_rest v i (occurs j ∷ stands_before vars i j ∷ []) occurring holds)) [
        | inl occurs_j ↦ occurs_j
        | inr last ↦ absurd (both_ways (is_before vars v i j) not_before (passes_if_true v (stands_before vars i j) (satisfied_only v (stands_before vars i j) last)))
      ]

  -- what is received was sent before
  pub sent_before : (m : ℕ) → m < length x.messages → v (received m) ≡ true → is_before vars v (sent m) (received m) ≡ true
  sent_before m known occurring =
      let clause : ℕ → Written = λ n. negated (occurs (received n)) ∷ stands_before vars (sent n) (received n) ∷ [] in
      let holds : Satisfies v (clause m) = All-contains (Satisfies v) (delivery_clauses x vars) (clause m) satisfied.delivery (mapped_member clause (message_numbers x) m (range_member (length x.messages) m known)) in
      passes_if_true v (stands_before vars (sent m) (received m)) (satisfied_only v (stands_before vars (sent m) (received m)) (satisfied_rest v (received m) (stands_before vars (sent m) (received m) ∷ []) occurring holds))

  -- a parameter adorned `in` of what is sent is made known by a kind before
  pub known_before : (m p : ℕ) → m < length x.messages → Adorns x m In p → v (sent m) ≡ true → (kind : ℕ) × Contains (sender_carriers x m p) kind × (is_before vars v kind (sent m) ≡ true)
  known_before m p known adorned occurring =
      let listed : Contains (in_parameters (message_of x m)) p = mapped_member (λ c. c.param) (filter (λ c. is_in c.adornment) (message_of x m).carried) (record { param = p; adornment = In }) (kept_member (λ c. is_in c.adornment) (message_of x m).carried (record { param = p; adornment = In }) refl adorned) in
      let lits = map (λ c. stands_before vars c (sent m)) (sender_carriers x m p) in
      let holds : Satisfies v (premise_clause x vars m p) =
      All-contains (Satisfies v) (premise_clauses x vars) (premise_clause x vars m p) satisfied.premises
      (joined_member (λ n. map (premise_clause x vars n) (in_parameters (message_of x n))) (message_numbers x) m (premise_clause x vars m p) (range_member (length x.messages) m known)
      (mapped_member (premise_clause x vars m) (in_parameters (message_of x m)) p listed)) in
      let (k, l, within, is, makes) = satisfied_rest v (sent m) lits occurring holds in
      let (kind, carrier, same) = mapped_from (λ c. stands_before vars c (sent m)) (sender_carriers x m p) l (k, within, is) in
      (kind, carrier, passes_if_true v (stands_before vars kind (sent m)) (subst (MakesTrue v) (sym same) makes))

  -- a parameter adorned `out` or `nil` of what is sent is made known by no kind before
  pub unknown_before : (m p : ℕ) → m < length x.messages → Contains (fresh_parameters (message_of x m)) p → v (sent m) ≡ true → (kind : ℕ) → Contains (sender_carriers x m p) kind → is_before vars v kind (sent m) ≡ true → ⊥
  unknown_before m p known listed occurring kind carrier before =
      let clause : ℕ → Written = λ c. negated (occurs (sent m)) ∷ negated (stands_before vars c (sent m)) ∷ [] in
      let holds : Satisfies v (clause kind) =
      All-contains (Satisfies v) (freshness_clauses x vars) (clause kind) satisfied.freshness
      (joined_member (λ n. flat_map (fresh_clauses_of x vars n) (fresh_parameters (message_of x n))) (message_numbers x) m (clause kind) (range_member (length x.messages) m known)
      (joined_member (fresh_clauses_of x vars m) (fresh_parameters (message_of x m)) p (clause kind) listed
      (mapped_member clause (sender_carriers x m p) kind carrier))) in
      fails_if_negated v (stands_before vars kind (sent m))
      (satisfied_only v (negated (stands_before vars kind (sent m))) (satisfied_rest v (sent m) (negated (stands_before vars kind (sent m)) ∷ []) occurring holds)) before

-- a parameter adorned `out` is fresh
pub fresh_out : (x : Expanded) (m p : ℕ) → Adorns x m Out p → Contains (fresh_parameters (message_of x m)) p
fresh_out x m p adorned = mapped_member (λ c. c.param) (filter (λ c. not (is_in c.adornment)) (message_of x m).carried) (record { param = p; adornment = Out }) (kept_member (λ c. not (is_in c.adornment)) (message_of x m).carried (record { param = p; adornment = Out }) refl adorned)

-- and so is one adorned `nil`
pub fresh_nil : (x : Expanded) (m p : ℕ) → Adorns x m Nil p → Contains (fresh_parameters (message_of x m)) p
fresh_nil x m p adorned = mapped_member (λ c. c.param) (filter (λ c. not (is_in c.adornment)) (message_of x m).carried) (record { param = p; adornment = Nil }) (kept_member (λ c. not (is_in c.adornment)) (message_of x m).carried (record { param = p; adornment = Nil }) refl adorned)
