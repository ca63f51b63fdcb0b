-- The rivals of a protocol: which two messages are rivals, and the clauses of a selection of what is sent.
use Rattle.std.proofs.Common.{◌≡◌, ◌≢◌, ℕ, ◌<◌, true, List, [], ◌∷◌, ◌++◌, length, map, inl, inr, refl, sym, ap, ◌∙◌, subst, arith, Contains}
use Rattle.std.specs.Prelude.{◌==◌, ◌&&◌}
use Rattle.std.specs.List.{range_with_len}
use Rattle.std.proofs.lemmas.Bool.{and_from, eq-eqb}
use Rattle.std.proofs.lemmas.List.Elements.{All-contains, All-get_or, Contains-append_cases, Contains-append_left, Contains-append_right}
use Rattle.std.proofs.lemmas.List.Folds.{list_any-from_Any}
use Rattle.list_base.proofs.Filtered.{filtered_member, kept_member}
use Rattle.list_base.proofs.Members.{cons_cases, here_same, nowhere, there}
use Rattle.bspl_types.specs.declared.expanded.Expanded.{Expanded}
use Rattle.bspl_types.specs.declared.protocol.Adornment.TheVariants.{Out}
use Rattle.bspl_types.specs.Choice.{is_out}
use Rattle.bspl_types.specs.Expansion.{Adorns, message_of, no_message}
use Rattle.bspl_types.specs.Shape.{IsMessageOf}
use Rattle.clause_encoding.specs.declared.rivals.Rivals.{Rivals}
use Rattle.clause_encoding.specs.Formula.{safety_variables}
use Rattle.clause_encoding.specs.Rivals.{producers_of, produces, rivals_among, rivals_of}
use Rattle.clause_encoding.specs.Variables.{IsKind, message_numbers, sent}
use Rattle.first_occurrences.proofs.ListedLemmas.{joined_from, joined_member, mapped_from, mapped_member, range_bound, range_member, some_member}

-- rivals among the list, of whose messages both have it
pub record BothHave (Q : ℕ → Type 0) (rivals : List Rivals) : Type 0 where
  pub two : Rivals
  pub among : Contains rivals two
  pub first : Q two.first
  pub second : Q two.second

-- in a longer list
later_rivals : (Q : ℕ → Type 0) (front rivals : List Rivals) → BothHave Q rivals → BothHave Q (front ++ rivals)
later_rivals Q front rivals both = record { two = both.two; among = Contains-append_right front rivals both.two both.among; first = both.first; second = both.second }

-- the first message of a list and a later one
first_rivals : (Q : ℕ → Type 0) (p m n : ℕ) (others : List ℕ) → Q m → Q n → Contains others n → BothHave Q (rivals_among p (m ∷ others))
first_rivals Q p m n others at_m at_n later =
    let pair : ℕ → Rivals = λ k. record { param = p; first = m; second = k } in
    record { two = pair n; among = Contains-append_left (map pair others) (rivals_among p others) (pair n) (mapped_member pair others n later); first = at_m; second = at_n }

-- two messages of a list that both have it are rivals, in one order or the other
pub two_rivals : (Q : ℕ → Type 0) (p m n : ℕ) (list : List ℕ) → m ≢ n → Q m → Q n → Contains list m → Contains list n → BothHave Q (rivals_among p list)
two_rivals Q p m n [] apart at_m at_n has_m has_n = absurd (nowhere m has_m)
two_rivals Q p m n (l ∷ others) apart at_m at_n has_m has_n =
    elim (cons_cases l others m has_m) [
      | inl is_m ↦ elim (cons_cases l others n has_n) [
        | inl is_n ↦ absurd (apart (sym is_m ∙ is_n))
        | inr later ↦ first_rivals Q p l n others (subst Q (sym is_m) at_m) at_n later
      ]
      | inr later_m ↦ elim (cons_cases l others n has_n) [
        | inl is_n ↦ first_rivals Q p l m others (subst Q (sym is_n) at_n) at_m later_m
        | inr later ↦ later_rivals Q (map (λ k. record { param = p; first = l; second = k }) others) (rivals_among p others) (two_rivals Q p m n others apart at_m at_n later_m later)
      ]
    ]

-- rivals are two messages of the list
rivals_from : (p : ℕ) (list : List ℕ) (two : Rivals) → Contains (rivals_among p list) two → Contains list two.first × Contains list two.second
rivals_from p [] two among = absurd (nowhere two among)
rivals_from p (m ∷ others) two among = elim (Contains-append_cases (map (λ n. record { param = p; first = m; second = n }) others) (rivals_among p others) two among) [
  | inl here ↦
      let (n, later, is) = mapped_from (λ n. record { param = p; first = m; second = n }) others two here in
      (here_same m others two.first (ap (λ r. r.first) is), there m others two.second (subst (Contains others) (ap (λ r. r.second) is) later))
  | inr rest ↦ let (one, other) = rivals_from p others two rest in (there m others two.first one, there m others two.second other)
]

-- a message that adorns the parameter `out` produces it
adorned_produces : (x : Expanded) (m p : ℕ) → Adorns x m Out p → produces (message_of x m) p ≡ true
adorned_produces x m p adorned =
    list_any-from_Any (λ c. is_out c.adornment && c.param == p) (message_of x m).carried
    (some_member (λ c. (is_out c.adornment && c.param == p) ≡ true) (message_of x m).carried _ adorned (and_from true (p == p) refl (eq-eqb p p refl)))

-- a parameter that a message adorns is one of the protocol's
adorned_param : (x : Expanded) (m p : ℕ) → m < length x.messages → Adorns x m Out p → p < length x.params
adorned_param x m p known adorned =
    All-contains (λ c. c.param < length x.params) (message_of x m).carried _
    (All-get_or (IsMessageOf (length x.roles) (length x.params)) x.messages m no_message known x.shape.each_message).known_params adorned

-- it is among the producers
producer_member : (x : Expanded) (m p : ℕ) → m < length x.messages → Adorns x m Out p → Contains (producers_of x p) m
producer_member x m p known adorned =
    kept_member (λ n. produces (message_of x n) p) (message_numbers x) m (adorned_produces x m p adorned) (range_member (length x.messages) m known)

-- two producers of a parameter that both have it are rivals of the protocol
pub two_producers : (x : Expanded) (Q : ℕ → Type 0) (p m n : ℕ) → m ≢ n → m < length x.messages → n < length x.messages → Adorns x m Out p → Adorns x n Out p → Q m → Q n → BothHave Q (rivals_of x)
two_producers x Q p m n apart known_m known_n by_m by_n at_m at_n =
    let both = two_rivals Q p m n (producers_of x p) apart at_m at_n (producer_member x m p known_m by_m) (producer_member x n p known_n by_n) in
    record {
      two = both.two;
      among = joined_member (λ q. rivals_among q (producers_of x q)) (range_with_len 0 (length x.params)) p both.two (range_member (length x.params) p (adorned_param x m p known_m by_m)) both.among;
      first = both.first;
      second = both.second;
    }

-- a producer is one of the protocol's messages, so its emission is a kind
producer_kind : (x : Expanded) (p m : ℕ) → Contains (producers_of x p) m → IsKind (safety_variables x) (sent m)
producer_kind x p m among =
    let known : m < length x.messages = range_bound (length x.messages) m (filtered_member (λ n. produces (message_of x n) p) (message_numbers x) m among).0 in
    record { from_one = omega arith; up_to = omega arith }

-- the emissions of two rivals are kinds
pub rival_kinds : (x : Expanded) (two : Rivals) → Contains (rivals_of x) two → IsKind (safety_variables x) (sent two.first) × IsKind (safety_variables x) (sent two.second)
rival_kinds x two among =
    let (p, param, part) = joined_from (λ q. rivals_among q (producers_of x q)) (range_with_len 0 (length x.params)) two among in
    let (one, other) = rivals_from p (producers_of x p) two part in
    (producer_kind x p two.first one, producer_kind x p two.second other)
