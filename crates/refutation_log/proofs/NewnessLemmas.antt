-- What is new contains nothing that came before it.
use Rattle.std.proofs.Common.{◌≡◌, ◌≢◌, ℕ, ◌+◌, ◌-◌, Bool, true, false, not, Option, Some, None, slice_get, List, [], ◌∷◌, ◌++◌, append_assoc, append-nil, refl, sym, ap, subst, ◌∙◌, arith, Contains}
use Rattle.std.proofs.lemmas.Bool.{ne_eqb}
use Rattle.std.proofs.lemmas.List.Elements.{All-contains_itself, All-weaker}
use Rattle.list_base.proofs.Members.{here_same, nowhere}
use Rattle.list_base.proofs.Membership.{index_of}
use Rattle.clause_core.specs.declared.literal.Lit.{Lit}
use Rattle.clause_core.specs.Literal.{negated}
use Rattle.clause_core.specs.Numbering.{HasNumber, numbered}
use Rattle.clause_core.specs.Propagation.{IsLacked, MakesFalse}
use Rattle.refutation_log.specs.Resolution.{AreNewClauses, IsNewClause}
use Rattle.refutation_log.specs.ResolutionLaws.{IsIrredundant, NewClausesAreIrredundant}

-- a clause of a list has a number
number_of : (clauses : List (List Lit)) (clause : List Lit) → Contains clauses clause → (number : ℕ) × HasNumber (numbered clauses) number clause
number_of clauses clause among =
    let (k, at) = index_of clauses clause among in (
      k + 1,
      record {
        there = rw (ne_eqb (k + 1) 0 (λ same. omega (arith, same)))
            (subst (λ (j : ℕ). slice_get clauses j ≡ Some clause) (let back : k ≡ k + 1 - 1 = omega arith in back) at);
      },
    )

-- what is lacked contains no clause: if the missing literal is in that, it is unit, and else false
lacked_contains : (earlier : List (List Lit)) (clause other : List Lit) → IsLacked earlier clause → Contains earlier other → ((l : Lit) → Contains other l → Contains clause l) → ⊥
lacked_contains earlier clause other lacked among included =
    let (number, named) = number_of earlier other among in
    let missing : Contains other lacked.literal → ⊥ = λ has. lacked.propagated.no_unit number other lacked.literal named (record {
      among = has;
      no_value = lacked.leaves.no_value;
      others = λ l held differs. lacked.leaves.others l (included l held) differs;
    }) in
    lacked.propagated.no_false number other named
    (All-weaker (Contains other) (MakesFalse lacked.values)
    (λ l held. lacked.leaves.others l (included l held) (λ same. missing (subst (Contains other) same held))) other (All-contains_itself other))

-- no truth value is its negation
not_differs : (b : Bool) → b ≡ not b → ⊥
not_differs true same = cc
not_differs false same = cc

-- no literal is its negation
opposites_differ : (l : Lit) → l ≡ negated l → ⊥
opposites_differ l same = not_differs l.positive (ap (λ (k : Lit). k.positive) same)

-- a value that is given is not missing
given_missing : (o : Option Bool) (b : Bool) → o ≡ Some b → o ≡ None → ⊥
given_missing o b given missing = let clash : Some b ≡ None = sym given ∙ missing in cc

-- a value is one
one_value : (o : Option Bool) (b : Bool) → o ≡ Some b → o ≡ Some (not b) → ⊥
one_value o b one other = not_differs b (let same : Some b ≡ Some (not b) = sym one ∙ other in cc)

-- nor does it have a literal together with its negation
lacked_opposites : (earlier : List (List Lit)) (clause : List Lit) (l : Lit) → IsLacked earlier clause → Contains clause l → Contains clause (negated l) → ⊥
lacked_opposites earlier clause l lacked held opposite =
    let one : l ≢ lacked.literal = λ same. given_missing (lacked.values l.var) _
    (lacked.leaves.others (negated l) opposite (λ other. opposites_differ l (same ∙ sym other)))
    (ap (λ (k : Lit). lacked.values k.var) same ∙ lacked.leaves.no_value) in
    let two : negated l ≢ lacked.literal = λ same. given_missing (lacked.values l.var) _
    (lacked.leaves.others l held one)
    (ap (λ (k : Lit). lacked.values k.var) same ∙ lacked.leaves.no_value) in
    one_value (lacked.values l.var) (not l.positive) (lacked.leaves.others l held one) (lacked.leaves.others (negated l) opposite two)

-- the empty clause contains no other
empty_contains : (earlier : List (List Lit)) (other : List Lit) → (Contains earlier [] → ⊥) → Contains earlier other → ((l : Lit) → Contains other l → Contains [] l) → ⊥
empty_contains earlier [] none among included = none among
empty_contains earlier (m ∷ rest) none among included = nowhere m (included m (here_same m rest m refl))

-- a new clause is irredundant
clause_irredundant : (earlier : List (List Lit)) (clause : List Lit) → IsNewClause earlier clause → IsIrredundant earlier clause
clause_irredundant earlier [] new = record {
  no_opposites = λ l held opposite. nowhere l held;
  contains_none = λ other among included. empty_contains earlier other (new.first_empty refl) among included;
}
clause_irredundant earlier (m ∷ rest) new =
    let lacked = new.lacked (λ empty. cc) in record {
      no_opposites = λ l held opposite. lacked_opposites earlier (m ∷ rest) l lacked held opposite;
      contains_none = λ other among included. lacked_contains earlier (m ∷ rest) other lacked among included;
    }

-- each of new clauses is new after those before it
new_at : (earlier before after : List (List Lit)) (clause : List Lit) → AreNewClauses earlier (before ++ clause ∷ after) → IsNewClause (earlier ++ before) clause
new_at earlier [] after clause new = rw append-nil new.0
new_at earlier (first ∷ before) after clause new = rw append_assoc at (new_at (earlier ++ first ∷ []) before after clause new.1)

-- so are those of a new log
pub new_irredundant : NewClausesAreIrredundant
new_irredundant f log new before after clause is =
    clause_irredundant (f.clauses ++ before) clause (new_at f.clauses before after clause (subst (AreNewClauses f.clauses) is new.new))
