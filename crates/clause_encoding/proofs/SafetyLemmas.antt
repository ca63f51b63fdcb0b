-- What is only in the safety formula: its variables are small and exist, and its clauses are few.
use Rattle.std.proofs.Common.{ℕ, ◌+◌, ◌<◌, ◌≤◌, [], ◌∷◌, length, map, refl, arith, length-append}
use Rattle.std.specs.List.{All, flat_map}
use Rattle.std.proofs.lemmas.List.Elements.{All-append, All-weaker}
use Rattle.std.proofs.lemmas.List.FromFn.{length-enumerate_from}
use Rattle.bspl_types.specs.declared.expanded.Expanded.{Expanded}
use Rattle.clause_core.specs.Literal.{negated, positive}
use Rattle.clause_encoding.specs.declared.rivals.Rivals.{Rivals}
use Rattle.clause_encoding.specs.Formula.{safety_variables}
use Rattle.clause_encoding.specs.Rivals.{rival_clauses, rivals_of, selected_is_sent, selectors}
use Rattle.clause_encoding.specs.Variables.{kind_count, occurs, sent}
use Rattle.clause_encoding.specs.inner.Kinds.{AreOver, AreWithin}
use Rattle.clause_encoding.proofs.ClauseLengths.{few_added}
use Rattle.clause_encoding.proofs.ExistenceLemmas.{ClauseExists, all_added, all_images, both_exist, two_exist}
use Rattle.clause_encoding.proofs.FamilyLemmas.{sent_exists}
use Rattle.clause_encoding.proofs.FilterLemmas.{all_one}
use Rattle.clause_encoding.proofs.KindLemmas.{rivals_within}
use Rattle.clause_encoding.proofs.LengthLemmas.{few_rivals}
use Rattle.clause_encoding.proofs.RangeLemmas.{IsNumbered, numbered}
use Rattle.clause_encoding.proofs.VariableLemmas.{LitExists}

-- the variables of the safety formula are over the protocol's kinds, and small
pub safety_over : (x : Expanded) → AreOver x (safety_variables x)
safety_over x =
    let messages = x.shape.counts.few_messages in
    let rivals = few_rivals x in
    record {
      every_kind = refl;
      small = record { few_kinds = omega (arith, messages); occurrences_first = omega arith; few_others = omega (arith, messages, rivals) };
    }

-- the variable selects two messages
abbrev IsSelector : Expanded → ℕ × Rivals → Type 0
IsSelector x pair = (0 < pair.0) × (pair.0 ≤ (safety_variables x).order_base) × AreWithin (length x.messages) pair.1

-- so do all that there are
selectors_select : (x : Expanded) → All (IsSelector x) (selectors x)
selectors_select x =
    let first = kind_count x + 1 in
    All-weaker (IsNumbered (AreWithin (length x.messages)) first (first + length (rivals_of x))) (IsSelector x)
    (λ pair within. let from = within.0 in let to = within.1 in (omega (arith, from), omega (arith, to), within.2))
    (selectors x) (numbered (AreWithin (length x.messages)) first (rivals_of x) (rivals_within x))

-- the literal of a selector
selector_exists : (x : Expanded) (pair : ℕ × Rivals) → IsSelector x pair → LitExists (safety_variables x) (positive pair.0)
selector_exists x pair selects = let to = selects.1 in (selects.0, omega (arith, to))

-- its clauses
selected_exists : (x : Expanded) (pair : ℕ × Rivals) → IsSelector x pair → All (ClauseExists (safety_variables x)) (selected_is_sent pair)
selected_exists x pair selects =
    let vars = safety_variables x in
    let selector = negated (positive pair.0) in
    let exists = selector_exists x pair selects in
    let first = occurs (sent pair.1.first) in
    let second = occurs (sent pair.1.second) in
    both_exist vars (selector ∷ first ∷ []) (selector ∷ second ∷ [])
    (two_exist vars selector first exists (sent_exists x vars pair.1.first (safety_over x) selects.2.first))
    (two_exist vars selector second exists (sent_exists x vars pair.1.second (safety_over x) selects.2.second))

-- the clauses on rivals
pub rivals_exist : (x : Expanded) → All (ClauseExists (safety_variables x)) (rival_clauses x)
rivals_exist x =
    let vars = safety_variables x in
    let lit = λ (pair : ℕ × Rivals). positive pair.0 in
    All-append (ClauseExists vars) (flat_map selected_is_sent (selectors x)) (map lit (selectors x) ∷ [])
    (all_added (IsSelector x) (ClauseExists vars) selected_is_sent (selectors x) (selected_exists x) (selectors_select x))
    (all_one (ClauseExists vars) (map lit (selectors x)) (all_images (IsSelector x) (LitExists vars) lit (selectors x) (selector_exists x) (selectors_select x)))

-- the clauses on rivals are few
pub few_rival_clauses : (x : Expanded) → length (rival_clauses x) ≤ 524289
few_rival_clauses x =
    let lit = λ (pair : ℕ × Rivals). positive pair.0 in
    let rivals = few_rivals x in
    let count = length-enumerate_from (kind_count x + 1) (rivals_of x) in
    let pairs = few_added selected_is_sent 2 262144 524288 (selectors x) (λ pair. omega arith) (omega (arith, rivals, count)) (omega arith) in
    omega (arith, pairs, length-append (flat_map selected_is_sent (selectors x)) (map lit (selectors x) ∷ []))
