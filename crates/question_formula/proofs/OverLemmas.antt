-- The condition of a question has variables of kinds and of pairs of kinds alone.
use Rattle.std.proofs.Common.{◌≡◌, ◌≢◌, ℕ, ◌<◌, true, false, List, [], ◌∷◌, length, map, get_or, refl, sym, ap, ◌∙◌, subst, arith}
use Rattle.std.specs.Prelude.{not, ◌==◌}
use Rattle.std.specs.List.{All, filter, list_any}
use Rattle.std.proofs.lemmas.Bool.{both_ways, cond_both, eq-eqb, false≢true}
use Rattle.std.proofs.lemmas.List.Elements.{All-cons, All-filter, All-head, All-map, All-nil, All-tail, All-weaker, filter_passes}
use Rattle.std.proofs.lemmas.List.Folds.{list_any_at}
use Rattle.std.proofs.lemmas.List.FromFn.{get_or-range_with_len, length-range_with_len}
use Rattle.bspl_types.specs.declared.expanded.Expanded.{Expanded}
use Rattle.bspl_types.specs.declared.protocol.Adornment.{Adornment}
use Rattle.bspl_types.specs.declared.protocol.Adornment.TheVariants.{In, Out, Nil}
use Rattle.bspl_types.specs.declared.protocol.Carried.{Carried}
use Rattle.bspl_types.specs.Expansion.{message_of}
use Rattle.circuit_clauses.specs.Condition.{Condition, Literal, Both, Either, Always, Never, IsOver, denied}
use Rattle.clause_encoding.specs.declared.variables.Variables.{Variables}
use Rattle.clause_encoding.specs.Carriers.{binds, carriers}
use Rattle.clause_encoding.specs.Formula.{plain_variables}
use Rattle.clause_encoding.specs.Laws.{CarriersAreKinds, OrderVariablesExist}
use Rattle.clause_encoding.specs.Variables.{IsKind, IsSmall, kind_count, message_numbers, occurs, received, sent, stands_before, variable_count}
use Rattle.questions.specs.declared.question.Happening.{Happening}
use Rattle.questions.specs.declared.question.Happening.TheVariants as happenings
use Rattle.questions.specs.declared.question.Question.{Question}
use Rattle.questions.specs.declared.question.Question.TheVariants as asks
use Rattle.questions.specs.Subject.{IsAbout, IsAboutHappening}
use Rattle.question_formula.specs.Conditions.{all_of, arrives_if_sent, asked, demanded, occurs_before, rests_at, sendable, some_before, some_occurs, some_of}
use Rattle.question_formula.specs.Happenings.{kinds_of}

-- what is denied has the same variables
denied_over : (n : ℕ) (c : Condition) → IsOver n c → IsOver n (denied c)
denied_over n (Literal l) over = over
denied_over n (Both c d) over = (denied_over n c over.0, denied_over n d over.1)
denied_over n (Either c d) over = (denied_over n c over.0, denied_over n d over.1)
denied_over n Always over = tt
denied_over n Never over = tt

-- so have all of some conditions
all_over : (n : ℕ) (cs : List Condition) → All (IsOver n) cs → IsOver n (all_of cs)
all_over n [] each = tt
all_over n (c ∷ []) each = All-head (IsOver n) c [] each
all_over n (c ∷ d ∷ others) each = (All-head (IsOver n) c (d ∷ others) each, all_over n (d ∷ others) (All-tail (IsOver n) c (d ∷ others) each))

-- and one of them
some_over : (n : ℕ) (cs : List Condition) → All (IsOver n) cs → IsOver n (some_of cs)
some_over n [] each = tt
some_over n (c ∷ []) each = All-head (IsOver n) c [] each
some_over n (c ∷ d ∷ others) each = (All-head (IsOver n) c (d ∷ others) each, some_over n (d ∷ others) (All-tail (IsOver n) c (d ∷ others) each))

-- a kind that is not among others differs from each of them
pub differs_at : (others : List ℕ) (kind i d : ℕ) → i < length others → list_any (λ other. other == kind) others ≡ false → kind ≢ get_or others i d
differs_at others kind i d within none same =
    both_ways (list_any (λ (other : ℕ). other == kind) others) none
    (list_any_at (λ (other : ℕ). other == kind) others i d within (eq-eqb (get_or others i d) kind (sym same)))

-- the numbers of messages are those of messages
pub numbers_known : (x : Expanded) → All (λ m. m < length x.messages) (message_numbers x)
numbers_known x k d within =
    let short : k < length x.messages = omega (arith, within, length-range_with_len 0 (length x.messages)) in
    omega (arith, short, get_or-range_with_len 0 (length x.messages) k d short)

-- the kinds of what may have happened are kinds
pub kinds_are : CarriersAreKinds → (x : Expanded) (h : Happening) → IsAboutHappening x h → All (IsKind (plain_variables x)) (kinds_of x h)
kinds_are carried x (happenings.Sent m) about = All-cons (IsKind (plain_variables x)) (sent m) [] (record { from_one = omega arith; up_to = omega (arith, about) }) (All-nil (IsKind (plain_variables x)))
kinds_are carried x (happenings.Received m) about = All-cons (IsKind (plain_variables x)) (received m) [] (record { from_one = omega arith; up_to = omega (arith, about) }) (All-nil (IsKind (plain_variables x)))
kinds_are carried x (happenings.Knows role p) about = carried x role p
kinds_are carried x (happenings.Bound p) about =
    let test = λ (m : ℕ). binds (message_of x m) p in
    All-map (IsKind (plain_variables x)) sent (filter test (message_numbers x))
    (All-weaker (λ m. m < length x.messages) (λ m. IsKind (plain_variables x) (sent m)) (λ m known. record { from_one = omega arith; up_to = omega (arith, known) })
    (filter test (message_numbers x)) (All-filter test (λ m. m < length x.messages) (message_numbers x) (numbers_known x)))

-- kinds of all formulas of a protocol
pub kinds_of_vars : (x : Expanded) (vars : Variables) (kinds : List ℕ) → vars.kinds ≡ kind_count x → All (IsKind (plain_variables x)) kinds → All (IsKind vars) kinds
kinds_of_vars x vars kinds same =
    All-weaker (IsKind (plain_variables x)) (IsKind vars)
    (λ kind is. let up_to = is.up_to in record { from_one = is.from_one; up_to = omega (arith, same, up_to) }) kinds

module _ (x : Expanded) (vars : Variables) (small : IsSmall vars) where
  -- how many variables there are
  abbrev count : ℕ
  count = variable_count vars

  -- the variable of a kind is one of them
  kind_over : (kind : ℕ) → IsKind vars kind → IsOver count (Literal (occurs kind))
  kind_over kind is =
      let up_to = is.up_to in
      let within = small.occurrences_first in
      (is.from_one, omega (arith, up_to, within))

  some_occurs_over : (kinds : List ℕ) → All (IsKind vars) kinds → IsOver count (some_occurs kinds)
  some_occurs_over kinds are =
      some_over count (map (λ kind. Literal (occurs kind)) kinds)
      (All-map (IsOver count) (λ kind. Literal (occurs kind)) kinds (All-weaker (IsKind vars) (λ kind. IsOver count (Literal (occurs kind))) kind_over kinds are))

  module _ (exist : OrderVariablesExist) where
    -- so are those of two kinds
    occurs_before_over : (others : List ℕ) (kind : ℕ) → All (IsKind vars) others → IsKind vars kind → list_any (λ other. other == kind) others ≡ false → IsOver count (occurs_before vars others kind)
    occurs_before_over others kind are is apart =
        let before = λ (other : ℕ). Literal (stands_before vars kind other) in
        all_over count (Literal (occurs kind) ∷ map before others)
        (All-cons (IsOver count) (Literal (occurs kind)) (map before others) (kind_over kind is)
        (All-map (IsOver count) before others (λ k d within. exist vars kind (get_or others k d) is (are k d within) (differs_at others kind k d within apart))))

    some_before_over : (kinds others : List ℕ) → All (IsKind vars) kinds → All (IsKind vars) others → IsOver count (some_before vars kinds others)
    some_before_over kinds others are also =
        let test = λ (kind : ℕ). not (list_any (λ other. other == kind) others) in
        let kept = filter test kinds in
        some_over count (map (occurs_before vars others) kept)
        (All-map (IsOver count) (occurs_before vars others) kept
        (λ k d within. occurs_before_over others (get_or kept k d) also (All-filter test (IsKind vars) kinds are k d within) (not_among (list_any (λ other. other == get_or kept k d) others) (filter_passes test kinds k d within))))
      where
        not_among : (b : _) → not b ≡ true → b ≡ false
        not_among true is = absurd (false≢true is)
        not_among false is = refl

  module _ (carried : CarriersAreKinds) (same : vars.kinds ≡ kind_count x) where
    -- of what a sender has to know
    known_over : (role p : ℕ) → IsOver count (some_occurs (carriers x role p))
    known_over role p = some_occurs_over (carriers x role p) (kinds_of_vars x vars (carriers x role p) same (carried x role p))

    demanded_over : (adornment : Adornment) (c : Condition) → IsOver count c → IsOver count (demanded adornment c)
    demanded_over In c over = over
    demanded_over Out c over = denied_over count c over
    demanded_over Nil c over = denied_over count c over

    sendable_over : (m : ℕ) → IsOver count (sendable x m)
    sendable_over m =
        let message = message_of x m in
        let demand = λ (c : Carried). demanded c.adornment (some_occurs (carriers x message.sender c.param)) in
        all_over count (map demand message.carried)
        (All-map (IsOver count) demand message.carried
        (λ k d within.
        let c = get_or message.carried k d in
        demanded_over c.adornment (some_occurs (carriers x message.sender c.param)) (known_over message.sender c.param)))

    -- of one message at rest
    rests_at_over : (excused : List ℕ) (m : ℕ) → m < length x.messages → IsOver count (rests_at x excused m)
    rests_at_over excused m known =
        let sent_kind : IsKind vars (sent m) = record { from_one = omega arith; up_to = omega (arith, same, known) } in
        let received_kind : IsKind vars (received m) = record { from_one = omega arith; up_to = omega (arith, same, known) } in
        let arrives : IsOver count (arrives_if_sent m) = (kind_over (sent m) sent_kind, kind_over (received m) received_kind) in
        cond_both (list_any (λ other. other == m) excused) (arrives_if_sent m)
        (Both (arrives_if_sent m) (Either (Literal (occurs (sent m))) (denied (sendable x m)))) (IsOver count)
        (λ _. arrives)
        (λ _. (arrives, (kind_over (sent m) sent_kind, denied_over count (sendable x m) (sendable_over m))))

    module _ (exist : OrderVariablesExist) where
      -- of the question
      pub asked_over : (q : Question) → IsAbout x q → IsOver count (asked x vars q)
      asked_over (asks.Happened h) about = some_occurs_over (kinds_of x h) (kinds_of_vars x vars (kinds_of x h) same (kinds_are carried x h about))
      asked_over (asks.Before one other) about =
          some_before_over exist (kinds_of x one) (kinds_of x other)
          (kinds_of_vars x vars (kinds_of x one) same (kinds_are carried x one about.0))
          (kinds_of_vars x vars (kinds_of x other) same (kinds_are carried x other about.1))
      asked_over (asks.Can m) about = sendable_over m
      asked_over (asks.Rest excused) about =
          all_over count (map (rests_at x excused) (message_numbers x))
          (All-map (IsOver count) (rests_at x excused) (message_numbers x)
          (All-weaker (λ m. m < length x.messages) (λ m. IsOver count (rests_at x excused m)) (rests_at_over excused) (message_numbers x) (numbers_known x)))
      asked_over (asks.Not' _ q) about = denied_over count (asked x vars q) (asked_over q about)
      asked_over (asks.And' _ q _ r) about = (asked_over q about.0, asked_over r about.1)
      asked_over (asks.Or' _ q _ r) about = (asked_over q about.0, asked_over r about.1)

-- so has the circuit of the question, by other names of the protocol and the variables
pub circuit_over : CarriersAreKinds → OrderVariablesExist → (x y : Expanded) (vars : Variables) (q : Question) (c : Condition) (n : ℕ) → y ≡ x → vars ≡ plain_variables y → IsSmall vars → IsAbout x q → n ≡ variable_count (plain_variables x) → c ≡ asked y vars q → IsOver n c
circuit_over carried exist x y vars q c n same are small about counted is =
    let plain : vars ≡ plain_variables x = are ∙ ap plain_variables same in
    let kinds : vars.kinds ≡ kind_count x = ap (λ (v : Variables). v.kinds) plain in
    let over = asked_over x vars small carried kinds exist q about in
    let condition : c ≡ asked x vars q = is ∙ ap (λ (z : Expanded). asked z vars q) same in
    let number : n ≡ variable_count vars = counted ∙ ap variable_count (sym plain) in
    subst (λ (m : ℕ). IsOver m c) (sym number) (subst (IsOver (variable_count vars)) (sym condition) over)
