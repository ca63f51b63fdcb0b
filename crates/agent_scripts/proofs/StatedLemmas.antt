-- What the statements of a text give fits the protocol.
use Rattle.std.proofs.Common.{◌≡◌, ℕ, zero, suc, ◌+◌, ◌<◌, true, List, [], ◌∷◌, length, map, get_or, Some, slice_get, refl, sym, ◌∙◌, ap, subst, arith, ⊎_elim}
use Rattle.std.specs.Prelude.{◌==◌, not}
use Rattle.std.specs.List.{All, Contains, AllZip, filter, flat_map, list_any, enumerate_from}
use Rattle.std.proofs.lemmas.Bool.{cases_Bool, true≢false}
use Rattle.std.proofs.lemmas.Bool.Decides.{nat_tests}
use Rattle.std.proofs.lemmas.List.Elements.{All-nil, All-cons, All-append, All-filter, Contains-append_left, Contains-append_right}
use Rattle.list_base.proofs.Filtered.{kept_member}
use Rattle.list_base.proofs.Members.{here_same, there}
use Rattle.std.proofs.lemmas.List.{length-replicate}
use Rattle.std.proofs.lemmas.Option.{slice_get_within, same_Some}
use Rattle.bspl_types.specs.declared.expanded.Expanded.{Expanded}
use Rattle.bspl_types.specs.declared.protocol.Message.{Message}
use Rattle.bspl_types.specs.declared.value.Value.{Value}
use Rattle.bspl_types.specs.declared.value.Value.TheVariants.{Number}
use Rattle.bspl_types.specs.Expansion.{message_of, no_message}
use Rattle.agent_scripts.specs.declared.statement.Setting.TheVariants as settings
use Rattle.agent_scripts.specs.declared.statement.Stated.{Stated}
use Rattle.agent_scripts.specs.declared.statement.Statement.{Statement}
use Rattle.agent_scripts.specs.declared.statement.Statement.TheVariants.{Set, Key, Order, Decline, Bind}
use Rattle.agent_scripts.specs.StatedScript.{counted_keys, keys_given, setting_of, sent_by, order_in, order_of, orders_given}
use Rattle.agent_scripts.specs.Laws.{FitsProtocol}
use Rattle.agent_scripts.specs.Refusal.{IsScriptFor}
use Rattle.agent_scripts.specs.Rules.{key_in}
use Rattle.agent_scripts.specs.Script.{Script}
use Rattle.agent_scripts.specs.ScriptText.{MeansAt, statements_of}
use Rattle.agent_scripts.specs.Statement.{IsSentBy, IsDeclaredIn, Means}

-- these messages are those of the protocol from number k on
pub record AreFrom (x : Expanded) (k : ℕ) (messages : List Message) : Type 0 where
  pub at : (i : ℕ) → i < length messages → (k + i < length x.messages) × (message_of x (k + i) ≡ get_or messages i no_message)

equal_test : (m n : ℕ) → (m == n) ≡ true → m ≡ n
equal_test m n passes = grind (arith, nat_tests)

-- those of them whose sender passes are sent by the role
numbered : (x : Expanded) (role k : ℕ) (messages : List Message) → AreFrom x k messages → All (IsSentBy x role) (map (λ (m, _). m) (filter (λ (_, m). m.sender == role) (enumerate_from k messages)))
numbered x role k [] from = All-nil (IsSentBy x role)
numbered x role k (m ∷ messages) from =
    let later : AreFrom x (k + 1) messages = record {
      at = λ i within.
          let next = from.at (suc i) (omega (arith, within)) in
          let same : k + suc i ≡ k + 1 + i = omega arith in
          subst (λ n. (n < length x.messages) × (message_of x n ≡ get_or messages i no_message)) same next;
    } in
    let rest = numbered x role (k + 1) messages later in
    let here = from.at 0 (omega arith) in
    let this : k + 0 ≡ k = omega arith in
    ⊎_elim
    (λ yes.
    let first : IsSentBy x role k = subst (λ n. IsSentBy x role n) this (here.0, ap (λ (n : Message). n.sender) here.1 ∙ equal_test m.sender role yes) in
    rw yes (All-cons (IsSentBy x role) k _ first rest))
    (λ none. rw none rest)
    (cases_Bool (m.sender == role))

-- the role sends what it sends
all_sent : (x : Expanded) (role : ℕ) → All (IsSentBy x role) (sent_by x role)
all_sent x role = numbered x role 0 x.messages (record {
  at = λ i within. let same : i ≡ 0 + i = omega arith in
      subst (λ n. (n < length x.messages) × (message_of x n ≡ get_or x.messages i no_message)) same (within, refl);
})

-- the messages that a known statement orders for the role are sent by it
of_statement : (x : Expanded) (role : ℕ) (s : Statement) → IsDeclaredIn x s → All (IsSentBy x role) (order_in role s)
of_statement x role (Order other messages) known = ⊎_elim
    (λ yes. rw yes (subst (λ r. All (IsSentBy x r) messages) (equal_test other role yes) known.1))
    (λ none. rw none (All-nil (IsSentBy x role)))
    (cases_Bool (other == role))
of_statement x role (Set _ _) known = All-nil (IsSentBy x role)
of_statement x role (Key _) known = All-nil (IsSentBy x role)
of_statement x role (Decline _ _) known = All-nil (IsSentBy x role)
of_statement x role (Bind _ _ _) known = All-nil (IsSentBy x role)

-- and so are those that all statements order for it
ordered : (x : Expanded) (role : ℕ) (lines : List (ℕ × List ℕ)) (stated : List Stated) → AllZip (MeansAt x) lines stated → All (IsSentBy x role) (flat_map (order_in role) (statements_of stated))
ordered x role [] [] said = All-nil (IsSentBy x role)
ordered x role [] (s ∷ stated) said = absurd said
ordered x role (line ∷ lines) [] said = absurd said
ordered x role ((n, line) ∷ lines) (s ∷ stated) said =
    All-append (IsSentBy x role) _ _ (of_statement x role s.statement said.0.1.known) (ordered x role lines stated said.1)

-- an order has messages alone that the role sends
order_sent : (x : Expanded) (role : ℕ) (lines : List (ℕ × List ℕ)) (stated : List Stated) → AllZip (MeansAt x) lines stated → All (IsSentBy x role) (order_of x (statements_of stated) role)
order_sent x role lines stated said =
    let first = flat_map (order_in role) (statements_of stated) in
    All-append (IsSentBy x role) _ _ (ordered x role lines stated said) (All-filter _ (IsSentBy x role) (sent_by x role) (all_sent x role))

-- the test finds equal numbers equal
equal_found : (m n : ℕ) → m ≡ n → (m == n) ≡ true
equal_found m n same = grind (arith, nat_tests)

-- each of them that the role sends is among those whose sender passes
numbered_whole : (x : Expanded) (role k : ℕ) (messages : List Message) (i : ℕ) → i < length messages → (get_or messages i no_message).sender ≡ role → Contains (map (λ (m, _). m) (filter (λ (_, m). m.sender == role) (enumerate_from k messages))) (k + i)
numbered_whole x role k [] i within sends = absurd (omega (arith, within))
numbered_whole x role k (m ∷ messages) zero within sends =
    let this : k ≡ k + 0 = omega arith in
    let passes = equal_found m.sender role sends in
    rw passes (here_same k _ (k + 0) this)
numbered_whole x role k (m ∷ messages) (suc i) within sends =
    let same : k + 1 + i ≡ k + suc i = omega arith in
    let rest = map (λ (n, _). n) (filter (λ (_, n). n.sender == role) (enumerate_from (k + 1) messages)) in
    let later : Contains rest (k + suc i) = subst (λ n. Contains rest n) same (numbered_whole x role (k + 1) messages i (omega (arith, within)) sends) in
    ⊎_elim
    (λ yes. rw yes (there k rest (k + suc i) later))
    (λ none. rw none later)
    (cases_Bool (m.sender == role))

sent_whole : (x : Expanded) (role m : ℕ) → IsSentBy x role m → Contains (sent_by x role) m
sent_whole x role m sends =
    let same : 0 + m ≡ m = omega arith in
    subst (λ n. Contains (sent_by x role) n) same (numbered_whole x role 0 x.messages m sends.0 sends.1)

-- a number that the test finds is among them
number_found : (numbers : List ℕ) (m : ℕ) → list_any (λ n. n == m) numbers ≡ true → Contains numbers m
number_found [] m found = absurd (true≢false (sym found))
number_found (n ∷ numbers) m found = ⊎_elim
    (λ yes. here_same n numbers m (equal_test n m yes))
    (λ none. there n numbers m (number_found numbers m (rw none at found)))
    (cases_Bool (n == m))

-- an order has each message that the role sends
order_whole : (x : Expanded) (statements : List Statement) (role m : ℕ) → IsSentBy x role m → Contains (order_of x statements role) m
order_whole x statements role m sends =
    let first = flat_map (order_in role) statements in
    let others = λ (n : ℕ). not (list_any (λ k. k == n) first) in
    ⊎_elim
    (λ yes. Contains-append_left first _ m (number_found first m yes))
    (λ none.
    let other : others m ≡ true = rw none refl in
    Contains-append_right first _ m (kept_member others (sent_by x role) m other (sent_whole x role m sends)))
    (cases_Bool (list_any (λ n. n == m) first))

-- a list over places, place by place
over_length : {X A : Type 0} (f : ℕ → A) (k : ℕ) (xs : List X) → length (map (λ (n, _). f n) (enumerate_from k xs)) ≡ length xs
over_length f k [] = refl
over_length f k (x ∷ xs) = ap suc (over_length f (k + 1) xs)

over_at : {X A : Type 0} (f : ℕ → A) (k : ℕ) (xs : List X) (i : ℕ) → i < length xs → slice_get (map (λ (n, _). f n) (enumerate_from k xs)) i ≡ Some (f (k + i))
over_at f k [] i within = absurd (omega (arith, within))
over_at f k (x ∷ xs) i within = elim i as (λ j. j < length (x ∷ xs) → slice_get (map (λ (n, _). f n) (enumerate_from k (x ∷ xs))) j ≡ Some (f (k + j))) [
  | zero ↦ λ _. let same : k ≡ k + 0 = omega arith in ap (λ n. Some (f n)) same
  | suc j ↦ λ below. let same : k + 1 + j ≡ k + suc j = omega arith in over_at f (k + 1) xs j (omega (arith, below)) ∙ ap (λ n. Some (f n)) same
] within

-- as many values as the protocol has keys
abbrev pub HasWidth : ℕ → List Value → Type 0
HasWidth width key = length key ≡ width

counted_width : (width n : ℕ) → All (HasWidth width) (counted_keys width n)
counted_width width zero = All-nil (HasWidth width)
counted_width width (suc n) = All-append (HasWidth width) _ _ (counted_width width n) (All-cons (HasWidth width) _ [] (length-replicate width (Number (suc n))) (All-nil (HasWidth width)))

key_width : (x : Expanded) (fields : List (List ℕ)) (s : Statement) → Means x fields s → All (HasWidth (length x.keys)) (key_in s)
key_width x fields (Key values) says = All-cons (HasWidth (length x.keys)) values [] says.in_table.0 (All-nil (HasWidth (length x.keys)))
key_width x fields (Set _ _) says = All-nil (HasWidth (length x.keys))
key_width x fields (Order _ _) says = All-nil (HasWidth (length x.keys))
key_width x fields (Decline _ _) says = All-nil (HasWidth (length x.keys))
key_width x fields (Bind _ _ _) says = All-nil (HasWidth (length x.keys))

listed_width : (x : Expanded) (lines : List (ℕ × List ℕ)) (stated : List Stated) → AllZip (MeansAt x) lines stated → All (HasWidth (length x.keys)) (flat_map key_in (statements_of stated))
listed_width x [] [] said = All-nil (HasWidth (length x.keys))
listed_width x [] (s ∷ stated) said = absurd said
listed_width x (line ∷ lines) [] said = absurd said
listed_width x ((n, line) ∷ lines) (s ∷ stated) said =
    All-append (HasWidth (length x.keys)) _ _ (key_width x _ s.statement said.0.1) (listed_width x lines stated said.1)

given_width : (x : Expanded) (lines : List (ℕ × List ℕ)) (stated : List Stated) → AllZip (MeansAt x) lines stated → All (HasWidth (length x.keys)) (keys_given (length x.keys) (statements_of stated))
given_width x lines stated said = ⊎_elim
    (λ yes. rw yes (counted_width (length x.keys) (setting_of (statements_of stated) settings.Keys 1)))
    (λ none. rw none (listed_width x lines stated said))
    (cases_Bool (length (flat_map key_in (statements_of stated)) == 0))

-- the order at a role's place is the role's
order_is : (x : Expanded) (statements : List Statement) (role : ℕ) (order : List ℕ) → slice_get (orders_given x statements) role ≡ Some order → order_of x statements role ≡ order
order_is x statements role order at =
    let below : role < length x.roles = subst (λ n. role < n) (over_length (order_of x statements) 0 x.roles) (slice_get_within _ role order at) in
    let there_is = over_at (order_of x statements) 0 x.roles role below in
    let same : role ≡ 0 + role = omega arith in
    ap (order_of x statements) same ∙ same_Some _ _ (sym there_is ∙ at)

pub script_fits : (x : Expanded) (script : Script) → IsScriptFor x script → FitsProtocol x script
script_fits x script for_it =
    let stated = for_it.gives.stated in
    let statements = statements_of stated in
    let read = for_it.gives.read in
    let given = for_it.gives.script_given in
    record {
      keys = rw given.keys (given_width x read.before stated read.said);
      roles = rw given.orders (over_length (order_of x statements) 0 x.roles);
      sent = λ role order is.
          let same = order_is x statements role order (ap (λ os. slice_get os role) (sym given.orders) ∙ is) in
          subst (λ o. All (IsSentBy x role) o) same (order_sent x role read.before stated read.said);
      whole = λ role order is m sends.
          let same = order_is x statements role order (ap (λ os. slice_get os role) (sym given.orders) ∙ is) in
          subst (λ o. Contains o m) same (order_whole x statements role m sends);
    }
