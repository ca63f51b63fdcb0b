-- Which kinds the lists of kinds have, and which messages rivals are.
use Rattle.std.proofs.Common.{ℕ, ◌+◌, ◌<◌, ◌≤◌, List, [], ◌∷◌, length, map, get_or, sym, ap, ◌∙◌, arith}
use Rattle.std.specs.Prelude.{not, ◌==◌}
use Rattle.std.specs.List.{All, filter, range_with_len}
use Rattle.std.proofs.lemmas.Bool.{cond_both, eq-eqb, false≢true}
use Rattle.std.proofs.lemmas.List.Elements.{All-append, All-filter, All-head, All-map, All-nil, All-tail, All-weaker, filter_passes}
use Rattle.bspl_types.specs.declared.expanded.Expanded.{Expanded}
use Rattle.bspl_types.specs.Expansion.{message_of}
use Rattle.clause_encoding.specs.declared.rivals.Rivals.{Rivals}
use Rattle.clause_encoding.specs.Carriers.{binds, carriers, kinds_at, sender_carriers}
use Rattle.clause_encoding.specs.Formula.{plain_variables}
use Rattle.clause_encoding.specs.Laws.{CarriersAreKinds}
use Rattle.clause_encoding.specs.Rivals.{producers_of, produces, rivals_among, rivals_of}
use Rattle.clause_encoding.specs.Variables.{IsKind, kind_count, message_numbers, received, sent}
use Rattle.clause_encoding.specs.inner.Kinds.{AreWithin, IsOtherKind}
use Rattle.clause_encoding.proofs.FilterLemmas.{all_flat_map, all_one}
use Rattle.clause_encoding.proofs.RangeLemmas.{range_members}

-- the kind is one of the protocol's
abbrev pub Exists : Expanded → ℕ → Type 0
Exists x kind = (0 < kind) × (kind ≤ kind_count x)

-- the kinds of a message exist
pub sent_exists : (x : Expanded) (m : ℕ) → m < length x.messages → Exists x (sent m)
sent_exists x m known = (omega arith, omega arith)

-- and its reception
pub received_exists : (x : Expanded) (m : ℕ) → m < length x.messages → Exists x (received m)
received_exists x m known = (omega arith, omega arith)

-- the numbers of messages are below their count
pub numbers_known : (x : Expanded) → All (λ m. m < length x.messages) (message_numbers x)
numbers_known x = All-weaker (λ m. (0 ≤ m) × (m < 0 + length x.messages)) (λ m. m < length x.messages) (λ m within. omega (arith, within.1)) (message_numbers x) (range_members 0 (length x.messages))

-- the kinds of a message at a role exist
kinds_exist : (x : Expanded) (role m : ℕ) → m < length x.messages → All (Exists x) (kinds_at x role m)
kinds_exist x role m known =
    let at_sender = cond_both ((message_of x m).sender == role) (sent m ∷ []) [] (All (Exists x)) (λ _. all_one (Exists x) (sent m) (sent_exists x m known)) (λ _. All-nil (Exists x)) in
    let at_receiver = cond_both ((message_of x m).receiver == role) (received m ∷ []) [] (All (Exists x)) (λ _. all_one (Exists x) (received m) (received_exists x m known)) (λ _. All-nil (Exists x)) in
    All-append (Exists x) _ _ at_sender at_receiver

-- the kinds that make a parameter known exist
carriers_exist : (x : Expanded) (role p : ℕ) → All (Exists x) (carriers x role p)
carriers_exist x role p =
    let test = λ (m : ℕ). binds (message_of x m) p in
    let known = All-filter test (λ m. m < length x.messages) (message_numbers x) (numbers_known x) in
    all_flat_map (Exists x) (kinds_at x role) (filter test (message_numbers x))
    (All-weaker (λ m. m < length x.messages) (λ m. All (Exists x) (kinds_at x role m)) (λ m. kinds_exist x role m) (filter test (message_numbers x)) known)

-- so they are kinds of each formula
pub carriers_are_kinds : CarriersAreKinds
carriers_are_kinds x role p =
    All-weaker (Exists x) (IsKind (plain_variables x)) (λ kind exists. record { from_one = exists.0; up_to = exists.1 }) (carriers x role p) (carriers_exist x role p)

-- those at the sender that are not the emission exist, and differ from it
pub other_kinds : (x : Expanded) (m p : ℕ) → All (IsOtherKind x m) (sender_carriers x m p)
other_kinds x m p k d within =
    let test = λ (kind : ℕ). not (kind == sent m) in
    let all = carriers x (message_of x m).sender p in
    let exists = All-filter test (Exists x) all (carriers_exist x (message_of x m).sender p) k d within in
    let passes = filter_passes test all k d within in
    record {
      from_one = exists.0;
      up_to = exists.1;
      other = λ same. false≢true (sym (ap not (eq-eqb (get_or (sender_carriers x m p) k d) (sent m) same)) ∙ passes);
    }

-- each two of some messages are messages
among_within : (n p : ℕ) (ms : List ℕ) → All (λ m. m < n) ms → All (AreWithin n) (rivals_among p ms)
among_within n p [] each = All-nil (AreWithin n)
among_within n p (m ∷ others) each =
    let Known = λ (k : ℕ). k < n in
    let with = λ (k : ℕ). (let pair : Rivals = record { param = p; first = m; second = k } in pair) in
    let first = All-head Known m others each in
    let rest = All-tail Known m others each in
    let pairs = All-map (AreWithin n) with others (All-weaker Known (λ k. AreWithin n (with k)) (λ k known. record { first = first; second = known }) others rest) in
    All-append (AreWithin n) (map with others) (rivals_among p others) pairs (among_within n p others rest)

-- rivals are messages
pub rivals_within : (x : Expanded) → All (AreWithin (length x.messages)) (rivals_of x)
rivals_within x =
    let n = length x.messages in
    let each = λ (p : ℕ). among_within n p (producers_of x p) (All-filter (λ m. produces (message_of x m) p) (λ m. m < n) (message_numbers x) (numbers_known x)) in
    all_flat_map (AreWithin n) (λ p. rivals_among p (producers_of x p)) (range_with_len 0 (length x.params)) (λ k d _. each (get_or (range_with_len 0 (length x.params)) k d))
