-- An event takes its pair out of those without an event.
use Rattle.std.proofs.Common.{◌≡◌, ℕ, zero, suc, ◌+◌, ◌<◌, ◌≤◌, Bool, true, false, List, [], ◌∷◌, ◌++◌, length, map, get_or, refl, sym, ◌∙◌, ap, subst, arith, inl, inr, ⊎_elim, Contains}
use Rattle.std.specs.Prelude.{◌==◌, ◌||◌, ◌&&◌, not}
use Rattle.std.specs.List.{filter, list_any, enumerate_from}
use Rattle.std.proofs.lemmas.Bool.{cases_Bool, both_ways, cond-true, cond-false, true≢false}
use Rattle.std.proofs.lemmas.Bool.Decides.{Decides-eqb}
use Rattle.std.proofs.lemmas.List.Elements.{All-contains_itself, Contains-append_left, Contains-append_right}
use Rattle.std.proofs.lemmas.List.Folds.{list_any-append, list_any_none}
use Rattle.list_base.proofs.Members.{cons_cases, here_same, nowhere, there}
use Rattle.bspl_types.specs.declared.event.Event.{Event}
use Rattle.bspl_types.specs.declared.event.Event.TheVariants.{Emit, Receive}
use Rattle.bspl_types.specs.declared.expanded.Expanded.{Expanded}
use Rattle.bspl_types.specs.declared.protocol.Message.{Message}
use Rattle.bspl_types.specs.declared.value.Value.{Value}
use Rattle.bspl_types.specs.Expansion.{message_of, no_message}
use Rattle.bspl_types.specs.History.{instance_of, role_of}
use Rattle.bspl_types.specs.Value.{equal_values, EqualValuesAreOne}
use Rattle.adapter.specs.Pending.{is_of_pair, messages_of, pairs_of, pending}

-- an item that passes is one more, and another is none
kept : {X : Type 0} (p : X → Bool) (y : X) (ys : List X) → p y ≡ true → length (filter p (y ∷ ys)) ≡ length (filter p ys) + 1
kept p y ys passes = let one = ap length (cond-true (p y) (y ∷ filter p ys) (filter p ys) passes) in omega (arith, one)

dropped : {X : Type 0} (p : X → Bool) (y : X) (ys : List X) → p y ≡ false → length (filter p (y ∷ ys)) ≡ length (filter p ys)
dropped p y ys fails = ap length (cond-false (p y) (y ∷ filter p ys) (filter p ys) fails)

-- a narrower test passes no more items
no_more : {X : Type 0} (p q : X → Bool) (xs : List X) → ((y : X) → p y ≡ true → q y ≡ true) → length (filter p xs) ≤ length (filter q xs)
no_more p q [] narrow = omega arith
no_more p q (y ∷ ys) narrow =
    let rest = no_more p q ys narrow in
    ⊎_elim
    (λ yes. omega (arith, rest, kept p y ys yes, kept q y ys (narrow y yes)))
    (λ none. ⊎_elim (λ other. omega (arith, rest, dropped p y ys none, kept q y ys other)) (λ other. omega (arith, rest, dropped p y ys none, dropped q y ys other)) (cases_Bool (q y)))
    (cases_Bool (p y))

-- and fewer, if an item fails it that passes the other
fewer : {X : Type 0} (p q : X → Bool) (xs : List X) (x : X) → ((y : X) → p y ≡ true → q y ≡ true) → Contains xs x → q x ≡ true → p x ≡ false → length (filter p xs) < length (filter q xs)
fewer p q [] x narrow among passes fails = absurd (nowhere x among)
fewer {X} p q (y ∷ ys) x narrow among passes fails = elim (cons_cases y ys x among) [
  | inl is ↦ omega (arith, no_more p q ys narrow, dropped p y ys (ap p is ∙ fails), kept q y ys (ap q is ∙ passes))
  | inr later ↦
      let rest = fewer p q ys x narrow later passes fails in
      ⊎_elim
      (λ yes. omega (arith, rest, kept p y ys yes, kept q y ys (narrow y yes)))
      (λ none. ⊎_elim (λ other. omega (arith, rest, dropped p y ys none, kept q y ys other)) (λ other. omega (arith, rest, dropped p y ys none, dropped q y ys other)) (cases_Bool (q y)))
      (cases_Bool (p y))
]

-- the messages that pass, by their numbers
numbered : (p : Message → Bool) (k : ℕ) (messages : List Message) (i : ℕ) → i < length messages → p (get_or messages i no_message) ≡ true → Contains (map (λ (m, _). m) (filter (λ (_, m). p m) (enumerate_from k messages))) (k + i)
numbered p k [] i within passes = absurd (omega (arith, within))
numbered p k (m ∷ messages) zero within passes =
    let this : k ≡ k + 0 = omega arith in
    rw passes (here_same k _ (k + 0) this)
numbered p k (m ∷ messages) (suc i) within passes =
    let same : k + 1 + i ≡ k + suc i = omega arith in
    let rest = map (λ (n, _). n) (filter (λ (_, n). p n) (enumerate_from (k + 1) messages)) in
    let later : Contains rest (k + suc i) = subst (λ n. Contains rest n) same (numbered p (k + 1) messages i (omega (arith, within)) passes) in
    ⊎_elim
    (λ yes. rw yes (there k rest (k + suc i) later))
    (λ none. rw none later)
    (cases_Bool (p m))

either : (a b : Bool) → b ≡ true → (a || b) ≡ true
either true b is = refl
either false b is = is

-- the message of a role's event is one of the role's
of_role : (x : Expanded) (role : ℕ) (e : Event) → role_of x e ≡ role → ((message_of x (instance_of e).message).sender == role || (message_of x (instance_of e).message).receiver == role) ≡ true
of_role x role (Emit i) own = rw ((Decides-eqb (message_of x i.message).sender role).1 own) refl
of_role x role (Receive i) own = either _ _ ((Decides-eqb (message_of x i.message).receiver role).1 own)

pub own_message : (x : Expanded) (role : ℕ) (e : Event) → (instance_of e).message < length x.messages → role_of x e ≡ role → Contains (messages_of x role) (instance_of e).message
own_message x role e within own =
    let m : ℕ = (instance_of e).message in
    let same : 0 + m ≡ m = omega arith in
    subst (λ n. Contains (messages_of x role) n) same (numbered (λ s. s.sender == role || s.receiver == role) 0 x.messages m within (of_role x role e own))

-- a key with a message
abbrev pub Pair : Type 0
Pair = List Value × ℕ

paired : (key : List Value) (messages : List ℕ) (m : ℕ) → Contains messages m → Contains {X = Pair} (map (λ n. (key, n)) messages) (key, m)
paired key [] m among = absurd (nowhere m among)
paired key (n ∷ messages) m among =
    let first : Pair = (key, n) in
    let sought : Pair = (key, m) in
    let rest : List Pair = map (λ k. (key, k)) messages in
    elim (cons_cases n messages m among) [
      | inl is ↦ let same : first ≡ sought = λ i. (key, is i) in here_same first rest sought same
      | inr later ↦ there first rest sought (paired key messages m later)
    ]

-- is among the pairs
pub among_pairs : (keys : List (List Value)) (messages : List ℕ) (key : List Value) (m : ℕ) → Contains keys key → Contains messages m → Contains {X = Pair} (pairs_of keys messages) (key, m)
among_pairs [] messages key m keyed among = absurd (nowhere key keyed)
among_pairs (k ∷ keys) messages key m keyed among =
    let sought : Pair = (key, m) in
    let first : List Pair = map (λ n. (k, n)) messages in
    elim (cons_cases k keys key keyed) [
      | inl is ↦ Contains-append_left first (pairs_of keys messages) sought (subst (λ (l : List Value). Contains {X = Pair} (map (λ n. (l, n)) messages) (key, m)) (sym is) (paired key messages m among))
      | inr later ↦ Contains-append_right first (pairs_of keys messages) sought (among_pairs keys messages key m later among)
    ]

both : (a b : Bool) → a ≡ true → b ≡ true → (a && b) ≡ true
both true b one other = other
both false b one other = one

parts : (a b : Bool) → (a && b) ≡ true → (a ≡ true) × (b ≡ true)
parts true b is = (refl, is)
parts false b is = absurd (true≢false (sym is))

-- the event is of its own pair
of_own_pair : EqualValuesAreOne → (e : Event) → is_of_pair ((instance_of e).key, (instance_of e).message) e ≡ true
of_own_pair equal e = both _ _ ((equal (instance_of e).key (instance_of e).key).1 refl) ((Decides-eqb (instance_of e).message (instance_of e).message).1 refl)

-- no event of the message is under the key
abbrev pub HasNone : List Event → List Value → ℕ → Type 0
HasNone history key m = (f : Event) → Contains history f → (instance_of f).key ≡ key → (instance_of f).message ≡ m → ⊥

-- then none is of their pair
not_of_pair : EqualValuesAreOne → (history : List Event) (key : List Value) (m : ℕ) → HasNone history key m → (f : Event) → Contains history f → is_of_pair (key, m) f ≡ false
not_of_pair equal history key m none f among = ⊎_elim
    (λ yes.
    let two = parts (equal_values (instance_of f).key key) ((instance_of f).message == m) yes in
    absurd (none f among ((equal (instance_of f).key key).0 two.0) ((Decides-eqb (instance_of f).message m).0 two.1)))
    (λ no'. no')
    (cases_Bool (is_of_pair (key, m) f))

-- a pair that is not passed by another event
of_none : (history : List Event) (pair : List Value × ℕ) → ((f : Event) → Contains history f → is_of_pair pair f ≡ false) → list_any (is_of_pair pair) history ≡ false
of_none history pair none = list_any_none (is_of_pair pair) history (λ k d within. none (get_or history k d) (All-contains_itself history k d within))

-- one event of a new pair makes the pairs without an event fewer
pub fewer_pending : (x : Expanded) (role : ℕ) (keys : List (List Value)) (history : List Event) (e : Event) → EqualValuesAreOne → Contains keys (instance_of e).key → (instance_of e).message < length x.messages → role_of x e ≡ role → HasNone history (instance_of e).key (instance_of e).message → length (pending (history ++ e ∷ []) (pairs_of keys (messages_of x role))) < length (pending history (pairs_of keys (messages_of x role)))
fewer_pending x role keys history e equal keyed within own none =
    let pair : List Value × ℕ = ((instance_of e).key, (instance_of e).message) in
    let test = λ (es : List Event) (p : List Value × ℕ). not (list_any (is_of_pair p) es) in
    fewer (test (history ++ e ∷ [])) (test history) (pairs_of keys (messages_of x role)) pair
    (λ p passes. narrower p passes)
    (among_pairs keys (messages_of x role) pair.0 pair.1 keyed (own_message x role e within own))
    (ap not (of_none history pair (not_of_pair equal history pair.0 pair.1 none)))
    (ap not (list_any-append (is_of_pair pair) history (e ∷ []) ∙ either _ _ (ap (λ b. b || false) (of_own_pair equal e))))
  where
    narrower : (p : List Value × ℕ) → not (list_any (is_of_pair p) (history ++ e ∷ [])) ≡ true → not (list_any (is_of_pair p) history) ≡ true
    narrower p passes = ⊎_elim
        (λ yes. absurd (both_ways (not (list_any (is_of_pair p) (history ++ e ∷ []))) (ap not (list_any-append (is_of_pair p) history (e ∷ []) ∙ ap (λ b. b || list_any (is_of_pair p) (e ∷ [])) yes)) passes))
        (λ none. ap not none)
        (cases_Bool (list_any (is_of_pair p) history))
