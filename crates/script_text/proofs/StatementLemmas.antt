-- Statements that keep the rules, and one more.
use Rattle.std.proofs.Common.{◌≡◌, ◌<◌, ◌≤◌, ◌||◌, ◌⊎◌, Bool, true, false, List, [], ◌∷◌, ◌++◌, length, drop, refl, sym, ap, subst, ◌∙◌, inl, inr, arith}
use Rattle.std.specs.List.{All, Contains, flat_map, list_any}
use Rattle.std.proofs.lemmas.Bool.{cases_Bool, true≢false}
use Rattle.std.proofs.lemmas.Grind.{flat_map-append}
use Rattle.std.proofs.lemmas.List.Folds.{list_any-append}
use Rattle.std.proofs.lemmas.List.{length_push, map-append, append-nil}
use Rattle.std.proofs.lemmas.List.Elements.{All-nil, All-cons, All-head, All-tail, All-push, All-map, Contains-append_left, Contains-append_right}
use Rattle.bspl_types.specs.declared.value.Value.{Value}
use Rattle.list_base.proofs.Mapped.{all_of_mapped}
use Rattle.list_base.proofs.Members.{cons_cases, here}
use Rattle.agent_scripts.specs.declared.statement.Setting.TheVariants as settings
use Rattle.agent_scripts.specs.declared.statement.Stated.{Stated}
use Rattle.agent_scripts.specs.declared.statement.Statement.{Statement}
use Rattle.agent_scripts.specs.declared.statement.Statement.TheVariants.{Set, Key, Order, Decline, Bind}
use Rattle.agent_scripts.specs.Rules.{HasDistinct, KeepsRules, StandTogether, key_in}
use Rattle.agent_scripts.specs.ScriptText.{KeepRules, statements_of}
use Rattle.script_text.specs.Reading.{HasNumbers}
use Rattle.script_text.specs.inner.Statements.{AreStatements, sets_keys}

-- ---- keys

-- a key that is among them cannot stand with them
key_repeats : (k : List Value) (statements : List Statement) → Contains (flat_map key_in statements) k → All (λ t. StandTogether t (Key k)) statements → ⊥
key_repeats k [] among all = absurd (omega (arith, among.1))
key_repeats k (Key l ∷ statements) among all = elim (cons_cases l (flat_map key_in statements) k among) [
  | inl same ↦ (All-head (λ t. StandTogether t (Key k)) (Key l) statements all) same
  | inr later ↦ key_repeats k statements later (All-tail (λ t. StandTogether t (Key k)) (Key l) statements all)
]
key_repeats k (Set s n ∷ statements) among all = key_repeats k statements among (All-tail (λ t. StandTogether t (Key k)) (Set s n) statements all)
key_repeats k (Order r ms ∷ statements) among all = key_repeats k statements among (All-tail (λ t. StandTogether t (Key k)) (Order r ms) statements all)
key_repeats k (Decline m e ∷ statements) among all = key_repeats k statements among (All-tail (λ t. StandTogether t (Key k)) (Decline m e) statements all)
key_repeats k (Bind m p r ∷ statements) among all = key_repeats k statements among (All-tail (λ t. StandTogether t (Key k)) (Bind m p r) statements all)

-- a line `keys` cannot stand with one
sets_is_apart : (k : List Value) (s : Statement) → sets_keys s ≡ true → StandTogether s (Key k) → ⊥
sets_is_apart k (Set settings.Keys n) sets apart = apart refl
sets_is_apart k (Set settings.Seed n) sets apart = true≢false (sym sets)
sets_is_apart k (Set settings.Loss n) sets apart = true≢false (sym sets)
sets_is_apart k (Set settings.Repeat n) sets apart = true≢false (sym sets)
sets_is_apart k (Key l) sets apart = true≢false (sym sets)
sets_is_apart k (Order r ms) sets apart = true≢false (sym sets)
sets_is_apart k (Decline m e) sets apart = true≢false (sym sets)
sets_is_apart k (Bind m p r) sets apart = true≢false (sym sets)

counted_apart : (k : List Value) (statements : List Statement) → list_any sets_keys statements ≡ true → All (λ t. StandTogether t (Key k)) statements → ⊥
counted_apart k [] sets all = true≢false (sym sets)
counted_apart k (s ∷ statements) sets all = elim (cases_Bool (sets_keys s)) [
  | inl here_sets ↦ sets_is_apart k s here_sets (All-head (λ t. StandTogether t (Key k)) s statements all)
  | inr none ↦ counted_apart k statements (rw none at sets) (All-tail (λ t. StandTogether t (Key k)) s statements all)
]

-- any other statement can
other_stands : (k : List Value) (s : Statement) → sets_keys s ≡ false → (Contains (key_in s) k → ⊥) → StandTogether s (Key k)
other_stands k (Set settings.Keys n) none new = absurd (true≢false none)
other_stands k (Set settings.Seed n) none new = λ e. absurd (cc)
other_stands k (Set settings.Loss n) none new = λ e. absurd (cc)
other_stands k (Set settings.Repeat n) none new = λ e. absurd (cc)
other_stands k (Key l) none new = λ same. new (subst (Contains (l ∷ [])) same (here l []))
other_stands k (Order r ms) none new = tt
other_stands k (Decline m e) none new = tt
other_stands k (Bind m p r) none new = tt

key_stands : (k : List Value) (statements : List Statement) → list_any sets_keys statements ≡ false → (Contains (flat_map key_in statements) k → ⊥) → All (λ t. StandTogether t (Key k)) statements
key_stands k [] none new = All-nil (λ t. StandTogether t (Key k))
key_stands k (s ∷ statements) none new = elim (cases_Bool (sets_keys s)) [
  | inl here_sets ↦ absurd (true≢false (rw here_sets at none))
  | inr other ↦ All-cons (λ t. StandTogether t (Key k)) s statements
      (other_stands k s other (λ among. new (Contains-append_left (key_in s) (flat_map key_in statements) k among)))
      (key_stands k statements (rw other at none) (λ among. new (Contains-append_right (key_in s) (flat_map key_in statements) k among)))
]

-- the keys after one statement more
pub keys_push : (statements : List Statement) (s : Statement) → flat_map key_in (statements ++ s ∷ []) ≡ flat_map key_in statements ++ key_in s
keys_push statements s = flat_map-append key_in statements (s ∷ []) ∙ ap (λ ks. flat_map key_in statements ++ ks) (append-nil (key_in s))

-- a key line keeps the rules exactly if no line `keys` and no equal key stands before it, and there is room
pub key_allowed : (stated : List Stated) (keys : List (List Value)) (counted : Bool) (k : List Value) → AreStatements stated keys counted → counted ≡ false → length keys < 10000 → (Contains keys k → ⊥) → KeepsRules (statements_of stated) (Key k)
key_allowed stated keys counted k are none room new = record {
  together = key_stands k (statements_of stated) (sym are.is_counted ∙ none) (λ among. new (subst (λ ks. Contains ks k) (sym are.key_list) among));
  distinct = tt;
  few_keys =
      let long : length (flat_map key_in (statements_of stated ++ Key k ∷ [])) ≡ length (keys ++ k ∷ []) = ap (length {A = List Value}) (keys_push (statements_of stated) (Key k) ∙ ap (λ ks. ks ++ k ∷ []) (sym are.key_list)) in
      omega (arith, long, length_push keys k);
}

pub key_is_new : (stated : List Stated) (keys : List (List Value)) (counted : Bool) (k : List Value) → AreStatements stated keys counted → KeepsRules (statements_of stated) (Key k) → Contains keys k → ⊥
key_is_new stated keys counted k are keeps among = key_repeats k (statements_of stated) (subst (λ ks. Contains ks k) are.key_list among) keeps.together

pub key_uncounted : (stated : List Stated) (keys : List (List Value)) (counted : Bool) (k : List Value) → AreStatements stated keys counted → KeepsRules (statements_of stated) (Key k) → counted ≡ true → ⊥
key_uncounted stated keys counted k are keeps sets = counted_apart k (statements_of stated) (sym are.is_counted ∙ sets) keeps.together

pub key_has_room : (stated : List Stated) (keys : List (List Value)) (counted : Bool) (k : List Value) → AreStatements stated keys counted → KeepsRules (statements_of stated) (Key k) → length keys < 10000
key_has_room stated keys counted k are keeps =
    let long : length (flat_map key_in (statements_of stated ++ Key k ∷ [])) ≡ length (keys ++ k ∷ []) = ap (length {A = List Value}) (keys_push (statements_of stated) (Key k) ∙ ap (λ ks. ks ++ k ∷ []) (sym are.key_list)) in
    omega (arith, long, length_push keys k, keeps.few_keys)

-- ---- one more

-- a part of a list with one more at its end is that one, or stands before it
pub last_or_before : {X : Type 0} (xs : List X) (x : X) (before : List X) (y : X) (after : List X) → xs ++ x ∷ [] ≡ before ++ y ∷ after → ((before ≡ xs) × (y ≡ x)) ⊎ ((rest : List X) × (xs ≡ before ++ y ∷ rest))
last_or_before [] x [] y after whole = inl (refl, cc)
last_or_before [] x (b ∷ []) y after whole = absurd (cc)
last_or_before [] x (b ∷ c ∷ before) y after whole = absurd (cc)
last_or_before (z ∷ xs) x [] y after whole = inr (xs, cc)
last_or_before (z ∷ xs) x (b ∷ before) y after whole =
    let heads : z ≡ b = cc in
    elim (last_or_before xs x before y after (ap (drop 1) whole)) [
      | inl at_end ↦ inl (cc (at_end.0), at_end.1)
      | inr inside ↦ inr (inside.0, cc (inside.1))
    ]

-- the rules of more statements
pub rules_push : (statements : List Statement) (s : Statement) → KeepRules statements → KeepsRules statements s → KeepRules (statements ++ s ∷ [])
rules_push statements s rules keeps = λ before after t whole. go before after t whole
  where
    go : (before after : List Statement) (t : Statement) → statements ++ s ∷ [] ≡ before ++ t ∷ after → KeepsRules before t
    go before after t whole = elim (last_or_before statements s before t after whole) [
      | inl at_end ↦ rw (at_end.0, at_end.1) keeps
      | inr inside ↦ rules before inside.0 t inside.1
    ]

-- whether `keys` is set, with one more
counted_push : (statements : List Statement) (s : Statement) → (list_any sets_keys statements || sets_keys s) ≡ list_any sets_keys (statements ++ s ∷ [])
counted_push statements s = sym (list_any-append sets_keys statements (s ∷ []) ∙ ap (λ b. list_any sets_keys statements || b) (any_one s))
  where
    any_one : (t : Statement) → list_any sets_keys (t ∷ []) ≡ sets_keys t
    any_one t = elim (cases_Bool (sets_keys t)) [
      | inl one ↦ rw one refl
      | inr none ↦ rw none refl
    ]

-- what else is kept of them
pub statements_push : (stated : List Stated) (s : Stated) → statements_of (stated ++ s ∷ []) ≡ statements_of stated ++ s.statement ∷ []
statements_push stated s = map-append (λ (t : Stated). t.statement) stated (s ∷ [])

pub one_more : (stated : List Stated) (keys : List (List Value)) (counted : Bool) (s : Stated) → AreStatements stated keys counted → KeepsRules (statements_of stated) s.statement → HasNumbers s.statement → AreStatements (stated ++ s ∷ []) (keys ++ key_in s.statement) (counted || sets_keys s.statement)
one_more stated keys counted s are keeps numbers =
    let all = statements_push stated s in
    let statements = statements_of stated in
    let list : keys ++ key_in s.statement ≡ flat_map key_in (statements ++ s.statement ∷ []) = ap (λ ks. ks ++ key_in s.statement) are.key_list ∙ sym (keys_push statements s.statement) in
    record {
      rules = rw all (rules_push statements s.statement are.rules keeps);
      numbers = rw all (All-push HasNumbers statements s.statement are.numbers numbers);
      key_list = rw all list;
      few_keys = rw list keeps.few_keys;
      is_counted = rw all (ap (λ b. b || sets_keys s.statement) are.is_counted ∙ counted_push statements s.statement);
    }

-- a statement without a key
pub no_key : (s : Statement) → ((k : List Value) → s ≡ Key k → ⊥) → key_in s ≡ []
no_key (Key k) other = absurd (other k refl)
no_key (Set a n) other = refl
no_key (Order r ms) other = refl
no_key (Decline m e) other = refl
no_key (Bind m p r) other = refl

pub other_allowed : (stated : List Stated) (s : Statement) → length (flat_map key_in (statements_of stated)) ≤ 10000 → ((k : List Value) → s ≡ Key k → ⊥) → All (λ t. StandTogether t.statement s) stated → HasDistinct s → KeepsRules (statements_of stated) s
other_allowed stated s few other all distinct = record {
  together = All-map (λ t. StandTogether t s) (λ (t : Stated). t.statement) stated all;
  distinct = distinct;
  few_keys =
      let same : flat_map key_in (statements_of stated ++ s ∷ []) ≡ flat_map key_in (statements_of stated) = keys_push (statements_of stated) s ∙ ap (λ ks. flat_map key_in (statements_of stated) ++ ks) (no_key s other) ∙ append-nil (flat_map key_in (statements_of stated)) in
      rw same few;
}

pub allowed_stands : (stated : List Stated) (s : Statement) → KeepsRules (statements_of stated) s → All (λ t. StandTogether t.statement s) stated
allowed_stands stated s keeps = all_of_mapped (λ t. StandTogether t s) (λ (t : Stated). t.statement) stated keeps.together

-- the key of a statement that keeps the rules is new
pub key_in_is_new : (stated : List Stated) (keys : List (List Value)) (counted : Bool) (s : Statement) → AreStatements stated keys counted → KeepsRules (statements_of stated) s → All (λ k. ¬ Contains keys k) (key_in s)
key_in_is_new stated keys counted (Key k) are keeps = All-cons (λ l. ¬ Contains keys l) k [] (key_is_new stated keys counted k are keeps) (All-nil (λ l. ¬ Contains keys l))
key_in_is_new stated keys counted (Set a n) are keeps = All-nil (λ l. ¬ Contains keys l)
key_in_is_new stated keys counted (Order r ms) are keeps = All-nil (λ l. ¬ Contains keys l)
key_in_is_new stated keys counted (Decline m e) are keeps = All-nil (λ l. ¬ Contains keys l)
key_in_is_new stated keys counted (Bind m p r) are keeps = All-nil (λ l. ¬ Contains keys l)
