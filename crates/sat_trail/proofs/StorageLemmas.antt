-- What the cells keep when an entry is set or taken out.
use Rattle.std.proofs.Common.{option_map, ◌≡◌, ◌≢◌, ℕ, zero, suc, ◌+◌, ◌-◌, ◌<◌, ◌≤◌, Bool, true, false, not, Option, Some, None, List, [], ◌∷◌, ◌++◌, inl, inr, length, take, get_or, set, sym, ap, refl, ◌∙◌, subst, append_assoc, arith, is_some, AllPairs, Contains, cond, length-set, get_or-set_same, get_or-set_other}
use Rattle.std.specs.Prelude.{◌↔◌}
use Rattle.std.specs.List.{count_by}
use Rattle.std.proofs.lemmas.Bool.{cases_eq}
use Rattle.std.proofs.lemmas.List.{get_or_append_left, get_or_push, length_push, length-take-le, take_more, take_more_set, take_all, get_or_default}
use Rattle.std.proofs.lemmas.List.Elements.{All-push, All-cons, All-contains, Contains-push}
use Rattle.std.proofs.lemmas.List.Quantifiers.{all_pairs_push}
use Rattle.std.proofs.lemmas.List.Sums.{sum_by-cons, sum_by-set, count_by-le-length}
use Rattle.clause_core.specs.declared.literal.Lit.{Lit}
use Rattle.clause_core.specs.Literal.{rank, negated}
use Rattle.sat_trail.specs.declared.entry.Entry.{Entry}
use Rattle.sat_trail.specs.Entry.{entry_of, values_of, last_level}
use Rattle.sat_trail.specs.declared.value.Value.{Value}
use Rattle.sat_trail.specs.declared.value.Value.TheVariants.{Unset, False, True}
use Rattle.sat_trail.specs.inner.Storage.{Agrees, Assigned, HasRoom, HasValues, IsStored, StartsWith, value_of}
use Rattle.sat_trail.proofs.CellLemmas.{rank-only, rank-within}
use Rattle.sat_trail.proofs.LiteralLemmas.{cases_bool, not-differs, same_literal}
use Rattle.sat_trail.proofs.EntryLemmas.{values_of-none, entry_of-distinct, entry_of-absent, entry_of-push_same, entry_of-push_other}

-- 1 for a test that passes
abbrev weight : Bool → ℕ
weight b = cond b 1 0

-- if one element fails a test, fewer pass than there are
count_by-lt : (p : Option Entry → Bool) (xs : List (Option Entry)) (i : ℕ) (d : Option Entry) → i < length xs → p (get_or xs i d) ≡ false → count_by p xs < length xs
count_by-lt p [] i d within fails = absurd (omega arith)
count_by-lt p (x ∷ xs) zero d within fails =
    let head : weight (p x) ≡ 0 = ap weight fails in
    let fewer : count_by p xs ≤ length xs = count_by-le-length p xs in omega (arith, sum_by-cons (λ y. cond (p y) 1 0) x xs)
count_by-lt p (x ∷ xs) (suc i) d within fails =
    let fewer : count_by p xs < length xs = count_by-lt p xs i d (omega arith) fails in
    let head : weight (p x) ≤ 1 = elim (p x) as (λ b. weight b ≤ 1) [ true ↦ omega arith | false ↦ omega arith ] in
    omega (arith, sum_by-cons (λ y. cond (p y) 1 0) x xs)

-- a variable without a value has an empty cell
cell_none : (es : List Entry) (cells : List (Option Entry)) (v : ℕ) → Agrees es cells → 0 < v → v ≤ length cells → values_of es v ≡ None → get_or cells (v - 1) None ≡ None
cell_none es cells v agrees from_one exists none =
    let same : v - 1 + 1 ≡ v = omega arith in
    agrees.found (v - 1) (omega arith) ∙ ap (entry_of es) same ∙ values_of-none es v none

-- while a variable has no value, there are fewer entries than cells
pub room : (es : List Entry) (cells : List (Option Entry)) (v : ℕ) → Agrees es cells → 0 < v → v ≤ length cells → values_of es v ≡ None → length es < length cells
room es cells v agrees from_one exists none =
    let empty : is_some (get_or cells (v - 1) None) ≡ false = ap is_some (cell_none es cells v agrees from_one exists none) in
    let fewer : count_by is_some cells < length cells = count_by-lt is_some cells (v - 1) None (omega arith) empty in
    omega (arith, agrees.counted)

-- the cell that is set has the new entry, and the others have what they had
found_after-push : (es : List Entry) (cells : List (Option Entry)) (e : Entry) → Agrees es cells → 0 < e.lit.var → e.lit.var ≤ length cells → entry_of es e.lit.var ≡ None → (v : ℕ) → v < length cells → get_or (set cells (e.lit.var - 1) (Some e)) v None ≡ entry_of (es ++ e ∷ []) (v + 1)
found_after-push es cells e agrees from_one exists missing v within =
    elim (cases_eq v (e.lit.var - 1)) [
      | inl same ↦
          let whole : v + 1 ≡ e.lit.var = omega arith in
          rw same (get_or-set_same cells (e.lit.var - 1) (Some e) None (omega arith) ∙ sym (entry_of-push_same es e missing) ∙ ap (entry_of (es ++ e ∷ [])) (let back : e.lit.var ≡ e.lit.var - 1 + 1 = omega arith in back))
      | inr other ↦
          let differs : e.lit.var ≢ v + 1 = λ meets. other (omega arith) in
          get_or-set_other cells (e.lit.var - 1) v (Some e) None other ∙ agrees.found v within ∙ sym (entry_of-push_other es e (v + 1) differs)
    ]

-- the cell that is emptied has nothing, and the others have what they had
found_after-pop : (es : List Entry) (cells : List (Option Entry)) (e : Entry) → Agrees (es ++ e ∷ []) cells → 0 < e.lit.var → e.lit.var ≤ length cells → entry_of es e.lit.var ≡ None → (v : ℕ) → v < length cells → get_or (set cells (e.lit.var - 1) None) v None ≡ entry_of es (v + 1)
found_after-pop es cells e agrees from_one exists missing v within =
    elim (cases_eq v (e.lit.var - 1)) [
      | inl same ↦
          rw same (get_or-set_same cells (e.lit.var - 1) None None (omega arith) ∙ sym missing ∙ ap (entry_of es) (let back : e.lit.var ≡ e.lit.var - 1 + 1 = omega arith in back))
      | inr other ↦
          let differs : e.lit.var ≢ v + 1 = λ meets. other (omega arith) in
          get_or-set_other cells (e.lit.var - 1) v None None other ∙ agrees.found v within ∙ entry_of-push_other es e (v + 1) differs
    ]

-- how many cells are full after a write
full_after-set : (cells : List (Option Entry)) (i : ℕ) (o : Option Entry) → i < length cells → count_by is_some (set cells i o) + weight (is_some (get_or cells i None)) ≡ count_by is_some cells + weight (is_some o)
full_after-set cells i o within = sum_by-set (λ x. cond (is_some x) 1 0) cells i o None within

-- the cells of one more entry
pub Agrees-push : (es : List Entry) (cells : List (Option Entry)) (e : Entry) → Agrees es cells → 0 < e.lit.var → e.lit.var ≤ length cells → values_of es e.lit.var ≡ None → Agrees (es ++ e ∷ []) (set cells (e.lit.var - 1) (Some e))
Agrees-push es cells e agrees from_one exists none = record {
  found = λ v within. found_after-push es cells e agrees from_one exists missing v (omega (arith, length-set cells (e.lit.var - 1) (Some e)));
  distinct = all_pairs_push (λ c d. c.lit.var ≢ d.lit.var) es e agrees.distinct (entry_of-distinct es e.lit.var missing);
  exist = rw (length-set cells (e.lit.var - 1) (Some e)) (All-push (λ d. (0 < d.lit.var) × (d.lit.var ≤ length cells)) es e agrees.exist (from_one, exists));
  counted = omega (arith, full_after-set cells (e.lit.var - 1) (Some e) (omega arith), agrees.counted, length_push es e, empty);
}
  where
    missing : entry_of es e.lit.var ≡ None
    missing = values_of-none es e.lit.var none

    empty : weight (is_some (get_or cells (e.lit.var - 1) None)) ≡ 0
    empty = ap (λ (o : Option Entry). weight (is_some o)) (cell_none es cells e.lit.var agrees from_one exists none)

-- the last entry's variable has no other entry
last_alone : (es : List Entry) (e : Entry) → AllPairs (λ c d. c.lit.var ≢ d.lit.var) (es ++ e ∷ []) → entry_of es e.lit.var ≡ None
last_alone es e differs = entry_of-absent es e.lit.var (λ k d within same.
    differs k (length es) d within (omega (arith, length_push es e))
    (ap (λ (x : Entry). x.lit.var) (get_or_append_left es (e ∷ []) d k within) ∙ same ∙ ap (λ (x : Entry). x.lit.var) (sym (get_or_push es e d (length es) refl))))

-- the cells of one entry less
pub Agrees-pop : (es : List Entry) (cells : List (Option Entry)) (e : Entry) → Agrees (es ++ e ∷ []) cells → 0 < e.lit.var → e.lit.var ≤ length cells → Agrees es (set cells (e.lit.var - 1) None)
Agrees-pop es cells e agrees from_one exists = record {
  found = λ v within. found_after-pop es cells e agrees from_one exists missing v (omega (arith, length-set cells (e.lit.var - 1) None));
  distinct = λ i j d before within.
      subst (λ x. x.lit.var ≢ (get_or es j d).lit.var) (get_or_append_left es (e ∷ []) d i (omega arith))
      (subst (λ x. (get_or (es ++ e ∷ []) i d).lit.var ≢ x.lit.var) (get_or_append_left es (e ∷ []) d j within) (agrees.distinct i j d before (omega (arith, length_push es e))));
  exist = rw (length-set cells (e.lit.var - 1) None) (λ k d within.
      subst (λ x. (0 < x.lit.var) × (x.lit.var ≤ length cells)) (get_or_append_left es (e ∷ []) d k within) (agrees.exist k d (omega (arith, length_push es e))));
  counted = omega (arith, full_after-set cells (e.lit.var - 1) None (omega arith), agrees.counted, length_push es e, full);
}
  where
    missing : entry_of es e.lit.var ≡ None
    missing = last_alone es e agrees.distinct

    full : weight (is_some (get_or cells (e.lit.var - 1) None)) ≡ 1
    full = ap (λ (o : Option Entry). weight (is_some o)) (agrees.found (e.lit.var - 1) (omega arith) ∙ ap (entry_of (es ++ e ∷ [])) (let same : e.lit.var - 1 + 1 ≡ e.lit.var = omega arith in same) ∙ entry_of-push_same es e missing)

-- the value of a literal by an entry that sets its variable
abbrev pub value_by : Option Entry → Bool → Value
value_by o positive = value_of (option_map (λ (e : Entry). e.lit.positive) o) positive

-- a literal is true or false by the sign of its variable's value
pub value_of-true : (o : Option Bool) (b : Bool) → (value_of o b ≡ True) ↔ (o ≡ Some b)
value_of-true None b = (λ same. cc, λ same. cc)
value_of-true (Some true) true = (λ same. refl, λ same. refl)
value_of-true (Some true) false = (λ same. cc, λ same. cc)
value_of-true (Some false) true = (λ same. cc, λ same. cc)
value_of-true (Some false) false = (λ same. refl, λ same. refl)

pub value_of-false : (o : Option Bool) (b : Bool) → (value_of o b ≡ False) ↔ (o ≡ Some (not b))
value_of-false None b = (λ same. cc, λ same. cc)
value_of-false (Some true) true = (λ same. cc, λ same. cc)
value_of-false (Some true) false = (λ same. refl, λ same. refl)
value_of-false (Some false) true = (λ same. refl, λ same. refl)
value_of-false (Some false) false = (λ same. cc, λ same. cc)

-- the values of both literals of a variable
pub value_of-own : (b : Bool) → value_of (Some b) b ≡ True
value_of-own true = refl
value_of-own false = refl

pub value_of-opposite : (b : Bool) → value_of (Some b) (not b) ≡ False
value_of-opposite true = refl
value_of-opposite false = refl

-- another literal has another rank
rank-differs : (l m : Lit) → l ≢ m → rank m ≢ rank l
rank-differs l m differs same = differs (sym (rank-only m l same))

-- a literal is not its negation
negated-differs : (l : Lit) → l ≢ negated l
negated-differs l same = not-differs l.positive (ap (λ (k : Lit). k.positive) same)

-- what is read after the values of a literal and its negation are written
read-own : (values : List Value) (l : Lit) (a b : Value) → rank l < length values → get_or (set (set values (rank l) a) (rank (negated l)) b) (rank l) Unset ≡ a
read-own values l a b within =
    get_or-set_other (set values (rank l) a) (rank (negated l)) (rank l) b Unset (λ same. negated-differs l (rank-only l (negated l) same))
    ∙ get_or-set_same values (rank l) a Unset within

read-opposite : (values : List Value) (l : Lit) (a b : Value) → rank (negated l) < length values → get_or (set (set values (rank l) a) (rank (negated l)) b) (rank (negated l)) Unset ≡ b
read-opposite values l a b within =
    get_or-set_same (set values (rank l) a) (rank (negated l)) b Unset (omega (arith, within, length-set values (rank l) a))

read-other : (values : List Value) (l m : Lit) (a b : Value) → m.var ≢ l.var → get_or (set (set values (rank l) a) (rank (negated l)) b) (rank m) Unset ≡ get_or values (rank m) Unset
read-other values l m a b differs =
    get_or-set_other (set values (rank l) a) (rank (negated l)) (rank m) b Unset (λ same. differs (ap (λ (k : Lit). k.var) (rank-only m (negated l) same)))
    ∙ get_or-set_other values (rank l) (rank m) a Unset (λ same. differs (ap (λ (k : Lit). k.var) (rank-only m l same)))

-- the values of both literals and the cell that are written agree
HasValues-set : (cells : List (Option Entry)) (values : List Value) (l : Lit) (o : Option Entry) (a b : Value) → HasValues cells values → 0 < l.var → l.var ≤ length cells → a ≡ value_by o l.positive → b ≡ value_by o (not l.positive) → HasValues (set cells (l.var - 1) o) (set (set values (rank l) a) (rank (negated l)) b)
HasValues-set cells values l o a b valued from_one exists own opposite = record {
  many = omega (arith, length-set (set values (rank l) a) (rank (negated l)) b, length-set values (rank l) a, valued.many, length-set cells (l.var - 1) o);
  none = λ m is. read-other values l m a b (λ same. omega (arith, same, is, from_one)) ∙ valued.none m is;
  same = λ m m_from_one m_within. elim (cases_eq m.var l.var) [
    | inl is ↦
        let cell : get_or (set cells (l.var - 1) o) (m.var - 1) None ≡ o = ap (λ k. get_or (set cells (l.var - 1) o) (k - 1) None) is ∙ get_or-set_same cells (l.var - 1) o None (omega (arith, from_one, exists)) in
        let written : get_or (set (set values (rank l) a) (rank (negated l)) b) (rank m) Unset ≡ value_by o m.positive = elim (cases_bool m.positive l.positive) [
          | inl signs ↦ rw (same_literal m l is signs) (read-own values l a b within ∙ own)
          | inr signs ↦ rw (same_literal m (negated l) is signs) (read-opposite values l a b also ∙ opposite)
        ] in
        written ∙ ap (λ c. value_by c m.positive) (sym cell)
    | inr differs ↦ read-other values l m a b differs ∙ valued.same m m_from_one (omega (arith, m_within, length-set cells (l.var - 1) o))
        ∙ ap (λ c. value_by c m.positive) (sym (get_or-set_other cells (l.var - 1) (m.var - 1) o None (λ same. differs (omega (arith, same, from_one, m_from_one)))))
  ];
}
  where
    within : rank l < length values
    within = rw valued.many (rank-within (length cells) l exists)

    also : rank (negated l) < length values
    also = rw valued.many (rank-within (length cells) (negated l) exists)

-- the stored value of a literal, also of variable 0, which has none
pub value-stored : (slots : List Entry) (len : ℕ) (cells : List (Option Entry)) (values : List Value) (l : Lit) → IsStored slots len cells values → l.var ≤ length cells → get_or values (rank l) Unset ≡ value_of (values_of (take len slots) l.var) l.positive
value-stored slots len cells values l stored exists = elim (cases_eq l.var 0) [
  | inl is ↦ stored.valued.none l is
      ∙ sym (ap (λ (o : Option Entry). value_by o l.positive) (entry_of-absent (take len slots) l.var (λ k d within same. omega (arith, same, is, (stored.agrees.exist k d within).0))))
  | inr some ↦
      let back : l.var - 1 + 1 ≡ l.var = omega (arith, some) in
      let within : l.var - 1 < length cells = omega (arith, some, exists) in
      stored.valued.same l (omega (arith, some)) exists
      ∙ ap (λ (o : Option Entry). value_by o l.positive) (stored.agrees.found (l.var - 1) within ∙ ap (entry_of (take len slots)) back)
]

-- what was read of the values
pub value-read : (slots : List Entry) (len : ℕ) (cells : List (Option Entry)) (values : List Value) (l : Lit) (r : ℕ) (w : Value) → IsStored slots len cells values → l.var ≤ length cells → r ≡ rank l → w ≡ get_or values r w → w ≡ value_of (values_of (take len slots) l.var) l.positive
value-read slots len cells values l r w stored exists ranks read =
    read ∙ ap (λ k. get_or values k w) ranks
    ∙ get_or_default values (rank l) w Unset (rw stored.valued.many (rank-within (length cells) l exists)) ∙ value-stored slots len cells values l stored exists

-- what is stored leaves room while a variable has no value
pub HasRoom-stored : (slots : List Entry) (len : ℕ) (cells : List (Option Entry)) (values : List Value) → IsStored slots len cells values → HasRoom (record { vars = length cells; entries = take len slots })
HasRoom-stored slots len cells values stored = record {
  few = stored.few;
  more = λ v from_one exists none. room (take len slots) cells v stored.agrees from_one exists none;
}

-- there is a slot for one more entry
pub slot_within : (slots : List Entry) (len : ℕ) (cells : List (Option Entry)) (values : List Value) (v : ℕ) → IsStored slots len cells values → 0 < v → v ≤ length cells → values_of (take len slots) v ≡ None → len < length slots
slot_within slots len cells values v stored from_one exists none =
    omega (arith, room (take len slots) cells v stored.agrees from_one exists none, length-take-le len slots stored.filled, stored.room)

-- one more entry is stored after the others
pub IsStored-push : (slots : List Entry) (len : ℕ) (cells : List (Option Entry)) (values : List Value) (e : Entry) → IsStored slots len cells values → 0 < e.lit.var → e.lit.var ≤ length cells → values_of (take len slots) e.lit.var ≡ None → IsStored (set slots len e) (len + 1) (set cells (e.lit.var - 1) (Some e)) (set (set values (rank e.lit) True) (rank (negated e.lit)) False)
IsStored-push slots len cells values e stored from_one exists none = record {
  room = length-set slots len e ∙ stored.room ∙ sym (length-set cells (e.lit.var - 1) (Some e));
  few = rw (length-set cells (e.lit.var - 1) (Some e)) stored.few;
  filled = omega (arith, within, length-set slots len e);
  agrees = rw (take_more_set slots len e within) (Agrees-push (take len slots) cells e stored.agrees from_one exists none);
  valued = HasValues-set cells values e.lit (Some e) True False stored.valued from_one exists (sym (value_of-own e.lit.positive)) (sym (value_of-opposite e.lit.positive));
}
  where
    within : len < length slots
    within = slot_within slots len cells values e.lit.var stored from_one exists none

-- what contracts see of one more entry
pub assigned_after-push : (slots : List Entry) (len : ℕ) (cells : List (Option Entry)) (e : Entry) (i : ℕ) (o : Option Entry) → len < length slots → ◌≡◌ {A = Assigned} (record { vars = length (set cells i o); entries = take (len + 1) (set slots len e) }) (record { vars = length cells; entries = take len slots ++ e ∷ [] })
assigned_after-push slots len cells e i o within = rw (length-set cells i o, take_more_set slots len e within) refl

-- the entries end with the last slot that is used
pub take_last : (slots : List Entry) (len : ℕ) (e : Entry) → 0 < len → len ≤ length slots → e ≡ get_or slots (len - 1) e → take len slots ≡ take (len - 1) slots ++ e ∷ []
take_last slots len e some filled at_end =
    ap (λ n. take n slots) (let same : len ≡ len - 1 + 1 = omega arith in same)
    ∙ take_more slots (len - 1) e (omega arith) ∙ ap (λ x. take (len - 1) slots ++ x ∷ []) (sym at_end)

-- one entry less is stored
pub IsStored-pop : (slots : List Entry) (len : ℕ) (cells : List (Option Entry)) (values : List Value) (e : Entry) → IsStored slots len cells values → 0 < len → e ≡ get_or slots (len - 1) e → IsStored slots (len - 1) (set cells (e.lit.var - 1) None) (set (set values (rank e.lit) Unset) (rank (negated e.lit)) Unset)
IsStored-pop slots len cells values e stored some at_end = record {
  room = stored.room ∙ sym (length-set cells (e.lit.var - 1) None);
  few = rw (length-set cells (e.lit.var - 1) None) stored.few;
  filled = omega (arith, stored.filled);
  agrees = Agrees-pop (take (len - 1) slots) cells e (subst (λ es. Agrees es cells) (take_last slots len e some stored.filled at_end) stored.agrees) exists.0 exists.1;
  valued = HasValues-set cells values e.lit None Unset Unset stored.valued exists.0 exists.1 refl refl;
}
  where
    exists : (0 < e.lit.var) × (e.lit.var ≤ length cells)
    exists = All-contains (λ d. (0 < d.lit.var) × (d.lit.var ≤ length cells)) (take len slots) e stored.agrees.exist
        (subst (λ es. Contains es e) (sym (take_last slots len e some stored.filled at_end)) (Contains-push (take (len - 1) slots) e))

-- the level of the last entry
pub last_level-push : (es : List Entry) (e : Entry) → last_level (es ++ e ∷ []) ≡ e.level
last_level-push [] e = refl
last_level-push (d ∷ []) e = refl
last_level-push (d ∷ (f ∷ es)) e = last_level-push (f ∷ es) e

-- the level of the last slot that is used
pub last_level-stored : (slots : List Entry) (len : ℕ) (e : Entry) → 0 < len → len ≤ length slots → e ≡ get_or slots (len - 1) e → e.level ≡ last_level (take len slots)
last_level-stored slots len e some filled at_end =
    sym (ap last_level (take_last slots len e some filled at_end) ∙ last_level-push (take (len - 1) slots) e)

-- above level 0 there is an entry
last_level-some : (es : List Entry) (n : ℕ) → n < last_level es → 0 < length es
last_level-some [] n higher = absurd (omega arith)
last_level-some (e ∷ es) n higher = omega arith

-- one more entry of a higher level is taken out
pub StartsWith-pop : (level : ℕ) (old now next : Assigned) → StartsWith level old now → level < last_level now.entries → next ≡ record now { entries = take (length now.entries - 1) now.entries } → StartsWith level old next
StartsWith-pop level old now next begins higher popped = rw popped (record {
  dropped = last ∷ begins.dropped;
  vars = begins.vars;
  whole = begins.whole ∙ ap (λ es. es ++ begins.dropped) split ∙ append_assoc (take (length now.entries - 1) now.entries) (last ∷ []) begins.dropped;
  above = All-cons (λ e. level < e.level) last begins.dropped
      (subst (λ n. level < n) (ap last_level split ∙ last_level-push (take (length now.entries - 1) now.entries) last) higher) begins.above;
})
  where
    some : 0 < length now.entries
    some = last_level-some now.entries level higher

    blank : Entry
    blank = record { lit = record { var = 0; positive = false }; level = 0; reason = None }

    last : Entry
    last = get_or now.entries (length now.entries - 1) blank

    split : now.entries ≡ take (length now.entries - 1) now.entries ++ last ∷ []
    split = sym (take_all (length now.entries) now.entries (omega arith))
        ∙ take_last now.entries (length now.entries) last some (omega arith) (get_or_default now.entries (length now.entries - 1) blank last (omega (arith, some)))
