-- What clauses watch, as entries come and go.
use Rattle.std.proofs.Common.{◌≡◌, ℕ, ◌+◌, ◌<◌, ◌≤◌, Bool, Option, Some, None, List, [], ◌∷◌, ◌++◌, ◌⊎◌, inl, inr, length, get_or, slice_get, sym, ap, refl, ◌∙◌, subst, arith, append-nil, All, Contains, length-append}
use Rattle.std.proofs.lemmas.Bool.{cases_eq, cases_lt}
use Rattle.std.proofs.lemmas.List.Elements.{All-contains, All-head, All-tail, Contains-append_cases}
use Rattle.std.proofs.lemmas.Option.{slice_get_within}
use Rattle.list_base.proofs.Members.{nowhere}
use Rattle.clause_core.specs.declared.literal.Lit.{Lit}
use Rattle.clause_core.specs.Literal.{negated}
use Rattle.clause_core.specs.Numbering.{Numbering, HasNumber}
use Rattle.clause_core.specs.Propagation.{IsPropagated}
use Rattle.sat_trail.specs.declared.entry.Entry.{Entry}
use Rattle.sat_trail.specs.declared.watch.Cell.{Cell}
use Rattle.sat_trail.specs.Entry.{values_of}
use Rattle.sat_trail.specs.inner.Examination.{IsSettled}
use Rattle.sat_trail.specs.inner.Excuse.{Progress, IsTrueBy, IsExcused, is_satisfied, is_waiting, is_new, IsWatched, WatchesTwo, WatchesNone, AreWatched}
use Rattle.sat_trail.specs.inner.Visit.{IsFalseAt}
use Rattle.sat_trail.specs.inner.Watches.{cell_of, IsTurn}
use Rattle.sat_trail.proofs.LevelLemmas.{moved}
use Rattle.sat_trail.proofs.LiteralLemmas.{cases_bool}
use Rattle.sat_trail.proofs.SettledLemmas.{IsSettled-true, IsSettled-two, IsSettled-no_false, IsSettled-no_unit}
use Rattle.sat_trail.proofs.ValueLemmas.{at-left, at-push, at-among, among-at, IsOnce, value-by, true-entry, false-entry, IsTrueBy-more, OthersFalse-more}

-- an excuse lasts while entries come
excused-push : (es : List Entry) (d : Entry) (p : Progress) (n : ℕ) (c : List Lit) (other : Lit) (i : ℕ) (e : Entry) → IsExcused es p n c other i e → IsExcused (es ++ d ∷ []) p n c other i e
excused-push es d p n c other i e (is_satisfied t) = is_satisfied (IsTrueBy-more es (d ∷ []) e.level other t)
excused-push es d p n c other i e (is_waiting past) = is_waiting past
excused-push es d p n c other i e (is_new late level others) = is_new late level (OthersFalse-more es (d ∷ []) c other others)

-- one more entry of the level
AreWatched-push : (numbering : Numbering) (last : ℕ) (cells : List Cell) (es : List Entry) (p : Progress) (d : Entry) → d.level ≡ p.level → AreWatched numbering last cells es p → AreWatched numbering last cells (es ++ d ∷ []) p
AreWatched-push numbering last cells es p d at_level watched = record {
  head_within = omega (arith, watched.head_within, length-append es (d ∷ []));
  examined_within = watched.examined_within;
  room = watched.room;
  waiting = λ i e got past. elim (at-push es d i e got) [
    | inl old ↦ watched.waiting i e old past
    | inr new ↦ sym (ap (λ (f : Entry). f.level) new.1) ∙ at_level
  ];
  long = λ n c has two turn turns.
      let w = watched.long n c has two turn turns in
      record {
        among = w.among;
        differs = w.differs;
        excused = λ i e got fails. elim (at-push es d i e got) [
          | inl old ↦ excused-push es d p n c turn.other.lit i e (w.excused i e old fails)
          | inr new ↦ is_waiting (omega (arith, watched.head_within, new.0))
        ];
      };
  short = λ n c has few.
      let w = watched.short n c has few in
      record {
        none = w.none;
        old = λ early. let t = w.old early in (t.0, t.1, IsTrueBy-more es (d ∷ []) 0 t.0 t.2);
        new = w.new;
      };
  only = watched.only;
}

-- more entries of the level
pub AreWatched-more : (numbering : Numbering) (last : ℕ) (cells : List Cell) (es more : List Entry) (p : Progress) → All (λ e. e.level ≡ p.level) more → AreWatched numbering last cells es p → AreWatched numbering last cells (es ++ more) p
AreWatched-more numbering last cells es [] p at_level watched = subst (λ xs. AreWatched numbering last cells xs p) (sym (append-nil es)) watched
AreWatched-more numbering last cells es (d ∷ rest) p at_level watched =
    subst (λ xs. AreWatched numbering last cells xs p) (moved es d rest)
    (AreWatched-more numbering last cells (es ++ d ∷ []) rest p (All-tail (λ e. e.level ≡ p.level) d rest at_level)
    (AreWatched-push numbering last cells es p d (All-head (λ e. e.level ≡ p.level) d rest at_level) watched))

-- an excuse at a new level, if all was passed
excused-decide : (es : List Entry) (p q : Progress) (n last : ℕ) (c : List Lit) (other : Lit) (i : ℕ) (e : Entry) → p.head ≡ length es → p.examined ≡ last → n ≤ last → slice_get es i ≡ Some e → IsExcused es p n c other i e → IsExcused es q n c other i e
excused-decide es p q n last c other i e at_end all within got (is_satisfied t) = is_satisfied t
excused-decide es p q n last c other i e at_end all within got (is_waiting past) = absurd (omega (arith, past, at_end, slice_get_within es i e got))
excused-decide es p q n last c other i e at_end all within got (is_new late level others) = absurd (omega (arith, late, all, within))

-- if all was passed, the level may rise
pub AreWatched-rise : (numbering : Numbering) (last : ℕ) (cells : List Cell) (es : List Entry) (p : Progress) (level : ℕ) → p.head ≡ length es → p.examined ≡ last → ((n : ℕ) (c : List Lit) → HasNumber numbering n c → n ≤ last) → AreWatched numbering last cells es p → AreWatched numbering last cells es (record { level = level; head = length es; examined = last })
AreWatched-rise numbering last cells es p level at_end all numbers watched = record {
  head_within = omega arith;
  examined_within = omega arith;
  room = watched.room;
  waiting = λ i e got past. absurd (omega (arith, past, slice_get_within es i e got));
  long = λ n c has two turn turns.
      let w = watched.long n c has two turn turns in
      record {
        among = w.among;
        differs = w.differs;
        excused = λ i e got fails. excused-decide es p (record { level = level; head = length es; examined = last }) n last c turn.other.lit i e at_end all (numbers n c has) got (w.excused i e got fails);
      };
  short = λ n c has few.
      let w = watched.short n c has few in
      record { none = w.none; old = λ early. w.old (omega (arith, early, all)); new = λ late. absurd (omega (arith, late, numbers n c has)) };
  only = watched.only;
}

-- what is true at a low level is true by the entries that stay
IsTrueBy-kept : (kept dropped : List Entry) (level low : ℕ) (l : Lit) → low ≤ level → All (λ e. level < e.level) dropped → IsTrueBy (kept ++ dropped) low l → IsTrueBy kept low l
IsTrueBy-kept kept dropped level low l under above t = record {
  entry = t.entry;
  among = elim (Contains-append_cases kept dropped t.entry t.among) [
    | inl left ↦ left
    | inr right ↦ absurd (omega (arith, under, t.low, All-contains (λ e. level < e.level) dropped t.entry above right))
  ];
  sets = t.sets;
  low = t.low;
}

-- an excuse after a backtrack
excused-back : (kept dropped : List Entry) (p q : Progress) (n : ℕ) (c : List Lit) (other : Lit) (i : ℕ) (e : Entry) (level : ℕ) → level < p.level → e.level ≤ level → (p.head ≤ i → e.level ≡ p.level) → All (λ f. level < f.level) dropped → IsExcused (kept ++ dropped) p n c other i e → IsExcused kept q n c other i e
excused-back kept dropped p q n c other i e level lower low waiting above (is_satisfied t) = is_satisfied (IsTrueBy-kept kept dropped level e.level other low above t)
excused-back kept dropped p q n c other i e level lower low waiting above (is_waiting past) = absurd (omega (arith, waiting past, low, lower))
excused-back kept dropped p q n c other i e level lower low waiting above (is_new late at_level others) = absurd (omega (arith, at_level, low, lower))

-- the entries above a lower level are taken out
pub AreWatched-back : (numbering : Numbering) (last : ℕ) (cells : List Cell) (kept dropped : List Entry) (p : Progress) (level : ℕ) → level < p.level → All (λ e. e.level ≤ level) kept → All (λ e. level < e.level) dropped → AreWatched numbering last cells (kept ++ dropped) p → AreWatched numbering last cells kept (record { level = level; head = length kept; examined = p.examined })
AreWatched-back numbering last cells kept dropped p level lower below above watched = record {
  head_within = omega arith;
  examined_within = watched.examined_within;
  room = watched.room;
  waiting = λ i e got past. absurd (omega (arith, past, slice_get_within kept i e got));
  long = λ n c has two turn turns.
      let w = watched.long n c has two turn turns in
      record {
        among = w.among;
        differs = w.differs;
        excused = λ i e got fails.
            let old = at-left kept dropped i e got in
            excused-back kept dropped p (record { level = level; head = length kept; examined = p.examined }) n c turn.other.lit i e level lower
            (All-contains (λ f. f.level ≤ level) kept e below (at-among kept i e got)) (watched.waiting i e old) above (w.excused i e old fails);
      };
  short = λ n c has few.
      let w = watched.short n c has few in
      record {
        none = w.none;
        old = λ early. let t = w.old early in (t.0, t.1, IsTrueBy-kept kept dropped level 0 t.0 (omega arith) above t.2);
        new = λ late. absurd (omega (arith, w.new late, lower));
      };
  only = watched.only;
}

-- a literal that is true is true by an entry of the level or below
pub true-by : (es : List Entry) (level : ℕ) (l : Lit) → All (λ e. e.level ≤ level) es → values_of es l.var ≡ Some l.positive → IsTrueBy es level l
true-by es level l top holds =
    let found = true-entry es l holds in
    record { entry = found.0; among = found.1; sets = found.2; low = All-contains (λ e. e.level ≤ level) es found.0 top found.1 }

-- an excuse after the clause was examined
excused-examined : (es : List Entry) (p q : Progress) (n : ℕ) (c : List Lit) (other : Lit) (i : ℕ) (e : Entry) → q.level ≡ p.level → q.head ≡ p.head → q.examined ≡ p.examined + 1 → All (λ f. f.level ≤ p.level) es → Contains c other → (n ≡ p.examined + 1 → IsSettled (values_of es) (values_of es) c) → IsExcused es p n c other i e → IsExcused es q n c other i e
excused-examined es p q n c other i e same_level same_head next top among settled (is_satisfied t) = is_satisfied t
excused-examined es p q n c other i e same_level same_head next top among settled (is_waiting past) = is_waiting (omega (arith, past, same_head))
excused-examined es p q n c other i e same_level same_head next top among settled (is_new late at_level others) = elim (cases_eq n (p.examined + 1)) [
  | inl is ↦ is_satisfied (subst (λ k. IsTrueBy es k other) (sym at_level) (true-by es p.level other top ((settled is).last_true other among others)))
  | inr differs ↦ is_new (omega (arith, late, next, differs)) (at_level ∙ sym same_level) others
]

-- a clause of fewer than two literals has only one that it holds
one_literal : (c : List Lit) (l m : Lit) → length c < 2 → Contains c l → Contains c m → l ≡ m
one_literal [] l m few l_among m_among = absurd (nowhere l l_among)
one_literal (k ∷ rest) l m few l_among m_among =
    let first : l_among.0 ≡ 0 = omega (arith, l_among.1, few) in
    let second : m_among.0 ≡ 0 = omega (arith, m_among.1, few) in
    sym (subst (λ j. get_or (k ∷ rest) j l ≡ l) first l_among.2) ∙ subst (λ j. get_or (k ∷ rest) j m ≡ m) second m_among.2

-- a short clause that is settled has a true literal
settled-short : (es : List Entry) (c : List Lit) → length c < 2 → IsSettled (values_of es) (values_of es) c → (l : Lit) × Contains c l × (values_of es l.var ≡ Some l.positive)
settled-short es c few settled =
    (settled.member, settled.among, settled.last_true settled.member settled.among (λ m among other. absurd (other (one_literal c m settled.member few among settled.among))))

-- the next clause is examined
pub AreWatched-examined : (numbering : Numbering) (last : ℕ) (cells : List Cell) (es : List Entry) (level head examined : ℕ) → examined < last → All (λ e. e.level ≤ level) es → ((c : List Lit) → HasNumber numbering (examined + 1) c → IsSettled (values_of es) (values_of es) c) → AreWatched numbering last cells es (record { level = level; head = head; examined = examined }) → AreWatched numbering last cells es (record { level = level; head = head; examined = examined + 1 })
AreWatched-examined numbering last cells es level head examined within top settled watched = record {
  head_within = watched.head_within;
  examined_within = omega (arith, within);
  room = watched.room;
  waiting = watched.waiting;
  long = λ n c has two turn turns.
      let w = watched.long n c has two turn turns in
      let v = watched.long n c has two (record { one = turn.other; other = turn.one }) (turned-back (cell_of cells n) turn turns) in
      record {
        among = w.among;
        differs = w.differs;
        excused = λ i e got fails. excused-examined es (record { level = level; head = head; examined = examined }) (record { level = level; head = head; examined = examined + 1 }) n c turn.other.lit i e refl refl refl top v.among
            (λ is. settled c (subst (λ k. HasNumber numbering k c) is has)) (w.excused i e got fails);
      };
  short = λ n c has few.
      let w = watched.short n c has few in
      record {
        none = w.none;
        old = λ early. elim (cases_eq n (examined + 1)) [
          | inl is ↦
              let t = settled-short es c few (settled c (subst (λ k. HasNumber numbering k c) is has)) in
              let zero_level : level ≡ 0 = w.new (omega (arith, is)) in
              (t.0, t.1, true-by es 0 t.0 (subst (λ k. All (λ e. e.level ≤ k) es) zero_level top) t.2)
          | inr differs ↦ w.old (omega (arith, early, differs))
        ];
        new = λ late. w.new (omega (arith, late));
      };
  only = watched.only;
}
  where
    turned-back : (cell turn : Cell) → IsTurn cell turn → IsTurn cell (record { one = turn.other; other = turn.one })
    turned-back cell turn (inl same) = inr (ap (λ (t : Cell). let u : Cell = record { one = t.other; other = t.one } in u) same)
    turned-back cell turn (inr same) = inl (ap (λ (t : Cell). let u : Cell = record { one = t.other; other = t.one } in u) same)

-- an excuse after the entry was passed
excused-passed : (es : List Entry) (p q : Progress) (n : ℕ) (c : List Lit) (w other : Lit) (i : ℕ) (e : Entry) → q.level ≡ p.level → q.head ≡ p.head + 1 → q.examined ≡ p.examined → slice_get es i ≡ Some e → negated e.lit ≡ w → (p.head ≤ i → e.level ≡ p.level) → (i ≡ p.head → IsTrueBy es p.level other) → IsExcused es p n c other i e → IsExcused es q n c other i e
excused-passed es p q n c w other i e same_level next same_examined got fails waiting passed (is_satisfied t) = is_satisfied t
excused-passed es p q n c w other i e same_level next same_examined got fails waiting passed (is_waiting past) = elim (cases_eq i p.head) [
  | inl is ↦ is_satisfied (subst (λ k. IsTrueBy es k other) (sym (waiting past)) (passed is))
  | inr differs ↦ is_waiting (omega (arith, past, next, differs))
]
excused-passed es p q n c w other i e same_level next same_examined got fails waiting passed (is_new late at_level others) =
    is_new (omega (arith, late, same_examined)) (at_level ∙ sym same_level) others

-- the entry at the head is passed
pub AreWatched-passed : (numbering : Numbering) (last : ℕ) (cells : List Cell) (es : List Entry) (level head examined : ℕ) (l : Lit) → IsFalseAt es head l → ((n : ℕ) (turn : Cell) → IsTurn (cell_of cells n) turn → turn.one.lit ≡ l → IsTrueBy es level turn.other.lit) → AreWatched numbering last cells es (record { level = level; head = head; examined = examined }) → AreWatched numbering last cells es (record { level = level; head = head + 1; examined = examined })
AreWatched-passed numbering last cells es level head examined l at_head passed watched = record {
  head_within = omega (arith, slice_get_within es head at_head.entry at_head.there);
  examined_within = watched.examined_within;
  room = watched.room;
  waiting = λ i e got past. watched.waiting i e got (omega (arith, past));
  long = λ n c has two turn turns.
      let w = watched.long n c has two turn turns in
      record {
        among = w.among;
        differs = w.differs;
        excused = λ i e got fails. excused-passed es (record { level = level; head = head; examined = examined }) (record { level = level; head = head + 1; examined = examined }) n c turn.one.lit turn.other.lit i e refl refl refl got fails (watched.waiting i e got)
            (λ is. passed n turn turns (sym fails ∙ ap (λ (f : Entry). negated f.lit) (same_entry i e got is) ∙ at_head.fails)) (w.excused i e got fails);
      };
  short = λ n c has few. watched_short n c has few;
  only = watched.only;
}
  where
    same_entry : (i : ℕ) (e : Entry) → slice_get es i ≡ Some e → i ≡ head → e ≡ at_head.entry
    same_entry i e got is =
        let both : Some e ≡ Some at_head.entry = sym got ∙ ap (slice_get es) is ∙ at_head.there in cc

    watched_short : (n : ℕ) (c : List Lit) → HasNumber numbering n c → length c < 2 → WatchesNone es (record { level = level; head = head + 1; examined = examined }) n c (cell_of cells n)
    watched_short n c has few = let w = watched.short n c has few in record { none = w.none; old = w.old; new = w.new }

-- if all was passed, a false watched literal has a true one beside it
excused-all : (es : List Entry) (p : Progress) (n last : ℕ) (c : List Lit) (other : Lit) (i : ℕ) (e : Entry) → IsOnce es → p.head ≡ length es → p.examined ≡ last → n ≤ last → slice_get es i ≡ Some e → IsExcused es p n c other i e → values_of es other.var ≡ Some other.positive
excused-all es p n last c other i e once at_end all within got (is_satisfied t) = value-by es e.level other once t
excused-all es p n last c other i e once at_end all within got (is_waiting past) = absurd (omega (arith, past, at_end, slice_get_within es i e got))
excused-all es p n last c other i e once at_end all within got (is_new late level others) = absurd (omega (arith, late, all, within))

-- what is known of a watched literal, by its value
watched-cases : (es : List Entry) (p : Progress) (n last : ℕ) (c : List Lit) (l other : Lit) (o : Option Bool) → values_of es l.var ≡ o → IsOnce es → p.head ≡ length es → p.examined ≡ last → n ≤ last → IsWatched es p n c l other → (values_of es l.var ≡ None) ⊎ ((values_of es l.var ≡ Some l.positive) ⊎ (values_of es other.var ≡ Some other.positive))
watched-cases es p n last c l other None is once at_end all within w = inl is
watched-cases es p n last c l other (Some b) is once at_end all within w = elim (cases_bool b l.positive) [
  | inl same ↦ inr (inl (is ∙ ap Some same))
  | inr opposite ↦
      let found = false-entry es l (is ∙ ap Some opposite) in
      let got = among-at es found.0 found.1 in
      inr (inr (excused-all es p n last c other found.1.0 found.0 once at_end all within got (w.excused found.1.0 found.0 got found.2)))
]

-- if all was passed, a clause that watches two literals is settled
settled-two : (es : List Entry) (p : Progress) (n last : ℕ) (c : List Lit) (cell : Cell) → IsOnce es → p.head ≡ length es → p.examined ≡ last → n ≤ last → WatchesTwo es p n c cell → IsSettled (values_of es) (values_of es) c
settled-two es p n last c cell once at_end all within two =
    let one = two cell (inl refl) in
    let other = two (record { one = cell.other; other = cell.one }) (inr refl) in
    elim (watched-cases es p n last c cell.one.lit cell.other.lit (values_of es cell.one.lit.var) refl once at_end all within one) [
      | inl one_open ↦ elim (watched-cases es p n last c cell.other.lit cell.one.lit (values_of es cell.other.lit.var) refl once at_end all within other) [
        | inl other_open ↦ IsSettled-two (values_of es) c cell.one.lit cell.other.lit one.differs one.among other.among one_open other_open
        | inr holds ↦ elim holds [
          | inl true_other ↦ IsSettled-true (values_of es) c cell.other.lit other.among true_other
          | inr true_one ↦ IsSettled-true (values_of es) c cell.one.lit one.among true_one
        ]
      ]
      | inr holds ↦ elim holds [
        | inl true_one ↦ IsSettled-true (values_of es) c cell.one.lit one.among true_one
        | inr true_other ↦ IsSettled-true (values_of es) c cell.other.lit other.among true_other
      ]
    ]

-- if all was passed, each clause is settled
settled-all : (numbering : Numbering) (last : ℕ) (cells : List Cell) (es : List Entry) (p : Progress) (n : ℕ) (c : List Lit) → IsOnce es → p.head ≡ length es → p.examined ≡ last → n ≤ last → AreWatched numbering last cells es p → HasNumber numbering n c → IsSettled (values_of es) (values_of es) c
settled-all numbering last cells es p n c once at_end all within watched has = elim (cases_lt (length c) 2) [
  | inl few ↦
      let t = (watched.short n c has few).old (omega (arith, all, within)) in
      IsSettled-true (values_of es) c t.0 t.1 (value-by es 0 t.0 once t.2)
  | inr two ↦ settled-two es p n last c (cell_of cells n) once at_end all within (watched.long n c has two)
]

-- if all was passed, unit propagation has nothing to do
pub AreWatched-propagated : (numbering : Numbering) (last : ℕ) (cells : List Cell) (es : List Entry) (p : Progress) → IsOnce es → p.head ≡ length es → p.examined ≡ last → ((n : ℕ) (c : List Lit) → HasNumber numbering n c → n ≤ last) → AreWatched numbering last cells es p → IsPropagated (values_of es) numbering
AreWatched-propagated numbering last cells es p once at_end all numbers watched = record {
  no_false = λ n c has. IsSettled-no_false (values_of es) c (settled-all numbering last cells es p n c once at_end all (numbers n c has) watched has);
  no_unit = λ n c l has. IsSettled-no_unit (values_of es) c l (settled-all numbering last cells es p n c once at_end all (numbers n c has) watched has);
}
