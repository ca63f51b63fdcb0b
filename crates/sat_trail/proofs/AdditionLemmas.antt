-- The parts of a trail with one clause more, and those of a new trail.
use Rattle.std.proofs.Common.{◌≡◌, ℕ, zero, suc, ◌+◌, ◌*◌, ◌<◌, ◌≤◌, Bool, false, Option, Some, None, IfSome, IfNone, List, [], ◌∷◌, ◌++◌, ◌⊎◌, inl, inr, length, take, get_or, map, replicate, sym, ap, refl, ◌∙◌, subst, arith, All, length-append}
use Rattle.std.proofs.lemmas.List.{take_more, take_all, length-take-le, length-map, map-append}
use Rattle.list_base.proofs.Members.{here}
use Rattle.clause_core.specs.declared.literal.Lit.{Lit}
use Rattle.clause_core.specs.declared.formula.Formula.{Formula}
use Rattle.clause_core.specs.Literal.{rank}
use Rattle.clause_core.specs.Clause.{IsAscending, VariablesExist}
use Rattle.clause_core.specs.Numbering.{Numbering, numbered, HasNumber, live}
use Rattle.sat_trail.specs.declared.entry.Entry.{Entry}
use Rattle.sat_trail.specs.declared.watch.Cell.{Cell}
use Rattle.sat_trail.specs.Entry.{last_level}
use Rattle.sat_trail.specs.State.{State}
use Rattle.sat_trail.specs.Trail.{HasTwoOpen, IsStart}
use Rattle.sat_trail.specs.inner.Attach.{ReservesCells, AreChosen, IsAttached, IsAttachedTo, IsUnwatched}
use Rattle.sat_trail.specs.inner.Excuse.{Progress, WatchesTwo, WatchesNone, AreWatched}
use Rattle.sat_trail.specs.inner.Growth.{Grows, IsGrown}
use Rattle.sat_trail.specs.inner.Propagation.{IsKept, state_of}
use Rattle.sat_trail.specs.inner.Storage.{Assigned}
use Rattle.sat_trail.specs.inner.Watches.{blank, cell_of, head_of, HasLink, Watches, WatchesApart, IsChain, IsWithin, AreLinked}
use Rattle.sat_trail.proofs.AttachLemmas.{AreWatched-add, open-low, spare-unwatched, two-literals}
use Rattle.sat_trail.proofs.ChangeLemmas.{IsGrown-add}
use Rattle.sat_trail.proofs.LevelLemmas.{IsTop-grown, IsTop-none}
use Rattle.sat_trail.proofs.FactLemmas.{once-grown}
use Rattle.sat_trail.proofs.NumberLemmas.{live-all, number_all, number_within}

-- a chain over more cells
chain-more : (cells new : List Cell) (l : Lit) (first : ℕ) (list : List ℕ) → ReservesCells cells new → IsChain cells l first list → IsChain new l first list
chain-more cells new l first [] more chain = chain
chain-more cells new l first (n ∷ rest) more chain = (
  chain.0,
  chain.1,
  omega (arith, chain.2, more.more),
  (chain.3.0, subst (λ (c : Cell). HasLink c l chain.3.0) (sym (more.same n)) chain.3.1, chain-more cells new l chain.3.0 rest more chain.3.2),
)

-- the lists over more cells
AreLinked-more : (vars : ℕ) (cells new : List Cell) (heads : List ℕ) → ReservesCells cells new → AreLinked vars cells heads → AreLinked vars new heads
AreLinked-more vars cells new heads more linked = record {
  many = linked.many;
  some = omega (arith, linked.some, more.more);
  within = λ n. subst (IsWithin vars) (sym (more.same n)) (linked.within n);
  listed = λ l some exists.
      let listed = linked.listed l some exists in
      record {
        list = listed.list;
        chain = chain-more cells new l (head_of heads l) listed.list more listed.chain;
        distinct = listed.distinct;
        covers = λ n watches. listed.covers n (subst (λ (c : Cell). Watches c l) (more.same n) watches);
        apart = λ n watches. subst WatchesApart (sym (more.same n)) (listed.apart n (subst (λ (c : Cell). Watches c l) (more.same n) watches));
      };
}

-- what is watched over more cells
AreWatched-more_cells : (numbering : Numbering) (last : ℕ) (cells new : List Cell) (es : List Entry) (p : Progress) → ReservesCells cells new → AreWatched numbering last cells es p → AreWatched numbering last new es p
AreWatched-more_cells numbering last cells new es p more w = record {
  head_within = w.head_within;
  examined_within = w.examined_within;
  room = omega (arith, w.room, more.more);
  waiting = w.waiting;
  long = λ n c has two. subst (WatchesTwo es p n c) (sym (more.same n)) (w.long n c has two);
  short = λ n c has few. subst (WatchesNone es p n c) (sym (more.same n)) (w.short n c has few);
  only = λ n l some watches. w.only n l some (subst (λ (c : Cell). Watches c l) (more.same n) watches);
}

-- a trail over more cells
pub IsKept-reserved : (clauses : List (Option (List Lit))) (cells new : List Cell) (heads new_heads : List ℕ) (set : Assigned) (level head examined : ℕ) (ready : Bool) → ReservesCells cells new → new_heads ≡ heads → IsKept clauses cells heads set level head examined ready → IsKept clauses new new_heads set level head examined ready
IsKept-reserved clauses cells new heads new_heads set level head examined ready more same kept = rw same (record {
  few = kept.few;
  trail = kept.trail;
  linked = AreLinked-more set.vars cells new heads more kept.linked;
  watched = AreWatched-more_cells (live clauses) (length clauses) cells new set.entries (record { level = level; head = head; examined = examined }) more kept.watched;
  complete = kept.complete;
})

-- a new clause has two open literals, if it has two
pub open-two : (clauses : List (Option (List Lit))) (set : Assigned) (level : ℕ) (ready : Bool) (c : List Lit) → IsGrown (state_of clauses set level ready) → IsAscending c → (level ≡ 0) ⊎ HasTwoOpen set.entries level c → 2 ≤ length c → HasTwoOpen set.entries level c
open-two clauses set level ready c trail ascending opens two = elim opens [
  | inl low ↦ subst (λ k. HasTwoOpen set.entries k c) (sym low)
      (open-low set.entries c (subst (λ k. All (λ e. e.level ≤ k) set.entries) (trail.level ∙ low) (IsTop-grown (live clauses) [] set.entries trail.grown IsTop-none)) ascending two)
  | inr open_two ↦ open_two
]

-- a clause of fewer literals comes at level 0
short-low : (t : State) (c : List Lit) → (t.level ≡ 0) ⊎ HasTwoOpen t.entries t.level c → length c < 2 → t.level ≡ 0
short-low t c opens few = elim opens [
  | inl low ↦ low
  | inr two ↦ absurd (omega (arith, few, two-literals c two.one two.other two.differ two.one_among two.other_among))
]

-- the parts of a trail with one clause more
pub IsKept-add : (clauses new_clauses : List (Option (List Lit))) (cells new : List Cell) (heads new_heads : List ℕ) (set : Assigned) (level head examined : ℕ) (ready : Bool) (c : List Lit) (watched : Option (Lit × Lit)) → IsKept clauses cells heads set level head examined ready → VariablesExist set.vars c → length clauses + 1 < 4294967296 → (level ≡ 0) ⊎ HasTwoOpen set.entries level c → length clauses + 1 < length cells → IfSome watched (λ pair. AreChosen set.entries level c pair.0 pair.1) → IfNone watched (length c < 2) → AreLinked set.vars new new_heads → IsAttachedTo cells new (length clauses + 1) watched → new_clauses ≡ clauses ++ Some c ∷ [] → IsKept new_clauses new new_heads set level head examined false
IsKept-add clauses new_clauses cells new heads new_heads set level head examined ready c watched kept exist few opens room chosen none linked attached grows = rw grows (record {
  few = omega (arith, few, length-append clauses (Some c ∷ []));
  trail = IsGrown-add clauses set level ready c kept.trail exist opens;
  linked = linked;
  watched = subst (λ n. AreWatched (live (clauses ++ Some c ∷ [])) n new set.entries p) (let whole : length clauses + 1 ≡ length (clauses ++ Some c ∷ []) = omega (arith, length-append clauses (Some c ∷ [])) in whole)
      (AreWatched-add clauses c cells new set.entries p watched (once-grown (live clauses) [] set.entries kept.trail.grown (λ i j d before within. absurd (omega arith))) room
      (spare-unwatched (live clauses) (length clauses) cells set.entries p (length clauses + 1) (omega arith) kept.watched)
      (short-low (state_of clauses set level ready) c opens)
      (λ one other is. subst (λ o. IfSome o (λ (pair : Lit × Lit). AreChosen set.entries level c pair.0 pair.1)) is chosen)
      (λ is. subst (λ (o : Option (Lit × Lit)). IfNone o (length c < 2)) is none)
      attached kept.watched);
  complete = λ impossible. cc;
})
  where
    p : Progress
    p = record { level = level; head = head; examined = examined }

-- the same, by what the calls say
pub IsKept-attached : (clauses new_clauses : List (Option (List Lit))) (cells new : List Cell) (heads new_heads : List ℕ) (set : Assigned) (level head examined : ℕ) (ready : Bool) (c lits : List Lit) (watched : Option (Lit × Lit)) (len vars : ℕ) → len ≡ length clauses → vars ≡ set.vars → lits ≡ c → IsKept clauses cells heads set level head examined ready → VariablesExist set.vars c → length clauses + 1 < 4294967296 → (level ≡ 0) ⊎ HasTwoOpen set.entries level c → len + 1 < length cells → IfSome watched (λ pair. AreChosen set.entries level lits pair.0 pair.1) → IfNone watched (length lits < 2) → AreLinked vars new new_heads → IsAttachedTo cells new (len + 1) watched → new_clauses ≡ clauses ++ Some c ∷ [] → IsKept new_clauses new new_heads set level head examined false
IsKept-attached clauses new_clauses cells new heads new_heads set level head examined ready c lits watched len vars counted same_vars same kept exist few opens room chosen none linked attached grows =
    IsKept-add clauses new_clauses cells new heads new_heads set level head examined ready c watched kept exist few opens (omega (arith, room, counted))
    (subst (λ ls. IfSome watched (λ (pair : Lit × Lit). AreChosen set.entries level ls pair.0 pair.1)) same chosen)
    (subst (λ (ls : List Lit). IfNone watched (length ls < 2)) same none)
    (subst (λ v. AreLinked v new new_heads) same_vars linked)
    (subst (λ n. IsAttachedTo cells new (n + 1) watched) counted attached) grows

-- each item of copies of one
copies : {X : Type 0} (n k : ℕ) (x : X) → get_or (replicate n x) k x ≡ x
copies zero k x = refl
copies (suc n) zero x = refl
copies (suc n) (suc k) x = copies n k x

-- how many they are
copies-length : {X : Type 0} (n : ℕ) (x : X) → length (replicate n x) ≡ n
copies-length zero x = refl
copies-length (suc n) x = omega (arith, copies-length n x)

-- a blank cell watches nothing
blank-unwatched : IsUnwatched blank
blank-unwatched l some (inl here) = absurd (omega (arith, some, ap (λ (k : Lit). k.var) here))
blank-unwatched l some (inr here) = absurd (omega (arith, some, ap (λ (k : Lit). k.var) here))

-- no clause has a number yet
no-number : (clauses : List (List Lit)) (n : ℕ) (c : List Lit) → HasNumber (live (map Some (take 0 clauses))) n c → ⊥
no-number clauses n c has = omega (arith, number_within (map Some (take 0 clauses)) n c has, length-map (take 0 clauses) Some, length-take-le 0 clauses (omega arith))

-- before the first clause
pub attached-start : (vars : ℕ) (clauses : List (List Lit)) (cells : List Cell) (heads : List ℕ) → cells ≡ replicate (length clauses + 1) blank → heads ≡ replicate (2 * vars + 2) 0 → IsAttached vars 0 clauses cells heads
attached-start vars clauses cells heads cells_are heads_are = record {
  linked = record {
    many = ap length heads_are ∙ copies-length (2 * vars + 2) 0;
    some = omega (arith, many);
    within = λ n. subst (IsWithin vars) (sym (blank-cell n)) (record { one = omega arith; other = omega arith });
    listed = λ l some exists. record {
      list = [];
      chain = ap (λ hs. head_of hs l) heads_are ∙ copies (2 * vars + 2) (rank l) 0;
      distinct = tt;
      covers = λ n watches. absurd (unwatched n l some watches);
      apart = λ n watches. absurd (unwatched n l some watches);
    };
  };
  watched = record {
    head_within = omega arith;
    examined_within = omega arith;
    room = omega (arith, many, length-map (take 0 clauses) Some, length-take-le 0 clauses (omega arith));
    waiting = λ i e got past. absurd (let none : None ≡ Some e = got in cc);
    long = λ n c has two. absurd (no-number clauses n c has);
    short = λ n c has few. absurd (no-number clauses n c has);
    only = λ n l some watches. absurd (unwatched n l some watches);
  };
  room = omega (arith, many);
}
  where
    many : length cells ≡ length clauses + 1
    many = ap length cells_are ∙ copies-length (length clauses + 1) blank

    blank-cell : (n : ℕ) → cell_of cells n ≡ blank
    blank-cell n = ap (λ cs. cell_of cs n) cells_are ∙ copies (length clauses + 1) n blank

    unwatched : (n : ℕ) → IsUnwatched (cell_of cells n)
    unwatched n = subst IsUnwatched (sym (blank-cell n)) blank-unwatched

-- the next clause watches nothing yet
pub attached-blank : (vars i n : ℕ) (clauses : List (List Lit)) (cells : List Cell) (heads : List ℕ) → n ≡ i → i < length clauses → IsAttached vars i clauses cells heads → IsUnwatched (cell_of cells (n + 1))
attached-blank vars i n clauses cells heads same within a =
    spare-unwatched (live (map Some (take i clauses))) (length (map Some (take i clauses))) cells [] (record { level = 0; head = 0; examined = 0 }) (n + 1) (omega (arith, same, within, length-map (take i clauses) Some, length-take-le i clauses (omega (arith, within)))) a.watched

-- one clause more is attached
pub attached-next : (vars i n v : ℕ) (clauses : List (List Lit)) (es : List Entry) (item lits : List Lit) (cells new : List Cell) (heads new_heads : List ℕ) (watched : Option (Lit × Lit)) → n ≡ i → v ≡ vars → es ≡ [] → i < length clauses → item ≡ get_or clauses i item → lits ≡ item → IsAttached vars i clauses cells heads → IfSome watched (λ pair. AreChosen es 0 lits pair.0 pair.1) → IfNone watched (length lits < 2) → AreLinked v new new_heads → IsAttachedTo cells new (n + 1) watched → IsAttached vars (i + 1) clauses new new_heads
attached-next vars i n v clauses es item lits cells new heads new_heads watched counted same_vars empty within is same a chosen none linked attached = record {
  linked = subst (λ k. AreLinked k new new_heads) same_vars linked;
  watched = subst (λ cs. AreWatched (live cs) (length cs) new [] p) (sym grown)
      (subst (λ k. AreWatched (live (first ++ Some item ∷ [])) k new [] p) (let whole : length first + 1 ≡ length (first ++ Some item ∷ []) = omega (arith, length-append first (Some item ∷ [])) in whole)
      (AreWatched-add first item cells new [] p watched (λ j k d before inside. absurd (omega (arith, inside))) (omega (arith, a.room, within, long))
      (spare-unwatched (live first) (length first) cells [] p (length first + 1) (omega arith) a.watched)
      (λ few. refl)
      (λ one other some. subst (λ o. IfSome o (λ (pair : Lit × Lit). AreChosen [] 0 item pair.0 pair.1)) some
      (subst (λ ls. IfSome watched (λ (pair : Lit × Lit). AreChosen [] 0 ls pair.0 pair.1)) same (subst (λ xs. IfSome watched (λ (pair : Lit × Lit). AreChosen xs 0 lits pair.0 pair.1)) empty chosen)))
      (λ missing. subst (λ (o : Option (Lit × Lit)). IfNone o (length item < 2)) missing (subst (λ (ls : List Lit). IfNone watched (length ls < 2)) same none))
      (subst (λ k. IsAttachedTo cells new k watched) (let next : n + 1 ≡ length first + 1 = omega (arith, counted, long) in next) attached) a.watched));
  room = omega (arith, a.room, attached.as_many);
}
  where
    p : Progress
    p = record { level = 0; head = 0; examined = 0 }

    first : List (Option (List Lit))
    first = map Some (take i clauses)

    long : length first ≡ i
    long = length-map (take i clauses) Some ∙ length-take-le i clauses (omega (arith, within))

    grown : map Some (take (i + 1) clauses) ≡ first ++ Some item ∷ []
    grown = ap (map Some) (take_more clauses i item within ∙ ap (λ (x : List Lit). take i clauses ++ x ∷ []) (sym is)) ∙ map-append Some (take i clauses) (item ∷ [])

-- a new trail
pub IsKept-new : (f : Formula) (clauses : List (Option (List Lit))) (given : List (List Lit)) (cells : List Cell) (heads : List ℕ) (set : Assigned) → clauses ≡ map Some given → given ≡ f.clauses → set ≡ record { vars = f.vars; entries = [] } → length f.clauses < 4294967296 → IsAttached set.vars (length given) given cells heads → IsKept clauses cells heads set 0 0 0 false
IsKept-new f clauses given cells heads set stored lent start few a = rw stored (record {
  few = omega (arith, few, ap length lent, length-map given Some);
  trail = record {
    grown = subst (Grows (live (map Some given)) []) (sym empty) tt;
    level = ap last_level empty;
    exist = subst (λ es. All (λ e. (0 < e.lit.var) × (e.lit.var ≤ set.vars)) es) (sym empty) (λ k d within. absurd (omega arith));
    clauses_exist = λ n c has. number_all (VariablesExist set.vars) given n c (subst (λ v. All (VariablesExist v) given) (sym (ap (λ (s : Assigned). s.vars) start)) (subst (All (VariablesExist f.vars)) (sym lent) f.variables_exist)) has;
    ready_propagated = λ impossible. cc;
  };
  linked = a.linked;
  watched = subst (λ es. AreWatched (live (map Some given)) (length (map Some given)) cells es (record { level = 0; head = 0; examined = 0 })) (sym empty)
      (subst (λ cs. AreWatched (live (map Some cs)) (length (map Some cs)) cells [] (record { level = 0; head = 0; examined = 0 })) (take_all (length given) given (omega arith)) a.watched);
  complete = λ impossible. cc;
})
  where
    empty : set.entries ≡ []
    empty = ap (λ (s : Assigned). s.entries) start

-- what contracts see of a new trail
pub IsStart-new : (f : Formula) (clauses : List (Option (List Lit))) (given : List (List Lit)) (set : Assigned) → clauses ≡ map Some given → given ≡ f.clauses → set ≡ record { vars = f.vars; entries = [] } → IsStart f (state_of clauses set 0 false)
IsStart-new f clauses given set stored lent start = record {
  vars = ap (λ (s : Assigned). s.vars) start;
  numbers = λ n. ap (λ cs. live cs n) stored ∙ live-all given n ∙ ap (λ cs. numbered cs n) lent;
  last = ap length stored ∙ length-map given Some ∙ ap length lent;
  empty = ap (λ (s : Assigned). s.entries) start;
  level = refl;
  unready = refl;
}
