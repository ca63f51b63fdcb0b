-- Histories with rising stamps merge into a run: their entries are inserted one by one.
use Rattle.std.proofs.Common.{◌≡◌, ◌≢◌, ℕ, zero, suc, ◌+◌, ◌<◌, ◌⊎◌, Bool, inl, inr, List, [], ◌∷◌, length, map, refl, sym, ap, ◌∙◌, subst, arith, All, Contains}
use Rattle.std.specs.Prelude.{◌==◌, slice_index_or}
use Rattle.std.specs.List.{AllPairs, filter, sum_by}
use Rattle.std.proofs.lemmas.Bool.{cases_eq, cases_order, cond-true, cond_both}
use Rattle.std.proofs.lemmas.Bool.Decides.{Decides-eqb}
use Rattle.std.proofs.lemmas.List.{length-map}
use Rattle.std.proofs.lemmas.List.Elements.{All-contains, All-contains_itself, All-cons, All-head, All-nil, All-tail, All-weaker}
use Rattle.std.proofs.lemmas.List.Kept.{AllPairs-cons}
use Rattle.std.proofs.lemmas.List.Sums.{sum_by-cons}
use Rattle.list_base.proofs.Members.{cons_cases, here, there, nowhere}
use Rattle.bspl_types.specs.declared.event.Event.{Event}
use Rattle.stamped_history.specs.declared.entry.Entry.{Entry}
use Rattle.stamped_history.specs.declared.entry.RoleEntry.{RoleEntry}
use Rattle.stamped_history.specs.Entries.{StampsRise}
use Rattle.stamped_history.specs.Explained.{history_at}
use Rattle.stamped_history.specs.Merged.{ComesBefore, entries_of, IsMerged}

-- the test for a role's entries
abbrev is_of : ℕ → RoleEntry → Bool
is_of role e = e.role == role

-- what holds of each member holds of all
pub all_of : {X : Type 0} (P : X → Type 0) (xs : List X) → ((x : X) → Contains xs x → P x) → All P xs
all_of P xs each k d within = each (slice_index_or xs k d) (All-contains_itself xs k d within)

-- what comes later than a later one is later
later : (e f g : RoleEntry) → ComesBefore e f → ComesBefore f g → ComesBefore e g
later e f g (inl low) (inl below) = inl (omega (arith, low, below))
later e f g (inl low) (inr tie) = inl (omega (arith, low, tie.0))
later e f g (inr tie) (inl below) = inl (omega (arith, tie.0, below))
later e f g (inr tie) (inr also) = inr (omega (arith, tie.0, also.0), omega (arith, tie.1, also.1))

-- of two entries one comes before the other, unless they are of one role and have one stamp
which_first : (e f : RoleEntry) → (e.role ≡ f.role → e.entry.stamp < f.entry.stamp) → ComesBefore e f ⊎ (ComesBefore f e × (f.role ≢ e.role))
which_first e f low = elim (cases_order e.entry.stamp f.entry.stamp) [
  | inl tie ↦ elim (cases_order e.role f.role) [
    | inl same ↦ inl (inl (low same))
    | inr differ ↦ elim differ [
      | inl lower ↦ inl (inr (tie, lower))
      | inr higher ↦ inr (inr (sym tie, higher), λ same. omega (arith, higher, same))
    ]
  ]
  | inr differ ↦ elim differ [
    | inl lower ↦ inl (inl lower)
    | inr higher ↦ inr (inl higher, λ same. omega (arith, low (sym same), higher))
  ]
]

-- all others come after the first one
head_first : (e : RoleEntry) (all : List RoleEntry) → AllPairs ComesBefore (e ∷ all) → All (ComesBefore e) all
head_first e all sorted k d within = sorted 0 (suc k) d (omega arith) (omega (arith, within))

-- the others are sorted
tail_sorted : (e : RoleEntry) (all : List RoleEntry) → AllPairs ComesBefore (e ∷ all) → AllPairs ComesBefore all
tail_sorted e all sorted i j d before within = sorted (suc i) (suc j) d (omega (arith, before)) (omega (arith, within))

-- an entry of the role comes first among the role's
own_first : (role : ℕ) (e : RoleEntry) (all : List RoleEntry) → e.role ≡ role → entries_of role (e ∷ all) ≡ e.entry ∷ entries_of role all
own_first role e all own =
    ap (λ es. map (λ (f : RoleEntry). f.entry) es)
    (cond-true (e.role == role) (e ∷ filter (is_of role) all) (filter (is_of role) all) ((Decides-eqb e.role role).1 own))

-- one of another role is passed over
other_first : (role : ℕ) (e : RoleEntry) (all : List RoleEntry) → e.role ≢ role → entries_of role (e ∷ all) ≡ entries_of role all
other_first role e all other =
    cond_both (e.role == role) (e ∷ filter (is_of role) all) (filter (is_of role) all)
    (λ es. map (λ (f : RoleEntry). f.entry) es ≡ entries_of role all)
    (λ own. absurd (other ((Decides-eqb e.role role).0 own)))
    (λ no. refl)

-- an entry is among its role's
among_own : (all : List RoleEntry) (e : RoleEntry) → Contains all e → Contains (entries_of e.role all) e.entry
among_own [] e among = absurd (nowhere e among)
among_own (f ∷ all) e among = elim (cons_cases f all e among) [
  | inl is ↦
      subst (λ es. Contains es e.entry) (sym (own_first e.role f all (ap (λ (g : RoleEntry). g.role) is)))
      (subst (λ (g : RoleEntry). Contains (g.entry ∷ entries_of e.role all) e.entry) (sym is) (here e.entry (entries_of e.role all)))
  | inr rest ↦ elim (cases_eq f.role e.role) [
    | inl own ↦ subst (λ es. Contains es e.entry) (sym (own_first e.role f all own)) (there f.entry (entries_of e.role all) e.entry (among_own all e rest))
    | inr other ↦ subst (λ es. Contains es e.entry) (sym (other_first e.role f all other)) (among_own all e rest)
  ]
]

-- the sorted entries with one more, which is the first of its role
record Inserted (e : RoleEntry) (all : List RoleEntry) : Type 0 where
  more : List RoleEntry
  sorted : AllPairs ComesBefore more
  own : entries_of e.role more ≡ e.entry ∷ entries_of e.role all
  others : (role : ℕ) → e.role ≢ role → entries_of role more ≡ entries_of role all
  count : length more ≡ length all + 1
  members : (f : RoleEntry) → Contains more f → (e ≡ f) ⊎ Contains all f

-- it can be inserted
insert : (e : RoleEntry) (all : List RoleEntry) → AllPairs ComesBefore all → ((f : RoleEntry) → Contains all f → e.role ≡ f.role → e.entry.stamp < f.entry.stamp) → Inserted e all
insert e [] sorted low =
    record {
      more = e ∷ [];
      sorted = AllPairs-cons ComesBefore e [] (All-nil (ComesBefore e)) sorted;
      own = own_first e.role e [] refl;
      others = λ role other. other_first role e [] other;
      count = refl;
      members = λ f among. cons_cases e [] f among;
    }
insert e (f ∷ all) sorted low = elim (which_first e f (low f (here f all))) [
  | inl first ↦
      record {
        more = e ∷ f ∷ all;
        sorted = AllPairs-cons ComesBefore e (f ∷ all)
            (All-cons (ComesBefore e) f all first (All-weaker (ComesBefore f) (ComesBefore e) (λ g after. later e f g first after) all (head_first f all sorted)))
            sorted;
        own = own_first e.role e (f ∷ all) refl;
        others = λ role other. other_first role e (f ∷ all) other;
        count = omega arith;
        members = λ g among. cons_cases e (f ∷ all) g among;
      }
  | inr after ↦
      let rest = insert e all (tail_sorted f all sorted) (λ g among same. low g (there f all g among) same) in
      record {
        more = f ∷ rest.more;
        sorted = AllPairs-cons ComesBefore f rest.more
            (all_of (ComesBefore f) rest.more (λ g among. elim (rest.members g among) [
              | inl same ↦ subst (ComesBefore f) same after.0
              | inr old ↦ All-contains (ComesBefore f) all g (head_first f all sorted) old
            ]))
            rest.sorted;
        own = other_first e.role f rest.more after.1 ∙ rest.own ∙ ap (λ es. e.entry ∷ es) (sym (other_first e.role f all after.1));
        others = λ role other. elim (cases_eq f.role role) [
          | inl own ↦ own_first role f rest.more own ∙ ap (λ es. f.entry ∷ es) (rest.others role other) ∙ sym (own_first role f all own)
          | inr differs ↦ other_first role f rest.more differs ∙ rest.others role other ∙ sym (other_first role f all differs)
        ];
        count = omega (arith, rest.count);
        members = λ g among. elim (cons_cases f rest.more g among) [
          | inl is ↦ inr (subst (λ (h : RoleEntry). Contains (f ∷ all) h) is (here f all))
          | inr among_rest ↦ elim (rest.members g among_rest) [
            | inl same ↦ inl same
            | inr old ↦ inr (there f all g old)
          ]
        ];
      }
]

-- the sorted entries with those of one more role
record Added (role : ℕ) (history : List Entry) (all : List RoleEntry) : Type 0 where
  more : List RoleEntry
  sorted : AllPairs ComesBefore more
  own : entries_of role more ≡ history
  others : (other : ℕ) → role ≢ other → entries_of other more ≡ entries_of other all
  count : length more ≡ length all + length history

-- a role's history can be added
add : (role : ℕ) (history : List Entry) (all : List RoleEntry) → StampsRise history → AllPairs ComesBefore all → entries_of role all ≡ [] → Added role history all
add role [] all rise sorted none =
    record {
      more = all;
      sorted = sorted;
      own = none;
      others = λ other differs. refl;
      count = omega arith;
    }
add role (e ∷ history) all rise sorted none =
    let rest = add role history all (λ i j d before within. rise (suc i) (suc j) d (omega (arith, before)) (omega (arith, within))) sorted none in
    let first : All (λ (f : Entry). e.stamp < f.stamp) history = λ k d within. rise 0 (suc k) d (omega arith) (omega (arith, within)) in
    let new = insert (record { role = role; entry = e }) rest.more rest.sorted (λ f among own.
    All-contains (λ (g : Entry). e.stamp < g.stamp) history f.entry first
    (subst (λ es. Contains es f.entry) (ap (λ r. entries_of r rest.more) (sym own) ∙ rest.own) (among_own rest.more f among))) in
    record {
      more = new.more;
      sorted = new.sorted;
      own = new.own ∙ ap (λ es. e ∷ es) rest.own;
      others = λ other differs. new.others other differs ∙ rest.others other differs;
      count = omega (arith, new.count, rest.count);
    }

-- the entries of histories whose first one is that of the role, sorted
record Sorted (role : ℕ) (histories : List (List Entry)) : Type 0 where
  all : List RoleEntry
  sorted : AllPairs ComesBefore all
  each : (k : ℕ) → entries_of (role + k) all ≡ history_at histories k
  below : (lower : ℕ) → lower < role → entries_of lower all ≡ []
  count : length all ≡ sum_by length histories

-- histories can be sorted
sort : (role : ℕ) (histories : List (List Entry)) → All StampsRise histories → Sorted role histories
sort role [] rise =
    record {
      all = [];
      sorted = λ i j d before within. absurd (omega (arith, within));
      each = λ k. refl;
      below = λ lower within. refl;
      count = refl;
    }
sort role (history ∷ histories) rise =
    let rest = sort (role + 1) histories (All-tail StampsRise history histories rise) in
    let new = add role history rest.all (All-head StampsRise history histories rise) rest.sorted (rest.below role (omega arith)) in
    record {
      all = new.more;
      sorted = new.sorted;
      each = elim [
        | zero ↦ ap (λ r. entries_of r new.more) (omega arith) ∙ new.own
        | suc k ↦ new.others (role + suc k) (λ same. omega (arith, same)) ∙ ap (λ r. entries_of r rest.all) (omega arith) ∙ rest.each k
      ];
      below = λ lower within. new.others lower (λ same. omega (arith, within, same)) ∙ rest.below lower (omega (arith, within));
      count = new.count ∙ omega (arith, rest.count, sum_by-cons length history histories);
    }

-- a run that they merge into, with all their entries
pub record HasMerged (histories : List (List Entry)) : Type 0 where
  pub run : List Event
  pub merged : IsMerged histories run
  pub count : length run ≡ sum_by length histories

-- they merge into a run
pub has_merged : (histories : List (List Entry)) → All StampsRise histories → HasMerged histories
has_merged histories rise =
    let all = sort 0 histories rise in
    record {
      run = map (λ (e : RoleEntry). e.entry.event) all.all;
      merged = record {
        all = all.all;
        sorted = all.sorted;
        each = λ role. ap (λ r. entries_of r all.all) (omega arith) ∙ all.each role;
        events = refl;
      };
      count = length-map all.all (λ (e : RoleEntry). e.entry.event) ∙ all.count;
    }
