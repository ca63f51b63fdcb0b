-- How a trail with names grows, and what contracts see of it.
use Rattle.std.proofs.Common.{◌≡◌, ℕ, ◌<◌, ◌≤◌, Bool, Result, Ok, Err, OnOk, OnErr, Contains, Option, IsSome, List, [], ◌∷◌, ◌++◌, length, sym, ap, ap₂, refl, ◌∙◌, subst, arith, All, append_assoc, append-nil, length-append}
use Rattle.std.proofs.lemmas.List.Elements.{All-append, All-nil, All-push, All-weaker, Contains-push}
use Rattle.clause_core.specs.declared.literal.Lit.{Lit}
use Rattle.clause_core.specs.Clause.{VariablesExist}
use Rattle.clause_core.specs.Numbering.{HasNumber, live, numbered}
use Rattle.order_axioms.specs.declared.order.Order.{Order}
use Rattle.order_axioms.specs.Order.{order_list}
use Rattle.sat_trail.specs.declared.entry.Entry.{Entry}
use Rattle.sat_trail.specs.Entry.{values_of, up_to}
use Rattle.sat_trail.specs.State.{State}
use Rattle.sat_trail.specs.Trail.{IsTrail, Propagates}
use Rattle.order_propagator.specs.declared.named_trail.NamedTrail.{NamedTrail}
use Rattle.order_propagator.specs.inner.Closed.{IsTransitive}
use Rattle.order_propagator.specs.inner.Making.{AddsNamed, CanMake, Grows, Makes}
use Rattle.order_propagator.specs.inner.Names.{AreNamed}
use Rattle.order_propagator.proofs.EntryLemmas.{up_to-more}
use Rattle.order_propagator.proofs.NameLemmas.{AreNamed-push}
use Rattle.order_propagator.proofs.NumberLemmas.{numbered-within}

-- a state by its parts
abbrev pub state : ℕ → List (Option (List Lit)) → List Entry → ℕ → Bool → State
state vars clauses entries level ready = record { vars = vars; clauses = clauses; entries = entries; level = level; ready = ready }

-- nothing was added
pub Grows-none : (order : Order) (t : NamedTrail) → Grows order t t
Grows-none order t = record {
  added = [];
  made = [];
  forced = All-nil (λ (e : Entry). (e.level ≡ t.trail.level) × IsSome e.reason);
  entries = ap (λ es. state t.trail.vars t.trail.clauses es t.trail.level t.trail.ready) (sym (append-nil t.trail.entries));
  names = sym (append-nil t.names);
  of_order = All-nil (λ name. name ≤ length (order_list order));
  more = omega arith;
  kept = λ number within. refl;
}

-- more was added
pub Grows-more : (order : Order) (a b c : NamedTrail) → Grows order a b → Grows order b c → Grows order a c
Grows-more order a b c g h = record {
  added = g.added ++ h.added;
  made = g.made ++ h.made;
  forced = All-append (λ (e : Entry). (e.level ≡ a.trail.level) × IsSome e.reason) g.added h.added g.forced
      (subst (λ n. All (λ (e : Entry). (e.level ≡ n) × IsSome e.reason) h.added) (ap (λ (s : State). s.level) g.entries) h.forced);
  entries = h.entries
      ∙ ap (λ (s : State). state s.vars c.trail.clauses (s.entries ++ h.added) s.level c.trail.ready) g.entries
      ∙ ap (λ es. state a.trail.vars c.trail.clauses es a.trail.level c.trail.ready) (append_assoc a.trail.entries g.added h.added);
  names = h.names ∙ ap (λ ns. ns ++ h.made) g.names ∙ append_assoc a.names g.made h.made;
  of_order = All-append (λ name. name ≤ length (order_list order)) g.made h.made g.of_order h.of_order;
  more = omega (arith, g.more, h.more);
  kept = λ number within. h.kept number (omega (arith, within, g.more)) ∙ g.kept number within;
}

-- propagation adds forced entries
pub Grows-propagates : (order : Order) (a b : NamedTrail) → Propagates a.trail b.trail → b.names ≡ a.names → Grows order a b
Grows-propagates order a b p names = record {
  added = p.added;
  made = [];
  forced = p.forced;
  entries = p.grows ∙ ap (λ cs. state a.trail.vars cs (a.trail.entries ++ p.added) a.trail.level b.trail.ready) (sym same);
  names = names ∙ sym (append-nil a.names);
  of_order = All-nil (λ name. name ≤ length (order_list order));
  more = omega (arith, ap length same);
  kept = λ number within. ap (λ cs. live cs number) same;
}
  where
    same : b.trail.clauses ≡ a.trail.clauses
    same = ap (λ (s : State). s.clauses) p.grows

-- a clause of the order was made
pub Grows-adds : (order : Order) (a b : NamedTrail) (clause : List Lit) (name : ℕ) → AddsNamed a clause name b → name ≤ length (order_list order) → Grows order a b
Grows-adds order a b clause name adds few = record {
  added = [];
  made = name ∷ [];
  forced = All-nil (λ (e : Entry). (e.level ≡ a.trail.level) × IsSome e.reason);
  entries = adds.adds.rest
      ∙ ap₂ (λ es r. state a.trail.vars b.trail.clauses es a.trail.level r) (sym (append-nil a.trail.entries)) (sym (ap (λ (s : State). s.ready) adds.adds.rest));
  names = adds.names;
  of_order = All-push (λ n. n ≤ length (order_list order)) [] name (All-nil (λ n. n ≤ length (order_list order))) few;
  more = omega (arith, adds.adds.last);
  kept = λ number within. adds.adds.others number (λ same. omega (arith, same, within));
}

-- propagation keeps what is needed to make clauses
pub CanMake-propagates : (order : Order) (a b : NamedTrail) → Propagates a.trail b.trail → b.names ≡ a.names → IsTrail b.trail → CanMake order a → CanMake order b
CanMake-propagates order a b p names sound can = record {
  trail = sound;
  exist = subst (λ v. All (VariablesExist v) (order_list order)) (sym (ap (λ (s : State). s.vars) p.grows)) can.exist;
  named = rw (ap (λ (s : State). s.clauses) p.grows, names) can.named;
  below = λ level lower.
      let under : level < a.trail.level = subst (λ n. level < n) (ap (λ (s : State). s.level) p.grows) lower in
      let high : All (λ (e : Entry). level < e.level) p.added = All-weaker (λ (e : Entry). (e.level ≡ a.trail.level) × IsSome e.reason) (λ (e : Entry). level < e.level) (λ e forced. omega (arith, forced.0, under)) p.added p.forced in
      subst (λ es. IsTransitive order (values_of es)) (sym (ap (λ (s : State). up_to level s.entries) p.grows ∙ up_to-more level a.trail.entries p.added high)) (can.below level under);
}

-- so does a clause with a name
pub CanMake-adds : (order : Order) (a b : NamedTrail) (clause : List Lit) (name : ℕ) → AddsNamed a clause name b → IsTrail b.trail → 0 < name → (name ≤ length (order_list order) → HasNumber (numbered (order_list order)) name clause) → CanMake order a → CanMake order b
CanMake-adds order a b clause name adds sound from_one of_order can = record {
  trail = sound;
  exist = subst (λ v. All (VariablesExist v) (order_list order)) (sym (ap (λ (s : State). s.vars) adds.adds.rest)) can.exist;
  named = subst (AreNamed order b.trail.clauses) (sym adds.names)
      (AreNamed-push order a.trail.clauses b.trail.clauses a.names clause name can.named adds.adds.last adds.adds.has_number.there
      (λ n within. adds.adds.others n (λ same. omega (arith, same, within))) from_one of_order);
  below = rw (ap (λ (s : State). s.entries) adds.adds.rest, ap (λ (s : State). s.level) adds.adds.rest) can.below;
}

-- what an addition leaves, if it came to be or not
pub CanMake-made : {A E : Type 0} (order : Order) (a b : NamedTrail) (clause : List Lit) (name : ℕ) (r : Result A E) → OnOk r (AddsNamed a clause name b) → OnErr r (b ≡ a) → HasNumber (numbered (order_list order)) name clause → IsTrail b.trail → CanMake order a → CanMake order b
CanMake-made order a b clause name (Ok x) ok err has sound can = CanMake-adds order a b clause name ok sound (numbered-within (order_list order) name clause has).0 (λ _. has) can
CanMake-made order a b clause name (Err x) ok err has sound can = subst (CanMake order) (sym err) can

-- how the trail grew in either case
pub Grows-made : {A E : Type 0} (order : Order) (a b : NamedTrail) (clause : List Lit) (name : ℕ) (r : Result A E) → OnOk r (AddsNamed a clause name b) → OnErr r (b ≡ a) → HasNumber (numbered (order_list order)) name clause → Grows order a b
Grows-made order a b clause name (Ok x) ok err has = Grows-adds order a b clause name ok (numbered-within (order_list order) name clause has).1
Grows-made order a b clause name (Err x) ok err has = subst (Grows order a) (sym err) (Grows-none order a)

-- both together: what an addition leaves, what propagation leaves, and one after the other
pub Makes-made : {A E : Type 0} (order : Order) (a b : NamedTrail) (clause : List Lit) (name : ℕ) (r : Result A E) → OnOk r (AddsNamed a clause name b) → OnErr r (b ≡ a) → HasNumber (numbered (order_list order)) name clause → IsTrail b.trail → CanMake order a → Makes order a b
Makes-made order a b clause name r ok err has sound can = record {
  can = CanMake-made order a b clause name r ok err has sound can;
  grows = Grows-made order a b clause name r ok err has;
}

pub Makes-none : (order : Order) (t : NamedTrail) → CanMake order t → Makes order t t
Makes-none order t can = record { can = can; grows = Grows-none order t }

pub Makes-propagates : (order : Order) (a b : NamedTrail) → CanMake order a → Propagates a.trail b.trail → b.names ≡ a.names → IsTrail b.trail → Makes order a b
Makes-propagates order a b can p names sound = record {
  can = CanMake-propagates order a b p names sound can;
  grows = Grows-propagates order a b p names;
}

pub Makes-more : (order : Order) (a b c : NamedTrail) → Makes order a b → Makes order b c → Makes order a c
Makes-more order a b c first second = record { can = second.can; grows = Grows-more order a b c first.grows second.grows }

-- the name of a clause that was added is one of the names
pub among-made : {A E : Type 0} (a b : NamedTrail) (clause : List Lit) (name : ℕ) (r : Result A E) → OnOk r (AddsNamed a clause name b) → OnOk r (Contains b.names name)
among-made a b clause name (Ok x) ok = subst (λ ns. Contains ns name) (sym ok.names) (Contains-push a.names name)
among-made a b clause name (Err x) ok = tt

-- no entry is lost
pub Grows-longer : (order : Order) (a b : NamedTrail) → Grows order a b → length a.trail.entries ≤ length b.trail.entries
Grows-longer order a b g = subst (λ es. length a.trail.entries ≤ length es) (sym (ap (λ (s : State). s.entries) g.entries)) (omega (arith, length-append a.trail.entries g.added))

-- the variables are the same
pub Grows-vars : (order : Order) (a b : NamedTrail) → Grows order a b → b.trail.vars ≡ a.trail.vars
Grows-vars order a b g = ap (λ (s : State). s.vars) g.entries
