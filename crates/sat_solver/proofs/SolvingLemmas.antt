-- What the solver has learned so far, and what that makes of its answers.
use Rattle.std.proofs.Common.{◌≡◌, ◌≢◌, ℕ, ◌+◌, ◌<◌, Bool, List, [], ◌∷◌, ◌++◌, inl, inr, length, get_or, sym, ap, refl, ◌∙◌, subst, append_assoc, append-nil, arith, All, Contains, length-append}
use Rattle.std.proofs.lemmas.Bool.{cases_eq}
use Rattle.std.proofs.lemmas.List.Elements.{All-push, Contains-append_left, Contains-append_right, Contains-push, Contains-push_cases}
use Rattle.clause_core.specs.declared.literal.Lit.{Lit}
use Rattle.clause_core.specs.declared.formula.Formula.{Formula}
use Rattle.clause_core.specs.Clause.{SatisfiesAll}
use Rattle.clause_core.specs.Propagation.{IsLacked}
use Rattle.refutation_log.specs.declared.refutation.Chain.{Chain}
use Rattle.refutation_log.specs.declared.refutation.Log.{Log}
use Rattle.refutation_log.specs.Ledger.{IsContaining, IsLive, Ledger}
use Rattle.refutation_log.specs.Resolution.{Derives, DerivesAll, Folds, IsNew, ResolvesBy}
use Rattle.refutation_log.specs.ResolutionLaws.{NewClausesAppend, PlainLogsResolve, StepsAppend}
use Rattle.clause_core.specs.Numbering.{numbered}
use Rattle.sat_trail.specs.State.{State, numbering_of, last_number}
use Rattle.sat_trail.specs.Trail.{IsTrail, IsStart, Adds}
use Rattle.sat_solver.specs.inner.Analysis.{Refuted, Learns, at_level}
use Rattle.sat_solver.specs.inner.Search.{KeepsClauses}
use Rattle.sat_solver.specs.inner.Choice.{SatisfiesNumbered}
use Rattle.sat_solver.proofs.NumberLemmas.{number_made, slice_get-append, number_among, others_keep, added_last, derives-agree}
use Rattle.sat_solver.specs.inner.Progress.{AreLearned, HasLearned}
use Rattle.sat_solver.specs.declared.learner.Learner.{Learner}
use Rattle.sat_solver.specs.inner.Ending.{IsPlain}
use Rattle.sat_solver.specs.inner.Learner.{IsLearning, IsNewLearner, LearnsOne, RefutesBy}
use Rattle.sat_solver.specs.Outcome.{Refutes, Spends}
use Rattle.sat_solver.proofs.ConflictLemmas.{IsLacked-learned}

-- nothing is learned yet
pub HasLearned-start : (f : Formula) (t : State) → ¬ Contains f.clauses [] → IsStart f t → IsTrail t → HasLearned f t []
HasLearned-start f t no_empty start trail = record {
  derived = [];
  learned = record {
    derives = refl;
    linked = λ k d within. absurd (omega arith);
    new = tt;
    no_empty = λ among. no_empty (subst (λ cs. Contains cs []) (append-nil f.clauses) among);
    counted = refl;
  };
  numbers = λ n. start.numbers n ∙ ap (λ cs. numbered cs n) (sym (append-nil f.clauses));
  last = start.last ∙ ap length (sym (append-nil f.clauses));
  vars = start.vars;
  sound = trail;
}

-- a search changes no clause
pub HasLearned-search : (f : Formula) (t new : State) (steps : List Chain) → HasLearned f t steps → KeepsClauses t new → HasLearned f new steps
HasLearned-search f t new steps known keeps = record {
  derived = known.derived;
  learned = known.learned;
  numbers = λ n. keeps.numbers n ∙ known.numbers n;
  last = keeps.last ∙ known.last;
  vars = keeps.vars ∙ known.vars;
  sound = keeps.sound;
}

-- a clause that is added has the next number after those of the list
numbers-learn : (old : State) (clauses : List (List Lit)) (clause : List Lit) (new : State) (number : ℕ) → ((n : ℕ) → numbering_of old n ≡ numbered clauses n) → last_number old ≡ length clauses → Adds old clause new number → (n : ℕ) → numbering_of new n ≡ numbered (clauses ++ clause ∷ []) n
numbers-learn old clauses clause new number numbers last adds n = elim (cases_eq n number) [
  | inl same ↦ rw same (adds.has_number.there ∙ sym (ap (numbered (clauses ++ clause ∷ [])) next ∙ (added_last clauses clause).there))
  | inr other ↦ adds.others n other ∙ numbers n ∙ sym (others_keep clauses clause n (λ at_end. other (at_end ∙ sym next)))
]
  where
    next : number ≡ length clauses + 1
    next = adds.next ∙ ap (λ k. k + 1) last

-- a clause that holds a literal is not empty
holds-some : (clause : List Lit) (l : Lit) → Contains clause l → clause ≢ []
holds-some clause l among empty = let in_none : Contains {X = Lit} [] l = subst (λ c. Contains c l) empty among in absurd (omega (arith, in_none.1))

-- one clause more is learned
AreLearned-more : (f : Formula) (steps : List Chain) (derived : List (List Lit)) (chain : Chain) (clause : List Lit) → StepsAppend → NewClausesAppend → AreLearned f steps derived → Derives (numbered (f.clauses ++ derived)) chain clause → chain.links ≢ [] → IsLacked (f.clauses ++ derived) clause → clause ≢ [] → AreLearned f (steps ++ chain ∷ []) (derived ++ clause ∷ [])
AreLearned-more f steps derived chain clause derives_more new_more known derives linked lacked not_empty = record {
  derives = derives_more f.clauses derived steps chain clause known.derives derives;
  linked = All-push (λ (c : Chain). c.links ≢ []) steps chain known.linked linked;
  new = new_more f.clauses derived clause known.new (record {
    lacked = λ some. lacked;
    first_empty = λ empty. absurd (not_empty empty);
  });
  no_empty = λ among. elim (Contains-push_cases (f.clauses ++ derived) clause [] (subst (λ cs. Contains cs []) (sym (append_assoc f.clauses derived (clause ∷ []))) among)) [
    | inl before ↦ known.no_empty before
    | inr last ↦ not_empty last
  ];
  counted = omega (arith, length-append derived (clause ∷ []), length-append steps (chain ∷ []), known.counted);
}

-- a clause is learned at a conflict
pub HasLearned-learn : (f : Formula) (t new : State) (steps : List Chain) (chain : Chain) → StepsAppend → NewClausesAppend → HasLearned f t steps → 0 < t.level → Learns t new chain → HasLearned f new (steps ++ chain ∷ [])
HasLearned-learn f t new steps chain derives_more new_more known above learns = record {
  derived = known.derived ++ learns.clause ∷ [];
  learned = AreLearned-more f steps known.derived chain learns.clause derives_more new_more known.learned
      (derives-agree (numbering_of t) (numbered (f.clauses ++ known.derived)) chain learns.clause known.numbers learns.learned.derives)
      learns.learned.linked
      (IsLacked-learned t (f.clauses ++ known.derived) chain learns.clause known.numbers known.sound above learns.learned)
      (holds-some learns.clause learns.learned.current.literal learns.learned.current.among);
  numbers = λ n. numbers-learn (at_level learns.level t) (f.clauses ++ known.derived) learns.clause new learns.number known.numbers known.last learns.adds n
      ∙ ap (λ cs. numbered cs n) (append_assoc f.clauses known.derived (learns.clause ∷ []));
  last = learns.adds.last ∙ learns.adds.next ∙ ap (λ k. k + 1) known.last ∙ grown ∙ ap length (append_assoc f.clauses known.derived (learns.clause ∷ []));
  vars = ap (λ (s : State). s.vars) learns.adds.rest ∙ known.vars;
  sound = learns.sound;
}
  where
    grown : length (f.clauses ++ known.derived) + 1 ≡ length ((f.clauses ++ known.derived) ++ learns.clause ∷ [])
    grown = omega (arith, length-append (f.clauses ++ known.derived) (learns.clause ∷ []))

-- the laws of a log without removals: by live clauses, and by clauses that contain others
pub record PlainLaws : Type 0 where
  pub live : PlainLogsResolve IsLive
  pub containing : PlainLogsResolve IsContaining

-- a log without removals resolves as its steps do
plain-resolves : (MayEnd : Ledger → ℕ → Type 0) → PlainLogsResolve MayEnd → (f : Formula) (derived : List (List Lit)) (steps : List Chain) (log : Log) → IsPlain steps log → DerivesAll f.clauses steps derived → ResolvesBy MayEnd f.clauses log derived
plain-resolves MayEnd law f derived steps log plain derives =
    (law f.clauses derived log plain.none).1 (subst (λ (made : List Chain). DerivesAll f.clauses made derived) (sym plain.same) derives)

-- each of its steps has a link if these have
plain-linked : (steps : List Chain) (log : Log) → IsPlain steps log → All (λ (chain : Chain). chain.links ≢ []) steps → All (λ (chain : Chain). chain.links ≢ []) log.steps
plain-linked steps log plain linked = subst (λ (made : List Chain). All (λ (chain : Chain). chain.links ≢ []) made) (sym plain.same) linked

-- the log so far is new
IsNew-learned : PlainLaws → (f : Formula) (t : State) (steps : List Chain) (log : Log) → IsPlain steps log → HasLearned f t steps → IsNew f log
IsNew-learned laws f t steps log plain known = record {
  derived = known.derived;
  resolves = plain-resolves IsContaining laws.containing f known.derived steps log plain known.learned.derives;
  linked = plain-linked steps log plain known.learned.linked;
  new = known.learned.new;
}

-- the budget is spent
pub Spends-learned : PlainLaws → (f : Formula) (t : State) (steps : List Chain) (log : Log) (budget : ℕ) → IsPlain steps log → HasLearned f t steps → length steps ≡ budget → Spends f budget log
Spends-learned laws f t steps log budget plain known spent = record {
  new = IsNew-learned laws f t steps log plain known;
  spent = ap length plain.same ∙ spent;
  derived = known.derived;
  resolves = plain-resolves IsLive laws.live f known.derived steps log plain known.learned.derives;
  no_empty = λ among. known.learned.no_empty (Contains-append_right f.clauses known.derived [] among);
}

-- an empty clause of the formula is a refutation without steps
pub Refutes-empty : PlainLaws → (f : Formula) (log : Log) (budget : ℕ) → IsPlain [] log → Contains f.clauses [] → Refutes f budget log
Refutes-empty laws f log budget plain among = record {
  accepted = record { derived = []; resolves = plain-resolves IsLive laws.live f [] [] log plain refl; empty = Contains-append_left f.clauses [] [] among };
  new = record {
    derived = [];
    resolves = plain-resolves IsContaining laws.containing f [] [] log plain refl;
    linked = plain-linked [] log plain (λ k d within. absurd (omega arith));
    new = tt;
  };
  within = let short = ap length plain.same in omega (arith, short);
  none_needed = λ _. record { steps = plain.same; removals = plain.none };
}

-- a chain that derives the empty clause has a link if no clause before it is empty
linked-refuted : (clauses : List (List Lit)) (chain : Chain) → ¬ Contains clauses [] → Derives (numbered clauses) chain [] → chain.links ≢ []
linked-refuted clauses chain no_empty derives none =
    let folds : derives.start ≡ [] = subst (λ ls. Folds (numbered clauses) derives.start ls []) none derives.folds in
    no_empty (subst (Contains clauses) folds (number_among clauses chain.first derives.start derives.named))

-- a refutation at level 0 ends the log
pub Refutes-learned : PlainLaws → (f : Formula) (t : State) (steps : List Chain) (log : Log) (budget number : ℕ) (chain : Chain) (clause : List Lit) → StepsAppend → NewClausesAppend → IsPlain (steps ++ chain ∷ []) log → HasLearned f t steps → length steps < budget → Refuted t number chain clause → Refutes f budget log
Refutes-learned laws f t steps log budget number chain clause derives_more new_more plain known short refuted = record {
  accepted = record {
    derived = known.derived ++ [] ∷ [];
    resolves = plain-resolves IsLive laws.live f (known.derived ++ [] ∷ []) (steps ++ chain ∷ []) log plain derives;
    empty = subst (λ cs. Contains cs []) (append_assoc f.clauses known.derived ([] ∷ [])) (Contains-push (f.clauses ++ known.derived) []);
  };
  new = record {
    derived = known.derived ++ [] ∷ [];
    resolves = plain-resolves IsContaining laws.containing f (known.derived ++ [] ∷ []) (steps ++ chain ∷ []) log plain derives;
    linked = plain-linked (steps ++ chain ∷ []) log plain (All-push (λ (c : Chain). c.links ≢ []) steps chain known.learned.linked (linked-refuted (f.clauses ++ known.derived) chain known.learned.no_empty last));
    new = new_more f.clauses known.derived [] known.learned.new (record { lacked = λ some. absurd (some refl); first_empty = λ _. known.learned.no_empty });
  };
  within = let made = ap length plain.same in omega (arith, short, made, length-append steps (chain ∷ []));
  none_needed = λ among. absurd (known.learned.no_empty (Contains-append_left f.clauses known.derived [] among));
}
  where
    last : Derives (numbered (f.clauses ++ known.derived)) chain []
    last = derives-agree (numbering_of t) (numbered (f.clauses ++ known.derived)) chain [] known.numbers
        (subst (Derives (numbering_of t) chain) refuted.empty refuted.derives)

    derives : DerivesAll f.clauses (steps ++ chain ∷ []) (known.derived ++ [] ∷ [])
    derives = derives_more f.clauses known.derived steps chain [] known.learned.derives last

-- what satisfies the clauses of the trail satisfies the formula
pub satisfies-formula : (f : Formula) (t : State) (steps : List Chain) (v : ℕ → Bool) → HasLearned f t steps → SatisfiesNumbered v (numbering_of t) → SatisfiesAll v f.clauses
satisfies-formula f t steps v known satisfies k d within = satisfies (k + 1) (get_or f.clauses k d) (record {
  there = known.numbers (k + 1) ∙ (number_made (f.clauses ++ known.derived) k (get_or f.clauses k d) (slice_get-append f.clauses known.derived k d within)).there;
})

-- there is a number for one clause more
pub few-learned : (f : Formula) (t : State) (steps : List Chain) (budget : ℕ) → HasLearned f t steps → length steps < budget → length f.clauses + budget < 4294967296 → last_number t + 1 < 4294967296
few-learned f t steps budget known short few =
    omega (arith, known.last, length-append f.clauses known.derived, known.learned.counted, short, few)

-- nothing is learned yet
pub IsLearning-start : (f : Formula) (l : Learner) → ¬ Contains f.clauses [] → IsNewLearner f l → IsLearning f l
IsLearning-start f l no_empty new = subst (HasLearned f l.trail) (sym new.steps) (HasLearned-start f l.trail no_empty new.start new.sound)

-- a search changes no clause and no step
pub IsLearning-search : (f : Formula) (l new : Learner) → IsLearning f l → KeepsClauses l.trail new.trail → new.steps ≡ l.steps → IsLearning f new
IsLearning-search f l new known keeps steps = subst (HasLearned f new.trail) (sym steps) (HasLearned-search f l.trail new.trail l.steps known keeps)

-- a clause is learned at a conflict
pub IsLearning-learn : (f : Formula) (l new : Learner) → StepsAppend → NewClausesAppend → IsLearning f l → 0 < l.trail.level → LearnsOne l new → IsLearning f new
IsLearning-learn f l new derives_more new_more known above one =
    subst (HasLearned f new.trail) (sym one.steps) (HasLearned-learn f l.trail new.trail l.steps one.chain derives_more new_more known above one.learns)

-- a learner's log, once it has the last step, refutes the formula
pub Refutes-by : PlainLaws → (f : Formula) (l new : Learner) (log : Log) (budget number : ℕ) → StepsAppend → NewClausesAppend → IsLearning f l → length l.steps < budget → RefutesBy number l new → IsPlain new.steps log → Refutes f budget log
Refutes-by laws f l new log budget number derives_more new_more known short by plain =
    Refutes-learned laws f l.trail l.steps log budget number by.chain by.clause derives_more new_more
    (record { same = plain.same ∙ by.steps; none = plain.none }) known short by.refuted
