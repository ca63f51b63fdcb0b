-- One thing happened before another exactly if one of its kinds first occurs before each kind of the other.
use Rattle.std.proofs.Common.{◌≡◌, ◌≢◌, ◌↔◌, inl, inr, ℕ, ◌+◌, ◌<◌, Bool, true, not, List, length, take, sym, ap, ◌∙◌, subst, ⊎_elim, arith, length-take, Contains}
use Rattle.std.specs.Prelude.{◌==◌}
use Rattle.std.specs.List.{list_any}
use Rattle.std.proofs.lemmas.Bool.{both_ways, cases_Bool, cases_lt, eq-eqb, eqb-true, not-true}
use Rattle.std.proofs.lemmas.List.{take_all}
use Rattle.list_base.proofs.Filtered.{filtered_member, kept_member}
use Rattle.bspl_types.specs.declared.event.Event.{Event}
use Rattle.bspl_types.specs.declared.expanded.Expanded.{Expanded}
use Rattle.bspl_types.specs.declared.value.Value.{Value}
use Rattle.circuit_clauses.specs.Condition.{Condition, Literal, Meets}
use Rattle.clause_encoding.specs.declared.variables.Variables.{Variables}
use Rattle.clause_encoding.specs.Variables.{occurs, stands_before}
use Rattle.enactment_model.specs.Laws.{PrefixIsLegalRun}
use Rattle.enactment_model.specs.Legal.{IsLegalRun}
use Rattle.first_occurrences.specs.Laws.{BoundExactlyIfSent}
use Rattle.first_occurrences.specs.Occurrence.{first_position, is_occurring}
use Rattle.first_occurrences.specs.Shown.{KnownExactlyIfCarried, OccursExactlyIfSomeEvent, OccursExactlyIfWithin, Shows}
use Rattle.questions.specs.declared.question.Happening.{Happening}
use Rattle.questions.specs.Happening.{HappenedBefore, HasHappened}
use Rattle.question_formula.specs.Conditions.{occurs_before, some_before}
use Rattle.question_formula.specs.Happenings.{kinds_of}
use Rattle.question_formula.proofs.ConditionLemmas.{all_met, first_met, met_all, met_first, met_one, one_met}
use Rattle.question_formula.proofs.HappeningLemmas.{happened_if_occurs, some_kind}
use Rattle.question_formula.proofs.KindLemmas.{AreKinds}
use Rattle.question_formula.proofs.ListedLemmas.{passed, passes_by}

-- the kind is none of these
abbrev is_none_of : List ℕ → ℕ → Bool
is_none_of others kind = not (list_any (λ other. other == kind) others)

-- if it is the same as none
none_if_apart : (others : List ℕ) (kind : ℕ) → ((other : ℕ) → Contains others other → other ≢ kind) → is_none_of others kind ≡ true
none_if_apart others kind apart = elim (cases_Bool (list_any (λ other. other == kind) others)) [
  | inl some ↦ let found = passed (λ other. other == kind) others some in absurd (apart found.item found.among (eqb-true found.item kind found.passes))
  | inr none ↦ ap not none
]

-- and only then
apart_if_none : (others : List ℕ) (kind other : ℕ) → is_none_of others kind ≡ true → Contains others other → kind ≢ other
apart_if_none others kind other none among same =
    both_ways (list_any (λ o. o == kind) others) (not-true (list_any (λ o. o == kind) others) none)
    (passes_by (λ o. o == kind) others other among (eq-eqb other kind (sym same)))

module _ (has : OccursExactlyIfSomeEvent) (within : OccursExactlyIfWithin) (known : KnownExactlyIfCarried) (bound : BoundExactlyIfSent) (prefix : PrefixIsLegalRun) (x : Expanded) (run : List Event) (key : List Value) (is_legal : IsLegalRun x run) where
  -- something has happened at a moment exactly if one of its kinds first occurs before it
  happened_at : (moment : ℕ) (h : Happening) → HasHappened x (take moment run) key h ↔ (some_kind (take moment run) key (kinds_of x h) ≡ true)
  happened_at moment h = happened_if_occurs has known bound x (take moment run) key (prefix x run moment is_legal) h

  -- the first position of a kind that occurs is one of the run's
  occurs_in_all : (kind : ℕ) → (is_occurring run key kind ≡ true) ↔ (first_position run key kind < length run)
  occurs_in_all kind =
      let all = take_all (length run) run (omega arith) in
      subst (λ (events : List Event). (is_occurring events key kind ≡ true) ↔ (first_position run key kind < length events)) all (within run key kind (length run))

  module _ (vars : Variables) (v : ℕ → Bool) (shows : Shows vars run key v) (one other : Happening) (are : AreKinds vars (kinds_of x one)) (too : AreKinds vars (kinds_of x other)) where
    -- the literal of a kind that stands before one of the other
    abbrev stands : ℕ → ℕ → Condition
    stands kind later = Literal (stands_before vars kind later)

    -- a kind of the one that occurs at the moment comes before each kind of the other
    comes_before : (before : HappenedBefore x run key one other) (kind : ℕ) → is_occurring (take before.moment run) key kind ≡ true → (later : ℕ) → Contains (kinds_of x other) later → first_position run key kind < first_position run key later
    comes_before before kind early later among =
        let moment = before.moment in
        let first = (within run key kind moment).0 early in
        ⊎_elim
        (λ no_later. absurd (before.not_yet ((happened_at moment other).1 (passes_by (is_occurring (take moment run) key) (kinds_of x other) later among ((within run key later moment).1 no_later)))))
        (λ after. omega (arith, first, after))
        (cases_lt (first_position run key later) (length (take moment run)))

    -- so it meets the condition
    before_met : HappenedBefore x run key one other → Meets v (some_before vars (kinds_of x one) (kinds_of x other))
    before_met before =
        let moment = before.moment in
        let others = kinds_of x other in
        let found = passed (is_occurring (take moment run) key) (kinds_of x one) ((happened_at moment one).0 before.happened) in
        let kind = found.item in
        let comes = comes_before before kind found.passes in
        let apart = none_if_apart others kind (λ later among same. let less = comes later among in absurd (omega (arith, less, ap (first_position run key) same))) in
        let occurring = (occurs_in_all kind).1 (omega (arith, (within run key kind moment).0 found.passes, length-take moment run)) in
        let is_kind = are kind found.among in
        met_one v (occurs_before vars others) _ kind (kept_member (is_none_of others) (kinds_of x one) kind apart found.among)
        (met_first v (stands kind) (Literal (occurs kind)) others (shows.occurring kind is_kind ∙ occurring)
        (met_all v (stands kind) others (λ later among. (shows.order kind later is_kind (too later among) (apart_if_none others kind later apart among) occurring).1 (comes later among))))

    -- and what meets it shows the moment after the first position of a kind
    met_before : Meets v (some_before vars (kinds_of x one) (kinds_of x other)) → HappenedBefore x run key one other
    met_before met =
        let others = kinds_of x other in
        let found = one_met v (occurs_before vars others) _ met in
        let kind = found.item in
        let (among, apart) = filtered_member (is_none_of others) (kinds_of x one) kind found.among in
        let (first, rest) = first_met v (stands kind) (Literal (occurs kind)) others found.met in
        let is_kind = are kind among in
        let occurring = sym (shows.occurring kind is_kind) ∙ first in
        let moment = first_position run key kind + 1 in
        let inside = (occurs_in_all kind).0 occurring in
        record {
          moment = moment;
          happened =
              (happened_at moment one).1
              (passes_by (is_occurring (take moment run) key) (kinds_of x one) kind among ((within run key kind moment).1 (omega (arith, inside, length-take moment run))));
          not_yet = λ yet.
              let later = passed (is_occurring (take moment run) key) others ((happened_at moment other).0 yet) in
              let early = (within run key later.item moment).0 later.passes in
              let comes =
              (shows.order kind later.item is_kind (too later.item later.among) (apart_if_none others kind later.item apart later.among) occurring).0
              (all_met v (stands kind) others rest later.item later.among) in
              absurd (omega (arith, early, comes, length-take moment run));
        }

    -- so the one holds exactly if the other does
    pub before_shown : HappenedBefore x run key one other ↔ Meets v (some_before vars (kinds_of x one) (kinds_of x other))
    before_shown = (before_met, met_before)
