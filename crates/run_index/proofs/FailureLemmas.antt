-- The least of the first failures under the keys is that of the run, and what it says of the run.
use Rattle.std.proofs.Common.{◌≡◌, ℕ, ◌+◌, ◌≤◌, min, List, length, take, Some, inl, inr, refl, sym, ap, ◌∙◌, subst, arith}
use Rattle.std.specs.Prelude.{slice_get, ⊤}
use Rattle.std.proofs.lemmas.Bool.{cases_lt}
use Rattle.std.proofs.lemmas.Option.{same_Some, slice_get_within}
use Rattle.bspl_types.specs.declared.event.Event.{Event}
use Rattle.bspl_types.specs.declared.expanded.Expanded.{Expanded}
use Rattle.bspl_types.specs.History.{instance_of}
use Rattle.run_index.specs.declared.demand.Demand.{Demand}
use Rattle.run_index.specs.FirstOfKey.{HasKeyBefore, IsRepeatOfKey}
use Rattle.run_index.specs.inner.Demands.{Meets}
use Rattle.run_index.specs.inner.Failures.{IsFirstFailure}

-- before the first key there is no failure
pub none_reached : (x : Expanded) (demand : Demand) (run : List Event) → IsFirstFailure x demand run (HasKeyBefore run 0) (length run)
none_reached x demand run =
    record {
      within = omega arith;
      met = λ k e before at reached. absurd (omega (arith, reached.before));
      failed = λ e at. absurd (omega (arith, slice_get_within run (length run) e at));
    }

-- one more key: the earlier of two failures
pub key_reached : (x : Expanded) (demand : Demand) (run : List Event) (start m n : ℕ) (event : Event) → slice_get run start ≡ Some event → IsFirstFailure x demand run (HasKeyBefore run start) m → IsFirstFailure x demand run (λ e. (instance_of e).key ≡ (instance_of event).key) n → IsFirstFailure x demand run (HasKeyBefore run (start + 1)) (min m n)
key_reached x demand run start m n event at least found =
    record {
      within = omega (arith, least.within, found.within);
      met = λ k e before is reached. elim (cases_lt reached.earlier start) [
        | inl old ↦ least.met k e (omega (arith, before)) is (record { earlier = reached.earlier; other = reached.other; before = old; at = reached.at; same = reached.same })
        | inr here ↦
            let is_start : start ≡ reached.earlier = omega (arith, here, reached.before) in
            let is_event : event ≡ reached.other = same_Some event reached.other (sym at ∙ ap (slice_get run) is_start ∙ reached.at) in
            found.met k e (omega (arith, before)) is (sym reached.same ∙ ap (λ f. (instance_of f).key) (sym is_event))
      ];
      failed = elim (cases_lt m n) [
        | inl less ↦ subst (λ k. (e : Event) → slice_get run k ≡ Some e → ¬ Meets x demand (take k run) e) (omega (arith, less)) least.failed
        | inr more ↦ subst (λ k. (e : Event) → slice_get run k ≡ Some e → ¬ Meets x demand (take k run) e) (omega (arith, more)) found.failed
      ];
    }

-- a key that was reached before
pub key_again : (x : Expanded) (demand : Demand) (run : List Event) (start m : ℕ) → IsRepeatOfKey run start → IsFirstFailure x demand run (HasKeyBefore run start) m → IsFirstFailure x demand run (HasKeyBefore run (start + 1)) m
key_again x demand run start m repeat least =
    record {
      within = least.within;
      met = λ k e before is reached. least.met k e before is (elim (cases_lt reached.earlier start) [
        | inl old ↦ record { earlier = reached.earlier; other = reached.other; before = old; at = reached.at; same = reached.same }
        | inr here ↦
            let is_start : start ≡ reached.earlier = omega (arith, here, reached.before) in
            let again = repeat reached.other (ap (slice_get run) is_start ∙ reached.at) in
            record { earlier = again.earlier; other = again.other; before = again.before; at = again.at; same = again.same ∙ reached.same }
      ]);
      failed = least.failed;
    }

-- at the end each key is reached
pub all_reached : (x : Expanded) (demand : Demand) (run : List Event) (n m : ℕ) → length run ≤ n → IsFirstFailure x demand run (HasKeyBefore run n) m → IsFirstFailure x demand run (λ _. ⊤) m
all_reached x demand run n m is_end least =
    record {
      within = least.within;
      met = λ k e before at _. least.met k e before at (record { earlier = k; other = e; before = omega (arith, is_end, slice_get_within run k e at); at = at; same = refl });
      failed = least.failed;
    }
