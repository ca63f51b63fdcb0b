-- What the first position of an event says of emissions and receptions.
use Rattle.std.proofs.Common.{ℕ, ◌<◌, List, length, take, inl, inr, arith}
use Rattle.std.specs.Prelude.{⊤}
use Rattle.std.specs.List.{Contains}
use Rattle.std.proofs.lemmas.Bool.{cases_lt}
use Rattle.list_base.proofs.Membership.{early_index, early_member, index_of, member_at}
use Rattle.std.proofs.lemmas.Option.{slice_get_within}
use Rattle.bspl_types.specs.declared.event.Event.{Event}
use Rattle.bspl_types.specs.declared.event.Event.TheVariants.{Emit}
use Rattle.bspl_types.specs.declared.event.Instance.{Instance}
use Rattle.bspl_types.specs.declared.expanded.Expanded.{Expanded}
use Rattle.run_index.specs.declared.demand.Demand.TheVariants as demands
use Rattle.run_index.specs.FirstDisabled.{IsFirstDisabled}
use Rattle.run_index.specs.FirstEmission.{IsFirstEmission}
use Rattle.run_index.specs.inner.Chain.{IsFirstFrom}
use Rattle.run_index.specs.inner.Failures.{IsFirstFailure}

-- the first failure of the emissions is the first one that is not enabled
pub disabled_from : (x : Expanded) (run : List Event) (n : ℕ) → IsFirstFailure x demands.Enabled run (λ _. ⊤) n → IsFirstDisabled x run n
disabled_from x run n failure = record { within = failure.within; enabled = λ k e before at. failure.met k e before at tt; disabled = failure.failed }

-- the first position of an emission is that of its instance
pub first_emission_from : (run : List Event) (i : Instance) (n : ℕ) → IsFirstFrom run (Emit i) 0 n → IsFirstEmission run i n
first_emission_from run i n first = record { within = first.within; none_before = λ k before. first.none_before k (omega arith) before; emitted = first.there }

-- an event that has a position is in the run
pub in_run : (run : List Event) (e : Event) (n : ℕ) → IsFirstFrom run e 0 n → n < length run → Contains run e
in_run run e n first within = member_at run n e (first.there within)

-- and one in the run has a position
pub has_position : (run : List Event) (e : Event) (n : ℕ) → IsFirstFrom run e 0 n → Contains run e → n < length run
has_position run e n first among =
    let (k, at) = index_of run e among in
    elim (cases_lt k n) [
      | inl before ↦ absurd (first.none_before k (omega arith) before at)
      | inr from ↦ omega (arith, from, slice_get_within run k e at)
    ]

-- the instance is emitted before a position exactly if its first emission is
pub emitted_early : (run : List Event) (i : Instance) (n position : ℕ) → IsFirstEmission run i n → position < length run → n < position → Contains (take position run) (Emit i)
emitted_early run i n position first within before = early_member run n position (Emit i) (first.emitted (omega (arith, within, before))) before

pub emission_is_early : (run : List Event) (i : Instance) (n position : ℕ) → IsFirstEmission run i n → Contains (take position run) (Emit i) → n < position
emission_is_early run i n position first among =
    let (k, before, at) = early_index run position (Emit i) among in
    elim (cases_lt k n) [
      | inl early ↦ absurd (first.none_before k early at)
      | inr from ↦ omega (arith, from, before)
    ]
