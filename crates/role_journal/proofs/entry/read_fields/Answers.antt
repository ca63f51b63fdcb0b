-- What the fields hold, and that they hold it again.
use Rattle.std.proofs.Common.{◌≡◌, ◌∙◌, List, length, ap, refl, sym, subst}
use Rattle.std.specs.Prelude.{slice_index}
use Rattle.std.specs.List.{All}
use Rattle.bspl_types.specs.declared.event.Instance.{Instance}
use Rattle.bspl_types.specs.declared.value.Value.{Value}
use Rattle.bspl_types.specs.History.{instance_of}
use Rattle.bspl_types.specs.Instance.{Fits}
use Rattle.bspl_types.specs.Value.{IsValue}
use Rattle.role_journal.proofs.BodyLemmas.{length-values_in}
use Rattle.role_journal.proofs.EntryLemmas.{entry_again, event_instance}
use Rattle.role_journal.proofs.entry.read_fields.Goals as goal

pub instance_with-instance-requires-clause-each : goal.instance_with-instance-requires-clause-each
instance_with-instance-requires-clause-each c = ap length c.values_in-values.ensures.values ∙ length-values_in c.in_ok-count.count _ ∙ c.in_ok-count.ensures.count_is

pub returns-clause-good : goal.returns-clause-good
returns-clause-good c =
    let i = c.instance_with-instance.result in
    let is : instance_of c.event_of.result ≡ i = event_instance c.event_of.result _ i c.event_of.ensures in
    record {
      fits = subst (λ (j : Instance). Fits c.args.a.now j) (sym is) c.instance_with-instance.ensures.fits;
      values = subst (λ (j : Instance). All IsValue j.values) (sym is) (subst (λ (vs : List Value). All IsValue vs) (sym c.instance_with-instance.ensures.values) c.values_in-values.ensures.good);
      stamp = c.u64_in.type_inv;
      number = c.u32_in.type_inv;
    }

pub returns-clause-only : goal.returns-clause-only
returns-clause-only c = λ e entry is.
    entry_again c.args.a.now e c.args.body.now c.u32_in-message.result c.u64_in.result c.u32_in.result c.in_ok-count.count (slice_index c.args.body.now 0) c.values_in-values.result c.instance_with-instance.result c.event_of.result entry is
    c.u32_in-message.ensures c.in_ok-count.ensures c.values_in-values.ensures.values c.instance_with-instance.ensures.only refl c.event_of.ensures c.u64_in.ensures c.u32_in.ensures
