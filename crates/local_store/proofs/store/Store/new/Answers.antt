-- A new store keeps what it has to keep.
use Rattle.std.proofs.Common.{◌<◌, [], length, subst, sym, ap, ◌∙◌, arith}
use Rattle.bspl_types.specs.Admission.{IsAdmitted}
use Rattle.local_store.specs.inner.Kept.{IsKept, rows_of}
use Rattle.local_store.proofs.SoundLemmas.{kept_new}
use Rattle.local_store.proofs.store.Store.new.Goals as goal

pub invariant_of-result : goal.invariant_of-result
invariant_of-result c =
    let x = c.in_ok-copy.field-0 in
    let same = c.in_ok-copy.ensures in
    let kept = kept_new x c.args.role (subst IsAdmitted (sym same) c.expanded-x.ensures.admitted) (subst (λ y. c.args.role < length y.roles) (sym same) c.requires) in (
      subst (λ log. IsKept x c.args.role (rows_of x c.new.result c.new-2.result.items c.new-3.result.items) log 0) (sym c.new-4.ensures)
          (subst (λ keys. IsKept x c.args.role (rows_of x keys c.new-2.result.items c.new-3.result.items) (record { acts = []; spare = 0 }) 0) (sym c.new.ensures)
          (subst (λ cells. IsKept x c.args.role (rows_of x [] cells c.new-3.result.items) (record { acts = []; spare = 0 }) 0) (sym c.new-2.ensures.items)
          (subst (λ marks. IsKept x c.args.role (rows_of x [] [] marks) (record { acts = []; spare = 0 }) 0) (sym c.new-3.ensures.items) kept))),
      record {
        params = c.new-2.ensures.width ∙ c.len.ensures ∙ ap (λ y. length y.params) (c.expanded-x.ensures.same ∙ sym same);
        messages = c.new-3.ensures.width ∙ c.len-2.ensures ∙ ap (λ y. length y.messages) (c.expanded-x.ensures.same ∙ sym same);
        cells = rw (c.new.ensures) (omega arith);
        marks = rw (c.new.ensures) (omega arith);
      },
    )
