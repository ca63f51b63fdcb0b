-- Blank rows change nothing, and the key gets one of them.
use Rattle.std.proofs.Common.{◌≡◌, ◌+◌, ◌<◌, ◌≤◌, [], ◌∷◌, ◌++◌, length, None, false, inl, inr, subst, sym, ap, refl, ◌∙◌, arith}
use Rattle.std.specs.List.{Contains}
use Rattle.std.proofs.lemmas.Bool.{true≢false}
use Rattle.std.proofs.lemmas.List.{length_push}
use Rattle.local_store.specs.State.{StoreState}
use Rattle.std.proofs.lemmas.List.Elements.{All-replicate, All-take}
use Rattle.local_store.specs.inner.Kept.{IsKept, rows_of, state_of}
use Rattle.local_store.proofs.KeyLemmas.{covered, either_case, kept_key, on_err_of, on_err_then, on_ok_then, rows_same, state_key}
use Rattle.local_store.proofs.store.Store.add_key.Goals as goal

pub invariant_of-self : goal.invariant_of-self
invariant_of-self c =
    let s = c.self.inside in
    let cells = covered None s.cells.items c.cover.new.self.items _ c.cover.ensures.items (All-replicate (λ y. y ≡ None) s.cells.width None refl) in
    let same = rows_same s.admitted s.keys s.cells.items c.cover.new.self.items s.marks.items s.marks.items cells (λ i. refl) in (
      subst (λ rows. IsKept s.admitted s.role rows s.log s.clock) (sym same) c.self.invariant.0,
      record {
        params = c.cover.ensures.grown.same ∙ c.self.invariant.1.params;
        messages = c.self.invariant.1.messages;
        cells = omega (arith, c.cover.ensures.grown.kept, c.self.invariant.1.cells);
        marks = c.self.invariant.1.marks;
      },
    )

pub returns-in_err-cover-clause-err : goal.returns-in_err-cover-clause-err
returns-in_err-cover-clause-err c =
    let s = c.self.inside in
    let cells = covered None s.cells.items c.cover.new.self.items _ c.cover.ensures.items (All-replicate (λ y. y ≡ None) s.cells.width None refl) in
    let same = rows_same s.admitted s.keys s.cells.items c.cover.new.self.items s.marks.items s.marks.items cells (λ i. refl) in
    on_err_of c.from_residual.result _ (ap (λ rows. state_of s.admitted s.role rows s.log) same ∙ c.self.view_is)

pub invariant_of-self-in_err-cover-2 : goal.invariant_of-self-in_err-cover-2
invariant_of-self-in_err-cover-2 c =
    let s = c.self.inside in
    let cells = covered None s.cells.items c.cover.new.self.items _ c.cover.ensures.items (All-replicate (λ y. y ≡ None) s.cells.width None refl) in
    let marks = covered false s.marks.items c.cover-2.new.self.items _ c.cover-2.ensures.items (All-take (λ y. y ≡ false) _ _ (All-replicate (λ y. y ≡ false) 64 false refl)) in
    let same = rows_same s.admitted s.keys s.cells.items c.cover.new.self.items s.marks.items c.cover-2.new.self.items cells marks in (
      subst (λ rows. IsKept s.admitted s.role rows s.log s.clock) (sym same) c.self.invariant.0,
      record {
        params = c.cover.ensures.grown.same ∙ c.self.invariant.1.params;
        messages = c.cover-2.ensures.grown.same ∙ c.self.invariant.1.messages;
        cells = omega (arith, c.cover.ensures.grown.kept, c.self.invariant.1.cells);
        marks = omega (arith, c.cover-2.ensures.grown.kept, c.self.invariant.1.marks);
      },
    )

pub returns-in_err-cover-2-clause-err : goal.returns-in_err-cover-2-clause-err
returns-in_err-cover-2-clause-err c =
    let s = c.self.inside in
    let cells = covered None s.cells.items c.cover.new.self.items _ c.cover.ensures.items (All-replicate (λ y. y ≡ None) s.cells.width None refl) in
    let marks = covered false s.marks.items c.cover-2.new.self.items _ c.cover-2.ensures.items (All-take (λ y. y ≡ false) _ _ (All-replicate (λ y. y ≡ false) 64 false refl)) in
    let same = rows_same s.admitted s.keys s.cells.items c.cover.new.self.items s.marks.items c.cover-2.new.self.items cells marks in
    on_err_of c.from_residual-in_err-cover-2.result _ (ap (λ rows. state_of s.admitted s.role rows s.log) same ∙ c.self.view_is)

pub invariant_of-self-2 : goal.invariant_of-self-2
invariant_of-self-2 c =
    let s = c.self.inside in
    let key = c.args.key.now in
    let keys = c.add.new.self in
    let cells = covered None s.cells.items c.cover.new.self.items _ c.cover.ensures.items (All-replicate (λ y. y ≡ None) s.cells.width None refl) in
    let marks = covered false s.marks.items c.cover-2.new.self.items _ c.cover-2.ensures.items (All-take (λ y. y ≡ false) _ _ (All-replicate (λ y. y ≡ false) 64 false refl)) in
    let same = rows_same s.admitted keys s.cells.items c.cover.new.self.items s.marks.items c.cover-2.new.self.items cells marks in
    let old = rows_of s.admitted s.keys s.cells.items s.marks.items in
    let whole : length key ≡ length s.admitted.keys = subst (λ t. length key ≡ length t.protocol.keys) (sym c.self.view_is) c.requires.whole in
    let few : length s.keys < 4294967295 = subst (λ t. length t.keys < 4294967295) (sym c.self.view_is) c.requires.few in
    let fresh = subst (λ t. ¬ Contains t.keys key) (sym c.self.view_is) (λ among. true≢false (sym (c.if-holds.ensures.1 among))) in
    let either = either_case c.add.result (keys ≡ s.keys ++ key ∷ []) (keys ≡ s.keys) c.add.ensures.ok c.add.ensures.err in
    let kept : IsKept s.admitted s.role (rows_of s.admitted keys s.cells.items s.marks.items) s.log s.clock = elim either [
      | inl added ↦ subst (λ k. IsKept s.admitted s.role (rows_of s.admitted k s.cells.items s.marks.items) s.log s.clock) (sym added) (kept_key s.admitted s.role s.clock old s.log key c.self.invariant.0 whole fresh few)
      | inr stays ↦ subst (λ k. IsKept s.admitted s.role (rows_of s.admitted k s.cells.items s.marks.items) s.log s.clock) (sym stays) c.self.invariant.0
    ] in
    let most : length keys ≤ length s.keys + 1 = elim either [
      | inl added ↦ omega (arith, ap length added, length_push s.keys key)
      | inr stays ↦ omega (arith, ap length stays)
    ] in (
      subst (λ rows. IsKept s.admitted s.role rows s.log s.clock) (sym same) kept,
      record {
        params = c.cover.ensures.grown.same ∙ c.self.invariant.1.params;
        messages = c.cover-2.ensures.grown.same ∙ c.self.invariant.1.messages;
        cells = omega (arith, most, c.in_ok-cover.ensures.rows, c.len-rows.ensures);
        marks = omega (arith, most, c.in_ok-cover-2.ensures.rows, c.len-rows.ensures);
      },
    )

pub returns-clause-ok : goal.returns-clause-ok
returns-clause-ok c =
    let s = c.self.inside in
    let key = c.args.key.now in
    let keys = c.add.new.self in
    let cells = covered None s.cells.items c.cover.new.self.items _ c.cover.ensures.items (All-replicate (λ y. y ≡ None) s.cells.width None refl) in
    let marks = covered false s.marks.items c.cover-2.new.self.items _ c.cover-2.ensures.items (All-take (λ y. y ≡ false) _ _ (All-replicate (λ y. y ≡ false) 64 false refl)) in
    let same = rows_same s.admitted keys s.cells.items c.cover.new.self.items s.marks.items c.cover-2.new.self.items cells marks in
    let add_to = λ (t : StoreState). record t { keys = t.keys ++ key ∷ [] } in
    on_ok_then c.add.result (keys ≡ s.keys ++ key ∷ []) _ c.add.ensures.ok (λ added. record {
      again = λ among. absurd (true≢false (sym (c.if-holds.ensures.1 among)));
      first = λ _. ap (λ rows. state_of s.admitted s.role rows s.log) same
          ∙ ap (λ k. state_of s.admitted s.role (rows_of s.admitted k s.cells.items s.marks.items) s.log) added
          ∙ state_key s.admitted s.role s.clock (rows_of s.admitted s.keys s.cells.items s.marks.items) s.log key c.self.invariant.0
          ∙ ap add_to c.self.view_is;
    })

pub returns-clause-err : goal.returns-clause-err
returns-clause-err c =
    let s = c.self.inside in
    let keys = c.add.new.self in
    let cells = covered None s.cells.items c.cover.new.self.items _ c.cover.ensures.items (All-replicate (λ y. y ≡ None) s.cells.width None refl) in
    let marks = covered false s.marks.items c.cover-2.new.self.items _ c.cover-2.ensures.items (All-take (λ y. y ≡ false) _ _ (All-replicate (λ y. y ≡ false) 64 false refl)) in
    let same = rows_same s.admitted keys s.cells.items c.cover.new.self.items s.marks.items c.cover-2.new.self.items cells marks in
    on_err_then c.add.result (keys ≡ s.keys) _ c.add.ensures.err (λ stays. ap (λ rows. state_of s.admitted s.role rows s.log) same
    ∙ ap (λ k. state_of s.admitted s.role (rows_of s.admitted k s.cells.items s.marks.items) s.log) stays ∙ c.self.view_is)
