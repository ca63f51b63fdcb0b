-- A fact is added to a set.
use Rattle.std.proofs.Common.{◌≡◌, true, cond, List, inl, inr, refl, sym, ◌∙◌}
use Rattle.std.specs.BTreeSet.{BTreeSet, contains}
use Rattle.std.specs.Ordering.{is_eq}
use Rattle.std.proofs.lemmas.Bool.{cases_Bool, true≢false}
use Rattle.bspl_types.specs.declared.value.Value.{Value}
use Rattle.key_table.specs.KeyOrder.{TiedKeysAreOne, key_cmp}
use Rattle.run_index.specs.inner.Facts.{AddsFacts}

-- a fact that is put into the set
pub one_added : TiedKeysAreOne → (old new : BTreeSet (List Value)) (key fact : List Value) → key ≡ fact → ((q : List Value) → contains key_cmp new q ≡ cond (is_eq (key_cmp key q)) true (contains key_cmp old q)) → AddsFacts old new (λ other. fact ≡ other)
one_added tied old new key fact is updates =
    record {
      exact = λ q. elim (cases_Bool (is_eq (key_cmp key q))) [
        | inl is_yes ↦
            let there : contains key_cmp new q ≡ true = rw (updates q, is_yes) refl in
            (λ has. inr (sym is ∙ (tied key q).0 is_yes), λ either. there)
        | inr is_no ↦
            let kept : contains key_cmp new q ≡ contains key_cmp old q = rw (updates q, is_no) refl in (
              λ has. inl (sym kept ∙ has),
              λ either. elim either [
                | inl old ↦ kept ∙ old
                | inr same ↦ absurd (true≢false (sym ((tied key q).1 (is ∙ same)) ∙ is_no))
              ],
            )
      ];
    }
