-- What a map from names to indices finds after an entry is written.
use Rattle.std.proofs.Common.{◌≡◌, ℕ, Bool, true, false, cond, List, Option, sym, ◌∙◌, subst, ⊎_elim}
use denote.Ref.{Bor}
use Rattle.std.specs.Ordering.{nat_cmp, is_eq}
use Rattle.std.specs.Str.{bytes_eq}
use Rattle.std.specs.Cmp.{eq_by_cmp_equiv}
use Rattle.std.specs.Cmp.Lexicographic.{slice_cmp, nat_list_cmp_total, nat_list_eq_equiv}
use Rattle.std.specs.BTreeMap.{BTreeMap, UpdatesBy}
use Rattle.std.specs.Map.{lookup, IsKeyTest, AreApart, KeepsOthers}
use Rattle.std.proofs.lemmas.Bool.{cases_Bool, cond-true, cond-false}
use Rattle.std.proofs.lemmas.Map.Text.{is_eq-slice_cmp}
use Rattle.std.proofs.lemmas.Slice.Eq.{bytes_eq-Decides}
use Rattle.protocol_names.specs.inner.IndexMap.{at_name}

-- a key that is found by other bytes is not found by these
apart : (bs cs ks : List ℕ) → bytes_eq bs cs ≡ false → is_eq (slice_cmp nat_cmp bs ks) ≡ true → is_eq (slice_cmp nat_cmp cs ks) ≡ false
apart bs cs ks differ same = is_eq-slice_cmp cs ks ∙ nat_list_eq_equiv.symm cs ks ∙ sym (nat_list_eq_equiv.congr bs ks cs (sym (is_eq-slice_cmp bs ks) ∙ same)) ∙ differ

-- a change at one key leaves the others
other_entries : {K X : Type 0} (eq : K → K → Bool) (test : K → Bool) (old new : List (K × X)) → KeepsOthers eq test old new → (other : K → Bool) → IsKeyTest eq other → AreApart test other → lookup other new ≡ lookup other old
unfolding KeepsOthers
other_entries eq test old new kept = kept

-- after an insertion at the bytes bs
pub found_after : (bs : List ℕ) (old new : BTreeMap (Bor (List ℕ)) ℕ) (w : Option ℕ) → UpdatesBy (λ x y. slice_cmp nat_cmp x.now y.now) (λ k. slice_cmp nat_cmp bs k.now) old new w → (cs : List ℕ) → at_name new cs ≡ cond (bytes_eq bs cs) w (at_name old cs)
found_after bs old new w updates cs =
    ⊎_elim
    (λ equal_is. subst (λ (l : List ℕ). at_name new l ≡ w) ((bytes_eq-Decides bs cs).0 equal_is) updates.1 ∙ sym (cond-true (bytes_eq bs cs) w (at_name old cs) equal_is))
    (λ differ. other_entries _ _ _ _ updates.3 _ (λ x y. (eq_by_cmp_equiv nat_list_cmp_total).congr cs x.now y.now) (λ k. apart bs cs k.now differ) ∙ sym (cond-false (bytes_eq bs cs) w (at_name old cs) differ))
    (cases_Bool (bytes_eq bs cs))
