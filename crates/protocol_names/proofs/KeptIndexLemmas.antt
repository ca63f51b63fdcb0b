-- What is found once a name has been given an index.
use Rattle.std.proofs.Common.{◌≡◌, ◌≢◌, ◌<◌, arith, ℕ, Bool, true, false, cond, List, [], ◌∷◌, ◌++◌, length, map, get_or, Option, Some, None, refl, sym, ◌∙◌, ap, subst, ⊎_elim}
use Rattle.std.specs.Prelude.{◌↔◌, IsTrue, is_some, not, nat_eq, nat_lt, slice_get}
use denote.Ref.{Bor}
use Rattle.std.specs.Option.{unwrap_or, option_map}
use Rattle.std.specs.Str.{bytes_eq}
use Rattle.std.specs.List.{Contains, position}
use Rattle.std.proofs.lemmas.Bool.Decides.{nat_tests}
use Rattle.std.proofs.lemmas.Bool.{cases_Bool, true≢false}
use Rattle.std.proofs.lemmas.List.{get_or_append_left}
use Rattle.std.proofs.lemmas.Option.{get_or_from_slice_get, slice_get-map}
use Rattle.std.proofs.lemmas.List.{length-map}
use Rattle.list_base.proofs.FirstIndex.{index_mapped, first_index, has_index, is_name_at}
use Rattle.protocol_names.specs.inner.IndexMap.{IsIndexMap, KeepsIndex, bytes_of, chosen, number_of}
use Rattle.protocol_names.proofs.IndexMapLemmas.{found_by_bytes, known_name, new_number, same_number, shared_number}

-- a name that is lent, by its index
pub lent_at : (names : List (Bor (List ℕ))) (i : ℕ) (n : Bor (List ℕ)) → slice_get names i ≡ Some n → get_or (bytes_of names) i [] ≡ n.now
lent_at names i n at = get_or_from_slice_get (bytes_of names) i n.now [] (slice_get-map (λ m. m.now) names i ∙ ap (option_map (λ m. m.now)) at)

-- the first item whose name passes
pub position_mapped : {X A : Type 0} (p : A → Bool) (f : X → A) (xs : List X) → position p (map f xs) ≡ position (λ x. p (f x)) xs
position_mapped p f xs = (λ i. cond (nat_lt (index_mapped p f xs i) (length-map xs f i)) (Some (index_mapped p f xs i)) None)

-- what the maps find
pub is_found : (names value : List (List ℕ)) (name : List ℕ) (numbers : ℕ → Option ℕ) (others : List ℕ → Option ℕ) → names ≡ value → IsIndexMap names numbers others → (o : Option ℕ) → o ≡ numbers (number_of name) → chosen names name o (others name) ≡ position (is_name_at name) value
is_found names value name numbers others same is_map o is = ap (λ p. chosen names name p (others name)) is ∙ is_map.finds name ∙ ap (position (is_name_at name)) same

-- an index that is not the new one was there
was_there : (had : Option ℕ) (index first : ℕ) → first ≡ unwrap_or had index → first ≢ index → had ≡ Some first
was_there None index first is differs = absurd (differs is)
was_there (Some k) index first is differs = ap Some (sym is)

-- the new one was not
was_free : (had : Option ℕ) (index first : ℕ) → first ≡ unwrap_or had index → first ≡ index → ((i : ℕ) → had ≡ Some i → i < index) → had ≡ None
was_free None index first is same within = refl
was_free (Some k) index first is same within = let below = within k refl in absurd (omega (arith, below, is, same))

-- a number that had an index leaves all as it was
stays : (numbers : ℕ → Option ℕ) (number first n : ℕ) → numbers number ≡ Some first → cond (nat_eq number n) (Some first) (numbers n) ≡ numbers n
stays numbers number first n there =
    ⊎_elim
    (λ equal_is. let same : number ≡ n = same_number number n equal_is in ap (λ b. cond b (Some first) (numbers n)) equal_is ∙ sym there ∙ ap numbers same)
    (λ differ_is. ap (λ b. cond b (Some first) (numbers n)) differ_is)
    (cases_Bool (nat_eq number n))

-- the index of a name is another than the new one exactly if the name was there
index_tells : (names : List (List ℕ)) (name : List ℕ) (index first : ℕ) → length names ≡ index → first ≡ unwrap_or (position (is_name_at name) names) index → IsTrue (not (nat_eq first index)) ↔ Contains names name
index_tells names name index first is_last is = (
  (λ equal_is. (has_index names name).0 (some (position (is_name_at name) names) is (differ equal_is))),
  (λ among.
      let at = first_index (is_name_at name) names ((has_index names name).1 among) in
      let here : first ≡ at.0 = is ∙ ap (λ o. unwrap_or o index) at.2 in
      not_equal (omega (arith, at.1, here, is_last))),
)
  where
    differ : IsTrue (not (nat_eq first index)) → first ≢ index
    differ is_true same = grind (arith, nat_tests)

    not_equal : first < index → not (nat_eq first index) ≡ true
    not_equal below = grind (arith, nat_tests)

    some : (o : Option ℕ) → first ≡ unwrap_or o index → first ≢ index → IsTrue (is_some o)
    some None same differs = absurd (differs same)
    some (Some k) same differs = refl

module _ (before names : List (List ℕ)) (name : List ℕ) (index first : ℕ) (old new : ℕ → Option ℕ) (others : List ℕ → Option ℕ) (is_last : length before ≡ index) (pushed : names ≡ before ++ name ∷ []) (is_map : IsIndexMap before old others) (kept : KeepsIndex nat_eq (number_of name) index old new first) where
  -- what was found at the number
  there : first ≢ index → old (number_of name) ≡ Some first
  there differs = was_there (old (number_of name)) index first kept.first_is differs

  -- and all numbers are as they were
  unchanged : first ≢ index → old ≡ new
  unchanged differs i n = sym (kept.others n ∙ stays old (number_of name) first n (there differs)) i

  -- the name at the index, before the last one
  same_at : first ≢ index → get_or names first [] ≡ get_or before first []
  same_at differs = ap (λ ns. get_or ns first []) pushed ∙ get_or_append_left before (name ∷ []) [] first (is_map.within (number_of name) first (there differs))

  -- a number that no name had
  pub kept_new : first ≡ index → IsIndexMap names new others × (IsTrue false ↔ Contains before name)
  kept_new same =
      let free : old (number_of name) ≡ None = was_free (old (number_of name)) index first kept.first_is same (λ i at. let below = is_map.within (number_of name) i at in omega (arith, below, is_last)) in
      let at_end : Some first ≡ Some (length before) = ap Some (same ∙ sym is_last) in
      let is_new : (λ n. cond (nat_eq (number_of name) n) (Some (length before)) (old n)) ≡ new = λ i n. sym (kept.others n ∙ ap (λ o. cond (nat_eq (number_of name) n) o (old n)) at_end) i in
      let absent : is_some (position (is_name_at name) before) ≡ false = ap is_some (sym (is_map.finds name) ∙ ap (λ o. chosen before name o (others name)) free) in (
        subst (λ ns. IsIndexMap ns new others) (sym pushed) (subst (λ f. IsIndexMap (before ++ name ∷ []) f others) is_new (new_number before name old others is_map free)),
        ((λ wrong. absurd (true≢false (sym wrong))), (λ among. absurd (true≢false (sym ((has_index before name).1 among) ∙ absent)))),
      )

  -- the number of the name, which is there
  pub kept_known : first ≢ index → bytes_eq (get_or names first []) name ≡ true → IsIndexMap names new others × (IsTrue true ↔ Contains before name)
  kept_known differs same =
      let here : bytes_eq (get_or before first []) name ≡ true = ap (λ n. bytes_eq n name) (sym (same_at differs)) ∙ same in
      let at : position (is_name_at name) before ≡ Some first = sym (is_map.finds name) ∙ ap (λ o. chosen before name o (others name)) (there differs) ∙ ap (λ b. cond b (Some first) (others name)) here in (
        subst (λ ns. IsIndexMap ns new others) (sym pushed) (subst (λ f. IsIndexMap (before ++ name ∷ []) f others) (unchanged differs) (known_name before name first old others is_map at)),
        ((λ _. (has_index before name).0 (ap is_some at)), (λ _. refl)),
      )

  -- the number of another name
  pub kept_shared : (second : ℕ) (after : List ℕ → Option ℕ) → first ≢ index → bytes_eq (get_or names first []) name ≡ false → KeepsIndex bytes_eq name index others after second → IsIndexMap names new after × (IsTrue (not (nat_eq second index)) ↔ Contains before name)
  kept_shared second after differs differ kept_too =
      let other : bytes_eq (get_or before first []) name ≡ false = ap (λ n. bytes_eq n name) (sym (same_at differs)) ∙ differ in
      let second_is : Some (unwrap_or (others name) (length before)) ≡ Some second = ap Some (ap (unwrap_or (others name)) is_last ∙ sym kept_too.first_is) in
      let is_after : (λ b. cond (bytes_eq name b) (Some (unwrap_or (others name) (length before))) (others b)) ≡ after = λ i b. (ap (λ o. cond (bytes_eq name b) o (others b)) second_is ∙ sym (kept_too.others b)) i in (
        subst (λ ns. IsIndexMap ns new after) (sym pushed) (subst (λ f. IsIndexMap (before ++ name ∷ []) f after) (unchanged differs) (subst (λ g. IsIndexMap (before ++ name ∷ []) old g) is_after (shared_number before name first old others is_map (there differs) other))),
        index_tells before name index second is_last (kept_too.first_is ∙ ap (λ o. unwrap_or o index) (found_by_bytes before name first old others is_map (there differs) other)),
      )
