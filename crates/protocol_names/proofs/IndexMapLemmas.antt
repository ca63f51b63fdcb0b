-- What a map of first indices finds after a name more.
use Rattle.std.proofs.Common.{◌≡◌, ◌≢◌, ◌<◌, arith, ℕ, true, false, cond, List, [], ◌∷◌, ◌++◌, length, get_or, Option, Some, None, refl, sym, ◌∙◌, ap, subst, ⊎_elim}
use Rattle.std.specs.Prelude.{nat_eq}
use Rattle.std.specs.Option.{option_or, unwrap_or}
use Rattle.std.specs.Str.{bytes_eq}
use Rattle.std.specs.List.{position}
use Rattle.std.proofs.lemmas.Bool.Decides.{nat_tests}
use Rattle.std.proofs.lemmas.Bool.{cases_Bool}
use Rattle.std.proofs.lemmas.List.{get_or_append_left, length-append}
use Rattle.std.proofs.Math.Seq.{get_or-append_seam}
use Rattle.std.proofs.lemmas.Slice.Eq.{bytes_eq-Decides}
use Rattle.list_base.proofs.FirstIndex.{is_name_at, position_push}
use Rattle.protocol_names.specs.inner.IndexMap.{IsIndexMap, chosen, number_of}

-- nothing else is found than before
or_none : (o : Option ℕ) → option_or o None ≡ o
or_none None = refl
or_none (Some k) = refl

-- numbers that pass the test are equal
pub same_number : (m n : ℕ) → nat_eq m n ≡ true → m ≡ n
same_number m n equal_is = grind (arith, nat_tests)

-- and numbers that fail it are not
other_number : (m n : ℕ) → nat_eq m n ≡ false → m ≢ n
other_number m n differ_is same = grind (arith, nat_tests)

-- an index of a name is the same with one name more
chosen_more : (names : List (List ℕ)) (name last : List ℕ) (o other : Option ℕ) → ((i : ℕ) → o ≡ Some i → i < length names) → chosen (names ++ last ∷ []) name o other ≡ chosen names name o other
chosen_more names name last None other within = refl
chosen_more names name last (Some i) other within = ap (λ n. cond (bytes_eq n name) (Some i) other) (get_or_append_left names (last ∷ []) [] i (within i refl))

-- other names are not at the end
passed_over : (names : List (List ℕ)) (last name : List ℕ) → bytes_eq last name ≡ false → position (is_name_at name) (names ++ last ∷ []) ≡ position (is_name_at name) names
passed_over names last name differ = position_push (is_name_at name) names last ∙ ap (λ b. option_or (position (is_name_at name) names) (cond b (Some (length names)) None)) differ ∙ or_none (position (is_name_at name) names)

-- so what was found of them is found
others_stay : (names : List (List ℕ)) (last name : List ℕ) (numbers : ℕ → Option ℕ) (others : List ℕ → Option ℕ) → IsIndexMap names numbers others → bytes_eq last name ≡ false → chosen (names ++ last ∷ []) name (numbers (number_of name)) (others name) ≡ position (is_name_at name) (names ++ last ∷ [])
others_stay names last name numbers others is_map differ = chosen_more names name last (numbers (number_of name)) (others name) (is_map.within (number_of name)) ∙ is_map.finds name ∙ sym (passed_over names last name differ)

-- an index that was there is within more names
still_within : (names : List (List ℕ)) (last : List ℕ) (i : ℕ) → i < length names → i < length (names ++ last ∷ [])
still_within names last i below = let long = length-append names (last ∷ []) in omega (arith, below, long)

-- a name whose number no other has
pub new_number : (names : List (List ℕ)) (name : List ℕ) (numbers : ℕ → Option ℕ) (others : List ℕ → Option ℕ) → IsIndexMap names numbers others → numbers (number_of name) ≡ None → IsIndexMap (names ++ name ∷ []) (λ n. cond (nat_eq (number_of name) n) (Some (length names)) (numbers n)) others
new_number names name numbers others is_map free = record {
  finds = λ b. ⊎_elim (same b) (differs b) (cases_Bool (nat_eq (number_of name) (number_of b)));
  within = λ n i. ⊎_elim (at n i) (before n i) (cases_Bool (nat_eq (number_of name) n));
  taken = λ b. ⊎_elim (absurd_at b) (nothing b) (cases_Bool (nat_eq (number_of name) (number_of b)));
}
  where
    now : ℕ → Option ℕ
    now n = cond (nat_eq (number_of name) n) (Some (length names)) (numbers n)

    here : (n : ℕ) → nat_eq (number_of name) n ≡ true → now n ≡ Some (length names)
    here n equal_is = ap (λ b. cond b (Some (length names)) (numbers n)) equal_is

    there : (n : ℕ) → nat_eq (number_of name) n ≡ false → now n ≡ numbers n
    there n differ_is = ap (λ b. cond b (Some (length names)) (numbers n)) differ_is

    same : (b : List ℕ) → nat_eq (number_of name) (number_of b) ≡ true → chosen (names ++ name ∷ []) b (now (number_of b)) (others b) ≡ position (is_name_at b) (names ++ name ∷ [])
    same b equal_is =
        let equal : number_of name ≡ number_of b = same_number (number_of name) (number_of b) equal_is in
        let none : numbers (number_of b) ≡ None = sym (ap numbers equal) ∙ free in
        let not_there : position (is_name_at b) names ≡ None = sym (is_map.finds b) ∙ ap (λ o. chosen names b o (others b)) none in
        let last : get_or (names ++ name ∷ []) (length names) [] ≡ name = get_or-append_seam names name [] [] in
        ap (λ o. chosen (names ++ name ∷ []) b o (others b)) (here (number_of b) equal_is) ∙ ap (λ n. cond (bytes_eq n b) (Some (length names)) (others b)) last ∙ ap (cond (bytes_eq name b) (Some (length names))) (is_map.taken b none) ∙ sym (position_push (is_name_at b) names name ∙ ap (λ o. option_or o (cond (bytes_eq name b) (Some (length names)) None)) not_there)

    distinct : (b : List ℕ) → nat_eq (number_of name) (number_of b) ≡ false → bytes_eq name b ≡ false
    distinct b differ_is = ⊎_elim (λ equal_is. absurd (other_number (number_of name) (number_of b) differ_is (ap number_of ((bytes_eq-Decides name b).0 equal_is)))) (λ differ. differ) (cases_Bool (bytes_eq name b))

    differs : (b : List ℕ) → nat_eq (number_of name) (number_of b) ≡ false → chosen (names ++ name ∷ []) b (now (number_of b)) (others b) ≡ position (is_name_at b) (names ++ name ∷ [])
    differs b differ_is = ap (λ o. chosen (names ++ name ∷ []) b o (others b)) (there (number_of b) differ_is) ∙ others_stay names name b numbers others is_map (distinct b differ_is)

    at : (n i : ℕ) → nat_eq (number_of name) n ≡ true → now n ≡ Some i → i < length (names ++ name ∷ [])
    at n i equal_is is = let long = length-append names (name ∷ []) in let same : Some (length names) ≡ Some i = sym (here n equal_is) ∙ is in let equal : length names ≡ i = cc same in omega (arith, long, equal)

    before : (n i : ℕ) → nat_eq (number_of name) n ≡ false → now n ≡ Some i → i < length (names ++ name ∷ [])
    before n i differ_is is = still_within names name i (is_map.within n i (sym (there n differ_is) ∙ is))

    absurd_at : (b : List ℕ) → nat_eq (number_of name) (number_of b) ≡ true → now (number_of b) ≡ None → others b ≡ None
    absurd_at b equal_is is = let wrong : Some (length names) ≡ None = sym (here (number_of b) equal_is) ∙ is in absurd (cc wrong)

    nothing : (b : List ℕ) → nat_eq (number_of name) (number_of b) ≡ false → now (number_of b) ≡ None → others b ≡ None
    nothing b differ_is is = is_map.taken b (sym (there (number_of b) differ_is) ∙ is)

-- a name that is there
pub known_name : (names : List (List ℕ)) (name : List ℕ) (first : ℕ) (numbers : ℕ → Option ℕ) (others : List ℕ → Option ℕ) → IsIndexMap names numbers others → position (is_name_at name) names ≡ Some first → IsIndexMap (names ++ name ∷ []) numbers others
known_name names name first numbers others is_map there = record {
  finds = λ b. ⊎_elim (λ equal_is. subst (λ (c : List ℕ). chosen (names ++ name ∷ []) c (numbers (number_of c)) (others c) ≡ position (is_name_at c) (names ++ name ∷ [])) ((bytes_eq-Decides name b).0 equal_is) here) (others_stay names name b numbers others is_map) (cases_Bool (bytes_eq name b));
  within = λ n i is. still_within names name i (is_map.within n i is);
  taken = is_map.taken;
}
  where
    here : chosen (names ++ name ∷ []) name (numbers (number_of name)) (others name) ≡ position (is_name_at name) (names ++ name ∷ [])
    here = chosen_more names name name (numbers (number_of name)) (others name) (is_map.within (number_of name)) ∙ is_map.finds name ∙ there ∙ sym (position_push (is_name_at name) names name ∙ ap (λ o. option_or o (cond (bytes_eq name name) (Some (length names)) None)) there)

-- where the number is that of another name, the name is found by its bytes
pub found_by_bytes : (names : List (List ℕ)) (name : List ℕ) (first : ℕ) (numbers : ℕ → Option ℕ) (others : List ℕ → Option ℕ) → IsIndexMap names numbers others → numbers (number_of name) ≡ Some first → bytes_eq (get_or names first []) name ≡ false → others name ≡ position (is_name_at name) names
found_by_bytes names name first numbers others is_map is differ = ap (λ b. cond b (Some first) (others name)) (sym differ) ∙ ap (λ o. chosen names name o (others name)) (sym is) ∙ is_map.finds name

-- and gets its index there
pub shared_number : (names : List (List ℕ)) (name : List ℕ) (first : ℕ) (numbers : ℕ → Option ℕ) (others : List ℕ → Option ℕ) → IsIndexMap names numbers others → numbers (number_of name) ≡ Some first → bytes_eq (get_or names first []) name ≡ false → IsIndexMap (names ++ name ∷ []) numbers (λ b. cond (bytes_eq name b) (Some (unwrap_or (others name) (length names))) (others b))
shared_number names name first numbers others is_map is differ = record {
  finds = λ b. ⊎_elim (λ equal_is. subst (λ (c : List ℕ). chosen (names ++ name ∷ []) c (numbers (number_of c)) (now c) ≡ position (is_name_at c) (names ++ name ∷ [])) ((bytes_eq-Decides name b).0 equal_is) here) (λ differ_is. ap (chosen (names ++ name ∷ []) b (numbers (number_of b))) (there b differ_is) ∙ others_stay names name b numbers others is_map differ_is) (cases_Bool (bytes_eq name b));
  within = λ n i at. still_within names name i (is_map.within n i at);
  taken = λ b free. ⊎_elim (λ equal_is. let same : name ≡ b = (bytes_eq-Decides name b).0 equal_is in let wrong : Some first ≡ None = sym is ∙ ap (λ (c : List ℕ). numbers (number_of c)) same ∙ free in absurd (cc wrong)) (λ differ_is. there b differ_is ∙ is_map.taken b free) (cases_Bool (bytes_eq name b));
}
  where
    now : List ℕ → Option ℕ
    now b = cond (bytes_eq name b) (Some (unwrap_or (others name) (length names))) (others b)

    there : (b : List ℕ) → bytes_eq name b ≡ false → now b ≡ others b
    there b differ_is = ap (λ t. cond t (Some (unwrap_or (others name) (length names))) (others b)) differ_is

    itself : bytes_eq name name ≡ true
    itself = (bytes_eq-Decides name name).1 refl

    joined : (o : Option ℕ) → Some (unwrap_or o (length names)) ≡ option_or o (Some (length names))
    joined None = refl
    joined (Some k) = refl

    here : chosen (names ++ name ∷ []) name (numbers (number_of name)) (now name) ≡ position (is_name_at name) (names ++ name ∷ [])
    here =
        chosen_more names name name (numbers (number_of name)) (now name) (is_map.within (number_of name)) ∙ ap (λ o. chosen names name o (now name)) is ∙ ap (λ t. cond t (Some first) (now name)) differ ∙ ap (λ t. cond t (Some (unwrap_or (others name) (length names))) (others name)) itself ∙ joined (others name)
        ∙ ap (λ o. option_or o (Some (length names))) (found_by_bytes names name first numbers others is_map is differ)
        ∙ sym (position_push (is_name_at name) names name ∙ ap (λ t. option_or (position (is_name_at name) names) (cond t (Some (length names)) None)) itself)
