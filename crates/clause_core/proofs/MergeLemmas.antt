-- The steps of the merge of two ascending lists.
use Rattle.std.proofs.Common.{◌≡◌, ◌≢◌, ◌↔◌, ◌⊎◌, inl, inr, ◌-◌, ◌<◌, ◌≤◌, List, [], ◌∷◌, ◌++◌, length, get_or, take, drop, Contains, sym, ◌∙◌, arith}
use Rattle.std.proofs.lemmas.Grind.{common_steps}
use Rattle.std.proofs.lemmas.List.Elements.{Contains-append_left, Contains-push_cases}
use Rattle.clause_core.specs.declared.literal.Lit.{Lit}
use Rattle.clause_core.specs.Literal.{rank}
use Rattle.clause_core.specs.Clause.{IsAscending}
use Rattle.clause_core.specs.Resolvent.{Keeps, IsUnion}
use Rattle.list_base.proofs.Members.{here, here_same, there, end_same, nowhere, cons_cases}
use Rattle.clause_core.proofs.LiteralLemmas.{same_rank, same_or_not}
use Rattle.clause_core.proofs.ClauseLemmas.{ascending_nil, ascending_tail, ascending_push, first_below, first_least}

-- what was kept, with what is left of both lists, makes up the union, and comes before what is left
pub record IsMerging (c : List Lit) (left : Lit) (d : List Lit) (right : Lit) (first second kept : List Lit) : Type 0 where
  pub members : (l : Lit) → (Keeps c left l ⊎ Keeps d right l) ↔ (Contains kept l ⊎ (Keeps first left l ⊎ Keeps second right l))
  pub kept_ascends : IsAscending kept
  pub first_ascends : IsAscending first
  pub second_ascends : IsAscending second
  pub below_first : (l m : Lit) → Contains kept l → Contains first m → rank l < rank m
  pub below_second : (l m : Lit) → Contains kept l → Contains second m → rank l < rank m

pub merging_starts : (c : List Lit) (left : Lit) (d : List Lit) (right : Lit) → IsAscending c → IsAscending d → IsMerging c left d right c d []
merging_starts c left d right up_c up_d =
    record {
      members = λ l. (λ kept. inr kept, λ kept. elim kept [ inl in_none ↦ absurd (nowhere l in_none) | inr rest ↦ rest ]);
      kept_ascends = ascending_nil;
      first_ascends = up_c;
      second_ascends = up_d;
      below_first = λ l m in_none _. absurd (nowhere l in_none);
      below_second = λ l m in_none _. absurd (nowhere l in_none);
    }

nothing_left : (xs : List Lit) (out l : Lit) → length xs < 1 → ¬ Keeps xs out l
nothing_left xs out l empty keeps = omega (arith, keeps.0.1)

pub merging_ends : (c : List Lit) (left : Lit) (d : List Lit) (right : Lit) (first second kept : List Lit) → length first < 1 → length second < 1 → IsMerging c left d right first second kept → IsUnion c left d right kept
merging_ends c left d right first second kept no_first no_second merge =
    record {
      members = λ l. (
        λ among. (merge.members l).1 (inl among),
        λ keeps. elim ((merge.members l).0 keeps) [
          | inl among ↦ among
          | inr rest ↦ elim rest [
            | inl one ↦ absurd (nothing_left first left l no_first one)
            | inr one ↦ absurd (nothing_left second right l no_second one)
          ]
        ],
      );
      ascending = merge.kept_ascends;
    }

swap_sum : {A B : Type 0} → A ⊎ B → B ⊎ A
swap_sum (inl a) = inr a
swap_sum (inr b) = inl b

swap_rest : {A B C : Type 0} → A ⊎ (B ⊎ C) → A ⊎ (C ⊎ B)
swap_rest (inl a) = inl a
swap_rest (inr rest) = inr (swap_sum rest)

-- the two lists may change places
pub merging_swaps : (c : List Lit) (left : Lit) (d : List Lit) (right : Lit) (first second kept : List Lit) → IsMerging c left d right first second kept → IsMerging d right c left second first kept
merging_swaps c left d right first second kept merge =
    record {
      members = λ l. (λ keeps. swap_rest ((merge.members l).0 (swap_sum keeps)), λ parts. swap_sum ((merge.members l).1 (swap_rest parts)));
      kept_ascends = merge.kept_ascends;
      first_ascends = merge.second_ascends;
      second_ascends = merge.first_ascends;
      below_first = merge.below_second;
      below_second = merge.below_first;
    }

-- a part `F` of what was left is kept, or stays left as `F'`, or is in the other part too
moved : {A K F S K' F' : Type 0} → (A ↔ (K ⊎ (F ⊎ S))) → (K → K') → (F → K' ⊎ (F' ⊎ S)) → (K' → K ⊎ F) → (F' → F) → (A ↔ (K' ⊎ (F' ⊎ S)))
moved parts keep split kept stay = (
  λ a. elim (parts.0 a) [
    | inl k ↦ inl (keep k)
    | inr left ↦ elim left [ inl f ↦ split f | inr s ↦ inr (inr s) ]
  ],
  λ sum. parts.1 (elim sum [
    | inl k ↦ elim (kept k) [ inl old ↦ inl old | inr f ↦ inr (inl f) ]
    | inr left ↦ elim left [ inl f ↦ inr (inl (stay f)) | inr s ↦ inr (inr s) ]
  ]),
)

later : (out x : Lit) (xs : List Lit) (l : Lit) → Keeps xs out l → Keeps (x ∷ xs) out l
later out x xs l keeps = (there x xs l keeps.0, keeps.1)

-- the first literal is left out, or the second list has it too and keeps it
skip_head : (c : List Lit) (left : Lit) (d : List Lit) (right x : Lit) (xs second kept : List Lit) → ((l : Lit) → x ≡ l → l ≢ left → Keeps second right l) → IsMerging c left d right (x ∷ xs) second kept → IsMerging c left d right xs second kept
skip_head c left d right x xs second kept other merge =
    record {
      members = λ l. moved (merge.members l) (λ k. k) (λ keeps. elim (cons_cases x xs l keeps.0) [
        | inl same ↦ inr (inr (other l same keeps.1))
        | inr among ↦ inr (inl (among, keeps.1))
      ]) inl (later left x xs l);
      kept_ascends = merge.kept_ascends;
      first_ascends = ascending_tail x xs merge.first_ascends;
      second_ascends = merge.second_ascends;
      below_first = λ l m in_kept among. merge.below_first l m in_kept (there x xs m among);
      below_second = merge.below_second;
    }

below_more : (kept : List Lit) (x : Lit) (P : Lit → Type 0) → ((l : Lit) → Contains kept l → P l) → P x → (l : Lit) → Contains (kept ++ x ∷ []) l → P l
below_more kept x P before last l among =
    elim (Contains-push_cases kept x l among) [ inl old ↦ before l old | inr same ↦ rw same at last ]

-- the first literal comes before all that is left of the second list
push_head : (c : List Lit) (left : Lit) (d : List Lit) (right x : Lit) (xs second kept : List Lit) → x ≢ left → ((m : Lit) → Contains second m → rank x < rank m) → IsMerging c left d right (x ∷ xs) second kept → IsMerging c left d right xs second (kept ++ x ∷ [])
push_head c left d right x xs second kept stays below merge =
    record {
      members = λ l. moved (merge.members l) (Contains-append_left kept (x ∷ []) l) (λ keeps. elim (cons_cases x xs l keeps.0) [
        | inl same ↦ inl (end_same kept x l same)
        | inr among ↦ inr (inl (among, keeps.1))
      ]) (λ pushed. elim (Contains-push_cases kept x l pushed) [
        | inl old ↦ inl old
        | inr same ↦ inr (here_same x xs l same, λ is_left. stays (same ∙ is_left))
      ]) (later left x xs l);
      kept_ascends = ascending_push kept x merge.kept_ascends (λ l among. merge.below_first l x among (here x xs));
      first_ascends = ascending_tail x xs merge.first_ascends;
      second_ascends = merge.second_ascends;
      below_first = λ l m pushed among. below_more kept x (λ k. rank k < rank m) (λ k old. merge.below_first k m old (there x xs m among)) (first_below x xs merge.first_ascends m among) l pushed;
      below_second = λ l m pushed among. below_more kept x (λ k. rank k < rank m) (λ k old. merge.below_second k m old among) (below m among) l pushed;
    }

-- what follows the first item, as a pattern of the code gives it
abbrev pub rest : List Lit → List Lit
rest xs = take (length xs - 1) (drop 1 xs)

rest_cons : (x : Lit) (xs : List Lit) → rest (x ∷ xs) ≡ xs
rest_cons x xs = grind (arith, common_steps)

-- the first literal of the first list is kept, unless it is the one to leave out
pub keeps_first : (c : List Lit) (left : Lit) (d : List Lit) (right : Lit) (first second kept new : List Lit) (e : Lit) → 1 ≤ length first → ((m : Lit) → Contains second m → rank (get_or first 0 e) < rank m) → (get_or first 0 e ≡ left → new ≡ kept) → (get_or first 0 e ≢ left → new ≡ kept ++ get_or first 0 e ∷ []) → IsMerging c left d right first second kept → IsMerging c left d right (rest first) second new
keeps_first c left d right [] second kept new e some below same pushed merge = absurd (omega arith)
keeps_first c left d right (x ∷ xs) second kept new e some below same pushed merge =
    rw (rest_cons x xs) (elim (same_or_not x left) [
      | inl is_left ↦ rw (same is_left) (skip_head c left d right x xs second kept (λ l is_l other. absurd (other (sym is_l ∙ is_left))) merge)
      | inr stays ↦ rw (pushed stays) (push_head c left d right x xs second kept stays below merge)
    ])

pub keeps_second : (c : List Lit) (left : Lit) (d : List Lit) (right : Lit) (first second kept new : List Lit) (e : Lit) → 1 ≤ length second → ((m : Lit) → Contains first m → rank (get_or second 0 e) < rank m) → (get_or second 0 e ≡ right → new ≡ kept) → (get_or second 0 e ≢ right → new ≡ kept ++ get_or second 0 e ∷ []) → IsMerging c left d right first second kept → IsMerging c left d right first (rest second) new
keeps_second c left d right first second kept new e some below same pushed merge =
    merging_swaps d right c left (rest second) first new (keeps_first d right c left second first kept new e some below same pushed (merging_swaps c left d right first second kept merge))

push_double : (c : List Lit) (left : Lit) (d : List Lit) (right x : Lit) (xs : List Lit) (y : Lit) (ys kept : List Lit) → x ≡ y → y ≢ right → IsMerging c left d right (x ∷ xs) (y ∷ ys) kept → IsMerging c left d right xs ys (kept ++ y ∷ [])
push_double c left d right x xs y ys kept double stays merge =
    let skipped = skip_head c left d right x xs (y ∷ ys) kept (λ l is_l other. let is_y : y ≡ l = sym double ∙ is_l in (here_same y ys l is_y, λ is_right. stays (is_y ∙ is_right))) merge in
    let swapped = merging_swaps c left d right xs (y ∷ ys) kept skipped in
    merging_swaps d right c left ys xs (kept ++ y ∷ []) (push_head d right c left y ys xs kept stays (λ m among. rw double at (first_below x xs merge.first_ascends m among)) swapped)

-- both lists begin with one literal, which one of them at least keeps
pub keeps_both : (c : List Lit) (left : Lit) (d : List Lit) (right : Lit) (first second kept new : List Lit) (e : Lit) → left ≢ right → 1 ≤ length first → 1 ≤ length second → rank (get_or first 0 e) ≡ rank (get_or second 0 e) → new ≡ kept ++ get_or first 0 e ∷ [] → IsMerging c left d right first second kept → IsMerging c left d right (rest first) (rest second) new
keeps_both c left d right [] second kept new e differ some_first some_second level pushed merge = absurd (omega arith)
keeps_both c left d right (x ∷ xs) [] kept new e differ some_first some_second level pushed merge = absurd (omega arith)
keeps_both c left d right (x ∷ xs) (y ∷ ys) kept new e differ some_first some_second level pushed merge =
    let double : x ≡ y = same_rank x y level in
    rw (rest_cons x xs, rest_cons y ys, pushed) (elim (same_or_not y right) [
      | inr stays ↦ rw double (push_double c left d right x xs y ys kept double stays merge)
      | inl is_right ↦ merging_swaps d right c left ys xs (kept ++ x ∷ []) (push_double d right c left y ys x xs kept (sym double) (λ is_left. differ (sym is_left ∙ (double ∙ is_right))) (merging_swaps c left d right (x ∷ xs) (y ∷ ys) kept merge))
    ])

-- the first literal of an ascending list is the least
pub head_least : (xs : List Lit) (e : Lit) → IsAscending xs → (m : Lit) → Contains xs m → rank (get_or xs 0 e) ≤ rank m
head_least [] e up m among = absurd (nowhere m among)
head_least (x ∷ xs) e up m among = first_least x xs up m among
