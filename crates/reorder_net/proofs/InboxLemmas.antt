-- What an inbox holds and counts, as an envelope comes and as copies leave.
use Rattle.std.proofs.Common.{◌≡◌, ℕ, ◌+◌, ◌-◌, ◌/◌, ◌<◌, Bool, true, false, cond, List, [], ◌∷◌, ◌++◌, length, map, get_or, take, slice_get, slice_set, remove, Some, ⊎_elim, refl, sym, ap, ◌∙◌, subst, arith, eq-eqb}
use Rattle.std.specs.Prelude.{◌==◌}
use Rattle.std.specs.List.{count_by, fold}
use Rattle.std.proofs.lemmas.Bool.{cases_Bool, eqb-true}
use Rattle.std.proofs.lemmas.Bool.Decides.{nat_tests}
use Rattle.std.proofs.Math.Seq.{map-set_same}
use Rattle.std.proofs.lemmas.List.{get_or-map, length-map, map-append, map-set, take-map}
use Rattle.std.proofs.lemmas.List.Sums.{length-filter, sum_by-set, sum_by_push}
use Rattle.std.proofs.lemmas.Option.{get_or_from_slice_get, same_Some, slice_get-get_or}
use Rattle.bspl_types.specs.declared.envelope.Envelope.{Envelope}
use Rattle.reorder_net.specs.Inbox.{after_spending}
use Rattle.reorder_net.specs.inner.Slots.{has_copies, held, is_held, marks_of, no_envelope}
use Rattle.reorder_net.specs.inner.Counts.{AreTallied, IsHeldSlot, lowered, raised}
use Rattle.reorder_net.proofs.CountLemmas.{IsBlockOf, counts_lowered, counts_raised, next_block}
use Rattle.reorder_net.proofs.SlotLemmas.{passes_at, passes_no_more, passes_still}

-- the blocks and groups of a slot
pub block_of : (s : ℕ) → IsBlockOf 32 (s / 32) s
block_of s b = (λ less. omega arith, λ more. omega arith)

pub group_of : (s : ℕ) → IsBlockOf 1024 (s / 32 / 32) s
group_of s b = (λ less. omega arith, λ more. omega arith)

-- an envelope with copies passes the test, and one without does not
pub passes : (e : Envelope) → 0 < e.copies → has_copies e ≡ true
passes e some = grind (arith, nat_tests)

pub fails : (e : Envelope) → e.copies ≡ 0 → has_copies e ≡ false
fails e none = grind (arith, nat_tests)

-- the item of an index, whatever stands for none
pub item_is : {X : Type 0} (xs : List X) (i : ℕ) (x d : X) → i < length xs → x ≡ get_or xs i x → get_or xs i d ≡ x
item_is xs i x d less at = get_or_from_slice_get xs i x d (slice_get-get_or xs i x less ∙ ap Some (sym at))

-- as many slots are marked as have copies, after any number
marks_after : (slots : List Envelope) (n : ℕ) → fold (λ a mark. a + cond (is_held mark) 1 0) n (map has_copies slots) ≡ fold (λ a e. a + cond (has_copies e) 1 0) n slots
marks_after [] n = refl
marks_after (e ∷ slots) n = marks_after slots (n + cond (has_copies e) 1 0)

count_marks : (slots : List Envelope) → count_by is_held (map has_copies slots) ≡ count_by has_copies slots
count_marks slots = marks_after slots 0

-- one more is marked and counted in the next slot
pub tallied_more : (slots : List Envelope) (marks : List Bool) (blocks groups : List ℕ) (all n : ℕ) (e : Envelope) → n ≡ length slots → 0 < e.copies → AreTallied slots marks blocks groups all → AreTallied (slots ++ e ∷ []) (marks ++ true ∷ []) (raised blocks (n / 32)) (raised groups (n / 32 / 32)) (all + 1)
tallied_more slots marks blocks groups all n e number some are =
    let test = passes e some in
    let long : n ≡ length marks = number ∙ sym (ap length are.marks_are ∙ length-map slots has_copies) in
    let block : IsBlockOf 32 (n / 32) (length marks) = subst (IsBlockOf 32 (n / 32)) long (block_of n) in
    let group : IsBlockOf 1024 (n / 32 / 32) (length marks) = subst (IsBlockOf 1024 (n / 32 / 32)) long (group_of n) in
    record {
      marks_are = ap (λ l. l ++ true ∷ []) are.marks_are ∙ ap (λ mark. map has_copies slots ++ mark ∷ []) (sym test) ∙ sym (map-append has_copies slots (e ∷ []));
      all_is = ap (λ k. k + 1) are.all_is ∙ sym (sum_by_push (λ x. cond (is_held x) 1 0) marks true);
      blocks_are = counts_raised 32 marks blocks (n / 32) true are.blocks_are block (next_block 32 marks blocks (n / 32) are.blocks_are block) refl;
      groups_are = counts_raised 1024 marks groups (n / 32 / 32) true are.groups_are group (next_block 1024 marks groups (n / 32 / 32) are.groups_are group) refl;
    }

-- one less is marked and counted, as a slot loses its last copy
pub tallied_less : (slots : List Envelope) (marks : List Bool) (blocks groups : List ℕ) (all i s : ℕ) (e : Envelope) → IsHeldSlot marks i s → e.copies ≡ 0 → AreTallied slots marks blocks groups all → AreTallied (slice_set slots s e) (slice_set marks s false) (lowered blocks (s / 32)) (lowered groups (s / 32 / 32)) (all - 1)
tallied_less slots marks blocks groups all i s e is none are =
    let weight : Bool → ℕ = λ mark. cond (is_held mark) 1 0 in
    let was : weight (get_or marks s false) ≡ 1 = ap (λ p. cond p 1 0) is.held in
    let changed : count_by is_held (slice_set marks s false) + weight (get_or marks s false) ≡ count_by is_held marks + 0 = sum_by-set weight marks s false false is.within in
    record {
      marks_are = ap (λ l. slice_set l s false) are.marks_are ∙ ap (slice_set (map has_copies slots) s) (sym (fails e none)) ∙ sym (map-set has_copies slots s e);
      all_is = omega (arith, changed, was, are.all_is);
      blocks_are = counts_lowered 32 marks blocks (s / 32) s false are.blocks_are (block_of s) is.within is.held refl;
      groups_are = counts_lowered 1024 marks groups (s / 32 / 32) s false are.groups_are (group_of s) is.within is.held refl;
    }

-- an index below the number of envelopes is counted
pub index_counted : (slots : List Envelope) (marks : List Bool) (i : ℕ) → marks ≡ marks_of slots → i < length (held slots) → i < count_by is_held marks
index_counted slots marks i are within = subst (λ n. i < n) (length-filter has_copies slots ∙ sym (ap (count_by is_held) are ∙ count_marks slots)) within

-- all that are held are counted
pub all_counted : (slots : List Envelope) (marks : List Bool) (blocks groups : List ℕ) (all : ℕ) → AreTallied slots marks blocks groups all → all ≡ length (held slots)
all_counted slots marks blocks groups all are = are.all_is ∙ ap (count_by is_held) are.marks_are ∙ count_marks slots ∙ sym (length-filter has_copies slots)

-- the slot's envelope has copies, and as many have some in the slots before it
pub record HasCopiesAt (slots : List Envelope) (many slot : ℕ) : Type 0 where
  pub within : slot < length slots
  pub some : 0 < (get_or slots slot no_envelope).copies
  pub before : many ≡ count_by has_copies (take slot slots)

-- so it is where a slot is marked
pub copies_at : (slots : List Envelope) (marks : List Bool) (i s : ℕ) → marks ≡ marks_of slots → IsHeldSlot marks i s → HasCopiesAt slots i s
copies_at slots marks i s are is =
    let within : s < length slots = subst (λ n. s < n) (ap length are ∙ length-map slots has_copies) is.within in
    let test : has_copies (get_or slots s no_envelope) ≡ true = sym (get_or-map has_copies slots s no_envelope false within) ∙ ap (λ l. get_or l s false) (sym are) ∙ is.held in
    record {
      within = within;
      some = grind (arith, nat_tests, test);
      before = is.before ∙ ap (λ l. count_by is_held (take s l)) are ∙ ap (count_by is_held) (take-map has_copies s slots) ∙ count_marks (take s slots);
    }

-- nothing changes in the tally where a slot keeps copies
pub tallied_kept : (slots : List Envelope) (marks : List Bool) (blocks groups : List ℕ) (all i s : ℕ) (e : Envelope) → IsHeldSlot marks i s → 0 < e.copies → AreTallied slots marks blocks groups all → AreTallied (slice_set slots s e) marks blocks groups all
tallied_kept slots marks blocks groups all i s e is some are =
    let was = passes (get_or slots s no_envelope) (copies_at slots marks i s are.marks_are is).some in
    record {
      marks_are = are.marks_are ∙ sym (map-set_same has_copies slots s e no_envelope (passes e some ∙ sym was));
      all_is = are.all_is;
      blocks_are = are.blocks_are;
      groups_are = are.groups_are;
    }

-- as many pass before the slot as its index says
before_is : (slots : List Envelope) (i s : ℕ) → HasCopiesAt slots i s → length (held (take s slots)) ≡ i
before_is slots i s is = length-filter has_copies (take s slots) ∙ sym is.before

-- the slot's envelope is held at the index
pub held_at : (slots : List Envelope) (i s : ℕ) (m : Envelope) → HasCopiesAt slots i s → m ≡ get_or slots s m → i < length (held slots) → slice_get (held slots) i ≡ Some m
held_at slots i s m is at within =
    let there : get_or (held slots) i no_envelope ≡ m =
    subst (λ n. get_or (held slots) n no_envelope ≡ get_or slots s no_envelope) (before_is slots i s is) (passes_at has_copies slots s no_envelope is.within (passes (get_or slots s no_envelope) is.some))
    ∙ item_is slots s m no_envelope is.within at in
    slice_get-get_or (held slots) i no_envelope within ∙ ap Some there

-- with a copy left the envelope stays
pub spent_still : (slots : List Envelope) (i s : ℕ) (m less e : Envelope) → HasCopiesAt slots i s → m ≡ get_or slots s m → less ≡ record m { copies = m.copies - 1 } → 0 < less.copies → i < length (held slots) → slice_get (held slots) i ≡ Some e → held (slice_set slots s less) ≡ after_spending (held slots) i e
spent_still slots i s m less e is at lessened some within there =
    let test = passes (get_or slots s no_envelope) is.some in
    let same : e ≡ m = same_Some e m (sym there ∙ held_at slots i s m is at within) in
    let copies : less.copies ≡ m.copies - 1 = ap (λ x. x.copies) lessened in
    let more : (e.copies == 1) ≡ false = ⊎_elim (λ is_yes. absurd (omega (arith, copies, some, eqb-true e.copies 1 is_yes, ap (λ x. x.copies) same))) (λ is_no. is_no) (cases_Bool (e.copies == 1)) in
    let still = subst (λ n. held (slice_set slots s less) ≡ slice_set (held slots) n less) (before_is slots i s is) (passes_still has_copies slots s no_envelope less is.within test (passes less some)) in
    rw more (still ∙ ap (slice_set (held slots) i) (lessened ∙ ap {A = Envelope} {B = Envelope} (λ x. record x { copies = x.copies - 1 }) (sym same)))

-- with its last copy it leaves
pub spent_last : (slots : List Envelope) (i s : ℕ) (m less e : Envelope) → HasCopiesAt slots i s → m ≡ get_or slots s m → less ≡ record m { copies = m.copies - 1 } → less.copies ≡ 0 → i < length (held slots) → slice_get (held slots) i ≡ Some e → held (slice_set slots s less) ≡ after_spending (held slots) i e
spent_last slots i s m less e is at lessened none within there =
    let test = passes (get_or slots s no_envelope) is.some in
    let same : e ≡ m = same_Some e m (sym there ∙ held_at slots i s m is at within) in
    let copies : less.copies ≡ m.copies - 1 = ap (λ x. x.copies) lessened in
    let some : 0 < m.copies = subst (λ x. 0 < x.copies) (item_is slots s m no_envelope is.within at) is.some in
    let one : (e.copies == 1) ≡ true = eq-eqb e.copies 1 (omega (arith, copies, none, some, ap (λ x. x.copies) same)) in
    rw one (subst (λ n. held (slice_set slots s less) ≡ remove (held slots) n) (before_is slots i s is) (passes_no_more has_copies slots s no_envelope less is.within test (fails less none)))
