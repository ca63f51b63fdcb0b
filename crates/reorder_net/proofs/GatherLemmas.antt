-- The passes of the roles, as they are joined to one for each mailbox.
use Rattle.std.proofs.Common.{◌≡◌, ◌≢◌, ℕ, ◌+◌, ◌<◌, Bool, true, false, List, [], ◌∷◌, ◌++◌, length, set, Some, slice_get, refl, sym, ap, ◌∙◌, subst, inl, inr, arith, length-set, length-append, eq-eqb, ne_eqb, if◌then◌else◌, All}
use Rattle.std.specs.Prelude.{nat_lt}
use Rattle.std.proofs.lemmas.Bool.{cases_eq}
use Rattle.std.proofs.lemmas.Bool.Decides.{nat_tests}
use Rattle.std.proofs.lemmas.List.{append-nil}
use Rattle.std.proofs.lemmas.List.Elements.{All-contains}
use Rattle.std.proofs.lemmas.Option.{same_Some, slice_get_cases, slice_get_within}
use Rattle.list_base.proofs.Membership.{member_at}
use Rattle.bspl_types.specs.declared.envelope.Envelope.{Envelope}
use Rattle.agent_scripts.specs.Job.{Job}
use Rattle.reorder_net.specs.declared.hold.Hold.{Hold}
use Rattle.reorder_net.specs.declared.passes.RolePasses.{RolePasses}
use Rattle.reorder_net.specs.Gathered.{gathered_hold, taken_by, AreGathered, IsTold}
use Rattle.reorder_net.specs.Hold.{sender, taker}
use Rattle.reorder_net.specs.Pass.{BoxId, PassState}
use Rattle.reorder_net.specs.Passes.{ArePasses}
use Rattle.reorder_net.specs.inner.Joins.{with_lists, CanAllTakeIn, CanTakeIn, HaveTakenIn}
use Rattle.reorder_net.specs.inner.Moves.{joined, IsGathered, IsToldTo}
use Rattle.reorder_net.proofs.ItemLemmas.{append_here, append_last, set_else, set_here}
use Rattle.reorder_net.proofs.StockLemmas.{parts}

-- a gathered pass, which has what was taken or not
abbrev gathered_if : Bool → ℕ → List (List Envelope) → List Envelope → Hold
gathered_if has home puts taken = record { home = home; low = 0; puts = puts; takes = has; taken = if has then taken else [] }

-- the taking pass comes to a pass that has nothing taken
own_joined : (role : ℕ) (lists : List (List Envelope)) (none mine : List Envelope) → joined (gathered_if false role lists none) (taker role mine) ≡ gathered_if true role lists mine
own_joined role lists none mine = ap (λ l. record (gathered_if true role lists mine) { puts = l }) (append-nil lists)

-- a sender's pass comes to a gathered one
list_joined : (has : Bool) (home role : ℕ) (lists : List (List Envelope)) (l taken : List Envelope) → joined (gathered_if has home lists taken) (sender home role l) ≡ gathered_if has home (lists ++ l ∷ []) taken
list_joined true home role lists l taken = refl
list_joined false home role lists l taken = refl

-- which roles are gathered once one more is
own_more : (role : ℕ) → nat_lt role (role + 1) ≡ true
own_more role = grind (arith, nat_tests)

own_not_yet : (role : ℕ) → nat_lt role role ≡ false
own_not_yet role = grind (arith, nat_tests)

others_same : (q role : ℕ) → q ≢ role → nat_lt q role ≡ nat_lt q (role + 1)
others_same q role apart = grind (arith, nat_tests)

-- what was taken once one role more is gathered
taken_own : (role : ℕ) (mine : List Envelope) (taken : ℕ → List Envelope) (q : ℕ) → q ≡ role → mine ≡ taken_by role mine taken q
taken_own role mine taken q same = sym (ap (λ b. if b then mine else taken q) (eq-eqb q role same))

taken_else : (role : ℕ) (mine : List Envelope) (taken : ℕ → List Envelope) (q : ℕ) → q ≢ role → taken q ≡ taken_by role mine taken q
taken_else role mine taken q apart = sym (ap (λ b. if b then mine else taken q) (ne_eqb q role apart))

-- the first role's passes, the taking one joined to the one to its own mailbox
pub first_gathered : (boxes : List BoxId) (sent : ℕ → List Envelope) (taken : List Envelope) (passes : RolePasses) (box : BoxId) (old new : PassState) → ArePasses boxes 0 sent taken passes → slice_get boxes 0 ≡ Some box → slice_get passes.puts 0 ≡ Some old → new ≡ with_lists old passes.own
    → AreGathered boxes (λ q. sent q ∷ []) (λ _. taken) 1 (set passes.puts 0 new)
first_gathered boxes sent taken passes box old new are at found is = record {
  number = length-set passes.puts 0 new ∙ are.count;
  each_role = λ q. refl;
  each = λ q b there. elim (cases_eq q 0) [
    | inl same ↦
        let one : box ≡ b = same_Some box b (sym at ∙ subst (λ k. slice_get boxes k ≡ Some b) same there) in
        let was = same_Some old (record { box = box; hold = sender 0 0 (sent 0) }) (sym found ∙ are.puts 0 box at) in
        let own : passes.own.hold ≡ taker 0 taken = ap (λ p. p.hold) (are.own box at) in
        let hold : new.hold ≡ gathered_hold 1 q (sent q ∷ []) taken = ap (λ p. p.hold) is ∙ (λ i. joined (was i).hold (own i)) ∙ ap (λ k. gathered_hold 1 k (sent k ∷ []) taken) (sym same) in
        subst (λ k. slice_get (set passes.puts 0 new) k ≡ Some new) (sym same) (set_here passes.puts 0 new old found) ∙ ap Some (parts new b (gathered_hold 1 q (sent q ∷ []) taken) (ap (λ p. p.box) is ∙ ap (λ p. p.box) was ∙ one) hold)
    | inr apart ↦
        let not_first : false ≡ nat_lt q 1 = grind (arith, nat_tests) in
        set_else passes.puts 0 q new apart ∙ are.puts q b there ∙ ap (λ t. Some (record { box = b; hold = gathered_if t q (sent q ∷ []) taken })) not_first
  ];
}

-- the passes of several roles, of one more of which what was taken is there already
pub record AreHalfGathered (boxes : List BoxId) (lists : ℕ → List (List Envelope)) (taken : ℕ → List Envelope) (role : ℕ) (passes : List PassState) : Type 0 where
  pub number : length passes ≡ length boxes
  pub each_role : (q : ℕ) → length (lists q) ≡ role
  pub each : (q : ℕ) (box : BoxId) → slice_get boxes q ≡ Some box → slice_get passes q ≡ Some (record { box = box; hold = gathered_hold (role + 1) q (lists q) (taken q) })

-- the role's taking pass comes to the one to its own mailbox
pub own_gathered : (boxes : List BoxId) (lists : ℕ → List (List Envelope)) (taken : ℕ → List Envelope) (role : ℕ) (gathered : List PassState) (sent : ℕ → List Envelope) (mine : List Envelope) (passes : RolePasses) (box : BoxId) (old new : PassState)
    → AreGathered boxes lists taken role gathered → ArePasses boxes role sent mine passes → slice_get boxes role ≡ Some box → slice_get gathered role ≡ Some old → new ≡ with_lists old passes.own
    → AreHalfGathered boxes lists (taken_by role mine taken) role (set gathered role new)
own_gathered boxes lists taken role gathered sent mine passes box old new all are at found is = record {
  number = length-set gathered role new ∙ all.number;
  each_role = all.each_role;
  each = λ q b there. elim (cases_eq q role) [
    | inl same ↦
        let one : box ≡ b = same_Some box b (sym at ∙ subst (λ k. slice_get boxes k ≡ Some b) same there) in
        let was = same_Some old (record { box = box; hold = gathered_hold role role (lists role) (taken role) }) (sym found ∙ all.each role box at) in
        let had : old.hold ≡ gathered_if false role (lists role) (taken role) = ap (λ p. p.hold) was ∙ ap (λ t. gathered_if t role (lists role) (taken role)) (own_not_yet role) in
        let own : passes.own.hold ≡ taker role mine = ap (λ p. p.hold) (are.own box at) in
        let both : new.hold ≡ gathered_if true role (lists role) mine = ap (λ p. p.hold) is ∙ (λ i. joined (had i) (own i)) ∙ own_joined role (lists role) (taken role) mine in
        let now : gathered_if true role (lists role) mine ≡ gathered_hold (role + 1) role (lists role) (taken_by role mine taken role) =
        λ i. gathered_if (sym (own_more role) i) role (lists role) (taken_own role mine taken role refl i) in
        let hold : new.hold ≡ gathered_hold (role + 1) q (lists q) (taken_by role mine taken q) = both ∙ now ∙ ap (λ k. gathered_hold (role + 1) k (lists k) (taken_by role mine taken k)) (sym same) in
        subst (λ k. slice_get (set gathered role new) k ≡ Some new) (sym same) (set_here gathered role new old found) ∙ ap Some (parts new b (gathered_hold (role + 1) q (lists q) (taken_by role mine taken q)) (ap (λ p. p.box) is ∙ ap (λ p. p.box) was ∙ one) hold)
    | inr apart ↦ set_else gathered role q new apart ∙ all.each q b there
        ∙ λ i. Some (record { box = b; hold = gathered_if (others_same q role apart i) q (lists q) (taken_else role mine taken q apart i) })
  ];
}

-- each may take in the role's list
pub can_gather : (boxes : List BoxId) (lists : ℕ → List (List Envelope)) (taken : ℕ → List Envelope) (role : ℕ) (half : List PassState) (sent : ℕ → List Envelope) (mine : List Envelope) (passes : RolePasses) → 0 < role → AreHalfGathered boxes lists taken role half → ArePasses boxes role sent mine passes → CanAllTakeIn boxes half passes.puts
can_gather boxes lists taken role half sent mine passes some all are = record {
  count = all.number;
  other_count = are.count;
  each = λ q box p other at found found'.
      let is = same_Some p (record { box = box; hold = gathered_hold (role + 1) q (lists q) (taken q) }) (sym found ∙ all.each q box at) in
      let other_is = same_Some other (record { box = box; hold = sender q role (sent q) }) (sym found' ∙ are.puts q box at) in
      let count = all.each_role q in
      subst (λ (y : PassState × PassState). CanTakeIn box y.0 y.1) (λ i. (sym is i, sym other_is i)) (record {
        own = refl;
        other_own = refl;
        holding = inl (omega (arith, count, some));
        next = inr (omega (arith, count));
      });
}

-- with it they are those of one role more
pub lists_gathered : (boxes : List BoxId) (lists : ℕ → List (List Envelope)) (taken : ℕ → List Envelope) (role : ℕ) (half new : List PassState) (sent : ℕ → List Envelope) (mine : List Envelope) (passes : RolePasses) → AreHalfGathered boxes lists taken role half → ArePasses boxes role sent mine passes → HaveTakenIn 0 half passes.puts new
    → AreGathered boxes (λ q. lists q ++ sent q ∷ []) taken (role + 1) new
lists_gathered boxes lists taken role half new sent mine passes all are joins = record {
  number = joins.count ∙ all.number;
  each_role = λ q. let count = all.each_role q in omega (arith, count, length-append (lists q) (sent q ∷ []));
  each = λ q box at. joins.after q (record { box = box; hold = gathered_hold (role + 1) q (lists q) (taken q) }) (record { box = box; hold = sender q role (sent q) }) (omega arith) (all.each q box at) (are.puts q box at)
      ∙ ap (λ v. Some (record { box = box; hold = v })) (list_joined (nat_lt q (role + 1)) q role (lists q) (sent q) (taken q));
}

-- the last of a list's items, before some others
pub at_split : {X : Type 0} (xs : List X) (x : X) (ys all : List X) → all ≡ (xs ++ x ∷ []) ++ ys → slice_get all (length xs) ≡ Some x
at_split xs x ys all is = ap (λ l. slice_get l (length xs)) is ∙ append_here (xs ++ x ∷ []) ys (length xs) x (append_last xs x)

-- no pass has taken in anything yet
pub none_taken_in : (from : ℕ) (passes others : List PassState) → from ≡ length others → HaveTakenIn from passes others passes
none_taken_in from passes others all = record {
  count = refl;
  before = λ q within. refl;
  after = λ q p other past found found'. absurd (omega (arith, past, all, slice_get_within others q other found'));
}

-- one more has
pub one_taken_in : (old others now : List PassState) (from to q : ℕ) (p other new : PassState) → from ≡ q + 1 → q ≡ to → HaveTakenIn from old others now → slice_get now q ≡ Some p → slice_get others q ≡ Some other → new ≡ with_lists p other → HaveTakenIn to old others (set now q new)
one_taken_in old others now from to q p other new next here have found found' is =
    let was : slice_get old q ≡ Some p = sym (have.before q (omega (arith, next))) ∙ found in
    record {
      count = length-set now q new ∙ have.count;
      before = λ k within. set_else now q k new (λ same. omega (arith, within, same, here)) ∙ have.before k (omega (arith, within, next, here));
      after = λ k p' other' past at at'. elim (cases_eq k q) [
        | inl same ↦
            let one : p ≡ p' = same_Some p p' (sym was ∙ subst (λ n. slice_get old n ≡ Some p') same at) in
            let other_one : other ≡ other' = same_Some other other' (sym found' ∙ subst (λ n. slice_get others n ≡ Some other') same at') in
            subst (λ n. slice_get (set now q new) n ≡ Some new) (sym same) (set_here now q new p found) ∙ ap Some (is ∙ λ i. with_lists (one i) (other_one i))
        | inr apart ↦ set_else now q k new apart ∙ have.after k p' other' (omega (arith, past, apart, next, here)) at at'
      ];
    }

-- the next one may
pub next_can_take_in : (boxes : List BoxId) (old others now : List PassState) (from q : ℕ) (box : BoxId) (p other : PassState) → from ≡ q + 1 → CanAllTakeIn boxes old others → HaveTakenIn from old others now → slice_get boxes q ≡ Some box → slice_get now q ≡ Some p → slice_get others q ≡ Some other → CanTakeIn box p other
next_can_take_in boxes old others now from q box p other next can have at found found' = can.each q box p other at (sym (have.before q (omega (arith, next))) ∙ found) found'

-- what the rule tells of each mailbox
pub all_told : (job : Job) (boxes : List BoxId) (lists : ℕ → List (List Envelope)) (taken : ℕ → List Envelope) (gathered : List PassState) → AreGathered boxes lists taken (length boxes) gathered → All (λ p. IsToldTo job p.hold) gathered → (q : ℕ) → q < length boxes → IsTold job q (lists q) (taken q)
all_told job boxes lists taken gathered all told q within = elim (slice_get_cases boxes q).1 [
  | inl (box, less, at, same) ↦
      let is_gathered : nat_lt q (length boxes) ≡ true = grind (arith, nat_tests) in
      let p : PassState = record { box = box; hold = gathered_hold (length boxes) q (lists q) (taken q) } in
      let one : IsToldTo job p.hold = All-contains (λ p. IsToldTo job p.hold) gathered p told (member_at gathered q p (all.each q box at)) in
      subst (λ b. IsTold job q (lists q) (if b then taken q else [])) is_gathered one
  | inr (past, none) ↦ absurd (omega (arith, within, past))
]

-- the pass that is gathered of all roles has all lists of its mailbox
pub is_gathered : (boxes : List BoxId) (lists : ℕ → List (List Envelope)) (taken : ℕ → List Envelope) (gathered : List PassState) (q : ℕ) (box : BoxId) (p : PassState) → AreGathered boxes lists taken (length boxes) gathered → slice_get boxes q ≡ Some box → slice_get gathered q ≡ Some p → (p.box ≡ box) × IsGathered p.hold
is_gathered boxes lists taken gathered q box p all at found =
    let is = same_Some p (record { box = box; hold = gathered_hold (length boxes) q (lists q) (taken q) }) (sym found ∙ all.each q box at) in
    let within : q < length boxes = slice_get_within boxes q box at in
    let reads : nat_lt q (length boxes) ≡ true = grind (arith, nat_tests) in
    subst (λ (y : PassState). (y.box ≡ box) × IsGathered y.hold) (sym is) (refl, record { low = refl; takes = reads })
