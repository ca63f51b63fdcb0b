-- Points that wait in turn: parted, joined and turned round.
use Rattle.std.proofs.Common.{◌≡◌, ◌≢◌, ℕ, ◌+◌, ◌-◌, ◌<◌, ◌≤◌, List, [], ◌∷◌, ◌++◌, length, take, drop, get_or, Some, inl, inr, refl, sym, ap, ◌∙◌, subst, arith, All, length-append}
use Rattle.std.specs.Prelude.{◌⊎◌, slice_get, slice_index_or}
use Rattle.std.specs.List.{AllPairs}
use Rattle.std.proofs.lemmas.Bool.{cases_lt}
use Rattle.std.proofs.lemmas.List.{drop_more, get_or_default, get_or-append_right, get_or_append_left, take-append-drop}
use Rattle.std.proofs.lemmas.List.Elements.{All-append, All-drop, All-take}
use Rattle.std.proofs.lemmas.Option.{get_or_from_slice_get, slice_get-get_or, slice_get_within}
use Rattle.bspl_types.specs.declared.event.Event.{Event}
use Rattle.bspl_types.specs.declared.expanded.Expanded.{Expanded}
use Rattle.history_audit.specs.declared.audit_no.Point.{Point}
use Rattle.history_audit.specs.Cycle.{IsCycle, WaitInTurn}
use Rattle.history_audit.specs.inner.Rings.{IsLowest, IsRing}

-- the first point, or else the end
abbrev head_or : List Point → Point → Point
head_or points end = slice_index_or points 0 end

-- two parts that wait in turn, one behind the other, wait so together
pub turn_join : (x : Expanded) (histories : List (List Event)) (as' bs : List Point) (end : Point) → WaitInTurn x histories as' (head_or bs end) → WaitInTurn x histories bs end → WaitInTurn x histories (as' ++ bs) end
turn_join x histories [] bs end front back = back
turn_join x histories (a ∷ []) [] end front back = (front.0, tt)
turn_join x histories (a ∷ []) (b ∷ bs) end front back = (front.0, back)
turn_join x histories (a ∷ (c ∷ as')) bs end front back = (front.0, turn_join x histories (c ∷ as') bs end front.1 back)

-- and the other way round
turn_part : (x : Expanded) (histories : List (List Event)) (as' bs : List Point) (end : Point) → WaitInTurn x histories (as' ++ bs) end → WaitInTurn x histories as' (head_or bs end) × WaitInTurn x histories bs end
turn_part x histories [] bs end whole = (tt, whole)
turn_part x histories (a ∷ []) [] end whole = ((whole.0, tt), tt)
turn_part x histories (a ∷ []) (b ∷ bs) end whole = ((whole.0, tt), whole.1)
turn_part x histories (a ∷ (c ∷ as')) bs end whole = let rest = turn_part x histories (c ∷ as') bs end whole.1 in ((whole.0, rest.0), rest.1)

-- the last points wait in turn too
pub turn_drop : (x : Expanded) (histories : List (List Event)) (points : List Point) (n : ℕ) (end : Point) → WaitInTurn x histories points end → WaitInTurn x histories (drop n points) end
turn_drop x histories points n end whole = (turn_part x histories (take n points) (drop n points) end (subst (λ ps. WaitInTurn x histories ps end) (sym (take-append-drop n points)) whole)).1

-- a circle is one from each of its points on
turned : (x : Expanded) (histories : List (List Event)) (as' : List Point) (b : Point) (bs : List Point) (first : Point) → head_or (as' ++ b ∷ bs) first ≡ first → WaitInTurn x histories (as' ++ b ∷ bs) first → WaitInTurn x histories ((b ∷ bs) ++ as') b
turned x histories [] b bs first is whole = turn_join x histories (b ∷ bs) [] b (subst (WaitInTurn x histories (b ∷ bs)) (sym is) whole) tt
turned x histories (a ∷ as') b bs first is whole =
    let parts = turn_part x histories (a ∷ as') (b ∷ bs) first whole in
    turn_join x histories (b ∷ bs) (a ∷ as') b (subst (WaitInTurn x histories (b ∷ bs)) (sym is) parts.1) parts.0

-- where a point of the turned list was
record WasAt (as' bs : List Point) (k n : ℕ) (d : Point) : Type 0 where
  within : n < length (as' ++ bs)
  same : get_or (bs ++ as') k d ≡ get_or (as' ++ bs) n d
  case : ((k < length bs) × (n ≡ length as' + k)) ⊎ ((length bs ≤ k) × (n + length bs ≡ k))

was_at : (as' bs : List Point) (k : ℕ) (d : Point) → k < length (bs ++ as') → (n : ℕ) × WasAt as' bs k n d
was_at as' bs k d within = elim (cases_lt k (length bs)) [
  | inl early ↦ (
    length as' + k,
    record {
      within = omega (arith, early, length-append as' bs);
      same = get_or_append_left bs as' d k early ∙ sym (get_or-append_right as' bs (length as') (length as' + k) d refl (omega arith) ∙ ap (λ j. get_or bs j d) (omega arith));
      case = inl (early, refl);
    },
  )
  | inr late ↦ (
    k - length bs,
    record {
      within = omega (arith, late, within, length-append as' bs, length-append bs as');
      same = get_or-append_right bs as' (length bs) k d refl late ∙ sym (get_or_append_left as' bs d (k - length bs) (omega (arith, late, within, length-append bs as')));
      case = inr (late, omega (arith, late));
    },
  )
]

-- distinct roles stay distinct
roles_turned : (as' bs : List Point) → AllPairs (λ p q. p.role ≢ q.role) (as' ++ bs) → AllPairs (λ p q. p.role ≢ q.role) (bs ++ as')
roles_turned as' bs distinct i j d less within =
    let (m, at) = was_at as' bs i d (omega (arith, less, within)) in
    let (n, also_at) = was_at as' bs j d within in
    λ same.
    let roles : (get_or (as' ++ bs) m d).role ≡ (get_or (as' ++ bs) n d).role = ap (λ (p : Point). p.role) (sym at.same) ∙ same ∙ ap (λ (p : Point). p.role) also_at.same in
    elim (cases_lt m n) [
      | inl below ↦ distinct m n d below also_at.within roles
      | inr not ↦ elim (cases_lt n m) [
        | inl above ↦ distinct n m d above at.within (sym roles)
        | inr also ↦ absurd (apart m n at.case also_at.case (omega (arith, not, also)))
      ]
    ]
  where
    apart : (m n : ℕ) → ((i < length bs) × (m ≡ length as' + i)) ⊎ ((length bs ≤ i) × (m + length bs ≡ i)) → ((j < length bs) × (n ≡ length as' + j)) ⊎ ((length bs ≤ j) × (n + length bs ≡ j)) → m ≡ n → ⊥
    apart m n (inl one) (inl other) same = omega (arith, one.1, other.1, same, less)
    apart m n (inl one) (inr other) same = omega (arith, one.1, other.0, other.1, same, within, length-append bs as')
    apart m n (inr one) (inl other) same = omega (arith, one.0, one.1, other.0, other.1, same, less)
    apart m n (inr one) (inr other) same = omega (arith, one.1, other.1, same, less)

-- a circle from its lowest role on is a cycle
pub cycle_from_ring : (x : Expanded) (histories : List (List Event)) (points : List Point) (lowest : ℕ) → IsRing x histories points → IsLowest points lowest → IsCycle x histories (drop lowest points ++ take lowest points)
cycle_from_ring x histories points lowest ring least =
    let within : lowest < length points = slice_get_within points lowest least.point least.at in
    let front : List Point = take lowest points in
    let rest : List Point = drop (lowest + 1) points in
    let back : drop lowest points ≡ least.point ∷ rest = drop_more points lowest least.point within ∙ ap (λ p. p ∷ rest) (get_or_from_slice_get points lowest least.point least.point least.at) in
    let whole : front ++ least.point ∷ rest ≡ points = ap (λ ps. front ++ ps) (sym back) ∙ take-append-drop lowest points in
    let count : length points ≡ length front + (length rest + 1) = sym (ap length whole) ∙ length-append front (least.point ∷ rest) ∙ (omega arith) in
    subst (λ ps. IsCycle x histories (ps ++ front)) (sym back) (record {
      first = least.point;
      others = rest ++ front;
      split = refl;
      two = omega (arith, count, ap length ring.split, ring.two, length-append rest front);
      roles = roles_turned front (least.point ∷ rest) (subst (AllPairs (λ p q. p.role ≢ q.role)) (sym whole) ring.roles);
      in_turn = turned x histories front least.point rest ring.first (ap (λ ps. head_or ps ring.first) (whole ∙ ring.split)) (subst (λ ps. WaitInTurn x histories ps ring.first) (sym whole) ring.in_turn);
      lowest = All-append (λ p. least.point.role ≤ p.role) (least.point ∷ rest) front
          (subst (All (λ p. least.point.role ≤ p.role)) back (All-drop (λ p. least.point.role ≤ p.role) lowest points least.lowest))
          (All-take (λ p. least.point.role ≤ p.role) lowest points least.lowest);
    })

-- of the first points, the one at the index has the lowest role
pub record IsLowestOf (points : List Point) (reached lowest : ℕ) : Type 0 where
  pub before : lowest < reached
  pub within : reached ≤ length points
  pub least : (k : ℕ) (d : Point) → k < reached → (get_or points lowest d).role ≤ (get_or points k d).role

-- the first alone
pub lowest_start : (points : List Point) → 0 < length points → IsLowestOf points 1 0
lowest_start points some =
    record {
      before = omega arith;
      within = omega (arith, some);
      least = λ k d below. let same : 0 ≡ k = omega (arith, below) in subst (λ (j : ℕ). (get_or points 0 d).role ≤ (get_or points j d).role) same (omega arith);
    }

-- one more, which is lower
pub lowest_moves : (points : List Point) (reached lowest : ℕ) (p q : Point) → reached < length points → slice_get points reached ≡ Some p → slice_get points lowest ≡ Some q → IsLowestOf points reached lowest → p.role < q.role → IsLowestOf points (reached + 1) reached
lowest_moves points reached lowest p q within at low so_far less =
    record {
      before = omega arith;
      within = omega (arith, within);
      least = λ k d below. elim (cases_lt k reached) [
        | inl old ↦
            let than = so_far.least k d old in
            omega (arith, than, less, ap (λ (r : Point). r.role) (get_or_from_slice_get points reached p d at), ap (λ (r : Point). r.role) (get_or_from_slice_get points lowest q d low))
        | inr new ↦ let same : reached ≡ k = omega (arith, below, new) in subst (λ (j : ℕ). (get_or points reached d).role ≤ (get_or points j d).role) same (omega arith)
      ];
    }

-- one more, which is not
pub lowest_stays : (points : List Point) (reached lowest : ℕ) (p q : Point) → reached < length points → slice_get points reached ≡ Some p → slice_get points lowest ≡ Some q → IsLowestOf points reached lowest → q.role ≤ p.role → IsLowestOf points (reached + 1) lowest
lowest_stays points reached lowest p q within at low so_far not =
    record {
      before = omega (arith, so_far.before);
      within = omega (arith, within);
      least = λ k d below. elim (cases_lt k reached) [
        | inl old ↦ so_far.least k d old
        | inr new ↦
            let same : reached ≡ k = omega (arith, below, new) in
            subst (λ (j : ℕ). (get_or points lowest d).role ≤ (get_or points j d).role) same
            (omega (arith, not, ap (λ (r : Point). r.role) (get_or_from_slice_get points reached p d at), ap (λ (r : Point). r.role) (get_or_from_slice_get points lowest q d low)))
      ];
    }

-- of all points
pub lowest_of_all : (points : List Point) (reached lowest : ℕ) → length points ≤ reached → IsLowestOf points reached lowest → IsLowest points lowest
lowest_of_all points reached lowest is_end so_far =
    let blank : Point = record { role = 0; place = 0 } in
    let inside : lowest < length points = omega (arith, so_far.before, so_far.within) in
    record {
      point = get_or points lowest blank;
      at = slice_get-get_or points lowest blank inside;
      lowest = λ k d below. subst (λ (r : Point). r.role ≤ (get_or points k d).role) (get_or_default points lowest d blank inside) (so_far.least k d (omega (arith, below, is_end)));
    }
