-- A reception after an emission of its instance has an arrow.
use Rattle.std.proofs.Common.{◌≡◌, ℕ, ◌+◌, ◌<◌, ◌≤◌, Bool, true, List, [], ◌∷◌, ◌++◌, Option, None, Some, length, take, get_or, sym, ap, inl, inr, ◌∙◌, subst, arith}
use Rattle.std.specs.Prelude.{cond, slice_get}
use Rattle.std.specs.List.{Contains, enumerate_from, flat_map, position, position_or_len}
use Rattle.std.proofs.lemmas.Bool.{cases_lt, false≢true, lt-ltb}
use Rattle.std.proofs.lemmas.List.{get_or-take, length-take}
use Rattle.std.proofs.lemmas.List.Elements.{Contains-append_left, Contains-append_right}
use Rattle.std.proofs.lemmas.List.FromFn.{get_or-enumerate_from, length-enumerate_from}
use Rattle.std.proofs.lemmas.List.Sums.{fails_before_first}
use Rattle.std.proofs.lemmas.Option.{get_or_from_slice_get, slice_get_within}
use Rattle.list_base.proofs.Members.{cons_cases, here, nowhere}
use Rattle.bspl_types.specs.declared.event.Event.{Event}
use Rattle.bspl_types.specs.declared.event.Event.TheVariants.{Emit, Receive}
use Rattle.bspl_types.specs.declared.event.Instance.{Instance}
use Rattle.bspl_types.specs.declared.expanded.Expanded.{Expanded}
use Rattle.bspl_types.specs.Expansion.{message_of}
use Rattle.bspl_types.specs.History.{role_of}
use Rattle.run_chart.specs.Laws.{HasArrow}
use Rattle.run_chart.specs.Strokes.{Arrow, Mark, arrow_from, is_emission_of, strokes_at}
use Rattle.run_chart.proofs.ShownLemmas.{is_same}

-- a member of one of the lists that are joined
member_joined : {X A : Type 0} (f : X → List A) (xs : List X) (x : X) (a : A) → Contains xs x → Contains (f x) a → Contains (flat_map f xs) a
member_joined f [] x a among inside = absurd (nowhere x among)
member_joined f (y ∷ xs) x a among inside =
    elim (cons_cases y xs x among) [
      | inl is ↦ Contains-append_left (f y) (flat_map f xs) a (subst (λ z. Contains (f z) a) (sym is) inside)
      | inr rest ↦ Contains-append_right (f y) (flat_map f xs) a (member_joined f xs x a rest inside)
    ]

-- an item has its number
member_numbered : {X : Type 0} (xs : List X) (k : ℕ) (x : X) → slice_get xs k ≡ Some x → Contains (enumerate_from 0 xs) (k, x)
member_numbered {X} xs k x at =
    let within = slice_get_within xs k x at in
    let number : 0 + k ≡ k = omega arith in
    let item = get_or_from_slice_get xs k x x at in
    (k, omega (arith, within, length-enumerate_from 0 xs), get_or-enumerate_from 0 xs k (k, x) within ∙ ap {B = ℕ × X} (λ n. (n, get_or xs k x)) number ∙ ap {B = ℕ × X} (λ y. (k, y)) item)

-- what is among the first items is found there
found_before : {X : Type 0} (p : X → Bool) (xs : List X) (n : ℕ) (x : X) → p x ≡ true → Contains (take n xs) x → (i : ℕ) × (position p xs ≡ Some i) × (i < n)
found_before p xs n x passes (k, within, is) =
    let i = position_or_len p xs in
    let before : k < n = omega (arith, within, length-take n xs) in
    let inside : k < length xs = omega (arith, within, length-take n xs) in
    let item = sym (get_or-take n xs k x before) ∙ is in
    let first : i ≤ k = (elim (cases_lt k i) [
      | inl later ↦ absurd (false≢true (sym (fails_before_first p xs k x later) ∙ ap p item ∙ passes))
      | inr first ↦ first
    ]) in
    let found : i < length xs = omega (arith, first, inside) in
    (i, ap (λ (b : Bool). cond b (Some i) None) (lt-ltb i (length xs) found), omega (arith, first, before))

-- the arrow is the first stroke of the reception
pub reception_arrow : (x : Expanded) (run : List Event) (received : ℕ) (i : Instance) → Contains (take received run) (Emit i) → slice_get run received ≡ Some (Receive i) → HasArrow x run received i
reception_arrow x run received i emitted at =
    let m = message_of x i.message in
    let found = found_before (is_emission_of i) run received (Emit i) (is_same i) emitted in
    let arrow = Arrow found.0 m.sender received m.receiver in
    let first = here arrow (Mark received (role_of x (Receive i)) (Receive i) ∷ []) in
    let drawn = subst (λ (o : Option ℕ). Contains (arrow_from m received o ++ Mark received (role_of x (Receive i)) (Receive i) ∷ []) arrow) (sym found.1) first in
    record {
      sent = found.0;
      earlier = found.2;
      drawn = member_joined (strokes_at x run) (enumerate_from 0 run) (received, Receive i) arrow (member_numbered run received (Receive i) at) drawn;
    }
