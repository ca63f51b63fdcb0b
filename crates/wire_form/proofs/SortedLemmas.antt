-- Members among others in the order of names, and those that are put there one after another.
use Rattle.std.proofs.Common.{◌≡◌, ℕ, ◌+◌, ◌<◌, List, [], ◌∷◌, ◌++◌, length, take, drop, get_or, slice_set, Ordering, Less, Equal, Greater, nat_cmp, is_eq, refl, sym, ap, ap₂, ◌∙◌, arith}
use Rattle.std.specs.Cmp.Lexicographic.{slice_cmp}
use Rattle.std.specs.Ordering.{match_ordering}
use Rattle.std.proofs.lemmas.List.{take_more, drop_more, take-append-drop, take-set, drop-set}
use Rattle.std.proofs.lemmas.Map.Text.{is_eq-slice_cmp}
use Rattle.std.proofs.lemmas.Slice.Eq.{bytes_eq-Decides}
use Rattle.serde_json.specs.Data.{Data, Members, member, no_members, put}
use Rattle.wire_form.specs.inner.Sorted.{before_members, members_in, GoesAt, StandsAt}

-- members before members before others
pub before-append : {T : Type 0} (name : T → List ℕ) (content : T → Data) (fs gs : List T) (ms : Members) → before_members name content (fs ++ gs) ms ≡ before_members name content fs (before_members name content gs ms)
before-append name content [] gs ms = refl
before-append name content (f ∷ fs) gs ms = ap (member (name f) (content f)) (before-append name content fs gs ms)

-- the names before the index come before this one
abbrev pub IsPast : {T : Type 0} → (T → List ℕ) → (T → Data) → List T → List ℕ → ℕ → Type 0
IsPast name content sorted key i = (d : Data) → put key d (members_in name content sorted) ≡ before_members name content (take i sorted) (put key d (members_in name content (drop i sorted)))

-- what is put before the item at the index, by the order of the names
put_at : {T : Type 0} (name : T → List ℕ) (content : T → Data) (sorted : List T) (key : List ℕ) (i : ℕ) (f : T) (d : Data) → i < length sorted → f ≡ get_or sorted i f → IsPast name content sorted key i
    → put key d (members_in name content sorted) ≡ before_members name content (take i sorted)
    (match_ordering (slice_cmp nat_cmp key (name f)) (member key d (members_in name content (drop i sorted))) (member (name f) d (members_in name content (drop (i + 1) sorted))) (member (name f) (content f) (put key d (members_in name content (drop (i + 1) sorted)))))
put_at {T} name content sorted key i f d within is past =
    let here : drop i sorted ≡ f ∷ drop (i + 1) sorted = drop_more sorted i f within ∙ ap (λ (g : T). g ∷ drop (i + 1) sorted) (sym is) in
    past d ∙ ap (λ (fs : List T). before_members name content (take i sorted) (put key d (members_in name content fs))) here
    ∙ ap (λ (fs : List T). before_members name content (take i sorted) (match_ordering (slice_cmp nat_cmp key (name f)) (member key d (members_in name content fs)) (member (name f) d (members_in name content (drop (i + 1) sorted))) (member (name f) (content f) (put key d (members_in name content (drop (i + 1) sorted)))))) (sym here)

-- one name more comes before
pub past_more : {T : Type 0} (name : T → List ℕ) (content : T → Data) (sorted : List T) (key : List ℕ) (i : ℕ) (f : T) → i < length sorted → f ≡ get_or sorted i f → slice_cmp nat_cmp key (name f) ≡ Greater → IsPast name content sorted key i → IsPast name content sorted key (i + 1)
past_more {T} name content sorted key i f within is greater past d =
    let rest : Members = put key d (members_in name content (drop (i + 1) sorted)) in
    put_at name content sorted key i f d within is past
    ∙ ap (λ (o : Ordering). before_members name content (take i sorted) (match_ordering o (member key d (members_in name content (drop i sorted))) (member (name f) d (members_in name content (drop (i + 1) sorted))) (member (name f) (content f) rest))) greater
    ∙ sym (before-append name content (take i sorted) (f ∷ []) rest)
    ∙ ap (λ (fs : List T). before_members name content fs rest) (sym (take_more sorted i f within ∙ ap (λ (g : T). take i sorted ++ g ∷ []) (sym is)))

-- the name stands at the index
pub stands_at : {T : Type 0} (name : T → List ℕ) (content : T → Data) (sorted : List T) (key : List ℕ) (i : ℕ) (f : T) → i < length sorted → f ≡ get_or sorted i f → slice_cmp nat_cmp key (name f) ≡ Equal → IsPast name content sorted key i → StandsAt name content sorted key i
stands_at {T} name content sorted key i f within is equal past =
    let same : key ≡ name f = (bytes_eq-Decides key (name f)).0 (sym (is_eq-slice_cmp key (name f)) ∙ ap is_eq equal) in
    record {
      within = within;
      put_is = λ d. put_at name content sorted key i f d within is past
          ∙ ap (λ (o : Ordering). before_members name content (take i sorted) (match_ordering o (member key d (members_in name content (drop i sorted))) (member (name f) d (members_in name content (drop (i + 1) sorted))) (member (name f) (content f) (put key d (members_in name content (drop (i + 1) sorted)))))) equal
          ∙ ap (λ (k : List ℕ). before_members name content (take i sorted) (member k d (members_in name content (drop (i + 1) sorted)))) (sym same);
    }

-- it goes in at the index
pub goes_at : {T : Type 0} (name : T → List ℕ) (content : T → Data) (sorted : List T) (key : List ℕ) (i : ℕ) (f : T) → i < length sorted → f ≡ get_or sorted i f → slice_cmp nat_cmp key (name f) ≡ Less → IsPast name content sorted key i → GoesAt name content sorted key i
goes_at {T} name content sorted key i f within is less past =
    record {
      within = omega (arith, within);
      put_is = λ d. put_at name content sorted key i f d within is past
          ∙ ap (λ (o : Ordering). before_members name content (take i sorted) (match_ordering o (member key d (members_in name content (drop i sorted))) (member (name f) d (members_in name content (drop (i + 1) sorted))) (member (name f) (content f) (put key d (members_in name content (drop (i + 1) sorted)))))) less;
    }

-- a value that replaces another
pub put_stands : {T : Type 0} (name : T → List ℕ) (content : T → Data) (sorted : List T) (key : List ℕ) (i : ℕ) (n : T) → StandsAt name content sorted key i → key ≡ name n → members_in name content (slice_set sorted i n) ≡ put (name n) (content n) (members_in name content sorted)
put_stands {T} name content sorted key i n stands is =
    let parts : slice_set sorted i n ≡ take i sorted ++ n ∷ drop (i + 1) sorted =
    sym (take-append-drop i (slice_set sorted i n)) ∙ ap₂ (λ (a b : List T). a ++ b) (take-set sorted i n) (drop-set sorted i n stands.within) in
    ap (members_in name content) parts ∙ before-append name content (take i sorted) (n ∷ drop (i + 1) sorted) no_members
    ∙ ap (λ (k : List ℕ). before_members name content (take i sorted) (member k (content n) (members_in name content (drop (i + 1) sorted)))) (sym is)
    ∙ sym (stands.put_is (content n)) ∙ ap (λ (k : List ℕ). put k (content n) (members_in name content sorted)) is

-- a value that goes in
pub put_goes : {T : Type 0} (name : T → List ℕ) (content : T → Data) (sorted : List T) (key : List ℕ) (i : ℕ) (n : T) → GoesAt name content sorted key i → key ≡ name n → members_in name content (take i sorted ++ n ∷ drop i sorted) ≡ put (name n) (content n) (members_in name content sorted)
put_goes {T} name content sorted key i n goes is =
    before-append name content (take i sorted) (n ∷ drop i sorted) no_members
    ∙ ap (λ (k : List ℕ). before_members name content (take i sorted) (member k (content n) (members_in name content (drop i sorted)))) (sym is)
    ∙ sym (goes.put_is (content n)) ∙ ap (λ (k : List ℕ). put k (content n) (members_in name content sorted)) is
