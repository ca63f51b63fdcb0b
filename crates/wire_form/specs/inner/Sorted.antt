-- Members in the order of their names.
use Rattle.std.specs.Prelude.{◌≡◌, ℕ, ◌+◌, ◌<◌, ◌≤◌, List, [], ◌∷◌, Result, Ok, Err, length, take, drop}
use Rattle.serde_json.specs.Data.{Data, Members, member, no_members, put}

-- these, with their names and what stands under them, and then these members
abbrev pub before_members : {T : Type 0} → (T → List ℕ) → (T → Data) → List T → Members → Members
before_members name content [] members = members
before_members name content (item ∷ rest) members =
    member (name item) (content item) (before_members name content rest members)

-- these as members
abbrev pub members_in : {T : Type 0} → (T → List ℕ) → (T → Data) → List T → Members
members_in name content items = before_members name content items no_members

-- the name stands at the index, so what is put there replaces its member
pub record StandsAt {T : Type 0} (name : T → List ℕ) (content : T → Data) (sorted : List T)
    (key : List ℕ) (i : ℕ) : Type 0 where
  pub within : i < length sorted
  pub put_is : (d : Data) → put key d (members_in name content sorted) ≡
      before_members name content (take i sorted)
      (member key d (members_in name content (drop (i + 1) sorted)))

-- what is put goes in at the index
pub record GoesAt {T : Type 0} (name : T → List ℕ) (content : T → Data) (sorted : List T)
    (key : List ℕ) (i : ℕ) : Type 0 where
  pub within : i ≤ length sorted
  pub put_is : (d : Data) → put key d (members_in name content sorted) ≡
      before_members name content (take i sorted)
      (member key d (members_in name content (drop i sorted)))

-- where the name has its place: there already, or to go in
abbrev pub IsPlace : {T : Type 0} → (T → List ℕ) → (T → Data) → List T → List ℕ → Result ℕ ℕ
    → Type 0
IsPlace name content sorted key (Ok i) = StandsAt name content sorted key i
IsPlace name content sorted key (Err i) = GoesAt name content sorted key i
