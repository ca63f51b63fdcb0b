-- The entries that acts stand for stay, and one more act stands for its event.
use Rattle.std.proofs.Common.{◌≡◌, ℕ, List, [], ◌∷◌, length, get_or, map, Some, inl, inr, refl, ap, subst, arith}
use Rattle.std.specs.List.{Contains, zip}
use Rattle.list_base.proofs.Members.{cons_cases, here, nowhere, there}
use Rattle.bspl_types.specs.declared.event.Instance.{Instance}
use Rattle.bspl_types.specs.declared.expanded.Expanded.{Expanded}
use Rattle.bspl_types.specs.declared.protocol.Carried.{Carried}
use Rattle.bspl_types.specs.declared.value.Value.{Value}
use Rattle.bspl_types.specs.Adornment.{valued}
use Rattle.bspl_types.specs.Expansion.{message_of}
use Rattle.bspl_types.specs.History.{instance_of}
use Rattle.bspl_types.specs.Instance.{pairs}
use Rattle.stamped_history.specs.Entries.{events_of}
use Rattle.local_store.specs.declared.act.Act.{Act}
use Rattle.local_store.specs.declared.act.Kind.{Kind}
use Rattle.local_store.specs.declared.act.Kind.TheVariants.{Emitted, Received}
use Rattle.local_store.specs.inner.Acts.{Rows, entries_in, entry_in, event_as, instance_in, value_in}

-- two functions that agree on the items give one list
pub map_same : {A B : Type 0} (f g : A → B) (xs : List A) → ((x : A) → Contains xs x → f x ≡ g x) → map f xs ≡ map g xs
map_same f g [] same = refl
map_same f g (x ∷ xs) same = λ i. same x (here x xs) i ∷ map_same f g xs (λ y among. same y (there x xs y among)) i

-- a mapped item is in the mapped list
pub mapped : {A B : Type 0} (f : A → B) (xs : List A) (x : A) → Contains xs x → Contains (map f xs) (f x)
mapped f [] x among = absurd (nowhere x among)
mapped f (y ∷ xs) x among = elim (cons_cases y xs x among) [
  | inl is ↦ subst (λ z. Contains (f y ∷ map f xs) (f z)) is (here (f y) (map f xs))
  | inr later ↦ there (f y) (map f xs) (f x) (mapped f xs x later)
]

-- each item is paired with its own value
pub own_pair : (g : Carried → Value) (cs : List Carried) (c : Carried) → Contains cs c → Contains (zip cs (map g cs)) (c, g c)
own_pair g [] c among = absurd (nowhere c among)
own_pair g (d ∷ cs) c among = elim (cons_cases d cs c among) [
  | inl is ↦ subst (λ e. Contains (zip (d ∷ cs) (map g (d ∷ cs))) (e, g e)) is (here (d, g d) (zip cs (map g cs)))
  | inr later ↦ there (d, g d) (zip cs (map g cs)) (c, g c) (own_pair g cs c later)
]

-- values that are read back one by one
pub read_back : (g : Carried → Value) (cs : List Carried) (vs : List Value) → length vs ≡ length cs → ((c : Carried) (v : Value) → Contains (zip cs vs) (c, v) → g c ≡ v) → map g cs ≡ vs
read_back g [] [] same each = refl
read_back g [] (v ∷ vs) same each = absurd (omega (arith, same))
read_back g (c ∷ cs) [] same each = absurd (omega (arith, same))
read_back g (c ∷ cs) (v ∷ vs) same each =
    let fewer : length vs ≡ length cs = omega (arith, same) in
    λ i. each c v (here (c, v) (zip cs vs)) i ∷ read_back g cs vs fewer (λ d w among. each d w (there (c, v) (zip cs vs) (d, w) among)) i

-- the instance of an event
pub instance_as : (kind : Kind) (i : Instance) → instance_of (event_as kind i) ≡ i
instance_as Emitted i = refl
instance_as Received i = refl

-- what an act stands for stays
entry_stays : (x : Expanded) (old new : Rows) (a : Act) → get_or new.keys a.row [] ≡ get_or old.keys a.row [] → ((c : Carried) → Contains (valued (message_of x a.message).carried) c → new.cell a.row c.param ≡ old.cell a.row c.param) → entry_in x new a ≡ entry_in x old a
entry_stays x old new a key cells =
    let values = map_same (λ c. value_in (new.cell a.row c.param)) (λ c. value_in (old.cell a.row c.param)) (valued (message_of x a.message).carried) (λ c among. ap value_in (cells c among)) in
    λ i. record { event = event_as a.kind (record { message = a.message; key = key i; values = values i }); stamp = a.stamp; number = a.number }

pub entries_stay : (x : Expanded) (old new : Rows) (acts : List Act) → ((a : Act) → Contains acts a → get_or new.keys a.row [] ≡ get_or old.keys a.row []) → ((a : Act) (c : Carried) → Contains acts a → Contains (valued (message_of x a.message).carried) c → new.cell a.row c.param ≡ old.cell a.row c.param) → entries_in x new acts ≡ entries_in x old acts
entries_stay x old new acts keys cells = map_same (entry_in x new) (entry_in x old) acts (λ a among. entry_stays x old new a (keys a among) (λ c carried. cells a c among carried))

-- the event of an act is in the history, with each value of its row
pub event_among : (x : Expanded) (rows : Rows) (acts : List Act) (a : Act) → Contains acts a → Contains (events_of (entries_in x rows acts)) (event_as a.kind (instance_in x rows a))
event_among x rows acts a among = mapped (λ e. e.event) (entries_in x rows acts) (entry_in x rows a) (mapped (entry_in x rows) acts a among)

-- an act stands for the event of an instance whose values are in the row
pub entry_is : (x : Expanded) (rows : Rows) (kind : Kind) (i : Instance) (row stamp number : ℕ) → get_or rows.keys row [] ≡ i.key → length i.values ≡ length (valued (message_of x i.message).carried) → ((c : Carried) (v : Value) → Contains (pairs x i) (c, v) → rows.cell row c.param ≡ Some v) → entry_in x rows (record { kind = kind; message = i.message; row = row; stamp = stamp; number = number }) ≡ record { event = event_as kind i; stamp = stamp; number = number }
entry_is x rows kind i row stamp number key each has =
    let values = read_back (λ c. value_in (rows.cell row c.param)) (valued (message_of x i.message).carried) i.values each (λ c v among. ap value_in (has c v among)) in
    λ j. record { event = event_as kind (record { message = i.message; key = key j; values = values j }); stamp = stamp; number = number }
