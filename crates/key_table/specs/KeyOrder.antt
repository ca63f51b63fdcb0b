-- The order of values and of keys, and that it is total.
use Rattle.std.proofs.Common.{◌≡◌, List, refl}
use Rattle.std.specs.Cmp.{IsTotalOrder}
use Rattle.std.specs.Cmp.Lexicographic.{slice_cmp}
use Rattle.std.specs.Prelude.{◌↔◌, IsTrue}
use Rattle.std.specs.Ordering.{is_eq, nat_cmp, ordering_reverse}
use Rattle.std.specs.declared.cmp.Ordering.{Ordering}
use Rattle.std.specs.declared.cmp.Ordering.TheVariants.{Less, Equal, Greater}
use Rattle.std.proofs.lemmas.Cmp.{lists_total, nat_cmp_total, nat_list_cmp_total}
use Rattle.bspl_types.specs.declared.value.Value.{Value}
use Rattle.bspl_types.specs.declared.value.Value.TheVariants.{Number, Text}

-- numbers come before texts; numbers go by size, and texts by their bytes
abbrev pub value_cmp : Value → Value → Ordering
value_cmp (Number a) (Number b) = nat_cmp a b
value_cmp (Number a) (Text b) = Less
value_cmp (Text a) (Number b) = Greater
value_cmp (Text a) (Text b) = slice_cmp nat_cmp a b

-- keys go by the first values that differ, and else by how many there are
abbrev pub key_cmp : List Value → List Value → Ordering
key_cmp key other = slice_cmp value_cmp key other

-- keys that are equal by their order are one key
abbrev pub TiedKeysAreOne : Type 0
TiedKeysAreOne = (k l : List Value) → IsTrue (is_eq (key_cmp k l)) ↔ (k ≡ l)

value_turned : (v w : Value) → value_cmp v w ≡ ordering_reverse (value_cmp w v)
value_turned (Number a) (Number b) = nat_cmp_total.antisymm a b
value_turned (Number a) (Text b) = refl
value_turned (Text a) (Number b) = refl
value_turned (Text a) (Text b) = nat_list_cmp_total.antisymm a b

value_trans : (u v w : Value) → value_cmp u v ≡ Less → value_cmp v w ≡ Less
    → value_cmp u w ≡ Less
value_trans (Number a) (Number b) (Number c) p q = nat_cmp_total.trans a b c p q
value_trans (Number a) (Number b) (Text c) p q = refl
value_trans (Number a) (Text b) (Number c) p q = absurd (cc)
value_trans (Number a) (Text b) (Text c) p q = refl
value_trans (Text a) (Number b) w p q = absurd (cc)
value_trans (Text a) (Text b) (Number c) p q = absurd (cc)
value_trans (Text a) (Text b) (Text c) p q = nat_list_cmp_total.trans a b c p q

value_congr : (u v w : Value) → value_cmp u v ≡ Equal → value_cmp u w ≡ value_cmp v w
value_congr (Number a) (Number b) (Number c) p = nat_cmp_total.congr a b c p
value_congr (Number a) (Number b) (Text c) p = refl
value_congr (Number a) (Text b) w p = absurd (cc)
value_congr (Text a) (Number b) w p = absurd (cc)
value_congr (Text a) (Text b) (Number c) p = refl
value_congr (Text a) (Text b) (Text c) p = nat_list_cmp_total.congr a b c p

pub value_cmp_total : IsTotalOrder value_cmp
value_cmp_total = record { antisymm = value_turned; trans = value_trans; congr = value_congr }

pub key_cmp_total : IsTotalOrder key_cmp
key_cmp_total = lists_total value_cmp_total
