-- The parameters of a message: those listed by their adornment are those adorned so.
use Rattle.std.proofs.Common.{◌≡◌, ◌⊎◌, ℕ, true, inl, inr, refl, subst, true≢false, sym, Contains}
use Rattle.std.specs.Prelude.{not}
use Rattle.std.specs.List.{filter}
use Rattle.list_base.proofs.Filtered.{filtered_member, kept_member}
use Rattle.bspl_types.specs.declared.expanded.Expanded.{Expanded}
use Rattle.bspl_types.specs.declared.protocol.Adornment.{Adornment}
use Rattle.bspl_types.specs.declared.protocol.Adornment.TheVariants.{In, Out, Nil}
use Rattle.bspl_types.specs.declared.protocol.Carried.{Carried}
use Rattle.bspl_types.specs.Expansion.{Adorns, message_of}
use Rattle.clause_encoding.specs.Carriers.{fresh_parameters, in_parameters, is_in}
use Rattle.first_occurrences.proofs.ListedLemmas.{mapped_from, mapped_member}

-- an entry of the message adorns its parameter
adorns_by : (x : Expanded) (m p : ℕ) (c : Carried) → Contains (message_of x m).carried c → c.param ≡ p → Adorns x m c.adornment p
adorns_by x m p c among is = subst (λ (q : ℕ). Adorns x m c.adornment q) is among

-- an adornment that passes the test is `in`
only_in : (a : Adornment) → is_in a ≡ true → a ≡ In
only_in In passes = refl
only_in Out passes = absurd (true≢false (sym passes))
only_in Nil passes = absurd (true≢false (sym passes))

-- a parameter listed as `in` is adorned `in`
pub adorned_in : (x : Expanded) (m p : ℕ) → Contains (in_parameters (message_of x m)) p → Adorns x m In p
adorned_in x m p listed =
    let (c, among, is) = mapped_from (λ d. d.param) _ p listed in
    let (member, passes) = filtered_member (λ d. is_in d.adornment) (message_of x m).carried c among in
    subst (λ (a : Adornment). Adorns x m a p) (only_in c.adornment passes) (adorns_by x m p c member is)

-- one that does not is `out` or `nil`
not_in : (x : Expanded) (m p : ℕ) (a : Adornment) → not (is_in a) ≡ true → Adorns x m a p → Adorns x m Out p ⊎ Adorns x m Nil p
not_in x m p In fails adorned = absurd (true≢false (sym fails))
not_in x m p Out fails adorned = inl adorned
not_in x m p Nil fails adorned = inr adorned

-- a parameter listed as fresh is adorned `out` or `nil`
pub adorned_fresh : (x : Expanded) (m p : ℕ) → Contains (fresh_parameters (message_of x m)) p → Adorns x m Out p ⊎ Adorns x m Nil p
adorned_fresh x m p listed =
    let (c, among, is) = mapped_from (λ d. d.param) _ p listed in
    let (member, fails) = filtered_member (λ d. not (is_in d.adornment)) (message_of x m).carried c among in
    not_in x m p c.adornment fails (adorns_by x m p c member is)

-- a parameter that the message adorns `in` is listed as `in`
pub listed_in : (x : Expanded) (m p : ℕ) → Adorns x m In p → Contains (in_parameters (message_of x m)) p
listed_in x m p adorned =
    mapped_member (λ d. d.param) (filter (λ d. is_in d.adornment) (message_of x m).carried) (record { param = p; adornment = In })
    (kept_member (λ d. is_in d.adornment) (message_of x m).carried (record { param = p; adornment = In }) refl adorned)

-- and one that it adorns in another way as fresh
pub listed_fresh : (x : Expanded) (m p : ℕ) (a : Adornment) → not (is_in a) ≡ true → Adorns x m a p → Contains (fresh_parameters (message_of x m)) p
listed_fresh x m p a fails adorned =
    mapped_member (λ d. d.param) (filter (λ d. not (is_in d.adornment)) (message_of x m).carried) (record { param = p; adornment = a })
    (kept_member (λ d. not (is_in d.adornment)) (message_of x m).carried (record { param = p; adornment = a }) fails adorned)
