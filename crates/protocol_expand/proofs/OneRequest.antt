-- The protocol of a name is one, and so is what is found of it.
use Rattle.std.proofs.Common.{◌≡◌, ℕ, List, None, Some, sym, ◌∙◌, ap, subst, inl, inr}
use Rattle.std.specs.Prelude.{slice_get}
use Rattle.bspl_types.specs.declared.refusals.What.{What}
use Rattle.bspl_parser.specs.declared.document.Declaration.{Declaration}
use Rattle.bspl_parser.specs.declared.document.Document.{Document}
use Rattle.reference_graph.specs.Cycle.{IsFirstCycle}
use Rattle.reference_graph.specs.Laws.{CyclesAreOne}
use Rattle.protocol_limits.specs.Graph.{graph_of}
use Rattle.protocol_limits.specs.Limits.{IsFirstOver}
use Rattle.protocol_limits.specs.Survey.{IsUnrolled}
use Rattle.protocol_paths.specs.Flat.{IsFlat}
use Rattle.bspl_parser.specs.Alike.{WordsAreEqual}
use Rattle.protocol_expand.specs.Request.{IsDeclaredAs, IsFlattening}
use Rattle.protocol_expand.specs.Refusals.{HasCycle, HasEqualNames, ExceedsLimit, NamesNoProtocol}
use Rattle.protocol_expand.proofs.Requested.{IsFlatRequest, declared}
use Rattle.protocol_expand.specs.Repeats.{RepeatsName}
use Rattle.protocol_expand.proofs.OneFirst.{one_over, one_repeated, none_repeated}
use Rattle.protocol_expand.proofs.OneFlat.{one_flat}

-- it has one number
one_number : (d : Document) (name : List ℕ) (number other : ℕ) (top q : Declaration) → IsDeclaredAs d name number top → IsDeclaredAs d name other q → number ≡ other
one_number d name number other top q one two = let same : Some number ≡ Some other = sym one.found ∙ two.found in cc

-- and one protocol stands there
one_top : (d : Document) (name : List ℕ) (number other : ℕ) (top q : Declaration) → IsDeclaredAs d name number top → IsDeclaredAs d name other q → top ≡ q
one_top d name number other top q one two =
    let same : Some top ≡ Some q = sym one.stands ∙ ap (slice_get d.protocols) (one_number d name number other top q one two) ∙ two.stands in cc

-- the protocol of messages alone is one
pub one_flat_for : WordsAreEqual → (d : Document) (name : List ℕ) (one other : Declaration) → IsFlattening d name one → IsFlattening d name other → one ≡ other
one_flat_for words d name one other is_one is_other =
    one_flat words d.protocols is_other.top one other (subst (λ (p : Declaration). IsFlat d.protocols p one) (one_top d name is_one.number is_other.number is_one.top is_other.top is_one.declared is_other.declared) is_one.flattened) is_other.flattened

-- the first cycle ends at one name
pub one_cycle : CyclesAreOne → (d : Document) (name again other : List ℕ) → HasCycle d name again → HasCycle d name other → again ≡ other
one_cycle cycles d name again other one two =
    let number = one_number d name one.number two.number one.top two.top one.declared two.declared in
    let node = cycles (graph_of d.protocols) two.number one.node two.node (subst (λ n. IsFirstCycle (graph_of d.protocols) n one.node) number one.cycle) two.cycle in
    let same : Some one.protocol ≡ Some two.protocol = sym one.stands ∙ ap (slice_get d.protocols) node ∙ two.stands in
    let protocol : one.protocol ≡ two.protocol = cc in
    sym one.named ∙ ap (λ (p : Declaration). p.name.text) protocol ∙ two.named

-- one count is over its limit
pub one_count : (d : Document) (name : List ℕ) (what what' : What) (count count' : ℕ) → ExceedsLimit d name what count → ExceedsLimit d name what' count' → (what ≡ what') × (count ≡ count')
one_count d name what what' count count' one two =
    let number = one_number d name one.number two.number one.top two.top one.declared two.declared in
    one_over d.protocols two.number what what' count count' (subst (λ n. IsFirstOver d.protocols n what count) number one.too_large.over) two.too_large.over

-- one offset is that of a repeated name
repeats_once : (flat : Declaration) (offset other : ℕ) → RepeatsName flat offset → RepeatsName flat other → offset ≡ other
repeats_once flat offset other (inl one) (inl two) = one_repeated _ offset other one two
repeats_once flat offset other (inl one) (inr two) = absurd (none_repeated _ offset two.messages one)
repeats_once flat offset other (inr one) (inl two) = absurd (none_repeated _ other one.messages two)
repeats_once flat offset other (inr one) (inr two) = one_repeated _ offset other one.param two.param

-- and one of a repeated name of the protocol of messages alone
pub one_equal : WordsAreEqual → (d : Document) (name : List ℕ) (offset other : ℕ) → HasEqualNames d name offset → HasEqualNames d name other → offset ≡ other
one_equal words d name offset other one two =
    repeats_once two.flat offset other (subst (λ (p : Declaration). RepeatsName p offset) (one_flat_for words d name one.flat two.flat one.flattens two.flattens) one.repeats) two.repeats

-- the protocol of the name is there
pub not_missing : (d : Document) (name : List ℕ) (number : ℕ) (top : Declaration) → NamesNoProtocol d name → IsDeclaredAs d name number top → ⊥
not_missing d name number top missing asked = let never : None ≡ Some number = sym missing.none ∙ asked.found in cc

-- there is no first cycle where no path is a cycle
pub not_cyclic : (d : Document) (name met : List ℕ) (number : ℕ) (top : Declaration) → HasCycle d name met → IsDeclaredAs d name number top → IsUnrolled d.protocols number → ⊥
not_cyclic d name met number top has is unrolled =
    let same = one_number d name has.number number has.top top has.declared is in
    let first : IsFirstCycle (graph_of d.protocols) number has.node = subst (λ n. IsFirstCycle (graph_of d.protocols) n has.node) same has.cycle in
    unrolled first.path first.is_path first.cycle

-- and no count is over its limit where all are within
pub not_over : (d : Document) (name : List ℕ) (what : What) (count : ℕ) (flat : Declaration) → ExceedsLimit d name what count → IsFlatRequest d name flat → ⊥
not_over d name what count flat over is =
    let number = one_number d name over.number is.number over.top is.top over.declared (declared d name is.number is.top is.requested) in
    let first : IsFirstOver d.protocols is.number what count = subst (λ n. IsFirstOver d.protocols n what count) number over.too_large.over in
    let never : None ≡ Some first.over = sym is.within ∙ first.first in cc
