-- The pieces of a protocol that is made of an expansion.
use Rattle.std.proofs.Common.{◌≡◌, ℕ, ◌<◌, List, length, get_or, Some, None, refl, sym, subst}
use Rattle.std.specs.List.{AllZip}
use Rattle.bspl_types.specs.declared.protocol.Carried.{Carried}
use Rattle.bspl_types.specs.declared.protocol.Message.{Message}
use Rattle.bspl_types.specs.declared.protocol.ParamInfo.{ParamInfo}
use Rattle.bspl_types.specs.Shape.{AreNamed}
use Rattle.bspl_parser.specs.declared.document.Adorn.{Adorn}
use Rattle.bspl_parser.specs.declared.document.Formal.{Formal}
use Rattle.bspl_parser.specs.declared.word.Word.{Word}
use Rattle.bspl_parser.specs.Alike.{formal_without_offsets}
use Rattle.protocol_expand.specs.FlatExpansion.{adornment_of, param_index, role_index, IsCarried}
use Rattle.protocol_expand.specs.Canonical.{IsFormalOf, IsSchemaOf, IsWordOf}
use Rattle.list_base.proofs.OwnIndex.{own_index}
use Rattle.list_base.proofs.Zipped.{flipped, mapped_same, seconds}

-- a parameter of a message, with its adornment and its name
pub formal_made : (params : List ParamInfo) (c : Carried) (p : ParamInfo) (b : Adorn) (w : Word) → AreNamed (λ p. p.name) params → c.param < length params → p ≡ get_or params c.param p → adornment_of b ≡ Some c.adornment → IsWordOf p.name w → IsFormalOf params c (record { adorn = b; offset = 0; name = w; key = None })
formal_made params c p b w named within is_item adorned word = record {
  carries = record {
    indexed = subst (λ text. param_index params text ≡ Some c.param) (sym word.named) (own_index (λ (p : ParamInfo). p.name) params c.param p named.distinct within is_item);
    adorned = adorned;
  };
  unkeyed = refl;
  without_offsets = λ i. record { adorn = b; offset = 0; name = word.without_offsets i; key = None };
}

-- a role is found by its word
role_met : (roles : List (List ℕ)) (k : ℕ) (role : List ℕ) (w : Word) → AreNamed (λ name. name) roles → k < length roles → role ≡ get_or roles k role → IsWordOf role w → role_index roles w.text ≡ Some k
role_met roles k role w named within is_item word = subst (λ text. role_index roles text ≡ Some k) (sym word.named) (own_index (λ name. name) roles k role named.distinct within is_item)

-- a message, with the words for its roles, its name and its parameters
pub schema_made : (roles : List (List ℕ)) (params : List ParamInfo) (m : Message) (sender receiver : List ℕ) (from to name : Word) (formals : List Formal) →
    AreNamed (λ name. name) roles → m.sender < length roles → m.receiver < length roles → sender ≡ get_or roles m.sender sender → receiver ≡ get_or roles m.receiver receiver →
    IsWordOf sender from → IsWordOf receiver to → IsWordOf m.name name → AllZip (IsFormalOf params) m.carried formals →
    IsSchemaOf roles params m (record { sender = from; receiver = to; name = name; params = formals })
schema_made roles params m sender receiver from to name formals named within within' is_item is_item' is_from is_to is_name all = record {
  means = record {
    named = sym is_name.named;
    sent = role_met roles m.sender sender from named within is_item is_from;
    received = role_met roles m.receiver receiver to named within' is_item' is_to;
    carries = flipped (IsFormalOf params) (IsCarried params) (λ c f made. made.carries) m.carried formals all;
  };
  unkeyed = seconds (λ (c : Carried). Unit {0}) (IsFormalOf params) (λ (f : Formal). f.key ≡ None) (λ c f any made. made.unkeyed) m.carried formals (λ k e within. tt) all;
  without_offsets = λ i. record {
    sender = is_from.without_offsets i;
    receiver = is_to.without_offsets i;
    name = is_name.without_offsets i;
    params = mapped_same (IsFormalOf params) formal_without_offsets (λ c f made. made.without_offsets) m.carried formals all i;
  };
}
