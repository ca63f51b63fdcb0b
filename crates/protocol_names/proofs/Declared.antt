-- The faults of a protocol, by the names that it was found to declare.
use Rattle.std.proofs.Common.{◌≡◌, ℕ, List, Option, subst}
use Rattle.bspl_parser.specs.declared.document.Declaration.{Declaration}
use Rattle.protocol_names.specs.declared.fault.DocumentFault.{DocumentFault}
use Rattle.protocol_names.specs.declared.names.Names.{Names}
use Rattle.protocol_names.specs.Fault.{IsDuplicate, IsFaultIn, IsItemFault, IsNamedTwice, IsUnsupported}
use Rattle.protocol_names.specs.FaultOrder.{EitherFault, FindsFirst, OfSome, earlier}
use Rattle.protocol_names.specs.Names.{key_words, message_words, names_of, param_words, texts}
use Rattle.protocol_names.specs.inner.DeclaredNames.{AreDeclared}
use Rattle.protocol_names.specs.inner.OtherFault.{IsOtherFaultIn}
use Rattle.protocol_names.proofs.FaultOrderLemmas.{finds_two}

-- a name that is given twice
pub twice_found : (p : Declaration) (roles params messages : List (List ℕ)) (role param message two three : Option DocumentFault) → AreDeclared p.roles roles role → AreDeclared (param_words p) params param → AreDeclared (message_words p) messages message → two ≡ earlier param message → three ≡ earlier role two → FindsFirst (IsNamedTwice p) three
twice_found p roles params messages role param message two three of_roles of_params of_messages is_two is_three =
    finds_two (IsDuplicate p.roles) (EitherFault (IsDuplicate (param_words p)) (IsDuplicate (message_words p))) role two three of_roles.duplicate
    (finds_two (IsDuplicate (param_words p)) (IsDuplicate (message_words p)) param message two of_params.duplicate of_messages.duplicate is_two) is_three

-- the names that were found are those of the protocol
pub names_found : (p : Declaration) (names : Names) → names.roles ≡ texts p.roles → names.params ≡ texts (param_words p) → names.keys ≡ texts (key_words p) → names ≡ names_of p
names_found p names of_roles of_params of_keys = λ i. record { roles = of_roles i; params = of_params i; keys = of_keys i }

-- the faults but for duplicates
pub others_found : (protocols : List Declaration) (p : Declaration) (names : Names) (public body two : Option DocumentFault) → names ≡ names_of p → FindsFirst (OfSome IsUnsupported p.public) public → FindsFirst (OfSome (IsItemFault protocols names) p.body) body → two ≡ earlier public body → FindsFirst (IsOtherFaultIn protocols p) two
others_found protocols p names public body two same of_public of_body is_two =
    finds_two (OfSome IsUnsupported p.public) (OfSome (IsItemFault protocols (names_of p)) p.body) public body two of_public (subst (λ (ns : Names). FindsFirst (OfSome (IsItemFault protocols ns) p.body) body) same of_body) is_two

-- all faults together
pub fault_found : (protocols : List Declaration) (p : Declaration) (twice other all : Option DocumentFault) → FindsFirst (IsNamedTwice p) twice → FindsFirst (IsOtherFaultIn protocols p) other → all ≡ earlier twice other → FindsFirst (IsFaultIn protocols p) all
fault_found protocols p twice other all of_names of_others is =
    finds_two (IsNamedTwice p) (IsOtherFaultIn protocols p) twice other all of_names of_others is
