-- A protocol text declares one protocol for a name, or is refused for one thing.
use Rattle.std.proofs.Common.{◌≡◌, ◌≢◌, ℕ, List, [], refl, ap, subst, arith}
use Rattle.bspl_types.specs.declared.expanded.Expanded.{Expanded}
use Rattle.bspl_types.specs.declared.refusals.Refusal.{Refusal}
use Rattle.bspl_types.specs.declared.refusals.Refusal.TheVariants.{Byte, Syntax, NoMemory}
use Rattle.bspl_types.specs.Admission.{IsAdmitted}
use Rattle.protocol_expand.specs.NotAdmitted.{IsNotAdmitted}
use Rattle.bspl_parser.specs.declared.document.Document.{Document}
use Rattle.bspl_parser.specs.Judgement.{AreExclusive, IsBadSyntax, IsRefusedFor, IsText}
use Rattle.bspl_parser.specs.Tokens.{IsBadByte}
use Rattle.protocol_expand.specs.Expansion.{Expands, IsExpansion}
use Rattle.protocol_expand.specs.Refusals.{IsNotExpanded}
use Rattle.tool_input.specs.Input.{Declares, IsSpelled}
use Rattle.tool_input.specs.TextRefusal.{RefusesText}

-- the parser, the expansion and the admission have one answer each
pub record OneReading : Type 0 where
  pub documents : (text : List ℕ) (d e : Document) → IsText text d → IsText text e → d ≡ e
  pub bytes : (text : List ℕ) (a b : ℕ) → IsBadByte text a → IsBadByte text b → a ≡ b
  pub tokens : (text : List ℕ) (a b : ℕ) → IsBadSyntax text a → IsBadSyntax text b → a ≡ b
  pub parsed : (text : List ℕ) (a b : ℕ) (d : Document) → AreExclusive (IsText text d) (IsBadByte text a) (IsBadSyntax text b)
  pub expansions : (d : Document) (name : List ℕ) (x y : Expanded) → IsExpansion d name x → IsExpansion d name y → x ≡ y
  pub unexpanded : (d : Document) (name : List ℕ) (r s : Refusal) → r ≢ NoMemory → s ≢ NoMemory → IsNotExpanded d name r → IsNotExpanded d name s → r ≡ s
  pub expanded : (d : Document) (name : List ℕ) (x : Expanded) (r : Refusal) → r ≢ NoMemory → Expands d name x → ¬ IsNotExpanded d name r
  pub unadmitted : (x : Expanded) (r s : Refusal) → r ≢ NoMemory → s ≢ NoMemory → IsNotAdmitted x r → IsNotAdmitted x s → r ≡ s
  pub admitted : (x : Expanded) (r : Refusal) → r ≢ NoMemory → IsAdmitted x → ¬ IsNotAdmitted x r

-- no byte and no token are bad at once
byte_or_token : OneReading → (text : List ℕ) (a b : ℕ) → IsBadByte text a → IsBadSyntax text b → ⊥
byte_or_token law text a b byte token = (law.parsed text a b (record { protocols = [] })).third byte token

-- a text that spells no document is refused for one thing
misspelled_once : OneReading → (text : List ℕ) (r s : Refusal) → r ≢ NoMemory → s ≢ NoMemory → IsRefusedFor text r → IsRefusedFor text s → r ≡ s
misspelled_once law text (Byte a) (Byte b) not_r not_s one other = ap Byte (law.bytes text a b one other)
misspelled_once law text (Byte a) (Syntax b) not_r not_s one other = absurd (byte_or_token law text a b one other)
misspelled_once law text (Byte a) NoMemory not_r not_s one other = absurd (not_s refl)
misspelled_once law text (Byte a) s not_r not_s one other = absurd other
misspelled_once law text (Syntax a) (Byte b) not_r not_s one other = absurd (byte_or_token law text b a other one)
misspelled_once law text (Syntax a) (Syntax b) not_r not_s one other = ap Syntax (law.tokens text a b one other)
misspelled_once law text (Syntax a) NoMemory not_r not_s one other = absurd (not_s refl)
misspelled_once law text (Syntax a) s not_r not_s one other = absurd other
misspelled_once law text NoMemory s not_r not_s one other = absurd (not_r refl)
misspelled_once law text r s not_r not_s one other = absurd one

-- and one that spells a document is not refused
spelled_or_misspelled : OneReading → (text : List ℕ) (d : Document) (r : Refusal) → r ≢ NoMemory → IsSpelled text d → IsRefusedFor text r → ⊥
spelled_or_misspelled law text d (Byte a) not_memory spells refused = (law.parsed text a a d).first spells.spelled refused
spelled_or_misspelled law text d (Syntax a) not_memory spells refused = (law.parsed text a a d).second spells.spelled refused
spelled_or_misspelled law text d NoMemory not_memory spells refused = not_memory refl
spelled_or_misspelled law text d r not_memory spells refused = refused

-- an expansion in one document that the text spells is one in the other
same_expansion : OneReading → (text name : List ℕ) (d e : Document) (x : Expanded) → IsSpelled text d → IsSpelled text e → IsExpansion e name x → IsExpansion d name x
same_expansion law text name d e x spells spells_too = subst (λ f. IsExpansion f name x) (law.documents text e d spells_too.spelled spells.spelled)

-- so is a refusal of the document
same_unexpanded : OneReading → (text name : List ℕ) (d e : Document) (r : Refusal) → IsSpelled text d → IsSpelled text e → IsNotExpanded e name r → IsNotExpanded d name r
same_unexpanded law text name d e r spells spells_too = subst (λ f. IsNotExpanded f name r) (law.documents text e d spells_too.spelled spells.spelled)

-- the text has one expansion for a name
expanded_once : OneReading → (text name : List ℕ) (d e : Document) (x y : Expanded) → IsSpelled text d → IsSpelled text e → IsExpansion d name x → IsExpansion e name y → x ≡ y
expanded_once law text name d e x y spells spells_too one other =
    law.expansions d name x y one (same_expansion law text name d e y spells spells_too other)

-- or none
expanded_or_not : OneReading → (text name : List ℕ) (d e : Document) (x : Expanded) (r : Refusal) → r ≢ NoMemory → IsSpelled text d → IsSpelled text e → Expands d name x → IsNotExpanded e name r → ⊥
expanded_or_not law text name d e x r not_memory spells spells_too expands refused =
    law.expanded d name x r not_memory expands (same_unexpanded law text name d e r spells spells_too refused)

-- a text is refused for one thing
pub one_refusal : OneReading → (name text : List ℕ) {r s : Refusal} → RefusesText name text r → RefusesText name text s → r ≡ s
one_refusal law name text (RefusesText.too_long long) (RefusesText.too_long again) = refl
one_refusal law name text (RefusesText.too_long long) (RefusesText.misspelled s not_memory short other) = absurd (omega arith)
one_refusal law name text (RefusesText.too_long long) (RefusesText.not_expanded e s not_memory spells other) = absurd (omega arith)
one_refusal law name text (RefusesText.too_long long) (RefusesText.not_admitted e y s not_memory spells expands other) = absurd (omega arith)
one_refusal law name text (RefusesText.misspelled r not_memory short one) (RefusesText.too_long long) = absurd (omega arith)
one_refusal law name text (RefusesText.misspelled r not_memory short one) (RefusesText.misspelled s not_memory_too short_too other) = misspelled_once law text r s not_memory not_memory_too one other
one_refusal law name text (RefusesText.misspelled r not_memory short one) (RefusesText.not_expanded e s not_memory_too spells other) = absurd (spelled_or_misspelled law text e r not_memory spells one)
one_refusal law name text (RefusesText.misspelled r not_memory short one) (RefusesText.not_admitted e y s not_memory_too spells expands other) = absurd (spelled_or_misspelled law text e r not_memory spells one)
one_refusal law name text (RefusesText.not_expanded d r not_memory spells one) (RefusesText.too_long long) = absurd (omega arith)
one_refusal law name text (RefusesText.not_expanded d r not_memory spells one) (RefusesText.misspelled s not_memory_too short other) = absurd (spelled_or_misspelled law text d s not_memory_too spells other)
one_refusal law name text (RefusesText.not_expanded d r not_memory spells one) (RefusesText.not_expanded e s not_memory_too spells_too other) =
    law.unexpanded d name r s not_memory not_memory_too one (same_unexpanded law text name d e s spells spells_too other)
one_refusal law name text (RefusesText.not_expanded d r not_memory spells one) (RefusesText.not_admitted e y s not_memory_too spells_too expands other) =
    absurd (expanded_or_not law text name e d y r not_memory spells_too spells expands one)
one_refusal law name text (RefusesText.not_admitted d x r not_memory spells expands one) (RefusesText.too_long long) = absurd (omega arith)
one_refusal law name text (RefusesText.not_admitted d x r not_memory spells expands one) (RefusesText.misspelled s not_memory_too short other) = absurd (spelled_or_misspelled law text d s not_memory_too spells other)
one_refusal law name text (RefusesText.not_admitted d x r not_memory spells expands one) (RefusesText.not_expanded e s not_memory_too spells_too other) =
    absurd (expanded_or_not law text name d e x s not_memory_too spells spells_too expands other)
one_refusal law name text (RefusesText.not_admitted d x r not_memory spells expands one) (RefusesText.not_admitted e y s not_memory_too spells_too expands_too other) =
    law.unadmitted x r s not_memory not_memory_too one (subst (λ z. IsNotAdmitted z s) (expanded_once law text name e d y x spells_too spells expands_too.expansion expands.expansion) other)

-- nor is one in which the protocol of the name is admitted
not_refused : OneReading → (name text : List ℕ) (d : Document) (x : Expanded) {r : Refusal} → IsSpelled text d → Expands d name x → IsAdmitted x → RefusesText name text r → ⊥
not_refused law name text d x spells expands admitted (RefusesText.too_long long) = omega arith
not_refused law name text d x spells expands admitted (RefusesText.misspelled r not_memory short refused) = spelled_or_misspelled law text d r not_memory spells refused
not_refused law name text d x spells expands admitted (RefusesText.not_expanded e r not_memory spells_too refused) = expanded_or_not law text name d e x r not_memory spells spells_too expands refused
not_refused law name text d x spells expands admitted (RefusesText.not_admitted e y r not_memory spells_too expands_too refused) =
    law.admitted x r not_memory admitted (subst (λ z. IsNotAdmitted z r) (expanded_once law text name e d y x spells_too spells expands_too.expansion expands.expansion) refused)

-- a text that declares a protocol is not refused
pub declared_or_refused : OneReading → (name text : List ℕ) (x : Expanded) {r : Refusal} → Declares name text x → RefusesText name text r → ⊥
declared_or_refused law name text x declares refused =
    not_refused law name text declares.document x declares.read (record { faultless = declares.faultless; within = declares.within; expansion = declares.expands }) declares.admitted refused

-- and it declares one
pub declared_once : OneReading → (name text : List ℕ) (x y : Expanded) → Declares name text x → Declares name text y → x ≡ y
declared_once law name text x y one other =
    expanded_once law text name one.document other.document x y one.read other.read one.expands other.expands
