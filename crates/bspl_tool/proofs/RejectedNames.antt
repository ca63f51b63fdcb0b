-- The names in a rejection are names.
use Rattle.std.proofs.Common.{◌≡◌, ◌≢◌, ℕ, Bool, true, false, List, codes, Option, Some, slice_get, refl, sym, ◌∙◌, subst}
use Rattle.std.specs.Prelude.{IfSome, IsTrue, ⊤}
use Rattle.std.specs.List.{All}
use Rattle.std.proofs.lemmas.List.Elements.{All-get_or}
use Rattle.std.proofs.lemmas.Option.{get_or_from_slice_get, slice_get_within}
use Rattle.command_line.specs.Command.{takes_size}
use Rattle.command_line.specs.Line.{IsSubject}
use Rattle.command_line.specs.declared.line.Subject.{Subject}
use Rattle.command_line.specs.declared.line.Subject.TheVariants.{Protocol, Size}
use Rattle.protocol_expand.specs.NotAdmitted.{IsMessageRefusal, IsNameOfParam, IsNotAdmitted, RefusesBody}
use Rattle.bspl_parser.specs.declared.document.Document.{Document}
use Rattle.bspl_parser.specs.Judgement.{IsRefusedFor}
use Rattle.bspl_types.specs.Name.{is_name}
use Rattle.bspl_types.specs.declared.expanded.Expanded.{Expanded}
use Rattle.bspl_types.specs.declared.protocol.Message.{Message}
use Rattle.bspl_types.specs.declared.refusals.Refusal.{Refusal}
use Rattle.bspl_types.specs.declared.refusals.Refusal.TheVariants.{Byte, Syntax, NoProtocol, Duplicate, Unknown, Arity, BadAdornment, Recursion, Limit, NoKey, NotWholeKey, ForeignKey, SelfMessage, RepeatedParam, NoMemory}
use Rattle.protocol_expand.specs.Refusals.{IsNotExpanded}
use Rattle.bspl_tool.specs.declared.task.Task.{Task}
use Rattle.tool_input.specs.declared.rejection.Field.{Field}
use Rattle.tool_input.specs.declared.rejection.Field.TheVariants.{Name}
use Rattle.tool_input.specs.declared.rejection.Rejection.{Rejection}
use Rattle.tool_input.specs.Rejection.{text_rejection}
use Rattle.bspl_tool.specs.Request.{NamesSubject, Requests}
use Rattle.tool_input.specs.TextRefusal.{RefusesText, too_long, misspelled, not_expanded, not_admitted}

-- the name of what is generated is a name
stage_is_name : IsTrue (is_name (codes "Stage"))
unfolding is_name
stage_is_name = refl

-- the name that the arguments have is a name
subject_is_name : (size : Bool) (word : List ℕ) (subject : Subject) (name : List ℕ) → IsSubject size word subject → NamesSubject subject name → IsTrue (is_name name)
subject_is_name true word (Protocol said) name is about = absurd is
subject_is_name true word (Size n) name is about = subst (λ text. IsTrue (is_name text)) about stage_is_name
subject_is_name false word (Protocol said) name is about = subst (λ text. IsTrue (is_name text)) (sym is.0 ∙ about) is.1
subject_is_name false word (Size n) name is about = absurd is

-- so is that of a task
pub requested_is_name : (args : List (List ℕ)) (task : Task) (name : List ℕ) → Requests args task name → IsTrue (is_name name)
requested_is_name args task name requested = subject_is_name (takes_size requested.line.command) requested.is_line.line_of.word requested.line.subject name requested.is_line.line_of.subject requested.about

-- a refusal with a line, in which the names are names
abbrev pub IsNaming : Refusal → Type 0
IsNaming (NoProtocol name) = IsTrue (is_name name)
IsNaming (Recursion name) = IsTrue (is_name name)
IsNaming (NotWholeKey message param) = IsTrue (is_name message) × IsTrue (is_name param)
IsNaming (SelfMessage message) = IsTrue (is_name message)
IsNaming (RepeatedParam message param) = IsTrue (is_name message) × IsTrue (is_name param)
IsNaming NoMemory = ⊥
IsNaming r = ⊤

-- a text that spells no document
spelling_names : (bytes : List ℕ) (r : Refusal) → r ≢ NoMemory → IsRefusedFor bytes r → IsNaming r
spelling_names bytes (Byte offset) given refused = tt
spelling_names bytes (Syntax offset) given refused = tt
spelling_names bytes NoMemory given refused = given refl
spelling_names bytes r given refused = absurd refused

-- a document in which the protocol of the name has no expansion
expansion_names : (d : Document) (name : List ℕ) (r : Refusal) → IsTrue (is_name name) → r ≢ NoMemory → IsNotExpanded d name r → IsNaming r
expansion_names d name (Duplicate offset) named given refused = tt
expansion_names d name (Unknown offset) named given refused = tt
expansion_names d name (Arity offset) named given refused = tt
expansion_names d name (BadAdornment offset) named given refused = tt
expansion_names d name (ForeignKey offset) named given refused = tt
expansion_names d name (NoProtocol missing) named given refused = subst (λ text. IsTrue (is_name text)) (sym refused.0) named
expansion_names d name (Recursion again) named given refused = subst (λ text. IsTrue (is_name text)) refused.named refused.protocol.name.named
expansion_names d name (Limit counted count) named given refused = tt
expansion_names d name NoMemory named given refused = given refl
expansion_names d name r named given refused = absurd refused

-- what holds of each holds of that one
all_at : {X : Type 0} (P : X → Type 0) (xs : List X) (k : ℕ) (x : X) → All P xs → slice_get xs k ≡ Some x → P x
all_at P xs k x all there = subst P (get_or_from_slice_get xs k x x there) (All-get_or P xs k x (slice_get_within xs k x there) all)

-- the names of an expansion
param_is_name : (x : Expanded) (p : ℕ) (name : List ℕ) → IsNameOfParam x.params p name → IsTrue (is_name name)
param_is_name x p name param = subst (λ text. IsTrue (is_name text)) param.same (all_at (λ q. IsTrue (is_name q.name)) x.params p param.info x.shape.param_names.named param.there)

-- a message that is not admitted
message_names : (x : Expanded) (m : Message) (r : Refusal) → IsTrue (is_name m.name) → r ≢ NoMemory → IsMessageRefusal x.keys x.params m r → IsNaming r
message_names x m (SelfMessage message) named given refused = subst (λ text. IsTrue (is_name text)) (sym refused.0) named
message_names x m (RepeatedParam message param) named given refused =
    (subst (λ text. IsTrue (is_name text)) (sym refused.0) named, param_is_name x refused.1.p param refused.1.named)
message_names x m (NotWholeKey message param) named given refused =
    (subst (λ text. IsTrue (is_name text)) (sym refused.0) named, param_is_name x refused.1.p param refused.1.named)
message_names x m NoMemory named given refused = given refl
message_names x m r named given refused = absurd refused

-- the first such message
body_names : (x : Expanded) (r : Refusal) → r ≢ NoMemory → RefusesBody x r → IsNaming r
body_names x r given body =
    let first = body.message in
    message_names x first.message r (all_at (λ m. IsTrue (is_name m.name)) x.messages first.index first.message x.shape.message_names.named first.there) given first.refused

-- an expansion that is not admitted
admission_names : (x : Expanded) (r : Refusal) → r ≢ NoMemory → IsNotAdmitted x r → IsNaming r
admission_names x NoKey given refused = tt
admission_names x NoMemory given refused = given refl
admission_names x r given refused = body_names x r given refused

-- so is each refusal of a protocol text
text_names : (name input : List ℕ) (r : Refusal) → IsTrue (is_name name) → RefusesText name input r → IsNaming r
text_names name input _ named (too_long long) = tt
text_names name input _ named (misspelled r given short refused) = spelling_names input r given refused
text_names name input _ named (not_expanded d r given spelled refused) = expansion_names d name r named given refused
text_names name input _ named (not_admitted d x r given spelled expands refused) = admission_names x r given refused

-- a field that is a name, if it is to be one
abbrev pub IsNamedField : Option Field → Type 0
IsNamedField (Some (Name name)) = IsTrue (is_name name)
IsNamedField field = ⊤

-- the names in a rejection are names
pub record HasNames (r : Rejection) : Type 0 where
  pub first : IsNamedField r.first
  pub second : IsNamedField r.second

-- so they are in the rejection of a refusal
names_of : (q : Refusal) → IsNaming q → IfSome (text_rejection q) HasNames
names_of (Byte offset) names = record { first = tt; second = tt }
names_of (Syntax offset) names = record { first = tt; second = tt }
names_of (NoProtocol name) names = record { first = names; second = tt }
names_of (Duplicate offset) names = record { first = tt; second = tt }
names_of (Unknown offset) names = record { first = tt; second = tt }
names_of (Arity offset) names = record { first = tt; second = tt }
names_of (BadAdornment offset) names = record { first = tt; second = tt }
names_of (Recursion name) names = record { first = names; second = tt }
names_of (Limit counted count) names = record { first = tt; second = tt }
names_of NoKey names = record { first = tt; second = tt }
names_of (NotWholeKey message param) names = record { first = names.0; second = names.1 }
names_of (ForeignKey offset) names = record { first = tt; second = tt }
names_of (SelfMessage message) names = record { first = names; second = tt }
names_of (RepeatedParam message param) names = record { first = names.0; second = names.1 }
names_of NoMemory names = absurd names

-- and in that of a protocol text
pub text_rejection_names : (name input : List ℕ) (q : Refusal) (r : Rejection) → IsTrue (is_name name) → RefusesText name input q → text_rejection q ≡ Some r → HasNames r
text_rejection_names name input q r named refused is = subst (λ o. IfSome o HasNames) is (names_of q (text_names name input q named refused))
