-- A name has one answer: an expansion, or one reason why it has none.
use Rattle.std.proofs.Common.{◌≡◌, ◌≢◌, ℕ, List, Ok, Err, refl, ap, inl, inr}
use Rattle.bspl_types.specs.declared.expanded.Expanded.{Expanded}
use Rattle.bspl_types.specs.declared.refusals.Refusal.{Refusal}
use Rattle.bspl_types.specs.declared.refusals.Refusal.TheVariants.{NoProtocol, Duplicate, Unknown, Arity, BadAdornment, Recursion, Limit, ForeignKey, NoMemory}
use Rattle.bspl_parser.specs.declared.document.Document.{Document}
use Rattle.protocol_names.specs.declared.fault.FaultKind.{FaultKind}
use Rattle.protocol_names.specs.declared.fault.FaultKind.TheVariants as kind
use Rattle.protocol_expand.specs.Expansion.{Expands}
use Rattle.protocol_expand.specs.Refusals.{IsFaulty, IsNotExpanded, refusal_at}
use Rattle.protocol_expand.proofs.AnswerLemmas.{IsAnswer, LowerLaws, answered_once}

-- a refusal for a fault of that kind
at_fault : (d : Document) (name : List ℕ) (kind : FaultKind) (offset : ℕ) → IsFaulty d kind offset → IsAnswer d name (Err (refusal_at kind offset))
at_fault d name kind offset fault = inl (record { key = record { kind = kind; offset = offset }; is = refl; holds = fault })

-- each refusal but out of memory is an answer
of_refusal : (d : Document) (name : List ℕ) (r : Refusal) → r ≢ NoMemory → IsNotExpanded d name r → IsAnswer d name (Err r)
of_refusal d name (Duplicate offset) not_memory (inl fault) = at_fault d name kind.Duplicate offset fault
of_refusal d name (Duplicate offset) not_memory (inr equal) = inr (inr (inr (inr (inl (record { key = offset; is = refl; holds = equal })))))
of_refusal d name (Unknown offset) not_memory fault = at_fault d name kind.Unknown offset fault
of_refusal d name (Arity offset) not_memory fault = at_fault d name kind.Arity offset fault
of_refusal d name (BadAdornment offset) not_memory fault = at_fault d name kind.BadAdornment offset fault
of_refusal d name (ForeignKey offset) not_memory fault = at_fault d name kind.ForeignKey offset fault
of_refusal d name (NoProtocol missing) not_memory both = inr (inl (record { key = tt; is = ap (λ (n : List ℕ). Err (NoProtocol n)) both.0; holds = both.1 }))
of_refusal d name (Recursion again) not_memory meets = inr (inr (inl (record { key = again; is = refl; holds = meets })))
of_refusal d name (Limit what count) not_memory many = inr (inr (inr (inl (record { key = (what, count); is = refl; holds = many }))))
of_refusal d name NoMemory not_memory any = absurd (not_memory refl)
of_refusal d name other not_memory never = absurd never

-- and so is an expansion
of_expansion : (d : Document) (name : List ℕ) (x : Expanded) → Expands d name x → IsAnswer d name (Ok x)
of_expansion d name x expands = inr (inr (inr (inr (inr (record { key = x; is = refl; holds = expands })))))

-- there is one refusal at most
pub refuses_once : LowerLaws → (d : Document) (name : List ℕ) (r s : Refusal) → r ≢ NoMemory → s ≢ NoMemory → IsNotExpanded d name r → IsNotExpanded d name s → r ≡ s
refuses_once laws d name r s not_r not_s is_r is_s =
    let same : Err r ≡ Err s = answered_once laws d name (Err r) (Err s) (of_refusal d name r not_r is_r) (of_refusal d name s not_s is_s) in cc

-- and none beside an expansion
pub never_both : LowerLaws → (d : Document) (name : List ℕ) (x : Expanded) (r : Refusal) → r ≢ NoMemory → Expands d name x → ¬ IsNotExpanded d name r
never_both laws d name x r not_memory expands refused =
    let same : Ok x ≡ Err r = answered_once laws d name (Ok x) (Err r) (of_expansion d name x expands) (of_refusal d name r not_memory refused) in cc
