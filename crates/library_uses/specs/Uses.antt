-- What the uses promise, in the words of the crates that they call.
use Rattle.std.specs.Prelude.{◌≡◌, ℕ, Bool, true, false, List, [], ◌∷◌, Option, None, Some}
use Rattle.protocol_expand.specs.NotAdmitted.{IsNotAdmitted}
use Rattle.bspl_parser.specs.declared.document.Document.{Document}
use Rattle.bspl_parser.specs.Judgement.{IsRefusedFor, IsText}
use Rattle.bspl_types.specs.Admission.{IsAdmitted}
use Rattle.bspl_types.specs.Expansion.{message_of}
use Rattle.bspl_types.specs.Instance.{Fits}
use Rattle.bspl_types.specs.Knowledge.{CanEmit}
use Rattle.bspl_types.specs.declared.event.Event.TheVariants.{Emit}
use Rattle.bspl_types.specs.declared.event.Instance.{Instance}
use Rattle.bspl_types.specs.declared.expanded.Expanded.{Expanded}
use Rattle.bspl_types.specs.declared.refusals.Refusal.{Refusal}
use Rattle.bspl_types.specs.declared.value.Value.{Value}
use Rattle.clause_core.specs.Clause.{IsUnsatisfiable, SatisfiesAll}
use Rattle.clause_core.specs.declared.formula.Formula.{Formula}
use Rattle.clause_core.specs.declared.literal.Lit.{Lit}
use Rattle.local_store.specs.Emission.{chosen_values}
use Rattle.local_store.specs.State.{StoreState, acts_of}
use Rattle.protocol_expand.specs.Expansion.{Expands}
use Rattle.protocol_expand.specs.Refusals.{IsNotExpanded}
use Rattle.refutation_log.specs.LogText.{IsTextOf}
use Rattle.refutation_log.specs.Resolution.{Accepts}
use Rattle.refutation_log.specs.declared.refutation.Kind.{Kind}
use Rattle.refutation_log.specs.declared.refutation.Log.{Log}
use Rattle.sat_solver.specs.Outcome.{Spends}

-- the text spells a document in which the protocol of the name has this expansion, which is
-- admitted
pub record IsProtocolOf (text name : List ℕ) (x : Expanded) : Type 0 where
  pub document : Document
  pub spelled : IsText text document
  pub expands : Expands document name x
  pub admitted : IsAdmitted x

-- why the text declares no protocol of the name, unless memory ran out
pub data DeclaresNone (text name : List ℕ) : Refusal → Type 0 where
  -- it spells no document
  misspelled : (r : Refusal) → IsRefusedFor text r → DeclaresNone text name r
  -- it spells one, in which the protocol of the name has no expansion
  not_expanded : (d : Document) (r : Refusal) → IsText text d
      → IsNotExpanded d name r → DeclaresNone text name r
  -- the protocol has an expansion, which is not admitted
  not_admitted : (d : Document) (x : Expanded) (r : Refusal) → IsText text d
      → Expands d name x → IsNotAdmitted x r → DeclaresNone text name r

-- some assignment satisfies the clauses
abbrev pub IsSatisfiable : List (List Lit) → Type 0
IsSatisfiable clauses = (v : ℕ → Bool) × SatisfiesAll v clauses

-- the answer is right, and there is one unless a log spends 1,000 conflicts
abbrev pub IsTrueAnswer : Formula → Option Bool → Type 0
IsTrueAnswer f (Some true) = IsSatisfiable f.clauses
IsTrueAnswer f (Some false) = IsUnsatisfiable f.clauses
IsTrueAnswer f None = (log : Log) × Spends f 1000 log

-- the text is that of a log that is accepted
pub record RefutesByText (f : Formula) (text : List ℕ) : Type 0 where
  pub kind : Kind
  pub log : Log
  pub written : IsTextOf text kind log
  pub accepted : Accepts f log

-- the sender may begin with the message under the key, and its store has that event alone, with
-- the chosen values
pub record BeginsEnactment
    (x : Expanded) (message : ℕ) (key outs : List Value) (s : StoreState) : Type 0 where
  pub protocol : s.protocol ≡ x
  pub role : s.role ≡ (message_of x message).sender
  pub can : CanEmit x [] message key
  pub instance : Instance
  pub only : acts_of s ≡ Emit instance ∷ []
  pub message_is : instance.message ≡ message
  pub key_is : instance.key ≡ key
  pub fits : Fits x instance
  pub outs_are : chosen_values x instance ≡ outs
