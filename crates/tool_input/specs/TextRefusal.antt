-- Why a protocol text declares nothing for a name, in the order in which the reasons are judged.
use Rattle.std.specs.Prelude.{◌≢◌, ℕ, ◌<◌, ◌≤◌, List, length}
use Rattle.bspl_types.specs.declared.expanded.Expanded.{Expanded}
use Rattle.bspl_types.specs.declared.refusals.Refusal.{Refusal}
use Rattle.bspl_types.specs.declared.refusals.Refusal.TheVariants as refusal
use Rattle.bspl_types.specs.declared.refusals.What.TheVariants as what
use Rattle.bspl_types.specs.Limits.{text_limit}
use Rattle.protocol_expand.specs.NotAdmitted.{IsNotAdmitted}
use Rattle.bspl_parser.specs.declared.document.Document.{Document}
use Rattle.bspl_parser.specs.Judgement.{IsRefusedFor}
use Rattle.protocol_expand.specs.Expansion.{Expands}
use Rattle.protocol_expand.specs.Refusals.{IsNotExpanded}
use Rattle.tool_input.specs.Input.{IsSpelled}

-- why a protocol text declares nothing for the name
pub data RefusesText (name text : List ℕ) : Refusal → Type 0 where
  -- it has too many bytes
  too_long : text_limit < length text
      → RefusesText name text (refusal.Limit what.Text (length text))
  -- it is short enough, and spells no document
  misspelled : (r : Refusal) → r ≢ refusal.NoMemory → length text ≤ text_limit
      → IsRefusedFor text r → RefusesText name text r
  -- it spells one, in which the protocol of the name has no expansion
  not_expanded : (d : Document) (r : Refusal) → r ≢ refusal.NoMemory
      → IsSpelled text d → IsNotExpanded d name r → RefusesText name text r
  -- the protocol has an expansion, which is not admitted
  not_admitted : (d : Document) (x : Expanded) (r : Refusal) → r ≢ refusal.NoMemory
      → IsSpelled text d → Expands d name x → IsNotAdmitted x r → RefusesText name text r
