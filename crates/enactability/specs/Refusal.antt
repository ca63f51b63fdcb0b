-- Which line of a text is the first bad one, and in what way it is bad.
use Rattle.std.specs.Prelude.{◌≡◌, ◌<◌, ℕ, List, ◌++◌, ◌⊎◌, Result, Err, length}
use Rattle.bspl_types.specs.declared.expanded.Expanded.{Expanded}
use Rattle.refutation_log.specs.declared.refusal.LogRefusal.{LogRefusal}
use Rattle.refutation_log.specs.declared.refusal.LogRefusal.TheVariants.{Form, NoMemory, Number}
use Rattle.refutation_log.specs.declared.refutation.Kind.TheVariants.{Safety}
use Rattle.refutation_log.specs.declared.refutation.Version.{Version}
use Rattle.refutation_log.specs.LogText.{header_line}
use Rattle.refutation_log.specs.Refusal.{IsRefusedLog}
use Rattle.enactability.specs.DeadText.{dead_title}

-- the bytes begin with a first line on a message of the protocol
pub record HasTitle (x : Expanded) (bytes : List ℕ) : Type 0 where
  pub version : Version
  pub message : ℕ
  pub known : message < length x.messages
  pub rest : List ℕ
  pub text : bytes ≡ dead_title x version message ++ rest

-- after such a line comes what is refused so after the first line of a log for safety
pub record IsRefusedAfter (x : Expanded) (bytes : List ℕ) (refusal : LogRefusal) : Type 0 where
  pub title : HasTitle x bytes
  pub refused : IsRefusedLog (header_line title.version Safety ++ title.rest) refusal

-- the refusal names the first bad line, and in what way it is bad
abbrev pub IsRefusedDead : Expanded → List ℕ → LogRefusal → Type 0
IsRefusedDead x bytes (Form line) =
    ((¬ HasTitle x bytes) × (line ≡ 1)) ⊎ IsRefusedAfter x bytes (Form line)
IsRefusedDead x bytes (Number line) = IsRefusedAfter x bytes (Number line)
IsRefusedDead x bytes NoMemory = Unit {0}

-- the result is this answer, unless memory ran out
abbrev pub GivesOrNoMemory : {A : Type 0} → Result A LogRefusal → Result A LogRefusal → Type 0
GivesOrNoMemory result answer = (result ≡ answer) ⊎ (result ≡ Err NoMemory)
