-- The page of a protocol, of the verdicts on it, and of a section that is given.
use Rattle.std.specs.Prelude.{ℕ, List, [], ◌∷◌, ◌++◌, codes, map}
use Rattle.bspl_types.specs.declared.expanded.Expanded.{Expanded}
use Rattle.verdict.specs.declared.outcome.Liveness.{Liveness}
use Rattle.verdict.specs.declared.outcome.Liveness.TheVariants as liveness
use Rattle.verdict.specs.declared.outcome.Safety.{Safety}
use Rattle.verdict.specs.declared.outcome.Safety.TheVariants as safety
use Rattle.verdict.specs.declared.outcome.Verdicts.{Verdicts}
use Rattle.html.specs.declared.wording.TheConstants.{STYLE}
use Rattle.html.specs.Fragment.{Fragment, Tag, Words, fitted}
use Rattle.html.specs.Tables.{message_table, source_table}
use Rattle.message_fates.specs.declared.fate.Fate.{Fate}
use Rattle.page_sections.specs.declared.wording.TheConstants.{PAGE_END, PAGE_HEAD}
use Rattle.page_sections.specs.Fates.{fates_section, is_never_sent}
use Rattle.page_sections.specs.VerdictSections.{liveness_section, safety_section}

-- the verdict on safety in a word
abbrev pub safety_word : Safety → List ℕ
safety_word (safety.Safe log) = codes "safe"
safety_word (safety.Unsafe run param first second) = codes "unsafe"
safety_word (safety.Undecided log) = codes "undecided"

-- the verdict on liveness in a word or two
abbrev pub liveness_word : Liveness → List ℕ
liveness_word (liveness.Live log) = codes "live"
liveness_word (liveness.NotLive run param) = codes "not live"
liveness_word (liveness.Undecided log) = codes "undecided"

-- the title, which stands in the head and in the body: the protocol's name and both verdicts
abbrev pub page_title : Expanded → Verdicts → List Fragment
page_title x v =
    Words x.name ∷ Tag (safety_word v.safety) ∷ Tag (liveness_word v.liveness) ∷ []

-- the beginning of the page, with its style
abbrev pub page_head : Expanded → Verdicts → List Fragment
page_head x v = fitted PAGE_HEAD.now (page_title x v ++ (Tag STYLE.now ∷ []) ++ page_title x v)

-- the title, and both verdicts with their evidence
abbrev pub page_verdicts : Expanded → Verdicts → List Fragment
page_verdicts x v =
    page_head x v ++ safety_section x v.safety ++ liveness_section x v.liveness

-- which messages are dead, the messages, and what roles can learn
abbrev pub page_tables : Expanded → List Fate → List Fragment
page_tables x fates =
    fates_section x fates ++ message_table x ++ source_table x (map is_never_sent fates) ++
    Tag PAGE_END.now ∷ []

-- the page: these, and between them what is shown of a run or a world
abbrev pub page : Expanded → Verdicts → List Fate → List Fragment → List Fragment
page x v fates shown = page_verdicts x v ++ shown ++ page_tables x fates
