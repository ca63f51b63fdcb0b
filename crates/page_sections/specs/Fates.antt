-- Which messages of a protocol are dead, as a page says it.
use Rattle.std.specs.Prelude.{ℕ, Bool, true, false, not, if◌then◌else◌, List, [], ◌∷◌, ◌++◌}
use Rattle.std.specs.List.{enumerate_from, flat_map, list_any}
use Rattle.bspl_types.specs.declared.expanded.Expanded.{Expanded}
use Rattle.bspl_types.specs.Expansion.{message_name}
use Rattle.html.specs.Fragment.{Fragment, Tag, Words, fitted}
use Rattle.message_fates.specs.declared.fate.Fate.{Fate}
use Rattle.message_fates.specs.declared.fate.Fate.TheVariants.{Dead, Sent, Undecided}
use Rattle.page_sections.specs.declared.wording.TheConstants.{DEAD_END, DEAD_START, IS_DEAD}
use Rattle.page_sections.specs.declared.wording.TheConstants.{IS_UNDECIDED, NONE_DEAD}

-- some legal run sends the message
abbrev pub is_sent : Fate → Bool
is_sent Sent = true
is_sent Dead = false
is_sent Undecided = false

-- no legal run sends it
abbrev pub is_never_sent : Fate → Bool
is_never_sent Sent = false
is_never_sent Dead = true
is_never_sent Undecided = false

-- the item of a message, unless some legal run sends it
abbrev pub fate_item : Expanded → ℕ × Fate → List Fragment
fate_item x (m, Sent) = []
fate_item x (m, Dead) = fitted IS_DEAD.now (Words (message_name x m) ∷ [])
fate_item x (m, Undecided) = fitted IS_UNDECIDED.now (Words (message_name x m) ∷ [])

-- the list of the messages that are dead or undecided
abbrev pub fates_list : Expanded → List Fate → List Fragment
fates_list x fates =
    Tag DEAD_START.now ∷ flat_map (fate_item x) (enumerate_from 0 fates) ++ Tag DEAD_END.now ∷ []

-- the section: that list, if one of the messages is dead or undecided
abbrev pub fates_section : Expanded → List Fate → List Fragment
fates_section x fates =
    if list_any (λ fate. not (is_sent fate)) fates
    then fates_list x fates else Tag NONE_DEAD.now ∷ []
