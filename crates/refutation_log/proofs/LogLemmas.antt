-- Logs with the same entries are the same, and where their removals may stand.
use Rattle.std.proofs.Common.{◌≡◌, ◌≢◌, ℕ, ◌+◌, ◌-◌, List, All, [], ◌∷◌, ◌++◌, drop, take, map, refl, sym, ap, subst, ◌∙◌, arith, Result, Ok, Err, OnOk}
use Rattle.std.proofs.Props.{props}
use Rattle.std.specs.List.{AllByRecursion}
use Rattle.std.proofs.lemmas.List.Elements.{recursion_from_All}
use Rattle.refutation_log.specs.declared.refutation.Chain.{Chain}
use Rattle.refutation_log.specs.declared.refutation.Removal.{Removal}
use Rattle.refutation_log.specs.declared.refutation.Entry.{Entry}
use Rattle.refutation_log.specs.declared.refutation.Entry.TheVariants.{Step, Drop}
use Rattle.refutation_log.specs.declared.refutation.Log.{Log}
use Rattle.refutation_log.specs.declared.refutation.Version.{Version}
use Rattle.refutation_log.specs.declared.refutation.Version.TheVariants.{One, Two}
use Rattle.refutation_log.specs.RemovalOrder.{IsInOrder, IsLeft}
use Rattle.refutation_log.specs.Entries.{entries, entries_after, steps_of}
use Rattle.refutation_log.specs.LineParts.{EntryStands}
use Rattle.refutation_log.proofs.EntryLemmas.{left_all, left_others, steps_of_entries, removals_of_entries, removals_of}

pub log_left : (log : Log) → IsLeft 0 log.steps log.removals
log_left log = left_all log.steps log.removals log.in_order

-- the entries tell the steps
pub log_steps : (log : Log) → steps_of (entries log) ≡ log.steps
log_steps log = steps_of_entries 0 log.steps log.removals (log_left log)

order_once : (steps : List Chain) (removals : List Removal) → IsProp (IsInOrder steps removals)
order_once steps removals = hlevel props

abbrev log_of : (steps : List Chain) (removals : List Removal) → IsInOrder steps removals → Log
log_of steps removals order = record { steps = steps; removals = removals; in_order = order }

same_made : (steps others : List Chain) (removals more : List Removal) (one : IsInOrder steps removals) (two : IsInOrder others more) → steps ≡ others → removals ≡ more → log_of steps removals one ≡ log_of others more two
same_made steps others removals more one two same_steps same_removals =
    subst (λ (xs : List Chain). (order : IsInOrder xs more) → log_of steps removals one ≡ log_of xs more order) same_steps
    (subst (λ (rs : List Removal). (order : IsInOrder steps rs) → log_of steps removals one ≡ log_of steps rs order) same_removals
    (λ order. ap (log_of steps removals) (order_once steps removals one order)))
    two

same_parts : (log another : Log) → log.steps ≡ another.steps → log.removals ≡ another.removals → log ≡ another
same_parts log another steps removals = same_made log.steps another.steps log.removals another.removals log.in_order another.in_order steps removals

-- the entries tell the log
pub same_from_entries : (log another : Log) → entries log ≡ entries another → log ≡ another
same_from_entries log another same =
    same_parts log another
    (sym (log_steps log) ∙ ap steps_of same ∙ log_steps another)
    (sym (removals_of_entries 0 log.steps log.removals (log_left log)) ∙ ap (removals_of 0) same ∙ removals_of_entries 0 another.steps another.removals (log_left another))

-- ---- what may stand in a text of a version

steps_stand : (version : Version) (steps : List Chain) (more : List Entry) → AllByRecursion (EntryStands version) more → AllByRecursion (EntryStands version) (map Step steps ++ more)
steps_stand version [] more stand = stand
steps_stand version (step ∷ steps) more stand = (tt, steps_stand version steps more stand)

all_steps_stand : (version : Version) (steps : List Chain) → AllByRecursion (EntryStands version) (map Step steps)
all_steps_stand version [] = tt
all_steps_stand version (step ∷ steps) = (tt, all_steps_stand version steps)

some_two : (version : Version) (removal : Removal) (removals : List Removal) → (version ≡ One → removal ∷ removals ≡ []) → version ≡ Two
some_two One removal removals allowed = let none = allowed refl in absurd (cc)
some_two Two removal removals allowed = refl

two_entries : (done : ℕ) (steps : List Chain) (removals : List Removal) → IsLeft done steps removals → AllByRecursion (EntryStands Two) (entries_after done steps removals)
two_entries done steps [] left = all_steps_stand Two (drop done steps)
two_entries done steps (removal ∷ removals) left =
    let named : removal.clauses ≢ [] = left.order.named 0 removal (omega arith) in
    let rest = entries_after removal.after steps removals in
    let stand : AllByRecursion (EntryStands Two) (Drop removal.clauses ∷ rest) = ((refl, named), two_entries removal.after steps removals (left_others done steps removal removals left)) in
    steps_stand Two (take (removal.after - done) (drop done steps)) (Drop removal.clauses ∷ rest) stand

entries_stand : (version : Version) (steps : List Chain) (removals : List Removal) → IsLeft 0 steps removals → (version ≡ One → removals ≡ []) → AllByRecursion (EntryStands version) (entries_after 0 steps removals)
entries_stand version steps [] left allowed = all_steps_stand version (drop 0 steps)
entries_stand version steps (removal ∷ removals) left allowed =
    let two = some_two version removal removals allowed in
    rw two (two_entries 0 steps (removal ∷ removals) left)

pub log_stands : (version : Version) (log : Log) → (version ≡ One → log.removals ≡ []) → AllByRecursion (EntryStands version) (entries log)
log_stands version log allowed = entries_stand version log.steps log.removals (log_left log) allowed

-- what follows after Ok follows after Ok
pub on_ok : {X E : Type 0} (r : Result X E) (P Q : Type 0) → (P → Q) → OnOk r P → OnOk r Q
on_ok (Ok x) P Q step holds = step holds
on_ok (Err e) P Q step holds = tt

none_dropped : (done : ℕ) (log : List Entry) → AllByRecursion (EntryStands One) log → removals_of done log ≡ []
none_dropped done [] stand = refl
none_dropped done (Step step ∷ log) stand = none_dropped (done + 1) log stand.1
none_dropped done (Drop numbers ∷ log) stand = let two : One ≡ Two = stand.0.0 in absurd (cc)

-- where no removal may stand there is none
pub none_removed : (version : Version) (log : Log) → All (EntryStands version) (entries log) → version ≡ One → log.removals ≡ []
none_removed version log stand one =
    let stand_one = recursion_from_All (EntryStands One) (entries log) (rw one at stand) in
    sym (removals_of_entries 0 log.steps log.removals (log_left log)) ∙ none_dropped 0 (entries log) stand_one
