-- Where no argument fails, the arguments are read, and the rows hold what they say.
use Rattle.std.proofs.Common.{◌≡◌, ◌++◌, ℕ, true, false, List, [], ◌∷◌, Some, None, refl, sym, ap, subst, ◌∙◌, codes}
use Rattle.std.specs.List.{fold, list_all}
use Rattle.clap.specs.Walk.{Held, Row, Text, Walk, Waiting, idle, option, settled, walked}
use Rattle.clap.specs.Faults.{settle_fault, turn_fault, use_fault}
use Rattle.command_line.specs.Argument.{Argument, Brief, Conflicts, Threads, Positional, begins_with_dash, BeginsWithArgument, alone, conflicts_next, threads_next, brief, conflicts_joined, threads_joined, positional}
use Rattle.command_line.specs.Known.{is_known}
use Rattle.command_line.proofs.Known.{IsKnown, plain, the_dashes, the_flag, conflicts_apart, threads_apart, conflicts_with, threads_with, known_head, known_tail}
use Rattle.command_line.specs.ParsedArgs.{ParsedArgs, add, ParsesTo}
use Rattle.command_line.proofs.Rows.{Rows}
use Rattle.command_line.proofs.Rules.{rules, shape, conflicts_rule, threads_rule, command_rule, name_rule, tail_fault, whole_fault, fault_parts, whole_next}
use Rattle.command_line.proofs.Steps
use Rattle.command_line.proofs.Steps.{Pending, held, walking, trailing, pending_fault, settled_by, plain_word_is}
use Rattle.command_line.proofs.Adding.{free_from, brief_from, no_briefs, no_conflicts, no_threads, with_brief, with_conflicts, with_threads, with_command, with_name}
use Rattle.command_line.proofs.ParseLemmas.{add_words, says_nothing, on_part, on_end}

-- where the next positional argument goes
abbrev pub place : List Text → ℕ
place [] = 1
place (x ∷ []) = 2
place (x ∷ y ∷ xs) = 3

-- the rows hold what is parsed, unless what is pending fails
pub record Holds (rows : List Row) (pending : Pending) (p : ℕ) (s : ParsedArgs) : Type 0 where
  pub fair : pending_fault rows pending ≡ [] → Rows (settled_by rows pending) s
  pub at : p ≡ place s.positional

-- at the end nothing fails, and the rows hold what is parsed
pub record Ends (end : Held) (s : ParsedArgs) : Type 0 where
  pub none : settle_fault rules false end ≡ []
  pub rows : Rows (settled rules end).rows s

-- the end of a walk
abbrev pub end_of : Walk → List Text → Held
end_of w args = (fold (walked rules []) w args).held

-- the arguments are read after what was said, and the end holds all
pub record Taken (end : Held) (args : List Text) (before : ParsedArgs) : Type 0 where
  pub after : ParsedArgs
  pub says : ParsesTo args before after
  pub ends : Ends end after

-- from each state, arguments that do not fail are read
pub record Taking (args : List Text) : Type 0 where
  pub ready : (rows : List Row) (pending : Pending) (p : ℕ) (s : ParsedArgs) → Holds rows pending p s → whole_fault (walking rows pending idle p) args ≡ [] → Taken (end_of (walking rows pending idle p) args) args s
  pub conflicts : (rows : List Row) (p : ℕ) (s : ParsedArgs) → Rows rows s → p ≡ place s.positional → whole_fault (walking rows (Some (codes "conflicts", [])) (option (codes "conflicts")) p) args ≡ []
      → Taken (end_of (walking rows (Some (codes "conflicts", [])) (option (codes "conflicts")) p) args) (codes "--conflicts" ∷ args) s
  pub threads : (rows : List Row) (p : ℕ) (s : ParsedArgs) → Rows rows s → p ≡ place s.positional → whole_fault (walking rows (Some (codes "threads", [])) (option (codes "threads")) p) args ≡ []
      → Taken (end_of (walking rows (Some (codes "threads", [])) (option (codes "threads")) p) args) (codes "--threads" ∷ args) s
  pub after : (rows : List Row) (pending : Pending) (p : ℕ) (s : ParsedArgs) → Holds rows pending p s → whole_fault (trailing rows pending idle p) args ≡ [] → Ends (end_of (trailing rows pending idle p) args) (add_words s args)

-- no kind is no list with a kind
never_none : {X : Type 0} {k : X} {ks : List X} → k ∷ ks ≡ [] → ⊥
never_none {k = k} {ks = ks} none = (let bad : k ∷ ks ≡ [] = none in cc)

-- the parts of a fault at one argument
word_fault : (w after : Walk) (word : Text) (rest : List Text) → walked rules [] w word ≡ after → whole_fault w (word ∷ rest) ≡ [] → (turn_fault shape [] w word ≡ []) × (whole_fault after rest ≡ [])
word_fault w after word rest is none = fault_parts _ _ (sym (whole_next w after word rest is) ∙ none)

ends_as : (w after : Walk) (word : Text) (rest args : List Text) (s : ParsedArgs) → walked rules [] w word ≡ after → Taken (end_of after rest) args s → Taken (end_of w (word ∷ rest)) args s
ends_as w after word rest args s is taken = subst (λ v. Taken (end_of v rest) args s) (sym is) taken

-- one part more
taken_part : {end : Held} {args left : List Text} {part : Argument} {s : ParsedArgs} → BeginsWithArgument args part left → Taken end left (add s part) → Taken end args s
taken_part {args = args} {left = left} {part = part} {s = s} begins taken = record {
  after = taken.after;
  says = (on_part args part left s begins taken.after).1 taken.says;
  ends = taken.ends;
}

-- at the end
ended : (end : Held) (s : ParsedArgs) → (settle_fault rules false end ≡ [] → Rows (settled rules end).rows s) → tail_fault end ≡ [] → Ends end s
ended end s fair none =
    let first : settle_fault rules false end ≡ [] = (fault_parts _ _ none).0 in
    record { none = first; rows = fair first }

none_left : Taking []
unfolding Rattle.clap.specs.Faults.walk_fault
none_left = record {
  ready = λ rows pending p s holds none. record { after = s; says = says_nothing s; ends = ended (held rows pending) s holds.fair none };
  conflicts = λ rows p s are at none. absurd (never_none none);
  threads = λ rows p s are at none. absurd (never_none none);
  after = λ rows pending p s holds none. ended (held rows pending) s holds.fair none;
}

-- ---- one argument

-- nothing is pending after a flag or an option with its value
used_up : (rows : List Row) (p : ℕ) (s : ParsedArgs) → Rows rows s → p ≡ place s.positional → Holds rows None p s
used_up rows p s are at = record { fair = λ none. are; at = at }

flag_next : (rest : List Text) → Taking rest → (rows : List Row) (pending : Pending) (p : ℕ) (s : ParsedArgs) → Holds rows pending p s → whole_fault (walking rows pending idle p) (codes "--brief" ∷ rest) ≡ [] → Taken (end_of (walking rows pending idle p) (codes "--brief" ∷ rest)) (codes "--brief" ∷ rest) s
flag_next rest taking rows pending p s holds none =
    let parts = word_fault _ _ (codes "--brief") rest (Steps.brief_walk rows pending p) none in
    let turn = fault_parts _ _ (fault_parts _ _ parts.0).0 in
    let now = settled_by rows pending in
    let are = holds.fair turn.0 in
    let free = brief_from now turn.1 in
    let more = with_brief now s are (no_briefs now s are free) free in
    ends_as _ _ _ rest _ s (Steps.brief_walk rows pending p) (taken_part (alone (codes "--brief") Brief rest brief) (taking.ready _ None p (add s Brief) (used_up _ p (add s Brief) more holds.at) parts.1))

conflicts_now : (v : Text) (rest : List Text) → Taking rest → (rows : List Row) (pending : Pending) (p : ℕ) (s : ParsedArgs) → Holds rows pending p s → whole_fault (walking rows pending idle p) ((codes "--conflicts=" ++ v) ∷ rest) ≡ [] → Taken (end_of (walking rows pending idle p) ((codes "--conflicts=" ++ v) ∷ rest)) ((codes "--conflicts=" ++ v) ∷ rest) s
conflicts_now v rest taking rows pending p s holds none =
    let parts = word_fault _ _ (codes "--conflicts=" ++ v) rest (Steps.conflicts_walk rows pending p v) none in
    let turn = fault_parts _ _ (fault_parts _ _ parts.0).0 in
    let now = settled_by rows pending in
    let are = holds.fair turn.0 in
    let free = free_from conflicts_rule v now turn.1 in
    let more = with_conflicts now s v are (no_conflicts now s are free) free in
    ends_as _ _ _ rest _ s (Steps.conflicts_walk rows pending p v) (taken_part (alone (codes "--conflicts=" ++ v) (Conflicts v) rest (conflicts_joined v)) (taking.ready _ None p (add s (Conflicts v)) (used_up _ p (add s (Conflicts v)) more holds.at) parts.1))

threads_now : (v : Text) (rest : List Text) → Taking rest → (rows : List Row) (pending : Pending) (p : ℕ) (s : ParsedArgs) → Holds rows pending p s → whole_fault (walking rows pending idle p) ((codes "--threads=" ++ v) ∷ rest) ≡ [] → Taken (end_of (walking rows pending idle p) ((codes "--threads=" ++ v) ∷ rest)) ((codes "--threads=" ++ v) ∷ rest) s
threads_now v rest taking rows pending p s holds none =
    let parts = word_fault _ _ (codes "--threads=" ++ v) rest (Steps.threads_walk rows pending p v) none in
    let turn = fault_parts _ _ (fault_parts _ _ parts.0).0 in
    let now = settled_by rows pending in
    let are = holds.fair turn.0 in
    let free = free_from threads_rule v now turn.1 in
    let more = with_threads now s v are (no_threads now s are free) free in
    ends_as _ _ _ rest _ s (Steps.threads_walk rows pending p v) (taken_part (alone (codes "--threads=" ++ v) (Threads v) rest (threads_joined v)) (taking.ready _ None p (add s (Threads v)) (used_up _ p (add s (Threads v)) more holds.at) parts.1))

conflicts_then : (rest : List Text) → Taking rest → (rows : List Row) (pending : Pending) (p : ℕ) (s : ParsedArgs) → Holds rows pending p s → whole_fault (walking rows pending idle p) (codes "--conflicts" ∷ rest) ≡ [] → Taken (end_of (walking rows pending idle p) (codes "--conflicts" ∷ rest)) (codes "--conflicts" ∷ rest) s
conflicts_then rest taking rows pending p s holds none =
    let parts = word_fault _ _ (codes "--conflicts") rest (Steps.conflicts_waits rows pending p) none in
    ends_as _ _ _ rest _ s (Steps.conflicts_waits rows pending p) (taking.conflicts _ p s (holds.fair (fault_parts _ _ parts.0).0) holds.at parts.1)

threads_then : (rest : List Text) → Taking rest → (rows : List Row) (pending : Pending) (p : ℕ) (s : ParsedArgs) → Holds rows pending p s → whole_fault (walking rows pending idle p) (codes "--threads" ∷ rest) ≡ [] → Taken (end_of (walking rows pending idle p) (codes "--threads" ∷ rest)) (codes "--threads" ∷ rest) s
threads_then rest taking rows pending p s holds none =
    let parts = word_fault _ _ (codes "--threads") rest (Steps.threads_waits rows pending p) none in
    ends_as _ _ _ rest _ s (Steps.threads_waits rows pending p) (taking.threads _ p s (holds.fair (fault_parts _ _ parts.0).0) holds.at parts.1)

end_next : (rest : List Text) → Taking rest → (rows : List Row) (pending : Pending) (p : ℕ) (s : ParsedArgs) → Holds rows pending p s → whole_fault (walking rows pending idle p) (codes "--" ∷ rest) ≡ [] → Taken (end_of (walking rows pending idle p) (codes "--" ∷ rest)) (codes "--" ∷ rest) s
end_next rest taking rows pending p s holds none =
    let parts = word_fault _ _ (codes "--") rest (Steps.end_walk rows pending p idle) none in
    ends_as _ _ _ rest _ s (Steps.end_walk rows pending p idle) (record {
      after = add_words s rest;
      says = (on_end rest s (add_words s rest)).1 (says_nothing (add_words s rest));
      ends = taking.after rows pending p s holds parts.1;
    })

-- what holds after a positional argument
command_holds : (rows : List Row) (s : ParsedArgs) (word : Text) → Rows rows s → s.positional ≡ [] → Holds rows (Some (codes "command", word ∷ [])) 2 (add s (Positional word))
command_holds rows s word are none = record {
  fair = λ passes. (let free = free_from command_rule word rows passes in with_command rows s word are none free);
  at = sym (ap (λ ws. place (ws ++ word ∷ [])) none);
}

name_holds : (rows : List Row) (s : ParsedArgs) (first word : Text) → Rows rows s → s.positional ≡ first ∷ [] → Holds rows (Some (codes "name", word ∷ [])) 3 (add s (Positional word))
name_holds rows s first word are one = record {
  fair = λ passes. (let free = free_from name_rule word rows passes in with_name rows s first word are one free);
  at = sym (ap (λ ws. place (ws ++ word ∷ [])) one);
}

-- ---- an argument that does not begin with `-`

plain_next : (word : Text) → begins_with_dash word ≡ false → (rest : List Text) → Taking rest → (rows : List Row) (pending : Pending) (s : ParsedArgs) (ws : List Text) → s.positional ≡ ws → (pending_fault rows pending ≡ [] → Rows (settled_by rows pending) s)
    → whole_fault (walking rows pending idle (place ws)) (word ∷ rest) ≡ [] → BeginsWithArgument (word ∷ rest) (Positional word) rest → Taken (end_of (walking rows pending idle (place ws)) (word ∷ rest)) (word ∷ rest) s
plain_next word is rest taking rows pending s [] e fair none begins =
    let plain = plain_word_is word is in
    let walk = Steps.plain_walk rows pending 1 word plain ∙ Steps.command_held rows pending idle word in
    let parts = word_fault _ _ word rest walk none in
    let passes = sym (Steps.plain_turn rows pending 1 word plain ∙ Steps.command_step rows pending) ∙ parts.0 in
    ends_as _ _ word rest _ s walk (taken_part begins (taking.ready _ _ 2 (add s (Positional word)) (command_holds (settled_by rows pending) s word (fair passes) e) parts.1))
plain_next word is rest taking rows pending s (x ∷ []) e fair none begins =
    let plain = plain_word_is word is in
    let walk = Steps.plain_walk rows pending 2 word plain ∙ Steps.name_held rows pending idle word in
    let parts = word_fault _ _ word rest walk none in
    let passes = sym (Steps.plain_turn rows pending 2 word plain ∙ Steps.name_step rows pending) ∙ parts.0 in
    ends_as _ _ word rest _ s walk (taken_part begins (taking.ready _ _ 3 (add s (Positional word)) (name_holds (settled_by rows pending) s x word (fair passes) e) parts.1))
plain_next word is rest taking rows pending s (x ∷ y ∷ xs) e fair none begins =
    let plain = plain_word_is word is in
    let parts = word_fault (walking rows pending idle 3) _ word rest refl none in
    absurd (never_none (sym (Steps.plain_turn rows pending 3 word plain ∙ Steps.third_step rows pending) ∙ parts.0))

behind_next : (word : Text) (rest : List Text) → Taking rest → (rows : List Row) (pending : Pending) (s : ParsedArgs) (ws : List Text) → s.positional ≡ ws → (pending_fault rows pending ≡ [] → Rows (settled_by rows pending) s)
    → whole_fault (trailing rows pending idle (place ws)) (word ∷ rest) ≡ [] → Ends (end_of (trailing rows pending idle (place ws)) (word ∷ rest)) (add_words (add s (Positional word)) rest)
behind_next word rest taking rows pending s [] e fair none =
    let walk = Steps.trailing_walk rows pending idle 1 word ∙ Steps.command_trails rows pending idle word in
    let parts = word_fault _ _ word rest walk none in
    let passes = sym (Steps.trailing_turn rows pending idle 1 word ∙ Steps.command_step rows pending) ∙ parts.0 in
    subst (λ v. Ends (end_of v rest) (add_words (add s (Positional word)) rest)) (sym walk) (taking.after _ _ 2 (add s (Positional word)) (command_holds (settled_by rows pending) s word (fair passes) e) parts.1)
behind_next word rest taking rows pending s (x ∷ []) e fair none =
    let walk = Steps.trailing_walk rows pending idle 2 word ∙ Steps.name_trails rows pending idle word in
    let parts = word_fault _ _ word rest walk none in
    let passes = sym (Steps.trailing_turn rows pending idle 2 word ∙ Steps.name_step rows pending) ∙ parts.0 in
    subst (λ v. Ends (end_of v rest) (add_words (add s (Positional word)) rest)) (sym walk) (taking.after _ _ 3 (add s (Positional word)) (name_holds (settled_by rows pending) s x word (fair passes) e) parts.1)
behind_next word rest taking rows pending s (x ∷ y ∷ xs) e fair none =
    let parts = word_fault (trailing rows pending idle 3) _ word rest refl none in
    absurd (never_none (sym (Steps.trailing_turn rows pending idle 3 word ∙ Steps.third_step rows pending) ∙ parts.0))

-- an option that waits after `--` fails
lost : (id : Text) → ((rows : List Row) → (pending_fault rows (Some (id, [])) ≡ [] → ⊥)) → (rows : List Row) (waiting : Waiting) (args ws : List Text) → whole_fault (trailing rows (Some (id, [])) waiting (place ws)) args ≡ [] → ⊥
unfolding Rattle.clap.specs.Faults.walk_fault
lost id fails rows waiting [] ws none = fails rows (fault_parts _ _ none).0
lost id fails rows waiting (word ∷ rest) [] none =
    let parts = word_fault (trailing rows (Some (id, [])) waiting 1) _ word rest refl none in
    fails rows (sym (Steps.trailing_turn rows (Some (id, [])) waiting 1 word ∙ Steps.command_step rows (Some (id, []))) ∙ parts.0)
lost id fails rows waiting (word ∷ rest) (x ∷ []) none =
    let parts = word_fault (trailing rows (Some (id, [])) waiting 2) _ word rest refl none in
    fails rows (sym (Steps.trailing_turn rows (Some (id, [])) waiting 2 word ∙ Steps.name_step rows (Some (id, []))) ∙ parts.0)
lost id fails rows waiting (word ∷ rest) (x ∷ y ∷ xs) none =
    let parts = word_fault (trailing rows (Some (id, [])) waiting 3) _ word rest refl none in
    never_none (sym (Steps.trailing_turn rows (Some (id, [])) waiting 3 word ∙ Steps.third_step rows (Some (id, []))) ∙ parts.0)

-- ---- an option that waits for its value

conflicts_value : (v : Text) → begins_with_dash v ≡ false → (rest : List Text) → Taking rest → (rows : List Row) (p : ℕ) (s : ParsedArgs) → Rows rows s → p ≡ place s.positional → whole_fault (walking rows (Some (codes "conflicts", [])) (option (codes "conflicts")) p) (v ∷ rest) ≡ []
    → Taken (end_of (walking rows (Some (codes "conflicts", [])) (option (codes "conflicts")) p) (v ∷ rest)) (codes "--conflicts" ∷ v ∷ rest) s
conflicts_value v is rest taking rows p s are at none =
    let plain = plain_word_is v is in
    let walk = Steps.conflicts_value rows p v plain in
    let parts = word_fault _ _ v rest walk none in
    let holds : Holds rows (Some (codes "conflicts", v ∷ [])) p (add s (Conflicts v)) = record {
      fair = λ passes. (let free = free_from conflicts_rule v rows passes in with_conflicts rows s v are (no_conflicts rows s are free) free);
      at = at;
    } in
    ends_as _ _ v rest _ s walk (taken_part (conflicts_next v rest is) (taking.ready rows _ p (add s (Conflicts v)) holds parts.1))

threads_value : (v : Text) → begins_with_dash v ≡ false → (rest : List Text) → Taking rest → (rows : List Row) (p : ℕ) (s : ParsedArgs) → Rows rows s → p ≡ place s.positional → whole_fault (walking rows (Some (codes "threads", [])) (option (codes "threads")) p) (v ∷ rest) ≡ []
    → Taken (end_of (walking rows (Some (codes "threads", [])) (option (codes "threads")) p) (v ∷ rest)) (codes "--threads" ∷ v ∷ rest) s
threads_value v is rest taking rows p s are at none =
    let plain = plain_word_is v is in
    let walk = Steps.threads_value rows p v plain in
    let parts = word_fault _ _ v rest walk none in
    let holds : Holds rows (Some (codes "threads", v ∷ [])) p (add s (Threads v)) = record {
      fair = λ passes. (let free = free_from threads_rule v rows passes in with_threads rows s v are (no_threads rows s are free) free);
      at = at;
    } in
    ends_as _ _ v rest _ s walk (taken_part (threads_next v rest is) (taking.ready rows _ p (add s (Threads v)) holds parts.1))

-- where an option waits, another argument fails at once
fails_at_once : (w : Walk) (word : Text) (rest : List Text) → whole_fault w (word ∷ rest) ≡ [] → turn_fault shape [] w word ≡ []
fails_at_once w word rest none = (word_fault w _ word rest refl none).0

conflicts_word : {word : Text} → IsKnown word → (rest : List Text) → Taking rest → (rows : List Row) (p : ℕ) (s : ParsedArgs) → Rows rows s → p ≡ place s.positional → whole_fault (walking rows (Some (codes "conflicts", [])) (option (codes "conflicts")) p) (word ∷ rest) ≡ []
    → Taken (end_of (walking rows (Some (codes "conflicts", [])) (option (codes "conflicts")) p) (word ∷ rest)) (codes "--conflicts" ∷ word ∷ rest) s
conflicts_word (plain v is) rest taking rows p s are at none = conflicts_value v is rest taking rows p s are at none
conflicts_word the_dashes rest taking rows p s are at none =
    let parts = word_fault _ _ (codes "--") rest (Steps.end_walk rows (Some (codes "conflicts", [])) p (option (codes "conflicts"))) none in
    absurd (lost (codes "conflicts") (λ rs bad. never_none bad) rows (option (codes "conflicts")) rest s.positional (subst (λ q. whole_fault (trailing rows (Some (codes "conflicts", [])) (option (codes "conflicts")) q) rest ≡ []) at parts.1))
conflicts_word the_flag rest taking rows p s are at none = absurd (never_none (fails_at_once _ (codes "--brief") rest none))
conflicts_word conflicts_apart rest taking rows p s are at none = absurd (never_none (fails_at_once _ (codes "--conflicts") rest none))
conflicts_word threads_apart rest taking rows p s are at none = absurd (never_none (fails_at_once _ (codes "--threads") rest none))
conflicts_word (conflicts_with v) rest taking rows p s are at none = absurd (never_none (fails_at_once _ (codes "--conflicts=" ++ v) rest none))
conflicts_word (threads_with v) rest taking rows p s are at none = absurd (never_none (fails_at_once _ (codes "--threads=" ++ v) rest none))

threads_word : {word : Text} → IsKnown word → (rest : List Text) → Taking rest → (rows : List Row) (p : ℕ) (s : ParsedArgs) → Rows rows s → p ≡ place s.positional → whole_fault (walking rows (Some (codes "threads", [])) (option (codes "threads")) p) (word ∷ rest) ≡ []
    → Taken (end_of (walking rows (Some (codes "threads", [])) (option (codes "threads")) p) (word ∷ rest)) (codes "--threads" ∷ word ∷ rest) s
threads_word (plain v is) rest taking rows p s are at none = threads_value v is rest taking rows p s are at none
threads_word the_dashes rest taking rows p s are at none =
    let parts = word_fault _ _ (codes "--") rest (Steps.end_walk rows (Some (codes "threads", [])) p (option (codes "threads"))) none in
    absurd (lost (codes "threads") (λ rs bad. never_none bad) rows (option (codes "threads")) rest s.positional (subst (λ q. whole_fault (trailing rows (Some (codes "threads", [])) (option (codes "threads")) q) rest ≡ []) at parts.1))
threads_word the_flag rest taking rows p s are at none = absurd (never_none (fails_at_once _ (codes "--brief") rest none))
threads_word conflicts_apart rest taking rows p s are at none = absurd (never_none (fails_at_once _ (codes "--conflicts") rest none))
threads_word threads_apart rest taking rows p s are at none = absurd (never_none (fails_at_once _ (codes "--threads") rest none))
threads_word (conflicts_with v) rest taking rows p s are at none = absurd (never_none (fails_at_once _ (codes "--conflicts=" ++ v) rest none))
threads_word (threads_with v) rest taking rows p s are at none = absurd (never_none (fails_at_once _ (codes "--threads=" ++ v) rest none))

-- ---- all arguments

-- an argument that does not begin with `-` is positional
pub plain_part : (word : Text) → begins_with_dash word ≡ false → (rest : List Text) → BeginsWithArgument (word ∷ rest) (Positional word) rest
plain_part [] is rest = alone [] (Positional []) rest (positional [] refl)
plain_part (b ∷ []) is rest = alone (b ∷ []) (Positional (b ∷ [])) rest (positional (b ∷ []) refl)
plain_part (b ∷ c ∷ bs) is rest = alone (b ∷ c ∷ bs) (Positional (b ∷ c ∷ bs)) rest (positional (b ∷ c ∷ bs) is)

ready_word : {word : Text} → IsKnown word → (rest : List Text) → Taking rest → (rows : List Row) (pending : Pending) (p : ℕ) (s : ParsedArgs) → Holds rows pending p s → whole_fault (walking rows pending idle p) (word ∷ rest) ≡ [] → Taken (end_of (walking rows pending idle p) (word ∷ rest)) (word ∷ rest) s
ready_word (plain word is) rest taking rows pending p s holds none =
    subst (λ q. whole_fault (walking rows pending idle q) (word ∷ rest) ≡ [] → Taken (end_of (walking rows pending idle q) (word ∷ rest)) (word ∷ rest) s) (sym holds.at)
    (λ fails. plain_next word is rest taking rows pending s s.positional refl holds.fair fails (plain_part word is rest)) none
ready_word the_dashes rest taking rows pending p s holds none = end_next rest taking rows pending p s holds none
ready_word the_flag rest taking rows pending p s holds none = flag_next rest taking rows pending p s holds none
ready_word conflicts_apart rest taking rows pending p s holds none = conflicts_then rest taking rows pending p s holds none
ready_word threads_apart rest taking rows pending p s holds none = threads_then rest taking rows pending p s holds none
ready_word (conflicts_with v) rest taking rows pending p s holds none = conflicts_now v rest taking rows pending p s holds none
ready_word (threads_with v) rest taking rows pending p s holds none = threads_now v rest taking rows pending p s holds none

pub taking : (args : List Text) → list_all is_known args ≡ true → Taking args
taking [] known = none_left
taking (word ∷ rest) known =
    let first = known_head word rest known in
    let others = taking rest (known_tail word rest known) in
    record {
      ready = ready_word first rest others;
      conflicts = conflicts_word first rest others;
      threads = threads_word first rest others;
      after = λ rows pending p s holds none.
          subst (λ q. whole_fault (trailing rows pending idle q) (word ∷ rest) ≡ [] → Ends (end_of (trailing rows pending idle q) (word ∷ rest)) (add_words s (word ∷ rest))) (sym holds.at)
          (λ fails. behind_next word rest others rows pending s s.positional refl holds.fair fails) none;
    }
