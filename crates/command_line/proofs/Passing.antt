-- Words that are read, and say nothing too often, do not fail.
use Rattle.std.proofs.Common.{◌≡◌, ◌≤◌, ◌++◌, ◌||◌, map, ℕ, Bool, true, false, cond, List, [], ◌∷◌, length, Some, None, refl, sym, ap, subst, ◌∙◌, arith, codes, length-append}
use Rattle.std.specs.List.{fold, list_all}
use Rattle.clap.specs.Walk.{Row, Text, Walk, idle, has_row, with_default, walked}
use Rattle.clap.specs.Kinds.{Kinds}
use Rattle.clap.specs.Faults.{turn_fault, defaults_fault, walk_fault}
use Rattle.command_line.specs.Argument.{Argument, Brief, Conflicts, Threads, Positional, begins_with_dash, is_dashed, IsAlone, BeginsWithArgument, alone, conflicts_next, threads_next, brief, conflicts_joined, threads_joined, positional, ReadsAs, nothing, the_end, next}
use Rattle.command_line.specs.Known.{is_known}
use Rattle.command_line.proofs.Known.{IsKnown, plain, the_dashes, the_flag, conflicts_apart, threads_apart, conflicts_with, threads_with, known_head, known_tail}
use Rattle.command_line.specs.ParsedArgs.{ParsedArgs, HasNoRepeats, add}
use Rattle.command_line.proofs.Rows.{Rows, flag_row, value_row, rest_of, no_row}
use Rattle.command_line.proofs.Rules.{rules, shape, brief_rule, conflicts_rule, threads_rule, command_rule, name_rule, tail_fault, whole_fault, no_fault, whole_next}
use Rattle.command_line.proofs.Steps
use Rattle.command_line.proofs.Steps.{Pending, held, walking, trailing, pending_fault, settled_by, plain_word_is}
use Rattle.command_line.proofs.Adding.{free_to, brief_to, with_brief, with_conflicts, with_threads, with_command, with_name}
use Rattle.command_line.proofs.ParseLemmas.{add_words, lean_before}
use Rattle.command_line.proofs.Taking.{place}

-- nothing that is pending fails, and the rows hold what is parsed
pub record Clean (rows : List Row) (pending : Pending) (p : ℕ) (s : ParsedArgs) : Type 0 where
  pub none : pending_fault rows pending ≡ []
  pub are : Rows (settled_by rows pending) s
  pub at : p ≡ place s.positional

-- ---- the end

either_none : (b : Bool) → cond b (let none : Kinds = [] in none) [] ≡ []
either_none true = refl
either_none false = refl

defaults_pass : (rows : List Row) → defaults_fault rows rules ≡ []
unfolding defaults_fault
defaults_pass rows =
    let one = with_default rows brief_rule in
    let two = with_default one conflicts_rule in
    let three = with_default two threads_rule in
    let four = with_default three command_rule in
    no_fault _ _ (either_none (has_row (codes "brief") rows || false))
    (no_fault _ _ (either_none (has_row (codes "conflicts") one || true))
    (no_fault _ _ (either_none (has_row (codes "threads") two || true))
    (no_fault _ _ (either_none (has_row (codes "command") three || true))
    (no_fault _ _ (either_none (has_row (codes "name") four || true)) refl))))

end_passes : (rows : List Row) (pending : Pending) → pending_fault rows pending ≡ [] → tail_fault (held rows pending) ≡ []
end_passes rows pending none = no_fault _ _ none (no_fault _ _ (defaults_pass (settled_by rows pending)) refl)

-- ---- one argument

-- what may be said once more was not said
no_brief : (s : ParsedArgs) → HasNoRepeats (add s Brief) → s.briefs ≡ 0
no_brief s lean = (let h = lean.briefs in omega arith)

empty : (xs : List Text) (x : Text) → length (xs ++ x ∷ []) ≤ 1 → xs ≡ []
empty [] x few = refl
empty (y ∷ ys) x few = absurd (omega (arith, few, length-append ys (x ∷ [])))

word_passes : (w after : Walk) (word : Text) (rest : List Text) → walked rules [] w word ≡ after → turn_fault shape [] w word ≡ [] → whole_fault after rest ≡ [] → whole_fault w (word ∷ rest) ≡ []
word_passes w after word rest is turn others = whole_next w after word rest is ∙ no_fault _ _ turn others

-- the arguments do not fail from any clean state from which they say nothing too often
abbrev pub Passing : List Text → List Argument → Type 0
Passing args parts = (rows : List Row) (pending : Pending) (p : ℕ) (s : ParsedArgs) → Clean rows pending p s → HasNoRepeats (fold add s parts) → whole_fault (walking rows pending idle p) args ≡ []

flag_passes : (rest : List Text) (parts : List Argument) → Passing rest parts → Passing (codes "--brief" ∷ rest) (Brief ∷ parts)
flag_passes rest parts passing rows pending p s clean lean =
    let now = settled_by rows pending in
    let zero_said = no_brief s (lean_before (add s Brief) parts lean) in
    let free = no_row (codes "brief") now (clean.are.brief ∙ ap flag_row zero_said) in
    let turn = Steps.brief_turn rows pending p ∙ no_fault _ _ (no_fault _ _ clean.none (brief_to now free)) refl in
    let more : Clean _ None p (add s Brief) = record { none = refl; are = with_brief now s clean.are zero_said free; at = clean.at } in
    word_passes _ _ (codes "--brief") rest (Steps.brief_walk rows pending p) turn (passing _ None p (add s Brief) more lean)

conflicts_pass : (v : Text) (rest : List Text) (parts : List Argument) → Passing rest parts → Passing ((codes "--conflicts=" ++ v) ∷ rest) (Conflicts v ∷ parts)
conflicts_pass v rest parts passing rows pending p s clean lean =
    let now = settled_by rows pending in
    let none_said = empty s.conflicts v (lean_before (add s (Conflicts v)) parts lean).conflicts in
    let free = no_row (codes "conflicts") now (clean.are.conflicts ∙ ap (value_row (codes "conflicts")) none_said) in
    let turn = Steps.conflicts_turn rows pending p v ∙ no_fault _ _ (no_fault _ _ clean.none (free_to conflicts_rule v now free)) refl in
    let more : Clean _ None p (add s (Conflicts v)) = record { none = refl; are = with_conflicts now s v clean.are none_said free; at = clean.at } in
    word_passes _ _ (codes "--conflicts=" ++ v) rest (Steps.conflicts_walk rows pending p v) turn (passing _ None p (add s (Conflicts v)) more lean)

threads_pass : (v : Text) (rest : List Text) (parts : List Argument) → Passing rest parts → Passing ((codes "--threads=" ++ v) ∷ rest) (Threads v ∷ parts)
threads_pass v rest parts passing rows pending p s clean lean =
    let now = settled_by rows pending in
    let none_said = empty s.threads v (lean_before (add s (Threads v)) parts lean).threads in
    let free = no_row (codes "threads") now (clean.are.threads ∙ ap (value_row (codes "threads")) none_said) in
    let turn = Steps.threads_turn rows pending p v ∙ no_fault _ _ (no_fault _ _ clean.none (free_to threads_rule v now free)) refl in
    let more : Clean _ None p (add s (Threads v)) = record { none = refl; are = with_threads now s v clean.are none_said free; at = clean.at } in
    word_passes _ _ (codes "--threads=" ++ v) rest (Steps.threads_walk rows pending p v) turn (passing _ None p (add s (Threads v)) more lean)

conflicts_apart_pass : (v : Text) → begins_with_dash v ≡ false → (rest : List Text) (parts : List Argument) → Passing rest parts → Passing (codes "--conflicts" ∷ v ∷ rest) (Conflicts v ∷ parts)
conflicts_apart_pass v is rest parts passing rows pending p s clean lean =
    let now = settled_by rows pending in
    let none_said = empty s.conflicts v (lean_before (add s (Conflicts v)) parts lean).conflicts in
    let free = no_row (codes "conflicts") now (clean.are.conflicts ∙ ap (value_row (codes "conflicts")) none_said) in
    let more : Clean now (Some (codes "conflicts", v ∷ [])) p (add s (Conflicts v)) = record { none = free_to conflicts_rule v now free; are = with_conflicts now s v clean.are none_said free; at = clean.at } in
    let plain = plain_word_is v is in
    let others = word_passes _ _ v rest (Steps.conflicts_value now p v plain) (Steps.value_turn now (codes "conflicts") p v plain) (passing now _ p (add s (Conflicts v)) more lean) in
    word_passes _ _ (codes "--conflicts") (v ∷ rest) (Steps.conflicts_waits rows pending p) (Steps.conflicts_waits_turn rows pending p ∙ no_fault _ _ clean.none refl) others

threads_apart_pass : (v : Text) → begins_with_dash v ≡ false → (rest : List Text) (parts : List Argument) → Passing rest parts → Passing (codes "--threads" ∷ v ∷ rest) (Threads v ∷ parts)
threads_apart_pass v is rest parts passing rows pending p s clean lean =
    let now = settled_by rows pending in
    let none_said = empty s.threads v (lean_before (add s (Threads v)) parts lean).threads in
    let free = no_row (codes "threads") now (clean.are.threads ∙ ap (value_row (codes "threads")) none_said) in
    let more : Clean now (Some (codes "threads", v ∷ [])) p (add s (Threads v)) = record { none = free_to threads_rule v now free; are = with_threads now s v clean.are none_said free; at = clean.at } in
    let plain = plain_word_is v is in
    let others = word_passes _ _ v rest (Steps.threads_value now p v plain) (Steps.value_turn now (codes "threads") p v plain) (passing now _ p (add s (Threads v)) more lean) in
    word_passes _ _ (codes "--threads") (v ∷ rest) (Steps.threads_waits rows pending p) (Steps.threads_waits_turn rows pending p ∙ no_fault _ _ clean.none refl) others

-- ---- a positional argument

command_clean : (rows : List Row) (s : ParsedArgs) (word : Text) → Rows rows s → s.positional ≡ [] → Clean rows (Some (codes "command", word ∷ [])) 2 (add s (Positional word))
command_clean rows s word are none =
    let free = no_row (codes "command") rows (are.command ∙ ap (value_row (codes "command")) none) in
    record { none = free_to command_rule word rows free; are = with_command rows s word are none free; at = sym (ap (λ ws. place (ws ++ word ∷ [])) none) }

name_clean : (rows : List Row) (s : ParsedArgs) (first word : Text) → Rows rows s → s.positional ≡ first ∷ [] → Clean rows (Some (codes "name", word ∷ [])) 3 (add s (Positional word))
name_clean rows s first word are one =
    let free = no_row (codes "name") rows (are.name ∙ ap (λ ws. value_row (codes "name") (rest_of ws)) one) in
    record { none = free_to name_rule word rows free; are = with_name rows s first word are one free; at = sym (ap (λ ws. place (ws ++ word ∷ [])) one) }

too_many : (s : ParsedArgs) (x y : Text) (xs : List Text) (word : Text) → s.positional ≡ x ∷ y ∷ xs → HasNoRepeats (add s (Positional word)) → ⊥
too_many s x y xs word e lean = (let few = lean.positional in let size = ap length e in omega (arith, few, size, length-append s.positional (word ∷ [])))

plain_passes : (word : Text) → begins_with_dash word ≡ false → (rest : List Text) (parts : List Argument) → Passing rest parts → (rows : List Row) (pending : Pending) (s : ParsedArgs) (ws : List Text) → s.positional ≡ ws → pending_fault rows pending ≡ [] → Rows (settled_by rows pending) s
    → HasNoRepeats (fold add (add s (Positional word)) parts) → whole_fault (walking rows pending idle (place ws)) (word ∷ rest) ≡ []
plain_passes word is rest parts passing rows pending s [] e none are lean =
    let plain = plain_word_is word is in
    word_passes _ _ word rest (Steps.plain_walk rows pending 1 word plain ∙ Steps.command_held rows pending idle word) (Steps.plain_turn rows pending 1 word plain ∙ Steps.command_step rows pending ∙ none)
    (passing _ _ 2 (add s (Positional word)) (command_clean (settled_by rows pending) s word are e) lean)
plain_passes word is rest parts passing rows pending s (x ∷ []) e none are lean =
    let plain = plain_word_is word is in
    word_passes _ _ word rest (Steps.plain_walk rows pending 2 word plain ∙ Steps.name_held rows pending idle word) (Steps.plain_turn rows pending 2 word plain ∙ Steps.name_step rows pending ∙ none)
    (passing _ _ 3 (add s (Positional word)) (name_clean (settled_by rows pending) s x word are e) lean)
plain_passes word is rest parts passing rows pending s (x ∷ y ∷ xs) e none are lean = absurd (too_many s x y xs word e (lean_before (add s (Positional word)) parts lean))

behind_passes : (args : List Text) (rows : List Row) (pending : Pending) (s : ParsedArgs) (ws : List Text) → s.positional ≡ ws → pending_fault rows pending ≡ [] → Rows (settled_by rows pending) s → HasNoRepeats (add_words s args) → whole_fault (trailing rows pending idle (place ws)) args ≡ []
unfolding walk_fault
behind_passes [] rows pending s ws e none are lean = end_passes rows pending none
behind_passes (word ∷ rest) rows pending s [] e none are lean =
    let more = command_clean (settled_by rows pending) s word are e in
    word_passes _ _ word rest (Steps.trailing_walk rows pending idle 1 word ∙ Steps.command_trails rows pending idle word) (Steps.trailing_turn rows pending idle 1 word ∙ Steps.command_step rows pending ∙ none)
    (behind_passes rest (settled_by rows pending) _ (add s (Positional word)) (word ∷ []) (ap (λ ws. ws ++ word ∷ []) e) more.none more.are lean)
behind_passes (word ∷ rest) rows pending s (x ∷ []) e none are lean =
    let more = name_clean (settled_by rows pending) s x word are e in
    word_passes _ _ word rest (Steps.trailing_walk rows pending idle 2 word ∙ Steps.name_trails rows pending idle word) (Steps.trailing_turn rows pending idle 2 word ∙ Steps.name_step rows pending ∙ none)
    (behind_passes rest (settled_by rows pending) _ (add s (Positional word)) (x ∷ word ∷ []) (ap (λ ws. ws ++ word ∷ []) e) more.none more.are lean)
behind_passes (word ∷ rest) rows pending s (x ∷ y ∷ xs) e none are lean = absurd (too_many s x y xs word e (lean_words (add s (Positional word)) rest lean))
  where
    lean_words : (t : ParsedArgs) (others : List Text) → HasNoRepeats (add_words t others) → HasNoRepeats t
    lean_words t others l = lean_before t (map Positional others) l

-- ---- all arguments

-- an argument that may stand there and is no option does not begin with `-`
no_dash : {word : Text} → IsKnown word → is_dashed word ≡ false → begins_with_dash word ≡ false
no_dash (plain word is) other = is
no_dash the_dashes other = absurd (let bad : true ≡ false = other in cc)
no_dash the_flag other = absurd (let bad : true ≡ false = other in cc)
no_dash conflicts_apart other = absurd (let bad : true ≡ false = other in cc)
no_dash threads_apart other = absurd (let bad : true ≡ false = other in cc)
no_dash (conflicts_with v) other = absurd (let bad : true ≡ false = other in cc)
no_dash (threads_with v) other = absurd (let bad : true ≡ false = other in cc)

alone_passes : {word : Text} {part : Argument} → IsAlone word part → IsKnown word → (rest : List Text) (parts : List Argument) → Passing rest parts → Passing (word ∷ rest) (part ∷ parts)
alone_passes brief known rest parts passing = flag_passes rest parts passing
alone_passes (conflicts_joined v) known rest parts passing = conflicts_pass v rest parts passing
alone_passes (threads_joined v) known rest parts passing = threads_pass v rest parts passing
alone_passes (positional word other) known rest parts passing = λ rows pending p s clean lean.
    subst (λ q. whole_fault (walking rows pending idle q) (word ∷ rest) ≡ []) (sym clean.at) (plain_passes word (no_dash known other) rest parts passing rows pending s s.positional refl clean.none clean.are lean)

part_passes : {args : List Text} {part : Argument} {left : List Text} → BeginsWithArgument args part left → list_all is_known args ≡ true → (parts : List Argument) → (list_all is_known left ≡ true → Passing left parts) → Passing args (part ∷ parts)
part_passes (alone word part rest is) known parts passing = alone_passes is (known_head word rest known) rest parts (passing (known_tail word rest known))
part_passes (conflicts_next v rest is) known parts passing = conflicts_apart_pass v is rest parts (passing (known_tail v rest (known_tail (codes "--conflicts") (v ∷ rest) known)))
part_passes (threads_next v rest is) known parts passing = threads_apart_pass v is rest parts (passing (known_tail v rest (known_tail (codes "--threads") (v ∷ rest) known)))

pub words_pass : {args : List Text} {parts : List Argument} → ReadsAs args parts → list_all is_known args ≡ true → Passing args parts
unfolding walk_fault
words_pass nothing known = λ rows pending p s clean lean. end_passes rows pending clean.none
words_pass (the_end rest) known = λ rows pending p s clean lean.
    let others = subst (λ q. whole_fault (trailing rows pending idle q) rest ≡ []) (sym clean.at) (behind_passes rest rows pending s s.positional refl clean.none clean.are lean) in
    word_passes _ _ (codes "--") rest (Steps.end_walk rows pending p idle) (Steps.end_turn rows pending p idle) others
words_pass (next args part rest parts begins reads) known = part_passes begins known parts (λ k. words_pass reads k)
