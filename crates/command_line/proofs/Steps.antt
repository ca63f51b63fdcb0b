-- What one argument does to a walk.
use Rattle.std.proofs.Common.{◌≡◌, ◌≢◌, ◌++◌, ◌&&◌, ℕ, Bool, true, false, List, [], ◌∷◌, Option, Some, None, refl, ap, ◌∙◌, codes}
use Rattle.std.specs.Str.{bytes_eq}
use Rattle.clap.specs.Lexer.{long_of, short_of}
use Rattle.clap.specs.Walk.{Held, Row, Text, Walk, Waiting, idle, option, positional, value, settled_rows, walked, word_met, plain_word, after_step, used}
use Rattle.clap.specs.Kinds.{Kinds, or_else}
use Rattle.clap.specs.Faults.{settle_fault, use_fault, turn_fault, word_fault, step_fault, stray_fault}
use Rattle.command_line.specs.Argument.{begins_with_dash}
use Rattle.command_line.proofs.Rules.{rules, shape, brief_rule, conflicts_rule, threads_rule}

-- what is held between two arguments
abbrev pub Pending : Type 0
Pending = Option (Text × List Text)

abbrev pub held : List Row → Pending → Held
held rows pending = record { rows = rows; pending = pending; skip = 0 }

-- a walk before `--`, and one after it
abbrev pub walking : List Row → Pending → Waiting → ℕ → Walk
walking rows pending waiting p = record { held = held rows pending; waiting = waiting; position = p; is_trailing = false; stopped = None }

abbrev pub trailing : List Row → Pending → Waiting → ℕ → Walk
trailing rows pending waiting p = record { held = held rows pending; waiting = waiting; position = p; is_trailing = true; stopped = None }

-- what is pending fails
abbrev pub pending_fault : List Row → Pending → Kinds
pending_fault rows pending = settle_fault rules false (held rows pending)

-- the rows when what is pending is used
abbrev pub settled_by : List Row → Pending → List Row
settled_by rows pending = settled_rows rules pending rows

-- ---- options

module _ (rows : List Row) (pending : Pending) (p : ℕ) where
  pub brief_walk : walked rules [] (walking rows pending idle p) (codes "--brief") ≡ walking (used brief_rule [] (settled_by rows pending)) None idle p
  unfolding walked
  brief_walk = refl

  pub brief_turn : turn_fault shape [] (walking rows pending idle p) (codes "--brief") ≡ or_else (or_else (pending_fault rows pending) (use_fault false brief_rule [] (settled_by rows pending))) []
  brief_turn = refl

  pub conflicts_walk : (v : Text) → walked rules [] (walking rows pending idle p) (codes "--conflicts=" ++ v) ≡ walking (used conflicts_rule (v ∷ []) (settled_by rows pending)) None idle p
  unfolding walked
  conflicts_walk v = refl

  pub conflicts_turn : (v : Text) → turn_fault shape [] (walking rows pending idle p) (codes "--conflicts=" ++ v) ≡ or_else (or_else (pending_fault rows pending) (use_fault false conflicts_rule (v ∷ []) (settled_by rows pending))) []
  conflicts_turn v = refl

  pub threads_walk : (v : Text) → walked rules [] (walking rows pending idle p) (codes "--threads=" ++ v) ≡ walking (used threads_rule (v ∷ []) (settled_by rows pending)) None idle p
  unfolding walked
  threads_walk v = refl

  pub threads_turn : (v : Text) → turn_fault shape [] (walking rows pending idle p) (codes "--threads=" ++ v) ≡ or_else (or_else (pending_fault rows pending) (use_fault false threads_rule (v ∷ []) (settled_by rows pending))) []
  threads_turn v = refl

  pub conflicts_waits : walked rules [] (walking rows pending idle p) (codes "--conflicts") ≡ walking (settled_by rows pending) (Some (codes "conflicts", [])) (option (codes "conflicts")) p
  unfolding walked
  conflicts_waits = refl

  pub conflicts_waits_turn : turn_fault shape [] (walking rows pending idle p) (codes "--conflicts") ≡ or_else (pending_fault rows pending) []
  conflicts_waits_turn = refl

  pub threads_waits : walked rules [] (walking rows pending idle p) (codes "--threads") ≡ walking (settled_by rows pending) (Some (codes "threads", [])) (option (codes "threads")) p
  unfolding walked
  threads_waits = refl

  pub threads_waits_turn : turn_fault shape [] (walking rows pending idle p) (codes "--threads") ≡ or_else (pending_fault rows pending) []
  threads_waits_turn = refl

  pub end_walk : (waiting : Waiting) → walked rules [] (walking rows pending waiting p) (codes "--") ≡ trailing rows pending waiting p
  unfolding walked
  end_walk idle = refl
  end_walk (option id) = refl
  end_walk positional = refl

  pub end_turn : (waiting : Waiting) → turn_fault shape [] (walking rows pending waiting p) (codes "--") ≡ []
  end_turn idle = refl
  end_turn (option id) = refl
  end_turn positional = refl

-- ---- arguments that do not begin with `-`

-- such an argument is no flag
pub record IsPlain (word : Text) : Type 0 where
  pub no_end : bytes_eq word (45 ∷ 45 ∷ []) ≡ false
  pub no_long : long_of word ≡ None
  pub no_short : short_of word ≡ None

pub plain_word_is : (word : Text) → begins_with_dash word ≡ false → IsPlain word
plain_word_is [] plain = record { no_end = refl; no_long = refl; no_short = refl }
plain_word_is (b ∷ rest) plain = record { no_end = rw plain refl; no_long = rw plain refl; no_short = rw plain refl }

-- what it is before it goes to a positional, and to an option that waits
plain_met : (rows : List Row) (pending : Pending) (p : ℕ) (word : Text) → IsPlain word → word_met rules [] false idle p word (held rows pending) ≡ (held rows pending, value)
plain_met rows pending p word plain =
    let no_end = plain.no_end in
    let no_long = plain.no_long in
    let no_short = plain.no_short in
    rw (no_end, no_long, no_short) refl

plain_fault : (rows : List Row) (pending : Pending) (word : Text) (waiting : Waiting) → IsPlain word → waiting ≢ positional → word_fault shape [] false waiting word (held rows pending) ≡ []
plain_fault rows pending word idle plain other =
    let no_end = plain.no_end in
    let no_long = plain.no_long in
    let no_short = plain.no_short in
    rw (no_end, no_long, no_short) refl
plain_fault rows pending word (option id) plain other =
    let no_end = plain.no_end in
    let no_long = plain.no_long in
    let no_short = plain.no_short in
    rw (no_end, no_long, no_short) refl
plain_fault rows pending word positional plain other = absurd (other refl)

never : (b : Bool) → (b && false) ≡ false
never true = refl
never false = refl

-- a walk before `--` at an argument that goes to a positional is as one after it
pub plain_walk : (rows : List Row) (pending : Pending) (p : ℕ) (word : Text) → IsPlain word → walked rules [] (walking rows pending idle p) word ≡ after_step rules word (walking rows pending idle p) (held rows pending) value
unfolding walked
plain_walk rows pending p word plain = ap (λ met. after_step rules word (walking rows pending idle p) met.0 met.1) (plain_met rows pending p word plain)

pub plain_turn : (rows : List Row) (pending : Pending) (p : ℕ) (word : Text) → IsPlain word → turn_fault shape [] (walking rows pending idle p) word ≡ step_fault shape p (held rows pending) value
plain_turn rows pending p word plain =
    ap (λ met. or_else (word_fault shape [] false idle word (held rows pending)) (step_fault shape p met.0 met.1)) (plain_met rows pending p word plain)
    ∙ ap (λ k. or_else k (step_fault shape p (held rows pending) value)) (plain_fault rows pending word idle plain (λ e. absurd (cc)))

pub trailing_walk : (rows : List Row) (pending : Pending) (waiting : Waiting) (p : ℕ) (word : Text) → walked rules [] (trailing rows pending waiting p) word ≡ after_step rules word (trailing rows pending waiting p) (held rows pending) value
unfolding walked
trailing_walk rows pending waiting p word = refl

pub trailing_turn : (rows : List Row) (pending : Pending) (waiting : Waiting) (p : ℕ) (word : Text) → turn_fault shape [] (trailing rows pending waiting p) word ≡ step_fault shape p (held rows pending) value
trailing_turn rows pending waiting p word = refl

-- the first positional argument is the command, the second the name, and there is no third
pub command_step : (rows : List Row) (pending : Pending) → step_fault shape 1 (held rows pending) value ≡ pending_fault rows pending
command_step rows pending = rw never refl

pub name_step : (rows : List Row) (pending : Pending) → step_fault shape 2 (held rows pending) value ≡ pending_fault rows pending
name_step rows pending = rw never refl

pub third_step : (rows : List Row) (pending : Pending) → step_fault shape 3 (held rows pending) value ≡ stray_fault shape
third_step rows pending = refl

pub command_held : (rows : List Row) (pending : Pending) (waiting : Waiting) (word : Text) → after_step rules word (walking rows pending waiting 1) (held rows pending) value ≡ walking (settled_by rows pending) (Some (codes "command", word ∷ [])) idle 2
command_held rows pending waiting word = rw never refl

pub name_held : (rows : List Row) (pending : Pending) (waiting : Waiting) (word : Text) → after_step rules word (walking rows pending waiting 2) (held rows pending) value ≡ walking (settled_by rows pending) (Some (codes "name", word ∷ [])) idle 3
name_held rows pending waiting word = rw never refl

pub command_trails : (rows : List Row) (pending : Pending) (waiting : Waiting) (word : Text) → after_step rules word (trailing rows pending waiting 1) (held rows pending) value ≡ trailing (settled_by rows pending) (Some (codes "command", word ∷ [])) idle 2
command_trails rows pending waiting word = rw never refl

pub name_trails : (rows : List Row) (pending : Pending) (waiting : Waiting) (word : Text) → after_step rules word (trailing rows pending waiting 2) (held rows pending) value ≡ trailing (settled_by rows pending) (Some (codes "name", word ∷ [])) idle 3
name_trails rows pending waiting word = rw never refl

-- ---- the value of an option that waits

value_met : (rows : List Row) (id : Text) (p : ℕ) (word : Text) → IsPlain word → word_met rules [] false (option id) p word (held rows (Some (id, []))) ≡ plain_word rules (option id) word (held rows (Some (id, [])))
value_met rows id p word plain =
    let no_end = plain.no_end in
    let no_long = plain.no_long in
    let no_short = plain.no_short in
    rw (no_end, no_long, no_short) refl

pub conflicts_value : (rows : List Row) (p : ℕ) (word : Text) → IsPlain word → walked rules [] (walking rows (Some (codes "conflicts", [])) (option (codes "conflicts")) p) word ≡ walking rows (Some (codes "conflicts", word ∷ [])) idle p
unfolding walked
conflicts_value rows p word plain = ap (λ met. after_step rules word (walking rows (Some (codes "conflicts", [])) (option (codes "conflicts")) p) met.0 met.1) (value_met rows (codes "conflicts") p word plain)

pub threads_value : (rows : List Row) (p : ℕ) (word : Text) → IsPlain word → walked rules [] (walking rows (Some (codes "threads", [])) (option (codes "threads")) p) word ≡ walking rows (Some (codes "threads", word ∷ [])) idle p
unfolding walked
threads_value rows p word plain = ap (λ met. after_step rules word (walking rows (Some (codes "threads", [])) (option (codes "threads")) p) met.0 met.1) (value_met rows (codes "threads") p word plain)

pub value_turn : (rows : List Row) (id : Text) (p : ℕ) (word : Text) → IsPlain word → turn_fault shape [] (walking rows (Some (id, [])) (option id) p) word ≡ []
value_turn rows id p word plain =
    ap (λ met. or_else (word_fault shape [] false (option id) word (held rows (Some (id, [])))) (step_fault shape p met.0 met.1)) (value_met rows id p word plain)
    ∙ ap (λ k. or_else k []) (plain_fault rows (Some (id, [])) word (option id) plain (λ e. absurd (cc)))
