-- Rules are read line by line.
use Rattle.std.proofs.Common.{◌≡◌, ℕ, ◌+◌, List, [], ◌∷◌, ◌++◌, length, Option, None, Some, append_assoc, length-append, refl, sym, ap, ◌∙◌, arith}
use Rattle.std.specs.Prelude.{true, false, MatchOption}
use Rattle.std.specs.Borrow.{Bor}
use Rattle.std.specs.List.{All, AllZip}
use Rattle.std.specs.Option.{option_copied}
use Rattle.std.proofs.lemmas.List.Elements.{All-cons, All-nil}
use Rattle.std.proofs.lemmas.Slice.Zip.{all_zipped_more}
use Rattle.protocol_rules.specs.declared.braces.Braces.{Braces}
use Rattle.protocol_rules.specs.declared.fault.RuleFault.{RuleFault}
use Rattle.protocol_rules.specs.declared.rule.Rule.{Rule}
use Rattle.protocol_rules.specs.Rule.{StatesRule, IsRuleFault}
use Rattle.protocol_rules.specs.Braces.{is_in_braces}
use Rattle.protocol_rules.specs.RuleLine.{RuleBody, bodies_in, body_in, body_start, rule_bodies}
use Rattle.protocol_rules.specs.Rules.{IsFirstRuleFault}
use Rattle.protocol_rules.specs.inner.FirstFault.{IsFaultAmong}
use Rattle.protocol_rules.specs.declared.fault.RuleFault.TheVariants.{Byte, TooLong, Syntax, NoMemory}
use Rattle.protocol_rules.proofs.PartLemmas.{lent_from, lent_is}

-- each body with a rule has one
pub ruled : (bodies : List RuleBody) (rules : List Rule) → AllZip StatesRule bodies rules → All (λ body. (rule : Rule) × StatesRule body rule) bodies
ruled [] rules each = All-nil (λ body. (rule : Rule) × StatesRule body rule)
ruled (body ∷ bodies) [] each = absurd each
ruled (body ∷ bodies) (rule ∷ rules) each =
    All-cons (λ b. (r : Rule) × StatesRule b r) body bodies (rule, each.0) (ruled bodies rules each.1)

-- the rules so far are those of the bodies before the ones that are left
pub record AreRead (bodies left : List RuleBody) (rules : List Rule) : Type 0 where
  pub done : List RuleBody
  pub parts : bodies ≡ done ++ left
  pub each : AllZip StatesRule done rules

-- the offset and the bytes that are left, if any, end with the text; else it is just past the end
abbrev pub IsPlaced : List ℕ → ℕ → Option (List ℕ) → Type 0
IsPlaced text offset None = offset ≡ length text + 1
IsPlaced text offset (Some bytes) = offset + length bytes ≡ length text

-- the next line has no rule
pub line_passed : (braces : List Braces) (text : List ℕ) (offset : ℕ) (line : List ℕ) (lines : List (List ℕ)) (rules : List Rule) → body_in braces offset line ≡ None → AreRead (rule_bodies braces text) (bodies_in braces offset (line ∷ lines)) rules → AreRead (rule_bodies braces text) (bodies_in braces (offset + (length line + 1)) lines) rules
line_passed braces text offset line lines rules none read = rw none at read

-- the next line has a rule
pub line_read : (braces : List Braces) (text : List ℕ) (offset : ℕ) (line : List ℕ) (lines : List (List ℕ)) (rules : List Rule) (body : RuleBody) (rule : Rule) → body_in braces offset line ≡ Some body → StatesRule body rule → AreRead (rule_bodies braces text) (bodies_in braces offset (line ∷ lines)) rules → AreRead (rule_bodies braces text) (bodies_in braces (offset + (length line + 1)) lines) (rules ++ rule ∷ [])
line_read braces text offset line lines rules body rule some is read =
    let now = rw some at read in
    let left = bodies_in braces (offset + (length line + 1)) lines in
    record {
      done = now.done ++ body ∷ [];
      parts = now.parts ∙ sym (append_assoc now.done (body ∷ []) left);
      each = all_zipped_more StatesRule now.done rules body rule now.each is;
    }

-- the next line has a rule that is refused
pub line_refused : (braces : List Braces) (text : List ℕ) (offset : ℕ) (line : List ℕ) (lines : List (List ℕ)) (rules : List Rule) (body : RuleBody) (fault : RuleFault) → body_in braces offset line ≡ Some body → IsRuleFault body fault → AreRead (rule_bodies braces text) (bodies_in braces offset (line ∷ lines)) rules → IsFirstRuleFault (rule_bodies braces text) fault
line_refused braces text offset line lines rules body fault some bad read =
    let now = rw some at read in
    record {
      before = now.done;
      bad = body;
      after = bodies_in braces (offset + (length line + 1)) lines;
      parts = now.parts;
      good = ruled now.done rules now.each;
      refused = bad;
    }

-- memory apart, that is the fault of the rules
pub fault_refused : (bodies : List RuleBody) (fault : RuleFault) → IsFirstRuleFault bodies fault → IsFaultAmong bodies fault
fault_refused bodies (Byte offset) first = first
fault_refused bodies (TooLong offset count) first = first
fault_refused bodies (Syntax offset) first = first
fault_refused bodies NoMemory first = tt

-- the next line begins behind the LF, or there is none
pub placed_next : (text : List ℕ) (offset : ℕ) (bytes line : List ℕ) (rest : Option (Bor (List ℕ))) → IsPlaced text offset (Some bytes) → MatchOption rest (bytes ≡ line) (λ r. bytes ≡ line ++ 10 ∷ r.now) → IsPlaced text (offset + (length line + 1)) (option_copied rest)
placed_next text offset bytes line None placed whole = let size = ap length whole in omega (arith, placed, size)
placed_next text offset bytes line (Some r) placed whole =
    let size = ap length whole in omega (arith, placed, size, length-append line (10 ∷ r.now))

-- a line between the braces with the mark has a rule
pub body_found : (braces : List Braces) (offset : ℕ) (line : List ℕ) (start : ℕ) → is_in_braces braces offset ≡ true → Some start ≡ body_start line → body_in braces offset line ≡ Some (record { offset = offset + start; text = lent_from start line })
body_found braces offset line start inside marked = rw (inside, sym marked, lent_is start line) refl

-- a line that begins outside has none
pub body_outside : (braces : List Braces) (offset : ℕ) (line : List ℕ) → is_in_braces braces offset ≡ false → body_in braces offset line ≡ None
body_outside braces offset line outside = rw outside refl

-- nor has a line without the mark
pub body_unmarked : (braces : List Braces) (offset : ℕ) (line : List ℕ) → is_in_braces braces offset ≡ true → None ≡ body_start line → body_in braces offset line ≡ None
body_unmarked braces offset line inside unmarked = rw (inside, sym unmarked) refl
