-- What the fields after the words of a line spell.
use Rattle.std.proofs.Common.{◌≡◌, ℕ, ◌<◌, ◌^◌, List, [], ◌∷◌, map, Option, Some, None, refl, arith}
use Rattle.std.specs.Fmt.{decimal}
use Rattle.std.specs.List.{All}
use Rattle.std.proofs.lemmas.List.Elements.{All-head, All-tail}
use Rattle.bspl_types.specs.declared.value.Value.{Value}
use Rattle.bspl_types.specs.declared.value.Value.TheVariants.{Number, Text}
use Rattle.bspl_types.specs.Value.{IsValue}
use Rattle.bspl_types.specs.ValueSpelling.{ValuesAreSpelledOnce, value_spelling}
use Rattle.agent_scripts.specs.declared.statement.Rule.{Rule}
use Rattle.agent_scripts.specs.declared.statement.Rule.TheVariants.{Linear, Fixed}
use Rattle.agent_scripts.specs.declared.statement.Setting.{Setting}
use Rattle.agent_scripts.specs.declared.statement.Setting.TheVariants as settings
use Rattle.agent_scripts.specs.Table.{IsEvery, IsRule, IsSetting, every_fields, rule_fields}

-- numbers of one spelling are one
pub one_number : ValuesAreSpelledOnce → (m n : ℕ) → m < 2 ^ 64 → n < 2 ^ 64 → decimal m ≡ decimal n → m ≡ n
one_number once m n small also same =
    let one : Number m ≡ Number n = once (Number m) (Number n) small also same in
    cc

-- the number of a setting has 64 bits
pub setting_small : (s : Setting) (n : ℕ) → IsSetting s n → n < 2 ^ 64
setting_small settings.Keys n has = omega (arith, has.1)
setting_small settings.Seed n has = has
setting_small settings.Loss n has = omega arith
setting_small settings.Repeat n has = omega arith

-- values of one spelling are one, list by list
pub same_values : ValuesAreSpelledOnce → (vs ws : List Value) → All IsValue vs → All IsValue ws → map value_spelling vs ≡ map value_spelling ws → vs ≡ ws
same_values once [] [] good also same = refl
same_values once [] (w ∷ ws) good also same = absurd (cc)
same_values once (v ∷ vs) [] good also same = absurd (cc)
same_values once (v ∷ vs) (w ∷ ws) good also same =
    let first : value_spelling v ≡ value_spelling w = cc in
    let rest : map value_spelling vs ≡ map value_spelling ws = cc in
    let one : v ≡ w = once v w (All-head IsValue v vs good) (All-head IsValue w ws also) first in
    let others : vs ≡ ws = same_values once vs ws (All-tail IsValue v vs good) (All-tail IsValue w ws also) rest in
    cc

-- the numbers at which a message is declined are spelled once
pub one_every : ValuesAreSpelledOnce → (e f : Option ℕ) → IsEvery e → IsEvery f → every_fields e ≡ every_fields f → e ≡ f
one_every once None None has also same = refl
one_every once None (Some n) has also same = absurd (cc)
one_every once (Some m) None has also same = absurd (cc)
one_every once (Some m) (Some n) has also same =
    let spelled : decimal m ≡ decimal n = cc in
    let one : m ≡ n = one_number once m n has.1 also.1 spelled in
    cc

-- and so are rules
pub one_rule : ValuesAreSpelledOnce → (r q : Rule) → IsRule r → IsRule q → rule_fields r ≡ rule_fields q → r ≡ q
one_rule once (Linear a b) (Linear c d) has also same =
    let factors : decimal a ≡ decimal c = cc in
    let offsets : decimal b ≡ decimal d = cc in
    let factor : a ≡ c = one_number once a c has.0 also.0 factors in
    let offset : b ≡ d = one_number once b d has.1 also.1 offsets in
    cc
one_rule once (Linear a b) (Fixed text) has also same = absurd (cc)
one_rule once (Fixed text) (Linear a b) has also same = absurd (cc)
one_rule once (Fixed text) (Fixed other) has also same =
    let spelled : value_spelling (Text text) ≡ value_spelling (Text other) = cc in
    let one : Text text ≡ Text other = once (Text text) (Text other) has also spelled in
    cc
