-- Which arguments are picked, and what they set.
use Rattle.std.proofs.Common.{◌≡◌, ℕ, ◌≤◌, Bool, Bor, List, [], ◌∷◌, length, map, drop, get_or, Err, refl, sym, ap, ◌∙◌, arith}
use Rattle.list_base.specs.Numeral.{numeral}
use Rattle.list_base.proofs.Numerals.{same_from_numeral}
use Rattle.text_lines.specs.Decimal.{IsReadUpTo}
use Rattle.text_lines.specs.declared.decimal.DecimalError.{DecimalError}
use Rattle.text_lines.specs.declared.decimal.DecimalError.TheVariants.{Form, TooLarge}
use Rattle.ask_commands.specs.declared.arguments.Flags.{Flags}
use Rattle.ask_commands.specs.AskArguments.{AreByKind, ByKind, IsSwitch, SetsConflicts, SetsFlags, WritesBudget}

-- a text that is not read is no budget
pub not_read : (text : List ℕ) (e : DecimalError) → IsReadUpTo 20000 text (Err e) → (n : ℕ) → ¬ WritesBudget text n
not_read text Form none n is = none n is.as_numeral
not_read text TooLarge read n is =
    let same = same_from_numeral read.0 n (sym read.1 ∙ is.as_numeral) in
    let above = read.2 in
    let within = is.allowed.most in
    omega (arith, same, above, within)

-- nor is 0
pub zero_read : (text : List ℕ) (value : ℕ) → text ≡ numeral value → value ≤ 0 → (n : ℕ) → ¬ WritesBudget text n
zero_read text value read none n is =
    let same = same_from_numeral value n (sym read ∙ is.as_numeral) in
    let some = is.allowed.least in
    omega (arith, same, none, some)

-- one budget is set at most
pub one_budget : (args : List (List ℕ)) (n m : ℕ) → SetsConflicts args n → SetsConflicts args m → n ≡ m
one_budget [] n m one other = one ∙ sym other
one_budget (joined ∷ []) n m (text, whole, is) (text', whole', is') =
    let same : text ≡ text' = ap (drop 12) (sym whole ∙ whole') in
    same_from_numeral n m (sym is.as_numeral ∙ same ∙ is'.as_numeral)
one_budget (option ∷ text ∷ []) n m (whole, is) (whole', is') = same_from_numeral n m (sym is.as_numeral ∙ is'.as_numeral)
one_budget (option ∷ text ∷ other ∷ args) n m one also = absurd one

-- a flag is set one way
pub one_flag : (flags : List (List ℕ)) (on other : Bool) → IsSwitch flags on → IsSwitch flags other → on ≡ other
one_flag [] on other one also = one ∙ sym also
one_flag (flag ∷ []) on other one also = one ∙ sym also
one_flag (flag ∷ again ∷ flags) on other one also = absurd one

-- so are all
one_flags : (args : List (List ℕ)) (f g : Flags) → SetsFlags args f → SetsFlags args g → f ≡ g
one_flags args f g one other =
    let brief = one_flag _ f.brief g.brief one.brief other.brief in
    let check = one_flag _ f.check g.check one.check other.check in
    let all = one_flag _ f.all g.all one.all other.all in
    λ i. record { brief = brief i; check = check i; all = all i }

-- arguments are by their kinds in one way
pub one_sorting : (args : List (List ℕ)) (a b : ByKind) → AreByKind args a → AreByKind args b → a ≡ b
one_sorting args a b one other =
    let flags = one_flags args a.flags b.flags one.flags other.flags in
    let settings : a.settings ≡ b.settings = one.settings ∙ sym other.settings in
    let plain : a.plain ≡ b.plain = one.plain ∙ sym other.plain in
    λ i. record { flags = flags i; settings = settings i; plain = plain i }

-- the bytes of arguments that are lent
abbrev pub bytes_of : List (Bor (List ℕ)) → List (List ℕ)
bytes_of args = map (λ (arg : Bor (List ℕ)). arg.now) args

-- a list of one argument
pub one_value : (args : List (Bor (List ℕ))) (d : Bor (List ℕ)) → length args ≡ 1 → bytes_of args ≡ (get_or args 0 d).now ∷ []
one_value [] d is = absurd (omega (arith, is))
one_value (arg ∷ []) d is = refl
one_value (arg ∷ next ∷ args) d is = absurd (omega (arith, is))

-- no argument at all
pub no_value : (args : List (Bor (List ℕ))) → bytes_of args ≡ [] → args ≡ []
no_value [] is = refl
no_value (arg ∷ args) is = absurd (cc)
