-- A line of the table says one thing.
use Rattle.std.proofs.Common.{◌≡◌, ℕ, map, arith}
use Rattle.std.specs.Fmt.{decimal}
use Rattle.bspl_types.specs.ValueSpelling.{ValuesAreSpelledOnce, value_spelling}
use Rattle.agent_scripts.specs.Table.{LineForm, Set, Key, Order, Decline, Bind, written, setting_word, every_fields, rule_fields, IsInTable}
use Rattle.script_text.proofs.OneSpelling.{one_every, one_number, one_rule, same_values, setting_small}
use Rattle.script_text.proofs.OneWord.{one_kind, one_setting}

-- phrases that are written alike are one
pub one_form : ValuesAreSpelledOnce → (keys : ℕ) (p q : LineForm) → IsInTable keys p → IsInTable keys q → written p ≡ written q → p ≡ q
one_form once keys (Set s m) (Set t n) has also same =
    let words : setting_word s ≡ setting_word t = cc in
    let spelled : decimal m ≡ decimal n = cc in
    let setting = one_setting s t words in
    let number = one_number once m n (setting_small s m has) (setting_small t n also) spelled in
    cc
one_form once keys (Key vs) (Key ws) has also same =
    let spelled : map value_spelling vs ≡ map value_spelling ws = cc in
    let values = same_values once vs ws has.1 also.1 spelled in
    cc
one_form once keys (Order role ms) (Order other ns) has also same = cc
one_form once keys (Decline m e) (Decline n f) has also same =
    let fields : every_fields e ≡ every_fields f = cc in
    let every = one_every once e f has also fields in
    cc
one_form once keys (Bind m p r) (Bind n q t) has also same =
    let fields : rule_fields r ≡ rule_fields t = cc in
    let rule = one_rule once r t has also fields in
    cc
one_form once keys p q has also same = absurd (omega (arith, one_kind p q same))
