-- Which lines begin with which word.
use Rattle.std.proofs.Common.{◌≡◌, ℕ, ◌<◌, List, [], ◌∷◌, length, map, codes, Option, refl, sym, ◌∙◌}
use Rattle.std.specs.Prelude.{false}
use Rattle.std.specs.List.{All}
use Rattle.std.specs.Str.{bytes_eq}
use Rattle.std.proofs.lemmas.Bool.{true≢false}
use Rattle.std.proofs.lemmas.Slice.Eq.{bytes_eq-Decides}
use Rattle.bspl_types.specs.declared.value.Value.{Value}
use Rattle.bspl_types.specs.Value.{IsValue}
use Rattle.bspl_types.specs.ValueSpelling.{value_spelling}
use Rattle.bspl_types.specs.declared.expanded.Expanded.{Expanded}
use Rattle.std.specs.Fmt.{decimal}
use Rattle.agent_scripts.specs.declared.statement.Rule.{Rule}
use Rattle.agent_scripts.specs.declared.statement.Setting.{Setting}
use Rattle.agent_scripts.specs.declared.statement.Setting.TheVariants as settings
use Rattle.agent_scripts.specs.declared.statement.Statement.{Statement}
use Rattle.agent_scripts.specs.Statement.{HasLineForm, Means, line_form}
use Rattle.agent_scripts.specs.Table.{LineForm, Set, Key, Order, Decline, Bind, written, setting_word, every_fields, rule_fields, IsInTable, IsSetting, IsEvery, IsRule}
use Rattle.text_lines.specs.Fields.{Field}

-- what stands after the word of a setting
pub record FormsSetting (setting : Setting) (fields : List Field) : Type 0 where
  pub number : ℕ
  pub has : IsSetting setting number
  pub fields_are : fields ≡ decimal number ∷ []

-- after `key`
pub record FormsKey (width : ℕ) (fields : List Field) : Type 0 where
  pub values : List Value
  pub whole : length values ≡ width
  pub good : All IsValue values
  pub fields_are : fields ≡ map value_spelling values

-- after `decline`
pub record FormsDecline (fields : List Field) : Type 0 where
  pub message : Field
  pub every : Option ℕ
  pub has : IsEvery every
  pub fields_are : fields ≡ message ∷ every_fields every

-- after `order`
pub record FormsOrder (fields : List Field) : Type 0 where
  pub role : Field
  pub messages : List Field
  pub some : 0 < length messages
  pub fields_are : fields ≡ role ∷ messages

-- after `value`
pub record FormsValue (fields : List Field) : Type 0 where
  pub message : Field
  pub param : Field
  pub rule : Rule
  pub has : IsRule rule
  pub fields_are : fields ≡ message ∷ param ∷ rule_fields rule

-- two words that the test tells apart differ
pub words_differ : (a b : Field) → bytes_eq a b ≡ false → a ≡ b → ⊥
words_differ a b test same = true≢false (sym ((bytes_eq-Decides a b).1 same) ∙ test)

-- two settings of one word are one
pub one_setting : (s t : Setting) → setting_word s ≡ setting_word t → s ≡ t
one_setting settings.Keys settings.Keys same = refl
one_setting settings.Seed settings.Seed same = refl
one_setting settings.Loss settings.Loss same = refl
one_setting settings.Repeat settings.Repeat same = refl
one_setting settings.Keys settings.Seed same = absurd (words_differ (codes "keys") (codes "seed") refl same)
one_setting settings.Keys settings.Loss same = absurd (words_differ (codes "keys") (codes "loss") refl same)
one_setting settings.Keys settings.Repeat same = absurd (words_differ (codes "keys") (codes "repeat") refl same)
one_setting settings.Seed settings.Keys same = absurd (words_differ (codes "seed") (codes "keys") refl same)
one_setting settings.Seed settings.Loss same = absurd (words_differ (codes "seed") (codes "loss") refl same)
one_setting settings.Seed settings.Repeat same = absurd (words_differ (codes "seed") (codes "repeat") refl same)
one_setting settings.Loss settings.Keys same = absurd (words_differ (codes "loss") (codes "keys") refl same)
one_setting settings.Loss settings.Seed same = absurd (words_differ (codes "loss") (codes "seed") refl same)
one_setting settings.Loss settings.Repeat same = absurd (words_differ (codes "loss") (codes "repeat") refl same)
one_setting settings.Repeat settings.Keys same = absurd (words_differ (codes "repeat") (codes "keys") refl same)
one_setting settings.Repeat settings.Seed same = absurd (words_differ (codes "repeat") (codes "seed") refl same)
one_setting settings.Repeat settings.Loss same = absurd (words_differ (codes "repeat") (codes "loss") refl same)

-- a word of a setting is none of the others
abbrev pub IsOther : Field → Type 0
IsOther word = (s : Setting) → setting_word s ≡ word → ⊥

pub key_is_other : IsOther (codes "key")
key_is_other settings.Keys same = absurd (words_differ (codes "keys") (codes "key") refl same)
key_is_other settings.Seed same = absurd (words_differ (codes "seed") (codes "key") refl same)
key_is_other settings.Loss same = absurd (words_differ (codes "loss") (codes "key") refl same)
key_is_other settings.Repeat same = absurd (words_differ (codes "repeat") (codes "key") refl same)

pub order_is_other : IsOther (codes "order")
order_is_other settings.Keys same = absurd (words_differ (codes "keys") (codes "order") refl same)
order_is_other settings.Seed same = absurd (words_differ (codes "seed") (codes "order") refl same)
order_is_other settings.Loss same = absurd (words_differ (codes "loss") (codes "order") refl same)
order_is_other settings.Repeat same = absurd (words_differ (codes "repeat") (codes "order") refl same)

pub decline_is_other : IsOther (codes "decline")
decline_is_other settings.Keys same = absurd (words_differ (codes "keys") (codes "decline") refl same)
decline_is_other settings.Seed same = absurd (words_differ (codes "seed") (codes "decline") refl same)
decline_is_other settings.Loss same = absurd (words_differ (codes "loss") (codes "decline") refl same)
decline_is_other settings.Repeat same = absurd (words_differ (codes "repeat") (codes "decline") refl same)

pub value_is_other : IsOther (codes "value")
value_is_other settings.Keys same = absurd (words_differ (codes "keys") (codes "value") refl same)
value_is_other settings.Seed same = absurd (words_differ (codes "seed") (codes "value") refl same)
value_is_other settings.Loss same = absurd (words_differ (codes "loss") (codes "value") refl same)
value_is_other settings.Repeat same = absurd (words_differ (codes "repeat") (codes "value") refl same)

-- the fields after the word of a setting
setting_line : (keys : ℕ) (setting : Setting) (fields : List Field) (form : LineForm) → IsInTable keys form → setting_word setting ∷ fields ≡ written form → FormsSetting setting fields
setting_line keys setting fields (Set other n) has same =
    let word : setting_word setting ≡ setting_word other = cc in
    let rest : fields ≡ decimal n ∷ [] = cc in
    record { number = n; has = rw (one_setting setting other word) has; fields_are = rest }
setting_line keys setting fields (Key values) has same = absurd (key_is_other setting (cc))
setting_line keys setting fields (Order role messages) has same = absurd (order_is_other setting (cc))
setting_line keys setting fields (Decline message every) has same = absurd (decline_is_other setting (cc))
setting_line keys setting fields (Bind message param rule) has same = absurd (value_is_other setting (cc))

pub setting_form : (x : Expanded) (setting : Setting) (fields : List Field) → HasLineForm x (setting_word setting ∷ fields) → FormsSetting setting fields
setting_form x setting fields form = setting_line (length x.keys) setting fields form.0 form.1 form.2

-- after `key`
key_line : (keys : ℕ) (fields : List Field) (form : LineForm) → IsInTable keys form → codes "key" ∷ fields ≡ written form → FormsKey keys fields
key_line keys fields (Key values) has same = record { values = values; whole = has.0; good = has.1; fields_are = cc }
key_line keys fields (Set other n) has same = absurd (key_is_other other (cc))
key_line keys fields (Order role messages) has same = absurd (words_differ (codes "key") (codes "order") refl (cc))
key_line keys fields (Decline message every) has same = absurd (words_differ (codes "key") (codes "decline") refl (cc))
key_line keys fields (Bind message param rule) has same = absurd (words_differ (codes "key") (codes "value") refl (cc))

pub key_form : (x : Expanded) (fields : List Field) → HasLineForm x (codes "key" ∷ fields) → FormsKey (length x.keys) fields
key_form x fields form = key_line (length x.keys) fields form.0 form.1 form.2

-- after `order`
order_line : (keys : ℕ) (fields : List Field) (form : LineForm) → IsInTable keys form → codes "order" ∷ fields ≡ written form → FormsOrder fields
order_line keys fields (Order role messages) has same = record { role = role; messages = messages; some = has; fields_are = cc }
order_line keys fields (Set other n) has same = absurd (order_is_other other (cc))
order_line keys fields (Key values) has same = absurd (words_differ (codes "order") (codes "key") refl (cc))
order_line keys fields (Decline message every) has same = absurd (words_differ (codes "order") (codes "decline") refl (cc))
order_line keys fields (Bind message param rule) has same = absurd (words_differ (codes "order") (codes "value") refl (cc))

pub order_form : (x : Expanded) (fields : List Field) → HasLineForm x (codes "order" ∷ fields) → FormsOrder fields
order_form x fields form = order_line (length x.keys) fields form.0 form.1 form.2

-- after `decline`
decline_line : (keys : ℕ) (fields : List Field) (form : LineForm) → IsInTable keys form → codes "decline" ∷ fields ≡ written form → FormsDecline fields
decline_line keys fields (Decline message every) has same = record { message = message; every = every; has = has; fields_are = cc }
decline_line keys fields (Set other n) has same = absurd (decline_is_other other (cc))
decline_line keys fields (Key values) has same = absurd (words_differ (codes "decline") (codes "key") refl (cc))
decline_line keys fields (Order role messages) has same = absurd (words_differ (codes "decline") (codes "order") refl (cc))
decline_line keys fields (Bind message param rule) has same = absurd (words_differ (codes "decline") (codes "value") refl (cc))

pub decline_form : (x : Expanded) (fields : List Field) → HasLineForm x (codes "decline" ∷ fields) → FormsDecline fields
decline_form x fields form = decline_line (length x.keys) fields form.0 form.1 form.2

-- after `value`
value_line : (keys : ℕ) (fields : List Field) (form : LineForm) → IsInTable keys form → codes "value" ∷ fields ≡ written form → FormsValue fields
value_line keys fields (Bind message param rule) has same = record { message = message; param = param; rule = rule; has = has; fields_are = cc }
value_line keys fields (Set other n) has same = absurd (value_is_other other (cc))
value_line keys fields (Key values) has same = absurd (words_differ (codes "value") (codes "key") refl (cc))
value_line keys fields (Order role messages) has same = absurd (words_differ (codes "value") (codes "order") refl (cc))
value_line keys fields (Decline message every) has same = absurd (words_differ (codes "value") (codes "decline") refl (cc))

pub value_form : (x : Expanded) (fields : List Field) → HasLineForm x (codes "value" ∷ fields) → FormsValue fields
value_form x fields form = value_line (length x.keys) fields form.0 form.1 form.2

-- what is said has a form
pub said_has_form : (x : Expanded) (fields : List Field) (s : Statement) → Means x fields s → HasLineForm x fields
said_has_form x fields s says = (line_form x s, says.in_table, says.fields_are)

-- a first field that is no word of the table has no form
pub no_word : (x : Expanded) (word : Field) (fields : List Field) → IsOther word → (word ≡ codes "key" → ⊥) → (word ≡ codes "order" → ⊥) → (word ≡ codes "decline" → ⊥) → (word ≡ codes "value" → ⊥) → HasLineForm x (word ∷ fields) → ⊥
no_word x word fields setting key order decline value form = go form.0 form.2
  where
    go : (form : LineForm) → word ∷ fields ≡ written form → ⊥
    go (Set other n) same = setting other (cc)
    go (Key values) same = key (cc)
    go (Order role messages) same = order (cc)
    go (Decline message every) same = decline (cc)
    go (Bind message param rule) same = value (cc)
