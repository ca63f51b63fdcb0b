-- What is said by a line that begins with a word.
use Rattle.std.proofs.Common.{◌≡◌, ◌≢◌, ℕ, ◌<◌, List, [], ◌∷◌, ◌++◌, length, map, drop, codes, Option, refl, sym, ap, subst, ◌∙◌, arith}
use Rattle.std.specs.List.{All}
use Rattle.std.specs.Fmt.{decimal}
use Rattle.std.proofs.lemmas.List.Elements.{All-head, All-tail}
use Rattle.bspl_types.specs.declared.value.Value.{Value}
use Rattle.bspl_types.specs.Value.{IsValue}
use Rattle.bspl_types.specs.ValueSpelling.{value_spelling}
use Rattle.bspl_types.specs.Expansion.{message_name, role_name}
use Rattle.bspl_types.specs.declared.expanded.Expanded.{Expanded}
use Rattle.agent_scripts.specs.declared.statement.Rule.{Rule}
use Rattle.agent_scripts.specs.declared.statement.Setting.{Setting}
use Rattle.agent_scripts.specs.declared.statement.Statement.{Statement}
use Rattle.agent_scripts.specs.declared.statement.Statement.TheVariants.{Set, Key, Order, Decline, Bind}
use Rattle.agent_scripts.specs.Statement.{Means, IsFreeOut, IsSentBy, param_field, line_form}
use Rattle.agent_scripts.specs.Table.{setting_word, every_fields, rule_fields, IsSetting, IsEvery, IsRule, IsInTable, written}
use Rattle.agent_scripts.specs.Table.{Order as order_form, Decline as decline_form, Bind as bind_form}
use Rattle.script_text.specs.inner.LineReading.{ReadsFields, ReadsOrder}
use Rattle.script_text.specs.declared.line_error.LineError.{LineError}
use Rattle.script_text.specs.declared.line_error.LineError.TheVariants as errors
use Rattle.std.specs.Prelude.{Err}
use Rattle.script_text.proofs.NameLemmas.{one_message, one_role}
use Rattle.script_text.proofs.FormLemmas.{words_differ, key_is_other, order_is_other, decline_is_other, value_is_other, one_setting}
use Rattle.text_lines.specs.Fields.{Field}

-- after the word of a setting
pub record SaysSetting (setting : Setting) (fields : List Field) (s : Statement) : Type 0 where
  pub number : ℕ
  pub is : s ≡ Set setting number
  pub has : IsSetting setting number
  pub fields_are : fields ≡ decimal number ∷ []

-- after `key`
pub record SaysKey (x : Expanded) (fields : List Field) (s : Statement) : Type 0 where
  pub values : List Value
  pub is : s ≡ Key values
  pub good : All IsValue values
  pub fields_are : fields ≡ map value_spelling values

-- after `order`
pub record SaysOrder (x : Expanded) (fields : List Field) (s : Statement) : Type 0 where
  pub role : ℕ
  pub messages : List ℕ
  pub is : s ≡ Order role messages
  pub known : role < length x.roles
  pub sent : All (IsSentBy x role) messages
  pub fields_are : fields ≡ role_name x role ∷ map (message_name x) messages

-- after `decline`
pub record SaysDecline (x : Expanded) (fields : List Field) (s : Statement) : Type 0 where
  pub message : ℕ
  pub every : Option ℕ
  pub is : s ≡ Decline message every
  pub known : message < length x.messages
  pub has : IsEvery every
  pub fields_are : fields ≡ message_name x message ∷ every_fields every

-- after `value`
pub record SaysValue (x : Expanded) (fields : List Field) (s : Statement) : Type 0 where
  pub message : ℕ
  pub param : ℕ
  pub rule : Rule
  pub is : s ≡ Bind message param rule
  pub known : message < length x.messages
  pub free : IsFreeOut x message param
  pub has : IsRule rule
  pub fields_are : fields ≡ message_name x message ∷ param_field x param ∷ rule_fields rule

setting_parts : (x : Expanded) (setting : Setting) (fields : List Field) (s : Statement) → IsInTable (length x.keys) (line_form x s) → setting_word setting ∷ fields ≡ written (line_form x s) → SaysSetting setting fields s
setting_parts x setting fields (Set other n) has same =
    let word : other ≡ setting = sym (one_setting setting other (cc)) in
    record { number = n; is = ap (λ t. Set t n) word; has = rw (← word) has; fields_are = cc }
setting_parts x setting fields (Key values) has same = absurd (key_is_other setting (cc))
setting_parts x setting fields (Order role messages) has same = absurd (order_is_other setting (cc))
setting_parts x setting fields (Decline m every) has same = absurd (decline_is_other setting (cc))
setting_parts x setting fields (Bind m p rule) has same = absurd (value_is_other setting (cc))

pub setting_said : (x : Expanded) (setting : Setting) (fields : List Field) (s : Statement) → Means x (setting_word setting ∷ fields) s → SaysSetting setting fields s
setting_said x setting fields s says = setting_parts x setting fields s says.in_table says.fields_are

key_parts : (x : Expanded) (fields : List Field) (s : Statement) → IsInTable (length x.keys) (line_form x s) → codes "key" ∷ fields ≡ written (line_form x s) → SaysKey x fields s
key_parts x fields (Key values) has same = record { values = values; is = refl; good = has.1; fields_are = cc }
key_parts x fields (Set other n) has same = absurd (key_is_other other (cc))
key_parts x fields (Order role messages) has same = absurd (words_differ (codes "key") (codes "order") refl (cc))
key_parts x fields (Decline m every) has same = absurd (words_differ (codes "key") (codes "decline") refl (cc))
key_parts x fields (Bind m p rule) has same = absurd (words_differ (codes "key") (codes "value") refl (cc))

pub key_said : (x : Expanded) (fields : List Field) (s : Statement) → Means x (codes "key" ∷ fields) s → SaysKey x fields s
key_said x fields s says = key_parts x fields s says.in_table says.fields_are

pub order_said : (x : Expanded) (fields : List Field) (s : Statement) → Means x (codes "order" ∷ fields) s → SaysOrder x fields s
order_said x fields (Order role messages) says = record { role = role; messages = messages; is = refl; known = says.known.0; sent = says.known.1; fields_are = let same = says.fields_are in cc }
order_said x fields (Set other n) says = let same = says.fields_are in absurd (order_is_other other (cc))
order_said x fields (Key values) says = let same = says.fields_are in absurd (words_differ (codes "order") (codes "key") refl (cc))
order_said x fields (Decline m every) says = let same = says.fields_are in absurd (words_differ (codes "order") (codes "decline") refl (cc))
order_said x fields (Bind m p rule) says = let same = says.fields_are in absurd (words_differ (codes "order") (codes "value") refl (cc))

pub decline_said : (x : Expanded) (fields : List Field) (s : Statement) → Means x (codes "decline" ∷ fields) s → SaysDecline x fields s
decline_said x fields (Decline m every) says = record { message = m; every = every; is = refl; known = says.known; has = says.in_table; fields_are = let same = says.fields_are in cc }
decline_said x fields (Set other n) says = let same = says.fields_are in absurd (decline_is_other other (cc))
decline_said x fields (Key values) says = let same = says.fields_are in absurd (words_differ (codes "decline") (codes "key") refl (cc))
decline_said x fields (Order role messages) says = let same = says.fields_are in absurd (words_differ (codes "decline") (codes "order") refl (cc))
decline_said x fields (Bind m p rule) says = let same = says.fields_are in absurd (words_differ (codes "decline") (codes "value") refl (cc))

pub value_said : (x : Expanded) (fields : List Field) (s : Statement) → Means x (codes "value" ∷ fields) s → SaysValue x fields s
value_said x fields (Bind m p rule) says = record { message = m; param = p; rule = rule; is = refl; known = says.known.0; free = says.known.1; has = says.in_table; fields_are = let same = says.fields_are in cc }
value_said x fields (Set other n) says = let same = says.fields_are in absurd (value_is_other other (cc))
value_said x fields (Key values) says = let same = says.fields_are in absurd (words_differ (codes "value") (codes "key") refl (cc))
value_said x fields (Order role messages) says = let same = says.fields_are in absurd (words_differ (codes "value") (codes "order") refl (cc))
value_said x fields (Decline m every) says = let same = says.fields_are in absurd (words_differ (codes "value") (codes "decline") refl (cc))

-- ---- lines of that form that say nothing

-- a message that is not declared
pub unknown_decline : (x : Expanded) (name : Field) (fields : List Field) (every : Option ℕ) → IsEvery every → fields ≡ name ∷ every_fields every → ((m : ℕ) → m < length x.messages → name ≢ message_name x m) → ReadsFields x (codes "decline" ∷ fields) (Err errors.Unknown)
unknown_decline x name fields every has whole none = (
  (decline_form name every, has, ap (λ fs. codes "decline" ∷ fs) whole),
  λ s says.
      let said = decline_said x fields s says in
      let both : name ∷ every_fields every ≡ message_name x said.message ∷ every_fields said.every = sym whole ∙ said.fields_are in
      let same : name ≡ message_name x said.message = cc in
      none said.message said.known same,
)

-- of a value
pub unknown_message : (x : Expanded) (name param : Field) (fields : List Field) (rule : Rule) → IsRule rule → fields ≡ name ∷ param ∷ rule_fields rule → ((m : ℕ) → m < length x.messages → name ≢ message_name x m) → ReadsFields x (codes "value" ∷ fields) (Err errors.Unknown)
unknown_message x name param fields rule has whole none = (
  (bind_form name param rule, has, ap (λ fs. codes "value" ∷ fs) whole),
  λ s says.
      let said = value_said x fields s says in
      let both : name ∷ param ∷ rule_fields rule ≡ message_name x said.message ∷ param_field x said.param ∷ rule_fields said.rule = sym whole ∙ said.fields_are in
      let same : name ≡ message_name x said.message = cc in
      none said.message said.known same,
)

-- a parameter whose value the message does not give
pub unknown_param : (x : Expanded) (m : ℕ) (name param : Field) (fields : List Field) (rule : Rule) → IsRule rule → fields ≡ name ∷ param ∷ rule_fields rule → m < length x.messages → name ≡ message_name x m → ((p : ℕ) → IsFreeOut x m p → param ≢ param_field x p) → ReadsFields x (codes "value" ∷ fields) (Err errors.Unknown)
unknown_param x m name param fields rule has whole known is none = (
  (bind_form name param rule, has, ap (λ fs. codes "value" ∷ fs) whole),
  λ s says.
      let said = value_said x fields s says in
      let both : name ∷ param ∷ rule_fields rule ≡ message_name x said.message ∷ param_field x said.param ∷ rule_fields said.rule = sym whole ∙ said.fields_are in
      let same : message_name x said.message ≡ message_name x m = cc in
      let other : param ≡ param_field x said.param = cc in
      let one : said.message ≡ m = one_message x said.message m said.known known same in
      none said.param (subst (λ n. IsFreeOut x n said.param) one said.free) other,
)

-- ---- orders

-- the fields after the word of an order
abbrev IsOrder : Field → List Field → List Field → Type 0
IsOrder name listed fields = (0 < length listed) × (fields ≡ name ∷ listed)

-- a role that is not declared
pub unknown_role : (x : Expanded) (name : Field) (listed fields : List Field) → IsOrder name listed fields → ((role : ℕ) → role < length x.roles → name ≢ role_name x role) → ReadsFields x (codes "order" ∷ fields) (Err errors.Unknown)
unknown_role x name listed fields whole none = (
  (order_form name listed, whole.0, ap (λ fs. codes "order" ∷ fs) whole.1),
  λ s says.
      let said = order_said x fields s says in
      let both : name ∷ listed ≡ role_name x said.role ∷ map (message_name x) said.messages = sym whole.1 ∙ said.fields_are in
      let same : name ≡ role_name x said.role = cc in
      none said.role said.known same,
)

-- messages that the role does not send, and the other errors
pub order_error : (x : Expanded) (role : ℕ) (name : Field) (listed fields : List Field) (error : LineError) → IsOrder name listed fields → role < length x.roles → name ≡ role_name x role → ReadsOrder x role listed (Err error) → ReadsFields x (codes "order" ∷ fields) (Err error)
order_error x role name listed fields errors.Form whole known is read = absurd read
order_error x role name listed fields errors.NoMemory whole known is read = tt
order_error x role name listed fields errors.Unknown whole known is read = (
  (order_form name listed, whole.0, ap (λ fs. codes "order" ∷ fs) whole.1),
  λ s says.
      let said = order_said x fields s says in
      let both : name ∷ listed ≡ role_name x said.role ∷ map (message_name x) said.messages = sym whole.1 ∙ said.fields_are in
      let same : role_name x said.role ≡ role_name x role = cc in
      let rest : listed ≡ map (message_name x) said.messages = cc in
      let one : said.role ≡ role = one_role x said.role role said.known known same in
      read said.messages (subst (λ r. All (IsSentBy x r) said.messages) one said.sent) rest,
)

-- after those that are read comes one more
pub next_sent : (x : Expanded) (role : ℕ) (done messages : List ℕ) (name : Field) (after : List Field) → All (IsSentBy x role) messages → map (message_name x) done ++ name ∷ after ≡ map (message_name x) messages → (m : ℕ) × IsSentBy x role m × (name ≡ message_name x m)
next_sent x role [] (m ∷ messages) name after sent whole = (m, All-head (IsSentBy x role) m messages sent, cc)
next_sent x role (d ∷ done) (m ∷ messages) name after sent whole = next_sent x role done messages name after (All-tail (IsSentBy x role) m messages sent) (ap (drop 1) whole)
next_sent x role [] [] name after sent whole = absurd (cc)
next_sent x role (d ∷ done) [] name after sent whole = absurd (cc)

-- what is not empty has a first field
pub some_fields : (field : Field) (fields listed : List Field) → listed ≡ field ∷ fields → 0 < length listed
some_fields field fields listed is = rw is (omega arith)
