-- A text spells one instance, whose message has the name that stands in it.
use Rattle.std.proofs.Common.{◌≡◌, ◌≢◌, ℕ, ◌<◌, List, ◌++◌, length, map, Contains, Option, Some, None, refl, sym, ap, subst, ◌∙◌, inl, inr, arith}
use Rattle.std.specs.List.{position, zip}
use Rattle.std.specs.Str.{bytes_eq}
use Rattle.std.proofs.lemmas.Bool.{cases_order}
use Rattle.std.proofs.lemmas.List.{get_or-map, length-map}
use Rattle.std.proofs.lemmas.List.Elements.{All-filter}
use Rattle.std.proofs.lemmas.List.Quantifiers.{position-Some}
use Rattle.std.proofs.lemmas.Option.{none-some}
use Rattle.std.proofs.lemmas.Slice.Eq.{bytes_eq-Decides}
use Rattle.bspl_types.specs.declared.event.Instance.{Instance}
use Rattle.bspl_types.specs.declared.expanded.Expanded.{Expanded}
use Rattle.bspl_types.specs.declared.protocol.Carried.{Carried}
use Rattle.bspl_types.specs.declared.protocol.Message.{Message}
use Rattle.bspl_types.specs.declared.value.Value.{Value}
use Rattle.bspl_types.specs.Admission.{IsAdmitted}
use Rattle.bspl_types.specs.Adornment.{has_value, valued}
use Rattle.bspl_types.specs.Expansion.{message_of, no_message}
use Rattle.bspl_types.specs.Instance.{Fits, pairs}
use Rattle.bspl_types.specs.ValueSpelling.{ValuesAreSpelledOnce}
use Rattle.list_base.proofs.FirstIndex.{named_index}
use Rattle.run_text.specs.RunText.{IsFitting, value_field}
use Rattle.run_text.specs.inner.LineFields.{SpellsValues, instance_body, tail_of, value_at, value_fields}
use Rattle.run_text.proofs.BreakLemmas.{IsBreak, lacks_both, lf_breaks, name_lacks, space_breaks}
use Rattle.run_text.proofs.FieldLemmas.{AreKnown, IsSplit, fields_lack, same_values}
use Rattle.run_text.proofs.KeyLemmas.{key_agrees, key_is}
use Rattle.run_text.proofs.LineFieldsLemmas.{join-spaced}
use Rattle.list_base.proofs.Separators.{Lacks}
use Rattle.run_text.proofs.Separators.{same_field, spaced_is, tail_is}

-- the parameters of a message that have a value
abbrev pub valued_of : Expanded → ℕ → List Carried
valued_of x m = valued (message_of x m).carried

-- its parameters exist
pub carried_known : (x : Expanded) (m : ℕ) → m < length x.messages → AreKnown x.params (message_of x m).carried
carried_known x m known = (x.shape.each_message m no_message known).known_params

-- so do those that have a value
pub valued_known : (x : Expanded) (m : ℕ) → m < length x.messages → AreKnown x.params (valued_of x m)
valued_known x m known = All-filter (λ c. has_value c.adornment) (λ c. c.param < length x.params) (message_of x m).carried (carried_known x m known)

-- the name of a message has neither a space nor an LF
message_lacks : (b : ℕ) (x : Expanded) (m : ℕ) → IsBreak b → m < length x.messages → Lacks b (message_of x m).name
message_lacks b x m breaks known = name_lacks b breaks (message_of x m).name (x.shape.message_names.named m no_message known)

-- two messages of one name are one
pub same_message : (x : Expanded) (m n : ℕ) → m < length x.messages → n < length x.messages → (message_of x m).name ≡ (message_of x n).name → m ≡ n
same_message x m n known also same =
    elim (cases_order m n) [
      | inl is ↦ is
      | inr (inl less) ↦ absurd (x.shape.message_names.distinct m n no_message less also same)
      | inr (inr more) ↦ absurd (x.shape.message_names.distinct n m no_message more known (sym same))
    ]

-- the body of an instance: its message's name, and the fields of its values
body_is : (x : Expanded) (i : Instance) → instance_body x i ≡ (message_of x i.message).name ++ value_fields x.params (valued_of x i.message) i.values
body_is x i = join-spaced (message_of x i.message).name (map (value_field x.params) (pairs x i))

-- what an instance that fits has in its fields
spells : (x : Expanded) (i : Instance) → IsFitting x i → SpellsValues x.params (valued_of x i.message) (value_fields x.params (valued_of x i.message) i.values) i.values
spells x i fitting = record { each = fitting.fits.each_value; good = fitting.values; spelled = refl }

-- the name and the tail of a text that is the body of an instance
pub body_parts : (x : Expanded) (i : Instance) (text name : List ℕ) (fields : Option (List ℕ)) → IsFitting x i → IsSplit text name fields → text ≡ instance_body x i
    → (name ≡ (message_of x i.message).name) × (tail_of fields ≡ value_fields x.params (valued_of x i.message) i.values)
body_parts x i text name fields fitting split is =
    same_field name (message_of x i.message).name (tail_of fields) (value_fields x.params (valued_of x i.message) i.values) split.first
    (message_lacks 32 x i.message space_breaks fitting.fits.known) (tail_is fields) (spaced_is (map (value_field x.params) (pairs x i)))
    (sym split.whole ∙ is ∙ body_is x i)

-- the index of the message of that name
abbrev pub index_named : Expanded → List ℕ → Option ℕ
index_named x name = position (λ m. bytes_eq m.name name) x.messages

-- the name of a message is among the names
name_among : (x : Expanded) (m : ℕ) → m < length x.messages → Contains (map (λ (n : Message). n.name) x.messages) (message_of x m).name
name_among x m known = (m, omega (arith, known, length-map x.messages (λ (n : Message). n.name)), get_or-map (λ (n : Message). n.name) x.messages m no_message (message_of x m).name known)

-- no message has the name, so the text is the body of no instance
pub no_such_message : (x : Expanded) (text name : List ℕ) (fields : Option (List ℕ)) → IsSplit text name fields → None ≡ index_named x name → (i : Instance) → IsFitting x i → text ≢ instance_body x i
no_such_message x text name fields split none i fitting is =
    let same = (body_parts x i text name fields fitting split is).0 in
    let among : Contains (map (λ (m : Message). m.name) x.messages) name = subst (Contains (map (λ (m : Message). m.name) x.messages)) (sym same) (name_among x i.message fitting.fits.known) in
    let found = named_index (λ (m : Message). m.name) x.messages name among in
    none-some found.0 (none ∙ found.2)

-- the message that was found, and its name
pub message_found : (x : Expanded) (name : List ℕ) (m : ℕ) → Some m ≡ index_named x name → (m < length x.messages) × ((message_of x m).name ≡ name)
message_found x name m is =
    let found = position-Some (λ (n : Message). bytes_eq n.name name) x.messages m no_message (sym is) in
    (found.0, (bytes_eq-Decides (message_of x m).name name).0 found.1)

-- its fields spell no values, so the text is the body of no instance
pub no_such_values : (x : Expanded) (text name : List ℕ) (fields : Option (List ℕ)) (m : ℕ) → IsSplit text name fields → Some m ≡ index_named x name → ((values : List Value) → ¬ SpellsValues x.params (valued_of x m) (tail_of fields) values)
    → (i : Instance) → IsFitting x i → text ≢ instance_body x i
no_such_values x text name fields m split found none i fitting is =
    let parts = body_parts x i text name fields fitting split is in
    let at = message_found x name m found in
    let same : i.message ≡ m = same_message x i.message m fitting.fits.known at.0 (sym parts.0 ∙ sym at.1) in
    none i.values (subst (λ (n : ℕ). SpellsValues x.params (valued_of x n) (tail_of fields) i.values) same
    (subst (λ (tail : List ℕ). SpellsValues x.params (valued_of x i.message) tail i.values) (sym parts.1) (spells x i fitting)))

-- the instance of a message with its values, and the key that they make
abbrev pub instance_with : Expanded → ℕ → List Value → Instance
instance_with x m values = record { message = m; key = map (λ p. value_at p (zip (valued_of x m) values)) x.keys; values = values }

-- it fits
made_fits : (x : Expanded) (m : ℕ) (values : List Value) → IsAdmitted x → m < length x.messages → length values ≡ length (valued_of x m) → Fits x (instance_with x m values)
made_fits x m values admitted known each =
    record {
      known = known;
      each_value = each;
      key_length = length-map x.keys (λ p. value_at p (zip (valued_of x m) values));
      key_values = key_agrees x.keys (message_of x m).carried values (admitted.each_message m no_message known).distinct;
    }

-- and the text is its body
pub instance_read : (x : Expanded) (text name : List ℕ) (fields : Option (List ℕ)) (m : ℕ) (values : List Value) → IsAdmitted x → IsSplit text name fields → Some m ≡ index_named x name → SpellsValues x.params (valued_of x m) (tail_of fields) values
    → IsFitting x (instance_with x m values) × (text ≡ instance_body x (instance_with x m values))
instance_read x text name fields m values admitted split found spells =
    let at = message_found x name m found in
    let i = instance_with x m values in (
      record { fits = made_fits x m values admitted at.0 spells.each; values = spells.good },
      split.whole ∙ ap (λ (front : List ℕ). front ++ tail_of fields) (sym at.1) ∙ ap (λ (tail : List ℕ). (message_of x m).name ++ tail) spells.spelled ∙ sym (body_is x i),
    )

-- an instance that fits has the key that its values make
fitting_is : (x : Expanded) (i : Instance) → IsAdmitted x → IsFitting x i → i ≡ instance_with x i.message i.values
fitting_is x i admitted fitting =
    let one = admitted.each_message i.message no_message fitting.fits.known in
    let key = key_is x.keys i.key (message_of x i.message).carried i.values fitting.fits.key_length fitting.fits.each_value one.distinct one.whole_key fitting.fits.key_values in
    ap (λ (k : List Value). let made : Instance = record { message = i.message; key = k; values = i.values } in made) key

-- two instances of one body are one
pub same_instance : (x : Expanded) (i j : Instance) → ValuesAreSpelledOnce → IsAdmitted x → IsFitting x i → IsFitting x j → instance_body x i ≡ instance_body x j → i ≡ j
same_instance x i j once admitted fitting also same =
    let parts = same_field (message_of x i.message).name (message_of x j.message).name (value_fields x.params (valued_of x i.message) i.values) (value_fields x.params (valued_of x j.message) j.values)
    (message_lacks 32 x i.message space_breaks fitting.fits.known) (message_lacks 32 x j.message space_breaks also.fits.known) (spaced_is (map (value_field x.params) (pairs x i))) (spaced_is (map (value_field x.params) (pairs x j)))
    (sym (body_is x i) ∙ same ∙ body_is x j) in
    let messages : i.message ≡ j.message = same_message x i.message j.message fitting.fits.known also.fits.known parts.0 in
    let moved : SpellsValues x.params (valued_of x j.message) (value_fields x.params (valued_of x j.message) j.values) i.values =
    subst (λ (n : ℕ). SpellsValues x.params (valued_of x n) (value_fields x.params (valued_of x j.message) j.values) i.values) messages
    (subst (λ (tail : List ℕ). SpellsValues x.params (valued_of x i.message) tail i.values) parts.1 (spells x i fitting)) in
    let values : i.values ≡ j.values = same_values x.params (valued_of x j.message) (value_fields x.params (valued_of x j.message) j.values) i.values j.values once x.shape.param_names.named (valued_known x j.message also.fits.known) moved (spells x j also) in
    fitting_is x i admitted fitting ∙ ap (λ (m : ℕ). instance_with x m i.values) messages ∙ ap (instance_with x j.message) values ∙ sym (fitting_is x j admitted also)

-- a body has no LF
pub body_lacks : (x : Expanded) (i : Instance) → IsFitting x i → Lacks 10 (instance_body x i)
body_lacks x i fitting =
    subst (Lacks 10) (sym (body_is x i))
    (lacks_both 10 (message_of x i.message).name (value_fields x.params (valued_of x i.message) i.values) (message_lacks 10 x i.message lf_breaks fitting.fits.known)
    (fields_lack 10 x.params (valued_of x i.message) i.values (λ e. absurd (omega (arith, e))) lf_breaks x.shape.param_names.named (valued_known x i.message fitting.fits.known) fitting.values))
