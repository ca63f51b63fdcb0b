-- The parts of the texts of answers.
use Rattle.std.proofs.Common.{◌≡◌, ℕ, Bool, true, false, List, [], ◌∷◌, ◌++◌, codes, length, map, refl, sym, ap, ◌∙◌}
use Rattle.std.specs.Prelude.{decimal}
use Rattle.std.specs.List.{zip}
use Rattle.std.proofs.lemmas.List.{append-nil, append_assoc}
use Rattle.json.specs.Print.{escape_byte, quoted}
use Rattle.serde_json.specs.Data.{Data, array, boolean, member, no_members, object, string}
use Rattle.serde_json.specs.View.{items_of}
use Rattle.serde_json.specs.Written.{compact_text, items_text}
use Rattle.bspl_types.specs.declared.expanded.Expanded.{Expanded}
use Rattle.bspl_types.specs.declared.value.Value.{Value}
use Rattle.bspl_types.specs.Adornment.{valued}
use Rattle.bspl_types.specs.Expansion.{message_name, message_of, role_name}
use Rattle.local_store.specs.State.{StoreState}
use Rattle.stamped_history.specs.Entries.{last_stamp}
use Rattle.wire_form.specs.Reply.{only}
use Rattle.role_questions.specs.declared.form.Form.{Form}
use Rattle.role_questions.specs.declared.form.KnownValue.{KnownValue}
use Rattle.role_questions.specs.Answers.{form_data, key_value, key_values, known_pairs, part_data, status_members, values_data}
use Rattle.role_questions.specs.inner.Written.{carried_as_known, counts_text, form_head, name_items, names_text, of_text, sent_part}

-- three parts, one after another
in_three : (text a b c : List ℕ) → ((text ++ a) ++ b) ++ c ≡ text ++ (a ++ (b ++ c))
in_three text a b c = append_assoc (text ++ a) b c ∙ append_assoc text a (b ++ c)

-- what is known
pub known_text : (text : List ℕ) (d : Data) → ((text ++ codes "{\"known\":") ++ compact_text d) ++ 125 ∷ [] ≡ text ++ compact_text (only (codes "known") d)
unfolding escape_byte
known_text text d = in_three text (codes "{\"known\":") (compact_text d) (125 ∷ [])

-- what may be sent
pub enabled_text : (text : List ℕ) (ds : List Data) → ((text ++ codes "{\"enabled\":[") ++ items_text false (items_of ds)) ++ 125 ∷ [] ≡ text ++ compact_text (only (codes "enabled") (array (items_of ds)))
unfolding escape_byte
enabled_text text ds = in_three text (codes "{\"enabled\":[") (items_text false (items_of ds)) (125 ∷ [])

-- a part of the keys
pub keys_text : (text : List ℕ) (ds : List Data) (count : ℕ) → ((text ++ codes "{\"keys\":[") ++ items_text false (items_of ds)) ++ of_text count ≡ text ++ compact_text (part_data (codes "keys") ds count)
unfolding escape_byte
keys_text text ds count = in_three text (codes "{\"keys\":[") (items_text false (items_of ds)) (of_text count)

-- a part of the history
pub history_text : (text : List ℕ) (ds : List Data) (count : ℕ) → ((text ++ codes "{\"history\":[") ++ items_text false (items_of ds)) ++ of_text count ≡ text ++ compact_text (part_data (codes "history") ds count)
unfolding escape_byte
history_text text ds count = in_three text (codes "{\"history\":[") (items_text false (items_of ds)) (of_text count)

-- five parts, one after another
in_five : (text a b c d e : List ℕ) → ((((text ++ a) ++ b) ++ c) ++ d) ++ e ≡ text ++ (a ++ (b ++ (c ++ (d ++ e))))
in_five text a b c d e = append_assoc (((text ++ a) ++ b) ++ c) d e ∙ append_assoc ((text ++ a) ++ b) c (d ++ e) ∙ in_three text a b (c ++ (d ++ e))

-- what was sent and to whom
pub emission_text : (text to : List ℕ) (d : Data) → ((((text ++ codes "{\"sent\":") ++ compact_text d) ++ codes ",\"to\":") ++ quoted to) ++ 125 ∷ [] ≡ text ++ compact_text (object (member (codes "sent") d (member (codes "to") (string to) no_members)))
unfolding escape_byte
emission_text text to d = in_five text (codes "{\"sent\":") (compact_text d) (codes ",\"to\":") (quoted to) (125 ∷ [])

-- what was received and from whom
pub receipt_text : (text from : List ℕ) (d : Data) → ((((text ++ codes "{\"from\":") ++ quoted from) ++ codes ",\"received\":") ++ compact_text d) ++ 125 ∷ [] ≡ text ++ compact_text (object (member (codes "from") (string from) (member (codes "received") d no_members)))
unfolding escape_byte
receipt_text text from d = in_five text (codes "{\"from\":") (quoted from) (codes ",\"received\":") (compact_text d) (125 ∷ [])

-- two parts, in the first of which three texts may be any
joined : (a b c rest : List ℕ) (i j k : List ℕ) → (i ++ (a ++ (j ++ (b ++ (k ++ c))))) ++ rest ≡ i ++ (a ++ (j ++ (b ++ (k ++ (c ++ rest)))))
joined a b c rest i j k =
    append_assoc i _ rest
    ∙ ap (λ (t : List ℕ). i ++ t) (append_assoc a _ rest
    ∙ ap (λ (t : List ℕ). a ++ t) (append_assoc j _ rest
    ∙ ap (λ (t : List ℕ). j ++ t) (append_assoc b _ rest
    ∙ ap (λ (t : List ℕ). b ++ t) (append_assoc k c rest))))

-- the bracket that ends an answer, after the six parts of a status that may be any
ended : (c e k p r v : List ℕ) →
    codes "{\"status\":{\"clock\":" ++ (c ++ (codes ",\"events\":" ++ (e ++ (codes ",\"keys\":" ++ (k ++ (codes ",\"protocol\":" ++ (p ++ (codes ",\"role\":" ++ (r ++ (codes ",\"version\":" ++ (v ++ codes "}}")))))))))))
    ≡ (codes "{\"status\":{\"clock\":" ++ (c ++ (codes ",\"events\":" ++ (e ++ (codes ",\"keys\":" ++ (k ++ (codes ",\"protocol\":" ++ (p ++ (codes ",\"role\":" ++ (r ++ (codes ",\"version\":" ++ (v ++ 125 ∷ [])))))))))))) ++ 125 ∷ []
ended c e k p r v = sym
    (ap (λ (t : List ℕ). codes "{\"status\":{\"clock\":" ++ t) (append_assoc c _ (125 ∷ [])
    ∙ ap (λ (t : List ℕ). c ++ (codes ",\"events\":" ++ t)) (append_assoc e _ (125 ∷ [])
    ∙ ap (λ (t : List ℕ). e ++ (codes ",\"keys\":" ++ t)) (append_assoc k _ (125 ∷ [])
    ∙ ap (λ (t : List ℕ). k ++ (codes ",\"protocol\":" ++ t)) (append_assoc p _ (125 ∷ [])
    ∙ ap (λ (t : List ℕ). p ++ (codes ",\"role\":" ++ t)) (append_assoc r _ (125 ∷ [])
    ∙ ap (λ (t : List ℕ). r ++ (codes ",\"version\":" ++ t)) (append_assoc v (125 ∷ []) (125 ∷ []))))))))

-- how far the role is, and which one it is
pub status_text : (text : List ℕ) (s : StoreState) → (text ++ counts_text s) ++ names_text s ≡ text ++ compact_text (only (codes "status") (status_members s))
unfolding escape_byte
status_text text s =
    append_assoc text (counts_text s) (names_text s)
    ∙ ap (λ (t : List ℕ). text ++ t) (joined (decimal (last_stamp s.entries)) (decimal (length s.entries)) (decimal (length s.keys)) (names_text s) (codes "{\"status\":{\"clock\":") (codes ",\"events\":") (codes ",\"keys\":")
    ∙ ended (decimal (last_stamp s.entries)) (decimal (length s.entries)) (decimal (length s.keys)) (quoted s.protocol.name) (quoted (role_name s.protocol s.role)) (decimal 1))

-- the carried parameters with their values are what is known
pub known_zipped : (list : List KnownValue) → zip (valued (map carried_as_known list)) (map (λ (k : KnownValue). k.value) list) ≡ known_pairs list
known_zipped [] = refl
known_zipped (k ∷ list) = ap (λ ps. (carried_as_known k, k.value) ∷ ps) (known_zipped list)

-- whether a message was emitted before
sent_text : (sent : Bool) (rest : List ℕ) → sent_part sent ++ rest ≡ codes ",\"sent\":" ++ (compact_text (boolean sent) ++ (codes ",\"to\":" ++ rest))
sent_text true rest = refl
sent_text false rest = refl

-- a form up to its values
head_text : (x : Expanded) (f : Form) (rest : List ℕ) → form_head x f ++ rest ≡
    codes "{\"message\":" ++ (quoted (message_name x f.message) ++ (codes ",\"outs\":[" ++ (items_text false (name_items x f.outs) ++ (codes ",\"sent\":" ++ (compact_text (boolean f.sent) ++ (codes ",\"to\":" ++ (quoted (role_name x (message_of x f.message).receiver) ++ (codes ",\"values\":" ++ rest))))))))
head_text x f rest =
    let message = quoted (message_name x f.message) in
    let outs = items_text false (name_items x f.outs) in
    let to = quoted (role_name x (message_of x f.message).receiver) in
    ap (λ (t : List ℕ). codes "{\"message\":" ++ t) (append_assoc message _ rest
    ∙ ap (λ (t : List ℕ). message ++ (codes ",\"outs\":[" ++ t)) (append_assoc outs _ rest
    ∙ ap (λ (t : List ℕ). outs ++ t) (append_assoc (sent_part f.sent) _ rest
    ∙ ap (λ (t : List ℕ). sent_part f.sent ++ t) (append_assoc to _ rest)
    ∙ sent_text f.sent (to ++ (codes ",\"values\":" ++ rest)))))

-- a form
pub form_text : (text : List ℕ) (x : Expanded) (key : List Value) (f : Form) (values : List KnownValue) → values ≡ key_values x key ++ f.ins → ((text ++ form_head x f) ++ compact_text (values_data x values)) ++ 125 ∷ [] ≡ text ++ compact_text (form_data x key f)
unfolding escape_byte
form_text text x key f values is =
    in_three text (form_head x f) (compact_text (values_data x values)) (125 ∷ [])
    ∙ ap (λ (t : List ℕ). text ++ t) (ap (λ (vs : List KnownValue). form_head x f ++ (compact_text (values_data x vs) ++ 125 ∷ [])) is ∙ head_text x f (compact_text (values_data x (key_values x key ++ f.ins)) ++ 125 ∷ []))

-- a key without further values gives no further parameters
pub nothing_left : (params : List ℕ) (left : List Value) (list : List KnownValue) → left ≡ [] → list ++ map key_value (zip params left) ≡ list
nothing_left [] left list none = append-nil list
nothing_left (p ∷ params) left list none = ap (λ vs. list ++ map key_value (zip (p ∷ params) vs)) none ∙ append-nil list

-- seven parts, one after another
pub in_seven : (text a b c d e f g : List ℕ) → ((((((text ++ a) ++ b) ++ c) ++ d) ++ e) ++ f) ++ g ≡ text ++ (a ++ (b ++ (c ++ (d ++ (e ++ (f ++ g))))))
in_seven text a b c d e f g = append_assoc (((((text ++ a) ++ b) ++ c) ++ d) ++ e) f g ∙ append_assoc ((((text ++ a) ++ b) ++ c) ++ d) e (f ++ g) ∙ in_five text a b c d (e ++ (f ++ g))
