-- Members of a request, once those whose kinds are right are found.
use Rattle.std.proofs.Common.{◌≡◌, ◌≢◌, ℕ, ◌<◌, List, map, All, sym, ap, ap₂, subst, ◌∙◌}
use Rattle.serde_json.specs.Data.{Data, Items, string}
use Rattle.serde_json.specs.View.{items_of, items_view, members_view}
use Rattle.serde_json.specs.declared.value.Value.{Value}
use Rattle.wire_form.specs.Request.{NamedField, attempt_data, fields_data, sent_data}
use Rattle.wire_form.specs.Texts.{IsStringItem, texts_in}
use Rattle.wire_form.specs.inner.Found.{AttemptForm, SentForm, attempt_form, fields_in, sent_form}
use Rattle.wire_form.proofs.TextLemmas.{Entry, fields_are, items_are_texts, members_are_texts, texts_are}

-- the number or the values of a receipt are not right
pub no_receipt : (d : Data) (m : List ℕ) (n s : ℕ) (es : List Entry) → d ≡ sent_data m n s (members_view es) → (n < 4294967296 → All (λ e. IsStringItem e.1) es → ⊥)
    → (message : List ℕ) (count stamp : ℕ) (fields : List NamedField) → count < 4294967296 → d ≢ sent_data message count stamp (fields_data fields)
no_receipt d m n s es is none message count stamp fields few same =
    let whole : sent_data m n s (members_view es) ≡ sent_data message count stamp (fields_data fields) = sym is ∙ same in
    let number : n ≡ count = cc in
    let values : members_view es ≡ fields_data fields = cc in
    none (subst (λ k. k < 4294967296) (sym number) few) (members_are_texts es fields values)

-- a receipt
pub a_receipt : (d : Data) (m : List ℕ) (n s : ℕ) (es : List Entry) → d ≡ sent_data m n s (members_view es) → All (λ e. IsStringItem e.1) es → d ≡ sent_data m n s (fields_data (fields_in es))
a_receipt d m n s es is texts = is ∙ ap (sent_data m n s) (sym (fields_are es texts))

-- it has not the members of a receipt
pub no_sent_form : (d : Data) → ((form : SentForm) → d ≢ sent_form form) → (message : List ℕ) (count stamp : ℕ) (fields : List NamedField) → d ≢ sent_data message count stamp (fields_data fields)
no_sent_form d none message count stamp fields same = none (record { message = message; number = count; stamp = stamp; values = fields_data fields }) same

-- the values of an emission are not right
pub no_emission : (d : Data) (m : List ℕ) (ks os : List Value) → d ≡ attempt_form (record { key = items_view ks; message = m; outs = items_view os }) → (All IsStringItem ks → All IsStringItem os → ⊥)
    → (key : List (List ℕ)) (message : List ℕ) (outs : List (List ℕ)) → d ≢ attempt_data key message outs
no_emission d m ks os is none key message outs same =
    let whole : attempt_form (record { key = items_view ks; message = m; outs = items_view os }) ≡ attempt_data key message outs = sym is ∙ same in
    let keys : items_view ks ≡ items_of (map string key) = cc in
    let values : items_view os ≡ items_of (map string outs) = cc in
    none (items_are_texts ks key keys) (items_are_texts os outs values)

-- an emission
pub an_emission : (d : Data) (m : List ℕ) (ks os : List Value) → d ≡ attempt_form (record { key = items_view ks; message = m; outs = items_view os }) → All IsStringItem ks → All IsStringItem os → d ≡ attempt_data (texts_in ks) m (texts_in os)
an_emission d m ks os is keys outs = is ∙ ap₂ (λ (k o : Items). attempt_form (record { key = k; message = m; outs = o })) (sym (texts_are ks keys)) (sym (texts_are os outs))

-- it has not the members of an emission
pub no_attempt_form : (d : Data) → ((form : AttemptForm) → d ≢ attempt_form form) → (key : List (List ℕ)) (message : List ℕ) (outs : List (List ℕ)) → d ≢ attempt_data key message outs
no_attempt_form d none key message outs same = none (record { key = items_of (map string key); message = message; outs = items_of (map string outs) }) same
