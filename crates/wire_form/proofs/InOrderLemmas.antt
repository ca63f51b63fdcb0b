-- A value is read part by part.
use Rattle.std.proofs.Common.{◌≡◌, ℕ, ◌<◌, ◌^◌, List, [], ◌∷◌, map, Option, Some, codes, option_map, option_and_then, refl, sym, ap, ◌∙◌}
use Rattle.std.specs.Prelude.{decimal}
use Rattle.std.specs.Borrow.{Bor}
use Rattle.std.specs.List.{AllZip}
use Rattle.json.specs.Find.{as_number, as_str}
use Rattle.json.specs.Json as json
use Rattle.json.specs.Json.{if_last}
use Rattle.json.specs.Lex.{tokens}
use Rattle.json.specs.Token.{Token}
use Rattle.json.specs.Value.{items_view, value_view}
use Rattle.json.specs.declared.value.Value.{Value}
use Rattle.std.specs.declared.alloc.Global.{Global}
use Rattle.serde_json.specs.Data.{Data, Members, array, item, member, no_members, number, object, put, string, unsigned}
use Rattle.serde_json.specs.Read.{of_items, of_json, of_members, read}
use Rattle.serde_json.specs.View.{items_of}
use Rattle.list_base.specs.Numeral.{numeral}
use Rattle.wire_form.specs.Request.{attempt_data, fields_data, sent_data, texts_data}
use Rattle.wire_form.specs.declared.asked.Field.{Field as TextField}
use Rattle.wire_form.specs.Texts.{texts_of}
use Rattle.wire_form.specs.inner.Asked.{fields_of}
use Rattle.wire_form.specs.inner.Sorted.{members_in}
use Rattle.wire_form.proofs.DecimalLemmas.{decimal_read}

-- a text that is one value and nothing else
pub read_whole : (text : List ℕ) (j : json.Json) (left : List Token) → json.value 127 (tokens text) ≡ Some (j, left) → left ≡ [] → read text ≡ of_json j
read_whole text j left is none = ap (λ (o : Option (json.Json × List Token)). option_and_then of_json (option_and_then (λ p. if_last p.0 p.1) o)) (is ∙ ap (λ (ts : List Token). Some (j, ts)) none)

-- a string
pub text_read : (j : json.Json) (text : List ℕ) → Some text ≡ as_str j → of_json j ≡ Some (string text)
text_read json.null text is = absurd (cc)
text_read (json.boolean b) text is = absurd (cc)
text_read (json.number s) text is = absurd (cc)
text_read (json.string s) text is = ap (option_map string) (sym is)
text_read (json.array js) text is = absurd (cc)
text_read (json.object ms) text is = absurd (cc)

-- a number of 64 bits
pub number_read : (j : json.Json) (text : List ℕ) (n : ℕ) → Some text ≡ as_number j → text ≡ numeral n → numeral n ≡ decimal n → n < 2 ^ 64 → of_json j ≡ Some (number (unsigned n))
number_read json.null text n is spelled same few = absurd (cc)
number_read (json.boolean b) text n is spelled same few = absurd (cc)
number_read (json.number s) text n is spelled same few =
    let whole : s ≡ text = cc in
    ap (λ (t : List ℕ). of_json (json.number t)) (whole ∙ spelled ∙ same) ∙ ap (option_map number) (decimal_read n few)
number_read (json.string s) text n is spelled same few = absurd (cc)
number_read (json.array js) text n is spelled same few = absurd (cc)
number_read (json.object ms) text n is spelled same few = absurd (cc)

-- one member more
pub next_read : (all : json.Members) (k : List ℕ) (j : json.Json) (rest : json.Members) (d : Data) (before : Members) → all ≡ json.member k j rest → of_json j ≡ Some d → of_members all before ≡ of_members rest (put k d before)
next_read all k j rest d before is read =
    ap (λ (ms : json.Members). of_members ms before) is ∙ ap (λ (o : Option Data). option_and_then (λ e. of_members rest (put k e before)) o) read

-- an object
object_read : (j : json.Json) (ms : json.Members) (found : Members) → j ≡ json.object ms → of_members ms no_members ≡ Some found → of_json j ≡ Some (object found)
object_read j ms found is read = ap of_json is ∙ ap (option_map object) read

-- an object of one member
pub one_read : (j : json.Json) (ms : json.Members) (k : List ℕ) (inner : json.Json) (d : Data) → j ≡ json.object ms → ms ≡ json.member k inner json.no_members → of_json inner ≡ Some d → of_json j ≡ Some (object (member k d no_members))
one_read j ms k inner d is one read = object_read j ms (member k d no_members) is (next_read ms k inner json.no_members d no_members one read)

-- what is said of a message that was sent
pub sent_read : (j : json.Json) (m0 m1 m2 m3 m4 : json.Members) (jm jn js jv : json.Json) (m : List ℕ) (n s : ℕ) (values : Members) → j ≡ json.object m0 → m0 ≡ json.member (codes "message") jm m1 → m1 ≡ json.member (codes "number") jn m2 → m2 ≡ json.member (codes "stamp") js m3 → m3 ≡ json.member (codes "values") jv m4 → m4 ≡ json.no_members
    → of_json jm ≡ Some (string m) → of_json jn ≡ Some (number (unsigned n)) → of_json js ≡ Some (number (unsigned s)) → of_json jv ≡ Some (object values) → of_json j ≡ Some (sent_data m n s values)
sent_read j m0 m1 m2 m3 m4 jm jn js jv m n s values is e0 e1 e2 e3 e4 im in' is' iv =
    object_read j m0 _ is
    (next_read m0 (codes "message") jm m1 (string m) no_members e0 im
    ∙ next_read m1 (codes "number") jn m2 (number (unsigned n)) _ e1 in'
    ∙ next_read m2 (codes "stamp") js m3 (number (unsigned s)) _ e2 is'
    ∙ next_read m3 (codes "values") jv m4 (object values) _ e3 iv
    ∙ ap (λ (ms : json.Members). of_members ms (put (codes "values") (object values) (put (codes "stamp") (number (unsigned s)) (put (codes "number") (number (unsigned n)) (put (codes "message") (string m) no_members))))) e4)

-- what is said of a message that is to be sent
pub attempt_read : (j : json.Json) (m0 m1 m2 m3 : json.Members) (jk jm jo : json.Json) (key : List (List ℕ)) (m : List ℕ) (outs : List (List ℕ)) → j ≡ json.object m0 → m0 ≡ json.member (codes "key") jk m1 → m1 ≡ json.member (codes "message") jm m2 → m2 ≡ json.member (codes "outs") jo m3 → m3 ≡ json.no_members
    → of_json jk ≡ Some (texts_data key) → of_json jm ≡ Some (string m) → of_json jo ≡ Some (texts_data outs) → of_json j ≡ Some (attempt_data key m outs)
attempt_read j m0 m1 m2 m3 jk jm jo key m outs is e0 e1 e2 e3 ik im io =
    object_read j m0 _ is
    (next_read m0 (codes "key") jk m1 (texts_data key) no_members e0 ik
    ∙ next_read m1 (codes "message") jm m2 (string m) _ e1 im
    ∙ next_read m2 (codes "outs") jo m3 (texts_data outs) _ e2 io
    ∙ ap (λ (ms : json.Members). of_members ms (put (codes "outs") (texts_data outs) (put (codes "message") (string m) (put (codes "key") (texts_data key) no_members)))) e3)

-- fields as members
pub fields_members : (fields : List TextField) → members_in (λ f. f.name.now) (λ f. string f.text.now) fields ≡ fields_data (fields_of fields)
fields_members [] = refl
fields_members (f ∷ fields) = ap (member f.name.now (string f.text.now)) (fields_members fields)

-- an object of fields
pub fields_read : (j : json.Json) (ms : json.Members) (fields : List TextField) → j ≡ json.object ms → of_members ms no_members ≡ Some (members_in (λ f. f.name.now) (λ f. string f.text.now) fields) → of_json j ≡ Some (object (fields_data (fields_of fields)))
fields_read j ms fields is read = object_read j ms _ is read ∙ ap (λ (found : Members). Some (object found)) (fields_members fields)

-- the value is read as the text
abbrev pub ReadsText : Value Global → Bor (List ℕ) → Type 0
ReadsText v text = of_json (value_view v) ≡ Some (string text.now)

strings_read : (vs : List (Value Global)) (texts : List (Bor (List ℕ))) → AllZip ReadsText vs texts → of_items (items_view vs) ≡ Some (items_of (map string (texts_of texts)))
strings_read [] [] all = refl
strings_read [] (t ∷ ts) all = absurd all
strings_read (v ∷ vs) [] all = absurd all
strings_read (v ∷ vs) (t ∷ ts) all =
    ap (λ (o : Option Data). option_and_then (λ d. option_map (item d) (of_items (items_view vs))) o) all.0 ∙ ap (option_map (item (string t.now))) (strings_read vs ts all.1)

-- an array of texts
pub texts_read : (j : json.Json) (vs : List (Value Global)) (texts : List (Bor (List ℕ))) → j ≡ json.array (items_view vs) → AllZip ReadsText vs texts → of_json j ≡ Some (texts_data (texts_of texts))
texts_read j vs texts is all = ap of_json is ∙ ap (option_map array) (strings_read vs texts all)
