-- A request is known by its JSON.
use Rattle.std.proofs.Common.{◌≡◌, ℕ, List, [], ◌∷◌, map, refl, sym, ap, ap₂, ◌∙◌}
use Rattle.std.proofs.lemmas.List.{append_cancel_right}
use Rattle.std.proofs.lemmas.Option.{same_Some}
use Rattle.list_base.specs.Lines.{Line}
use Rattle.serde_json.specs.Data.{string}
use Rattle.serde_json.specs.Read.{read}
use Rattle.serde_json.specs.View.{items_of}
use Rattle.wire_form.specs.Request.{Asks, NamedField, Request, emit, fields_data, receive, request_data}

-- texts are known by their strings
pub texts_once : (ts us : List (List ℕ)) → items_of (map string ts) ≡ items_of (map string us) → ts ≡ us
texts_once [] [] same = refl
texts_once [] (u ∷ us) same = absurd (cc)
texts_once (t ∷ ts) [] same = absurd (cc)
texts_once (t ∷ ts) (u ∷ us) same =
    let first : t ≡ u = cc in
    let rest : items_of (map string ts) ≡ items_of (map string us) = cc in
    ap₂ (λ (a : List ℕ) (bs : List (List ℕ)). a ∷ bs) first (texts_once ts us rest)

-- fields are known by their members
fields_once : (fs gs : List NamedField) → fields_data fs ≡ fields_data gs → fs ≡ gs
fields_once [] [] same = refl
fields_once [] (g ∷ gs) same = absurd (cc)
fields_once (f ∷ fs) [] same = absurd (cc)
fields_once (f ∷ fs) (g ∷ gs) same =
    let name : f.0 ≡ g.0 = cc in
    let text : f.1 ≡ g.1 = cc in
    let rest : fields_data fs ≡ fields_data gs = cc in
    let fields = fields_once fs gs rest in
    λ i. (name i, text i) ∷ fields i

-- so are requests
request_once : (one other : Request) → request_data one ≡ request_data other → one ≡ other
request_once (receive m n s fs) (receive m' n' s' gs) same =
    let message : m ≡ m' = cc in
    let number : n ≡ n' = cc in
    let stamp : s ≡ s' = cc in
    let values : fields_data fs ≡ fields_data gs = cc in
    let fields = fields_once fs gs values in
    λ i. receive (message i) (number i) (stamp i) (fields i)
request_once (receive m n s fs) (emit k m' os) same = absurd (cc)
request_once (emit k m os) (receive m' n' s' gs) same = absurd (cc)
request_once (emit k m os) (emit k' m' os') same =
    let message : m ≡ m' = cc in
    let keys : items_of (map string k) ≡ items_of (map string k') = cc in
    let outs : items_of (map string os) ≡ items_of (map string os') = cc in
    let key = texts_once k k' keys in
    let out = texts_once os os' outs in
    λ i. emit (key i) (message i) (out i)

-- and what a line asks for
pub line_asks_once : (line : Line) (one other : Request) → Asks line one → Asks line other → one ≡ other
line_asks_once line one other asks also =
    let body : asks.body ≡ also.body = append_cancel_right asks.body also.body (10 ∷ []) (sym asks.ended ∙ also.ended) in
    request_once one other (same_Some (request_data one) (request_data other) (sym asks.reads ∙ ap read body ∙ also.reads))
