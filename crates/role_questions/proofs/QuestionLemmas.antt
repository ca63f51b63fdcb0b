-- A question is known by its JSON, and is no request.
use Rattle.std.proofs.Common.{◌≡◌, ℕ, List, Some, [], ◌∷◌, ◌++◌, map, refl, sym, ap, ap₂, subst, ◌∙◌}
use Rattle.std.proofs.lemmas.List.{append_cancel_right}
use Rattle.std.proofs.lemmas.Option.{same_Some}
use Rattle.list_base.specs.Lines.{Line}
use Rattle.list_base.proofs.Zipped.{one_list}
use Rattle.serde_json.specs.Data.{Data, string}
use Rattle.serde_json.specs.Read.{read}
use Rattle.serde_json.specs.View.{items_of}
use Rattle.bspl_types.specs.declared.value.Value.{Value}
use Rattle.bspl_types.specs.ValueSpelling.{SpellsValue, ValuesAreSpelledOnce}
use Rattle.wire_form.specs.Request.{Request, emit, receive, request_data}
use Rattle.role_questions.specs.declared.question.Question.{Question}
use Rattle.role_questions.specs.declared.question.Question.TheVariants.{Enabled, Known}
use Rattle.role_questions.specs.Laws.{LinePutsOneQuestion, QuestionIsNoRequest}
use Rattle.role_questions.specs.Meaning.{MeansAsked, SpellsKey}
use Rattle.role_questions.specs.Questions.{TextQuestion, ask_enabled, ask_history, ask_keys, ask_known, ask_status, question_data}

-- texts are known by the array of their strings
texts_are_one : (ts us : List (List ℕ)) → items_of (map string ts) ≡ items_of (map string us) → ts ≡ us
texts_are_one [] [] same = refl
texts_are_one [] (u ∷ us) same = absurd (cc)
texts_are_one (t ∷ ts) [] same = absurd (cc)
texts_are_one (t ∷ ts) (u ∷ us) same =
    let first : t ≡ u = cc in
    let rest : items_of (map string ts) ≡ items_of (map string us) = cc in
    ap₂ (λ (a : List ℕ) (bs : List (List ℕ)). a ∷ bs) first (texts_are_one ts us rest)

-- a question of a kind is that of no other kind
question_once : (one other : TextQuestion) → question_data one ≡ question_data other → one ≡ other
question_once (ask_enabled ts) (ask_enabled us) same =
    let items : items_of (map string ts) ≡ items_of (map string us) = cc in
    ap ask_enabled (texts_are_one ts us items)
question_once (ask_enabled ts) (ask_known us) same = absurd (cc)
question_once (ask_enabled ts) (ask_keys f m) same = absurd (cc)
question_once (ask_enabled ts) (ask_history f m) same = absurd (cc)
question_once (ask_enabled ts) ask_status same = absurd (cc)
question_once (ask_known ts) (ask_enabled us) same = absurd (cc)
question_once (ask_known ts) (ask_known us) same =
    let items : items_of (map string ts) ≡ items_of (map string us) = cc in
    ap ask_known (texts_are_one ts us items)
question_once (ask_known ts) (ask_keys f m) same = absurd (cc)
question_once (ask_known ts) (ask_history f m) same = absurd (cc)
question_once (ask_known ts) ask_status same = absurd (cc)
question_once (ask_keys f m) (ask_enabled us) same = absurd (cc)
question_once (ask_keys f m) (ask_known us) same = absurd (cc)
question_once (ask_keys f m) (ask_keys g n) same =
    let from : f ≡ g = cc in
    let most : m ≡ n = cc in
    ap₂ ask_keys from most
question_once (ask_keys f m) (ask_history g n) same = absurd (cc)
question_once (ask_keys f m) ask_status same = absurd (cc)
question_once (ask_history f m) (ask_enabled us) same = absurd (cc)
question_once (ask_history f m) (ask_known us) same = absurd (cc)
question_once (ask_history f m) (ask_keys g n) same = absurd (cc)
question_once (ask_history f m) (ask_history g n) same =
    let from : f ≡ g = cc in
    let most : m ≡ n = cc in
    ap₂ ask_history from most
question_once (ask_history f m) ask_status same = absurd (cc)
question_once ask_status (ask_enabled us) same = absurd (cc)
question_once ask_status (ask_known us) same = absurd (cc)
question_once ask_status (ask_keys g n) same = absurd (cc)
question_once ask_status (ask_history g n) same = absurd (cc)
question_once ask_status ask_status same = refl

-- a request is no question
no_request : (request : Request) (asked : TextQuestion) → request_data request ≡ question_data asked → ⊥
no_request (receive m n s fs) (ask_enabled us) same = absurd (cc)
no_request (receive m n s fs) (ask_known us) same = absurd (cc)
no_request (receive m n s fs) (ask_keys f k) same = absurd (cc)
no_request (receive m n s fs) (ask_history f k) same = absurd (cc)
no_request (receive m n s fs) ask_status same = absurd (cc)
no_request (emit k m os) (ask_enabled us) same = absurd (cc)
no_request (emit k m os) (ask_known us) same = absurd (cc)
no_request (emit k m os) (ask_keys f n) same = absurd (cc)
no_request (emit k m os) (ask_history f n) same = absurd (cc)
no_request (emit k m os) ask_status same = absurd (cc)

-- two bodies of a line are one, so what they are read as is one too
read_once : (line : Line) (b c : List ℕ) (d e : Data) → line ≡ b ++ 10 ∷ [] → line ≡ c ++ 10 ∷ [] → read b ≡ Some d → read c ≡ Some e → d ≡ e
read_once line b c d e ends also reads other = same_Some d e (sym reads ∙ ap read (append_cancel_right b c (10 ∷ []) (sym ends ∙ also)) ∙ other)

-- so a line that asks for an act puts no question
pub no_request_is_put : QuestionIsNoRequest
no_request_is_put line request asked asks puts = no_request request asked (read_once line asks.body puts.body (request_data request) (question_data asked) asks.ended puts.ended asks.reads puts.reads)

module _ (once : ValuesAreSpelledOnce) where
  -- texts spell one key
  key_once : (texts : List (List ℕ)) (one other : List Value) → SpellsKey texts one → SpellsKey texts other → one ≡ other
  key_once texts one other spells also = one_list SpellsValue (λ t v w s r. once v w s.value r.value (sym s.spelled ∙ r.spelled)) texts one other spells also

  -- what is asked means one question
  means_once : (asked : TextQuestion) (one other : Question) → MeansAsked asked one → MeansAsked asked other → one ≡ other
  means_once (ask_enabled texts) one other means also = means.2 ∙ ap Enabled (key_once texts means.0 also.0 means.1 also.1) ∙ sym also.2
  means_once (ask_known texts) one other means also = means.2 ∙ ap Known (key_once texts means.0 also.0 means.1 also.1) ∙ sym also.2
  means_once (ask_keys from most) one other means also = means ∙ sym also
  means_once (ask_history from most) one other means also = means ∙ sym also
  means_once ask_status one other means also = means ∙ sym also

  -- and a line puts one question
  pub one_question_is_put : LinePutsOneQuestion
  one_question_is_put x line one other puts also =
      let same = question_once puts.asked also.asked (read_once line puts.puts.body also.puts.body (question_data puts.asked) (question_data also.asked) puts.puts.ended also.puts.ended puts.puts.reads also.puts.reads) in
      means_once also.asked one other (subst (λ (asked : TextQuestion). MeansAsked asked one) same puts.means) also.means
