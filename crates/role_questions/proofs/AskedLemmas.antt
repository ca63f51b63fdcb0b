-- What an asked role replies to a line.
use Rattle.std.proofs.Common.{◌≡◌, ◌≢◌, ◌⊎◌, ℕ, Bool, true, false, if◌then◌else◌, List, [], ◌∷◌, ◌++◌, Result, Ok, Err, IfOk, OnOk, refl, sym, ap, subst, ◌∙◌, inl, inr}
use Rattle.std.proofs.lemmas.Bool.{cases_Bool, cond-false, cond-true, true≢false}
use Rattle.std.specs.List.{Contains}
use Rattle.list_base.proofs.Members.{cons_cases, here_same, nowhere, there}
use Rattle.list_base.specs.Lines.{Line}
use Rattle.bspl_types.specs.declared.expanded.Expanded.{Expanded}
use Rattle.bspl_types.specs.declared.value.Value.{Value}
use Rattle.bspl_types.specs.Value.{EqualValuesAreOne, equal_values}
use Rattle.kept_lines.specs.Answers.{RepliesTo}
use Rattle.local_store.specs.declared.receipt.Receipt.{Receipt}
use Rattle.local_store.specs.declared.receipt.Receipt.TheVariants.{Differs, Fresh, Repeat}
use Rattle.local_store.specs.State.{AddsKey, StoreState}
use Rattle.wire_form.specs.declared.act.Act.{Act}
use Rattle.wire_form.specs.declared.act.Act.TheVariants.{Arrival, Attempt}
use Rattle.wire_form.specs.declared.reply.Reply.{Reply}
use Rattle.wire_form.specs.declared.reply.Refusal.{Refusal}
use Rattle.wire_form.specs.declared.reply.Refusal.TheVariants.{F1, F2}
use Rattle.wire_form.specs.declared.reply.Reply.TheVariants.{Refused}
use Rattle.wire_form.specs.Meaning.{AsksNothing}
use Rattle.wire_form.specs.Reply.{reply_text}
use Rattle.role_server.specs.Live.{LiveReplies, RepliesLive, live_limit}
use Rattle.role_server.specs.Replies.{Acts, AnswersAct, Replies, answered as does, done, in_vain as means_nothing, last, no_room, nothing}
use Rattle.role_server.specs.Served.{tells_event}
use Rattle.role_questions.specs.Asked.{AskedReplies, acted, in_vain}
use Rattle.role_questions.specs.Laws.{QuestionIsNoRequest}
use Rattle.role_questions.specs.Meaning.{PutsInVain, PutsNothing}

-- two keys are one, or they are not
same_key : EqualValuesAreOne → (key other : List Value) → (key ≡ other) ⊎ (key ≢ other)
same_key one key other = (elim (equal_values key other) as (λ b. equal_values key other ≡ b → (key ≡ other) ⊎ (key ≢ other)) [
  | true ↦ λ is. inl ((one key other).0 is)
  | false ↦ λ is. inr (λ same. true≢false (sym ((one key other).1 same) ∙ is))
]) refl

-- a key is held, or it is not
held_or_not : EqualValuesAreOne → (keys : List (List Value)) (key : List Value) → Contains keys key ⊎ (¬ Contains keys key)
held_or_not one [] key = inr (nowhere key)
held_or_not one (first ∷ keys) key = elim (same_key one first key) [
  | inl same ↦ inl (here_same first keys key same)
  | inr differs ↦ elim (held_or_not one keys key) [
    | inl held ↦ inl (there first keys key held)
    | inr not_held ↦ inr (λ held. elim (cons_cases first keys key held) [
      | inl same ↦ differs same
      | inr later ↦ not_held later
    ])
  ]
]

-- a key that is added leaves the protocol
adds_leaves : EqualValuesAreOne → (s held : StoreState) (key : List Value) → AddsKey s key held → held.protocol ≡ s.protocol
adds_leaves one s held key adds = elim (held_or_not one s.keys key) [
  | inl is ↦ ap (λ (t : StoreState). t.protocol) (adds.again is)
  | inr fresh ↦ ap (λ (t : StoreState). t.protocol) (adds.first fresh)
]

-- and so does what is done
acts_leave : (held new : StoreState) (act : Act) (reply : Reply) → Acts held act reply new → new.protocol ≡ held.protocol
acts_leave held new (Arrival m) reply is = (elim is.receipt as (λ (r : Receipt). is.receipt ≡ r → new.protocol ≡ held.protocol) [
  | Fresh ↦ λ same. ap (λ (t : StoreState). t.protocol) (rw same at is.received).2
  | Repeat ↦ λ same. ap (λ (t : StoreState). t.protocol) (rw same at is.received).1
  | Differs param kept arrived ↦ λ same. ap (λ (t : StoreState). t.protocol) (rw same at is.received).2
]) refl
acts_leave held new (Attempt message key outs) reply (inl emits) = ap (λ (t : StoreState). t.protocol) emits.entry
acts_leave held new (Attempt message key outs) reply (inr blocks) = ap (λ (t : StoreState). t.protocol) blocks.same

-- and the answer to an act
answer_leaves : EqualValuesAreOne → (s new : StoreState) (act : Act) (reply : Reply) → AnswersAct live_limit s act reply new → new.protocol ≡ s.protocol
answer_leaves one s new act reply (no_room none is same) = ap (λ (t : StoreState). t.protocol) same
answer_leaves one s new act reply (last room at_last is same) = ap (λ (t : StoreState). t.protocol) same
answer_leaves one s new act reply (done room before is) = acts_leave is.held new act reply is.acts ∙ adds_leaves one s is.held _ is.adds

-- and the reply to a line
reply_leaves : EqualValuesAreOne → (s new : StoreState) (line : Line) (reply : Reply) → Replies live_limit s line reply new → new.protocol ≡ s.protocol
reply_leaves one s new line reply (nothing none is same) = ap (λ (t : StoreState). t.protocol) same
reply_leaves one s new line reply (means_nothing vain is same) = ap (λ (t : StoreState). t.protocol) same
reply_leaves one s new line reply (does act asks answers) = answer_leaves one s new act reply answers

-- so a live role has one protocol
live_leaves : EqualValuesAreOne → (s next : StoreState) (line : Line) (reply : Reply) → RepliesLive s line reply next → next.protocol ≡ s.protocol
live_leaves one s next line reply is =
    let after = reply_leaves one s is.after line reply is.replies in
    elim (cases_Bool (tells_event reply)) [
      | inl event ↦ ap (λ (t : StoreState). t.protocol) (is.next_is ∙ cond-true (tells_event reply) is.after s event) ∙ after
      | inr none ↦ ap (λ (t : StoreState). t.protocol) (is.next_is ∙ cond-false (tells_event reply) is.after s none)
    ]

-- a line that asks for something puts no question
request_puts : QuestionIsNoRequest → (s new : StoreState) (line : Line) (reply : Reply) → Replies live_limit s line reply new → reply ≢ Refused F1 → PutsNothing line
request_puts law s new line reply (nothing none is same) other = absurd (other is)
request_puts law s new line reply (means_nothing vain is same) other = λ asked puts. law line vain.request asked vain.asks puts
request_puts law s new line reply (does act asks answers) other = λ asked puts. law line asks.request asked asks.asks puts

-- what is done is not refused
done_tells : (held new : StoreState) (act : Act) (refusal : Refusal) → Acts held act (Refused refusal) new → ⊥
done_tells held new (Arrival m) refusal is = let same = is.reply_is in absurd (cc)
done_tells held new (Attempt message key outs) refusal (inl emits) = let same = emits.reply_is in absurd (cc)
done_tells held new (Attempt message key outs) refusal (inr blocks) = let same = blocks.reply_is in absurd (cc)

-- nor is an act refused as a line that asks for none
answer_tells : (s new : StoreState) (act : Act) → AnswersAct live_limit s act (Refused F1) new → ⊥
answer_tells s new act (no_room none is same) = absurd (cc)
answer_tells s new act (last room at_last is same) = absurd (cc)
answer_tells s new act (done room before is) = done_tells is.held new act F1 is.acts

-- so a line that is refused as such asks for nothing
refused_asks : (s new : StoreState) (line : Line) → Replies live_limit s line (Refused F1) new → AsksNothing line
refused_asks s new line (nothing none is same) = none
refused_asks s new line (means_nothing vain is same) = absurd (cc)
refused_asks s new line (does act asks answers) = absurd (answer_tells s new act answers)

pub left_asks : (s next : StoreState) (line : Line) → RepliesLive s line (Refused F1) next → AsksNothing line
left_asks s next line is = refused_asks s is.after line is.replies

-- it is answered from that store
pub asked_left : {E : Type 0} (s next room : StoreState) (line : Line) (text text_after : List ℕ) (result : Result Bool E) → RepliesLive s line (Refused F1) next → room ≡ next → IfOk result (λ is_kept. RepliesTo AskedReplies room line text text_after is_kept room) → IfOk result (λ is_kept. RepliesTo AskedReplies s line text text_after is_kept next)
asked_left s next room line text text_after result is same told =
    let left : next ≡ s = is.next_is in
    subst (λ (t : StoreState). IfOk result (λ is_kept. RepliesTo AskedReplies s line text text_after is_kept t)) (sym left) (subst (λ (t : StoreState). IfOk result (λ is_kept. RepliesTo AskedReplies t line text text_after is_kept t)) (same ∙ left) told)

-- a line that asks for an act is answered by a live role
pub asked_told : {E : Type 0} (s next : StoreState) (line : Line) (reply : Reply) (x : Expanded) (text text_after : List ℕ) (result : Result Bool E) → QuestionIsNoRequest → EqualValuesAreOne → RepliesLive s line reply next → reply ≢ Refused F1 → x ≡ next.protocol → OnOk result (text_after ≡ text ++ reply_text x reply) → IfOk result (λ is_event. is_event ≡ tells_event reply) → IfOk result (λ is_kept. RepliesTo AskedReplies s line text text_after is_kept next)
asked_told s next line reply x text text_after (Ok is_event) law one is other same appended told =
    let live : LiveReplies s line (reply_text s.protocol reply) is_event next = record {
      reply = reply;
      after = is.after;
      replies = is.replies;
      text_is = refl;
      kept_is = told;
      next_is = is.next_is ∙ ap (λ (b : Bool). if b then is.after else s) (sym told);
    } in
    record {
      reply = reply_text s.protocol reply;
      answer = acted (request_puts law s is.after line reply is.replies other) live;
      appended = appended ∙ ap (λ (y : Expanded). text ++ reply_text y reply) (same ∙ live_leaves one s next line reply is);
    }
asked_told s next line reply x text text_after (Err error) law one is other same appended told = tt

-- a line that asks for nothing is refused by a live role if it puts no question either
pub neither_told : {E : Type 0} (s : StoreState) (line : Line) (text text_after : List ℕ) (result : Result Bool E) → AsksNothing line → PutsNothing line → OnOk result (text_after ≡ text ++ reply_text s.protocol (Refused F1)) → IfOk result (λ is_kept. is_kept ≡ false) → IfOk result (λ is_kept. RepliesTo AskedReplies s line text text_after is_kept s)
neither_told s line text text_after (Ok is_kept) asks puts appended kept =
    let live : LiveReplies s line (reply_text s.protocol (Refused F1)) is_kept s = record {
      reply = Refused F1;
      after = s;
      replies = nothing asks refl refl;
      text_is = refl;
      kept_is = kept;
      next_is = sym (cond-false is_kept s s kept);
    } in
    record { reply = reply_text s.protocol (Refused F1); answer = acted puts live; appended = appended }
neither_told s line text text_after (Err error) asks puts appended kept = tt

-- a question that means nothing is refused
pub vain_told : {E : Type 0} (s : StoreState) (line : Line) (text text_after : List ℕ) (result : Result Bool E) → PutsInVain s.protocol line → OnOk result (text_after ≡ text ++ reply_text s.protocol (Refused F2)) → IfOk result (λ is_kept. is_kept ≡ false) → IfOk result (λ is_kept. RepliesTo AskedReplies s line text text_after is_kept s)
vain_told s line text text_after (Ok is_kept) vain appended kept = record { reply = reply_text s.protocol (Refused F2); answer = in_vain vain refl kept refl; appended = appended }
vain_told s line text text_after (Err error) vain appended kept = tt
