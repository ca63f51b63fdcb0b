-- A line gets one reply, and one store comes after it.
use Rattle.std.proofs.Common.{◌≡◌, ◌≢◌, ◌⊎◌, ℕ, true, false, List, [], ◌∷◌, refl, sym, ap, subst, ◌∙◌, inl, inr}
use Rattle.std.specs.List.{Contains}
use Rattle.std.proofs.lemmas.Bool.{true≢false}
use Rattle.list_base.proofs.Members.{cons_cases, here_same, nowhere, there}
use Rattle.list_base.specs.Lines.{Line}
use Rattle.bspl_types.specs.declared.envelope.Stamped.{Stamped}
use Rattle.bspl_types.specs.declared.event.Event.TheVariants.{Emit}
use Rattle.bspl_types.specs.declared.value.Value.{Value}
use Rattle.bspl_types.specs.Value.{EqualValuesAreOne, equal_values}
use Rattle.local_store.specs.Consistent.{IsConsistent}
use Rattle.local_store.specs.Laws.{EmissionStaysLocal, ReceiptStaysLocal}
use Rattle.local_store.specs.State.{AddsKey, StoreState, acts_of, with_entry}
use Rattle.role_knowledge.specs.Laws.{BlocksAreOne}
use Rattle.wire_form.specs.declared.act.Act.{Act}
use Rattle.wire_form.specs.declared.act.Act.TheVariants.{Arrival, Attempt}
use Rattle.wire_form.specs.declared.reply.Reply.{Reply}
use Rattle.wire_form.specs.declared.reply.Reply.TheVariants.{Blocked, Received, Sent}
use Rattle.wire_form.specs.Laws.{LineAsksOnce, LineHasOneAct}
use Rattle.wire_form.specs.Meaning.{AsksFor, AsksInVain, Means}
use Rattle.wire_form.specs.Request.{Request}
use Rattle.role_server.specs.Replies.{Acts, AnswersAct, Blocks, Emits, Replies, answered, act_key, done, in_vain, last, no_room, nothing}
use Rattle.role_server.proofs.OneEmission.{not_blocked, one_emission}
use Rattle.role_server.proofs.OneReceipt.{one_receipt}

-- what lower crates say
pub record LowerLaws : Type 0 where
  pub asks : LineAsksOnce
  pub acts : LineHasOneAct
  pub blocks : BlocksAreOne
  pub keys : EqualValuesAreOne
  pub emission : EmissionStaysLocal
  pub receipt : ReceiptStaysLocal

-- the reply and the store after it are these
abbrev pub IsSame : Reply → StoreState → Reply → StoreState → Type 0
IsSame reply new reply' new' = (reply ≡ reply') × (new ≡ new')

-- two keys are one, or they are not
same_key : EqualValuesAreOne → (key other : List Value) → (key ≡ other) ⊎ (key ≢ other)
same_key one key other = (elim (equal_values key other) as (λ b. equal_values key other ≡ b → (key ≡ other) ⊎ (key ≢ other)) [
  | true ↦ λ is. inl ((one key other).0 is)
  | false ↦ λ is. inr (λ same. true≢false (sym ((one key other).1 same) ∙ is))
]) refl

-- a key is held, or it is not
pub held_or_not : EqualValuesAreOne → (keys : List (List Value)) (key : List Value) → Contains keys key ⊎ (¬ Contains keys key)
held_or_not one [] key = inr (nowhere key)
held_or_not one (first ∷ keys) key = elim (same_key one first key) [
  | inl same ↦ inl (here_same first keys key same)
  | inr differs ↦ elim (held_or_not one keys key) [
    | inl held ↦ inl (there first keys key held)
    | inr not_held ↦ inr (λ held. elim (cons_cases first keys key held) [
      | inl same ↦ differs same
      | inr later ↦ not_held later
    ])
  ]
]

-- a store with one more key is one
adds_once : EqualValuesAreOne → (s : StoreState) (key : List Value) (a b : StoreState) → AddsKey s key a → AddsKey s key b → a ≡ b
adds_once one s key a b adds also = elim (held_or_not one s.keys key) [
  | inl held ↦ adds.again held ∙ sym (also.again held)
  | inr fresh ↦ adds.first fresh ∙ sym (also.first fresh)
]

-- two emissions are one
emits_once : (held : StoreState) (message : ℕ) (key outs : List Value) (reply reply' : Reply) (new new' : StoreState) → IsConsistent held → Emits held message key outs reply new → Emits held message key outs reply' new' → IsSame reply new reply' new'
emits_once held message key outs reply reply' new new' kept one two =
    let same = one_emission held message key outs one.sent two.sent kept.local.one_value one.emission two.emission in (
      one.reply_is ∙ ap Sent same ∙ sym two.reply_is,
      one.entry ∙ ap (λ (m : Stamped). with_entry held (Emit m.instance) m.stamp m.number) same ∙ sym two.entry,
    )

-- and two blocks
blocks_once : BlocksAreOne → (held : StoreState) (message : ℕ) (key : List Value) (reply reply' : Reply) (new new' : StoreState) → IsConsistent held → Blocks held message key reply new → Blocks held message key reply' new' → IsSame reply new reply' new'
blocks_once law held message key reply reply' new new' kept one two =
    (one.reply_is ∙ ap Blocked (law held.protocol (acts_of held) key message one.block two.block kept.admitted one.first two.first) ∙ sym two.reply_is, one.same ∙ sym two.same)

-- an act is done in one way
acts_once : BlocksAreOne → (held : StoreState) (act : Act) (reply reply' : Reply) (new new' : StoreState) → IsConsistent held → Acts held act reply new → Acts held act reply' new' → IsSame reply new reply' new'
acts_once law held (Arrival m) reply reply' new new' kept one two =
    let same = one_receipt held m kept.local.one_value one.receipt two.receipt new new' one.received two.received in
    (one.reply_is ∙ ap Received same.0 ∙ sym two.reply_is, same.1)
acts_once law held (Attempt message key outs) reply reply' new new' kept (inl one) (inl two) = emits_once held message key outs reply reply' new new' kept one two
acts_once law held (Attempt message key outs) reply reply' new new' kept (inl one) (inr two) = absurd (not_blocked held.protocol (acts_of held) key message two.block one.can two.first)
acts_once law held (Attempt message key outs) reply reply' new new' kept (inr one) (inl two) = absurd (not_blocked held.protocol (acts_of held) key message one.block two.can one.first)
acts_once law held (Attempt message key outs) reply reply' new new' kept (inr one) (inr two) = blocks_once law held message key reply reply' new new' kept one two

-- it is answered in one way, if the store that holds its key is consistent
answers_once : (most : ℕ) → LowerLaws → (s : StoreState) (act : Act) (reply reply' : Reply) (new new' : StoreState) → ((held : StoreState) → AddsKey s (act_key act) held → IsConsistent held) → AnswersAct most s act reply new → AnswersAct most s act reply' new' → IsSame reply new reply' new'
answers_once most laws s act reply reply' new new' keeps (no_room none is same) (no_room none' is' same') = (is ∙ sym is', same ∙ sym same')
answers_once most laws s act reply reply' new new' keeps (no_room none is same) (last room at is' same') = absurd (room none)
answers_once most laws s act reply reply' new new' keeps (no_room none is same) (done room before d) = absurd (room none)
answers_once most laws s act reply reply' new new' keeps (last room at is same) (no_room none is' same') = absurd (room none)
answers_once most laws s act reply reply' new new' keeps (last room at is same) (last room' at' is' same') = (is ∙ sym is', same ∙ sym same')
answers_once most laws s act reply reply' new new' keeps (last room at is same) (done room' before d) = absurd (before at)
answers_once most laws s act reply reply' new new' keeps (done room before d) (no_room none is' same') = absurd (room none)
answers_once most laws s act reply reply' new new' keeps (done room before d) (last room' at is' same') = absurd (before at)
answers_once most laws s act reply reply' new new' keeps (done room before d) (done room' before' d') =
    let held = adds_once laws.keys s (act_key act) d.held d'.held d.adds d'.adds in
    acts_once laws.blocks d'.held act reply reply' new new' (keeps d'.held d'.adds) (subst (λ (h : StoreState). Acts h act reply new) held d.acts) d'.acts

-- a line that means an act does not ask in vain
not_in_vain : LineAsksOnce → (s : StoreState) (line : Line) (act : Act) → AsksFor s.protocol s.role line act → AsksInVain s.protocol s.role line → ⊥
not_in_vain law s line act asks vain =
    let same = law line asks.request vain.request asks.asks vain.asks in
    vain.nothing act (subst (λ (r : Request). Means s.protocol s.role r act) same asks.means)

-- a line gets one reply, if each store that holds the key of its act is consistent
pub replies_once : (most : ℕ) → LowerLaws → (s : StoreState) (line : Line) (reply reply' : Reply) (new new' : StoreState) → IsConsistent s → ((act : Act) (held : StoreState) → AsksFor s.protocol s.role line act → AddsKey s (act_key act) held → IsConsistent held) → Replies most s line reply new → Replies most s line reply' new' → IsSame reply new reply' new'
replies_once most laws s line reply reply' new new' kept keeps (nothing none is same) (nothing none' is' same') = (is ∙ sym is', same ∙ sym same')
replies_once most laws s line reply reply' new new' kept keeps (nothing none is same) (in_vain vain is' same') = absurd (none vain.request vain.asks)
replies_once most laws s line reply reply' new new' kept keeps (nothing none is same) (answered act asks answers) = absurd (none asks.request asks.asks)
replies_once most laws s line reply reply' new new' kept keeps (in_vain vain is same) (nothing none is' same') = absurd (none vain.request vain.asks)
replies_once most laws s line reply reply' new new' kept keeps (in_vain vain is same) (in_vain vain' is' same') = (is ∙ sym is', same ∙ sym same')
replies_once most laws s line reply reply' new new' kept keeps (in_vain vain is same) (answered act asks answers) = absurd (not_in_vain laws.asks s line act asks vain)
replies_once most laws s line reply reply' new new' kept keeps (answered act asks answers) (nothing none is' same') = absurd (none asks.request asks.asks)
replies_once most laws s line reply reply' new new' kept keeps (answered act asks answers) (in_vain vain is' same') = absurd (not_in_vain laws.asks s line act asks vain)
replies_once most laws s line reply reply' new new' kept keeps (answered act asks answers) (answered act' asks' answers') =
    let same = laws.acts s.protocol s.role line act act' kept.admitted asks asks' in
    answers_once most laws s act' reply reply' new new' (λ held adds. keeps act' held asks' adds) (subst (λ (a : Act). AnswersAct most s a reply new) same answers) answers'
