-- A message can be emitted exactly if each of its parameters is permitted.
use Rattle.std.proofs.Common.{◌≡◌, ℕ, ◌+◌, ◌<◌, List, ◌++◌, length, take, drop, get_or, Result, Ok, Err, sym, ap, ◌∙◌, subst}
use Rattle.std.specs.Prelude.{◌↔◌, IfErr, IsErr, IsOk}
use Rattle.std.specs.Result.{IsErrAnd}
use Rattle.std.proofs.lemmas.Bool.{false≢true}
use Rattle.std.specs.List.{All, Contains}
use Rattle.std.proofs.lemmas.List.{drop_more, get_or_default, take-append-drop}
use Rattle.std.proofs.lemmas.List.Elements.{All-contains}
use Rattle.bspl_types.specs.declared.event.Event.{Event}
use Rattle.bspl_types.specs.declared.expanded.Expanded.{Expanded}
use Rattle.bspl_types.specs.declared.protocol.Adornment.TheVariants.{In, Out, Nil}
use Rattle.bspl_types.specs.declared.protocol.Carried.{Carried}
use Rattle.bspl_types.specs.declared.value.Value.{Value}
use Rattle.bspl_types.specs.Expansion.{message_of}
use Rattle.bspl_types.specs.Knowledge.{CanEmit, IsKnown}
use Rattle.role_knowledge.specs.declared.block.Block.{Block}
use Rattle.role_knowledge.specs.Blocked.{IsBlockOf, IsFirstBlock, IsPermitted, Permits}

-- permitted parameters let the message be emitted
emits_if_permitted : (x : Expanded) (history : List Event) (m : ℕ) (key : List Value) → m < length x.messages → All (IsPermitted x history key) (message_of x m).carried → CanEmit x history m key
emits_if_permitted x history m key known all =
    let one = All-contains (IsPermitted x history key) (message_of x m).carried in
    record {
      known = known;
      ins = λ p adorned. one (record { param = p; adornment = In }) all adorned;
      outs = λ p adorned. one (record { param = p; adornment = Out }) all adorned;
      nils = λ p adorned. one (record { param = p; adornment = Nil }) all adorned;
    }

-- a message that can be emitted has permitted parameters alone
permitted_if_emits : (x : Expanded) (history : List Event) (m : ℕ) (key : List Value) → CanEmit x history m key → (c : Carried) → Contains (message_of x m).carried c → IsPermitted x history key c
permitted_if_emits x history m key can c =
    elim c.adornment as (λ a. Contains (message_of x m).carried (record { param = c.param; adornment = a }) → Permits a (IsKnown x history key c.param)) [
      | In ↦ can.ins c.param
      | Out ↦ can.outs c.param
      | Nil ↦ can.nils c.param
    ]

-- so both are one
pub emits_exactly : (x : Expanded) (history : List Event) (m : ℕ) (key : List Value) → m < length x.messages → (All (IsPermitted x history key) (message_of x m).carried ↔ CanEmit x history m key)
emits_exactly x history m key known = (
  emits_if_permitted x history m key known,
  λ can k d within. permitted_if_emits x history m key can (get_or (message_of x m).carried k d) (k, within, get_or_default (message_of x m).carried k (get_or (message_of x m).carried k d) d within),
)

-- the parameter that blocks, after those that are permitted
pub first_block_at : (x : Expanded) (history : List Event) (key : List Value) (carried : List Carried) (i : ℕ) (d : Carried) (block : Block) → i < length carried → All (IsPermitted x history key) (take i carried) → IsBlockOf x history key (get_or carried i d) block → IsFirstBlock x history key carried block
first_block_at x history key carried i d block within permitted why =
    record {
      before = take i carried;
      blocked = get_or carried i d;
      after = drop (i + 1) carried;
      split = sym (take-append-drop i carried) ∙ ap (λ rest. take i carried ++ rest) (drop_more carried i d within);
      permitted = permitted;
      why = why;
    }

-- an error that is handed on is the one that came
pub handed_on : {A E : Type 0} (answer : Result A E) (e : E) (P : E → Type 0) → IsErrAnd answer (λ f. f ≡ e) → P e → IfErr answer P
handed_on (Ok value) e P is holds = tt
handed_on (Err f) e P is holds = subst P (sym is) holds

-- and what is refused by it does not hold
pub refused_exactly : {A E : Type 0} (answer : Result A E) (Holds : Type 0) → IsErr answer → ¬ Holds → (IsOk answer ↔ Holds)
refused_exactly (Ok value) Holds is_err not = absurd (false≢true is_err)
refused_exactly (Err error) Holds is_err not = (λ is_ok. absurd (false≢true is_ok), λ holds. absurd (not holds))
