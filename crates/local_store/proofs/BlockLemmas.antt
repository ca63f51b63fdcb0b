-- The first block that the cells show is that of the history, and without one the message can be emitted.
use Rattle.std.proofs.Common.{◌≢◌, ℕ, ◌<◌, List, [], ◌∷◌, length, Option, None, Some, refl, sym, ap, subst}
use Rattle.std.specs.Prelude.{◌↔◌, IfSome, IsNone, MatchOption}
use Rattle.std.specs.List.{All, Contains}
use Rattle.std.specs.Option.{option_or}
use Rattle.std.proofs.lemmas.Bool.{true≢false}
use Rattle.std.proofs.lemmas.List.Elements.{All-cons, All-contains, All-head, All-nil, All-tail, Contains-append_right}
use Rattle.list_base.proofs.Members.{here}
use Rattle.bspl_types.specs.declared.event.Event.{Event}
use Rattle.bspl_types.specs.declared.expanded.Expanded.{Expanded}
use Rattle.bspl_types.specs.declared.protocol.Adornment.{Adornment}
use Rattle.bspl_types.specs.declared.protocol.Adornment.TheVariants.{In, Out, Nil}
use Rattle.bspl_types.specs.declared.protocol.Carried.{Carried}
use Rattle.bspl_types.specs.declared.value.Value.{Value}
use Rattle.bspl_types.specs.Expansion.{message_of}
use Rattle.bspl_types.specs.Knowledge.{CanEmit, IsKnown}
use Rattle.bspl_types.specs.Value.{EqualValuesAreOne}
use Rattle.role_knowledge.specs.declared.block.Block.{Block}
use Rattle.role_knowledge.specs.declared.block.Block.TheVariants.{Missing, Bound}
use Rattle.role_knowledge.specs.Blocked.{IsBlockOf, IsFirstBlock, IsPermitted, Permits}
use Rattle.stamped_history.specs.Local.{KnowsOneValue}
use Rattle.local_store.specs.inner.Blocks.{block_of, first_block}
use Rattle.local_store.proofs.KnownLemmas.{Reads, first_known, known_from_first}

module _ (law : EqualValuesAreOne) (x : Expanded) (history : List Event) (key : List Value) (one : KnowsOneValue x history) where
  -- what one parameter's cell shows
  shows : (a : Adornment) (p : ℕ) (cell : Option Value) → Reads x history key p cell → MatchOption (block_of a p cell) (Permits a (IsKnown x history key p)) (IsBlockOf x history key (record { param = p; adornment = a }))
  shows In p None reads = (refl, record { adorned = refl; unknown = reads })
  shows In p (Some v) reads = (v, reads)
  shows Out p None reads = reads
  shows Out p (Some v) reads = (refl, record { adorned = λ is. absurd (cc); first = first_known law x history key p v one reads })
  shows Nil p None reads = reads
  shows Nil p (Some v) reads = (refl, record { adorned = λ is. absurd (cc); first = first_known law x history key p v one reads })

  -- it blocks, or leaves the rest
  joined : (c : Carried) (carried : List Carried) (found rest : Option Block) → MatchOption found (IsPermitted x history key c) (IsBlockOf x history key c) → MatchOption rest (All (IsPermitted x history key) carried) (IsFirstBlock x history key carried) → MatchOption (option_or found rest) (All (IsPermitted x history key) (c ∷ carried)) (IsFirstBlock x history key (c ∷ carried))
  joined c carried None None permitted later = All-cons (IsPermitted x history key) c carried permitted later
  joined c carried None (Some b) permitted later = record { before = c ∷ later.before; blocked = later.blocked; after = later.after; split = ap (λ cs. c ∷ cs) later.split; permitted = All-cons (IsPermitted x history key) c later.before permitted later.permitted; why = later.why }
  joined c carried (Some b) rest why later = record { before = []; blocked = c; after = carried; split = refl; permitted = All-nil (IsPermitted x history key); why = why }

  pub shown : (cell : ℕ → Option Value) (carried : List Carried) → All (λ c. Reads x history key c.param (cell c.param)) carried → MatchOption (first_block cell carried) (All (IsPermitted x history key) carried) (IsFirstBlock x history key carried)
  shown cell [] reads = All-nil (IsPermitted x history key)
  shown cell (c ∷ carried) reads = joined c carried (block_of c.adornment c.param (cell c.param)) (first_block cell carried)
      (shows c.adornment c.param (cell c.param) (All-head (λ d. Reads x history key d.param (cell d.param)) c carried reads))
      (shown cell carried (All-tail (λ d. Reads x history key d.param (cell d.param)) c carried reads))

-- permitted parameters let the message be emitted
emits_if_permitted : (x : Expanded) (history : List Event) (m : ℕ) (key : List Value) → m < length x.messages → All (IsPermitted x history key) (message_of x m).carried → CanEmit x history m key
emits_if_permitted x history m key known all =
    let one = All-contains (IsPermitted x history key) (message_of x m).carried in
    record {
      known = known;
      ins = λ p adorned. one (record { param = p; adornment = In }) all adorned;
      outs = λ p adorned. one (record { param = p; adornment = Out }) all adorned;
      nils = λ p adorned. one (record { param = p; adornment = Nil }) all adorned;
    }

-- a message that can be emitted has permitted parameters alone
permitted_if_emits : (x : Expanded) (history : List Event) (m : ℕ) (key : List Value) → CanEmit x history m key → (c : Carried) → Contains (message_of x m).carried c → IsPermitted x history key c
permitted_if_emits x history m key can c =
    elim c.adornment as (λ a. Contains (message_of x m).carried (record { param = c.param; adornment = a }) → Permits a (IsKnown x history key c.param)) [
      | In ↦ can.ins c.param
      | Out ↦ can.outs c.param
      | Nil ↦ can.nils c.param
    ]

-- an `out` or `nil` parameter that is known is not permitted
bound_not_permitted : (a : Adornment) (K : Type 0) → a ≢ In → K → ¬ Permits a K
bound_not_permitted In K not_in known = absurd (not_in refl)
bound_not_permitted Out K not_in known = λ permitted. permitted known
bound_not_permitted Nil K not_in known = λ permitted. permitted known

-- what blocks is not permitted
not_permitted : (x : Expanded) (history : List Event) (key : List Value) (c : Carried) (block : Block) → IsBlockOf x history key c block → ¬ IsPermitted x history key c
not_permitted x history key c (Missing p) why = λ permitted. why.1.unknown (subst (λ a. Permits a (IsKnown x history key c.param)) why.1.adorned permitted)
not_permitted x history key c (Bound p kept) why = bound_not_permitted c.adornment (IsKnown x history key c.param) why.1.adorned (kept, known_from_first x history key c.param kept why.1.first)

-- the first block, and that there is none exactly if the message can be emitted
pub record Decided (x : Expanded) (history : List Event) (m : ℕ) (key : List Value) (found : Option Block) : Type 0 where
  pub exact : IsNone found ↔ CanEmit x history m key
  pub blocked : IfSome found (IsFirstBlock x history key (message_of x m).carried)

pub decided : (x : Expanded) (history : List Event) (m : ℕ) (key : List Value) (found : Option Block) → m < length x.messages → MatchOption found (All (IsPermitted x history key) (message_of x m).carried) (IsFirstBlock x history key (message_of x m).carried) → Decided x history m key found
decided x history m key None known all = record { exact = (λ _. emits_if_permitted x history m key known all, λ _. refl); blocked = tt }
decided x history m key (Some b) known first = record {
  exact = (λ none. absurd (true≢false none), λ can. absurd (not_permitted x history key first.blocked b first.why (permitted_if_emits x history m key can first.blocked (subst (λ cs. Contains cs first.blocked) (sym first.split) (Contains-append_right first.before (first.blocked ∷ first.after) first.blocked (here first.blocked first.after))))));
  blocked = first;
}
