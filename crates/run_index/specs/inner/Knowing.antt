-- What the facts of an enactment permit.
use Rattle.std.specs.Prelude.{◌≡◌, ℕ, ◌<◌, List, [], ◌∷◌, length}
use Rattle.std.specs.BTreeSet.{BTreeSet}
use Rattle.std.specs.List.{All, zip}
use Rattle.bspl_types.specs.declared.expanded.Expanded.{Expanded}
use Rattle.bspl_types.specs.declared.protocol.Adornment.TheVariants.{In}
use Rattle.bspl_types.specs.declared.protocol.Carried.{Carried}
use Rattle.bspl_types.specs.declared.protocol.Message.{Message}
use Rattle.bspl_types.specs.declared.value.Value.{Value}
use Rattle.bspl_types.specs.Adornment.{valued}
use Rattle.bspl_types.specs.Expansion.{message_of}
use Rattle.enactment_model.specs.Producers.{SharesOut}
use Rattle.role_knowledge.specs.Blocked.{Permits}
use Rattle.run_index.specs.inner.Facts.{HasFact, message_fact, param_fact, value_fact}

-- what the role knows of the parameter is as its adornment demands
pub record IsPermittedBy (facts : BTreeSet (List Value)) (role : ℕ) (c : Carried) : Type 0 where
  pub permits : Permits c.adornment (HasFact facts (param_fact role c.param))

-- if the parameter is adorned `in`, the role knows it with this value
pub record IsKnownBy (facts : BTreeSet (List Value)) (role : ℕ) (pair : Carried × Value)
    : Type 0 where
  pub known : pair.0.adornment ≡ In → HasFact facts (value_fact role pair.0.param pair.1)

-- so for each pair
abbrev pub AreKnownBy : BTreeSet (List Value) → ℕ → List (Carried × Value) → Type 0
AreKnownBy facts role [] = Unit {0}
AreKnownBy facts role (pair ∷ pairs) = IsKnownBy facts role pair × AreKnownBy facts role pairs

-- the message's sender may emit it with these values
pub record IsPermittedWith (facts : BTreeSet (List Value)) (m : Message) (values : List Value)
    : Type 0 where
  pub permitted : All (IsPermittedBy facts m.sender) m.carried
  pub known : AreKnownBy facts m.sender (zip (valued m.carried) values)

-- the other message is emitted, and both produce one parameter
pub record IsKnownRival (x : Expanded) (facts : BTreeSet (List Value)) (m other : ℕ)
    : Type 0 where
  pub emitted : HasFact facts (message_fact other)
  pub shared : SharesOut (message_of x other) (message_of x m)

-- some other message is such a one
pub record HasKnownRival (x : Expanded) (facts : BTreeSet (List Value)) (m : ℕ) : Type 0 where
  pub other : ℕ
  pub rival : IsKnownRival x facts m other

-- none is
abbrev pub HasNoKnownRival : Expanded → BTreeSet (List Value) → ℕ → Type 0
HasNoKnownRival x facts m =
    (other : ℕ) → other < length x.messages → ¬ IsKnownRival x facts m other
