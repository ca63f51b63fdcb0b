-- A key stands if it is new, no line `keys` was read, and there is room.
use Rattle.std.proofs.Common.{◌≡◌, ◌<◌, Bool, length, sym, subst, arith, refl, inl, inr}
use Rattle.std.specs.Prelude.{◌↔◌, IsTrue, true, not}
use Rattle.std.proofs.lemmas.Bool.{cases_Bool, true≢false}
use Rattle.std.specs.List.{Contains}
use Rattle.agent_scripts.specs.declared.statement.Statement.TheVariants.{Key}
use Rattle.agent_scripts.specs.Rules.{KeepsRules}
use Rattle.agent_scripts.specs.ScriptText.{statements_of}
use Rattle.script_text.proofs.StatementLemmas.{key_allowed, key_has_room, key_is_new, key_uncounted}
use Rattle.script_text.proofs.statements.StatementList.allows_key.Goals as goal

pub returns-then-self : goal.returns-then-self
returns-then-self c = (
  λ none. absurd (true≢false (sym none)),
  λ keeps.
      let list = c.self.inside in
      let kept = subst (λ stated. KeepsRules (statements_of stated) (Key c.args.key.now)) (sym c.self.view_is) keeps in
      absurd (key_uncounted list.stated list.keys list.counted c.args.key.now c.self.invariant kept c.if-self.true),
)

pub returns-then-len-ge-MOST_KEYS : goal.returns-then-len-ge-MOST_KEYS
returns-then-len-ge-MOST_KEYS c = (
  λ none. absurd (true≢false (sym none)),
  λ keeps.
      let list = c.self.inside in
      let kept = subst (λ stated. KeepsRules (statements_of stated) (Key c.args.key.now)) (sym c.self.view_is) keeps in
      let room = key_has_room list.stated list.keys list.counted c.args.key.now c.self.invariant kept in
      absurd (omega (arith, room, c.len.ensures, c.if-len-ge-MOST_KEYS.true)),
)

-- what is tested not to be so is not so
not_so : (b : Bool) (P : Type 0) → IsTrue b ↔ P → not b ≡ true → P → ⊥
not_so b P tested none holds = true≢false (sym (rw (tested.1 holds) at none))

is_new : (b : Bool) (P : Type 0) → IsTrue b ↔ P → (P → ⊥) → not b ≡ true
is_new b P tested none = elim (cases_Bool b) [
  | inl so ↦ absurd (none (tested.0 so))
  | inr not_true ↦ rw not_true refl
]

pub returns : goal.returns
returns c =
    let list = c.self.inside in
    let key = c.args.key.now in (
      λ new.
          let room : length list.keys < 10000 = omega (arith, c.len.ensures, c.if-len-ge-MOST_KEYS.false) in
          subst (λ stated. KeepsRules (statements_of stated) (Key key)) c.self.view_is
          (key_allowed list.stated list.keys list.counted key c.self.invariant c.if-self.false room (not_so c.has.result (Contains list.keys key) c.has.ensures new)),
      λ keeps.
          let kept = subst (λ stated. KeepsRules (statements_of stated) (Key key)) (sym c.self.view_is) keeps in
          is_new c.has.result (Contains list.keys key) c.has.ensures (key_is_new list.stated list.keys list.counted key c.self.invariant kept),
    )
