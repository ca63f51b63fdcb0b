-- What the passes of a mailbox know, once that of one pass is set or a pass comes.
use Rattle.std.proofs.Common.{◌≡◌, ◌≢◌, ℕ, true, false, true≢false, List, [], ◌∷◌, ◌++◌, length, set, Some, slice_get, sym, ◌∙◌, subst, inl, inr, arith}
use Rattle.std.proofs.lemmas.Bool.{cases_eq}
use Rattle.reorder_net.specs.declared.hold.Hold.{Hold}
use Rattle.reorder_net.specs.Mail.{FitsPass, MailLists, SomePass}
use Rattle.reorder_net.specs.inner.Moves.{spent}
use Rattle.reorder_net.proofs.ItemLemmas.{append_here, append_last, last_cases, set_cases, set_else, set_here}

-- each pass has the property
abbrev pub Each : (ℕ → Hold → Type 0) → List Hold → Type 0
Each F views = (pass : ℕ) (v : Hold) → slice_get views pass ≡ Some v → F pass v

-- a pass that does not take does not
pub not_taking : false ≡ true → ⊥
not_taking same = true≢false (sym same)

-- each has the property still, once what one pass knows is set
pub each_set : (F : ℕ → Hold → Type 0) (views : List Hold) (pass : ℕ) (w : Hold) → F pass w → ((j : ℕ) (u : Hold) → j ≢ pass → slice_get views j ≡ Some u → F j u) → Each F (set views pass w)
each_set F views pass w mine others j u found = elim (set_cases views pass j w u found) [
  | inl (same, is) ↦ subst (λ (y : ℕ × Hold). F y.0 y.1) (λ i. (sym same i, is i)) mine
  | inr (apart, there) ↦ others j u apart there
]

-- and once a pass comes
pub each_more : (F : ℕ → Hold → Type 0) (views : List Hold) (w : Hold) → F (length views) w → Each F views → Each F (views ++ w ∷ [])
each_more F views w new old j u found = elim (last_cases views w j u found) [
  | inl here ↦ old j u here
  | inr (last, is) ↦ subst (λ (y : ℕ × Hold). F y.0 y.1) (λ i. (sym last i, is i)) new
]

-- a pass without lists fits any lists
pub fits_spent : (lists : MailLists) (pass : ℕ) → FitsPass lists pass spent
fits_spent lists pass = record {
  at_home = λ holding. elim holding [ inl some ↦ absurd (omega (arith, some)) | inr takes ↦ absurd (not_taking takes) ];
  has_puts = λ i l found. absurd (cc found);
  has_taken = λ takes. absurd (not_taking takes);
}

-- there is a pass with the property, once what one pass knows is set
pub some_set : (P Q : Hold → Type 0) (views : List Hold) (i pass : ℕ) (v w : Hold) → slice_get views pass ≡ Some v → (i ≡ pass → P v → Q w) → (i ≢ pass → (u : Hold) → P u → Q u) → SomePass views i P → SomePass (set views pass w) i Q
some_set P Q views i pass v w at mine others is = elim (cases_eq i pass) [
  | inl same ↦
      let one : is.0 ≡ v = cc (is.1, at, same) in
      (w, subst (λ k. slice_get (set views pass w) k ≡ Some w) (sym same) (set_here views pass w v at), mine same (subst P one is.2))
  | inr apart ↦ (is.0, set_else views pass i w apart ∙ is.1, others apart is.0 is.2)
]

-- there is, if that pass keeps the property
pub some_still : (P : Hold → Type 0) (views : List Hold) (i pass : ℕ) (v w : Hold) → slice_get views pass ≡ Some v → (P v → P w) → SomePass views i P → SomePass (set views pass w) i P
some_still P views i pass v w at mine is = some_set P P views i pass v w at (λ same p. mine p) (λ apart u p. p) is

-- there is, once a pass comes
pub some_more : (P : Hold → Type 0) (views : List Hold) (i : ℕ) (w : Hold) → SomePass views i P → SomePass (views ++ w ∷ []) i P
some_more P views i w is = (is.0, append_here views (w ∷ []) i is.0 is.1, is.2)

-- the pass that comes is one
pub some_last : (P : Hold → Type 0) (views : List Hold) (w : Hold) → P w → SomePass (views ++ w ∷ []) (length views) P
some_last P views w holds = (w, append_last views w, holds)
