-- How the marked literals are taken out, one by one, until none is marked.
use Rattle.std.proofs.Common.{◌≡◌, ℕ, ◌<◌, ◌≤◌, ◌↔◌, ◌⊎◌, inl, inr, Bool, true, false, List, [], ◌∷◌, ◌++◌, length, get_or, set, sym, refl, ◌∙◌, subst, arith, Contains, length-set}
use Rattle.std.proofs.lemmas.List.{get_or_default}
use Rattle.std.proofs.lemmas.List.Elements.{All-contains, All-push, Contains-append_left, Contains-get_or, Contains-push_cases}
use Rattle.list_base.proofs.Members.{nowhere, end_same}
use Rattle.list_base.proofs.Membership.{all_prefix}
use Rattle.clause_core.specs.declared.literal.Lit.{Lit}
use Rattle.clause_core.specs.Clause.{VariablesExist, HasExactly}
use Rattle.clause_core.specs.Literal.{rank}
use Rattle.log_checker.specs.inner.Marks.{MarkCells, IsMarked, Marks, IsMarkTable}
use Rattle.log_checker.proofs.MarkLemmas.{TakesMark-set, cell-within, same_literal_or_not}

-- what was marked is marked, or was taken out; what is marked is among the rest of the list
pub record IsTaking (old now : MarkCells) (touched lits : List Lit) : Type 0 where
  pub vars : now.vars ≡ old.vars
  pub split : (l : Lit) → IsMarked old l ↔ (IsMarked now l ⊎ Contains lits l)
  pub exist : VariablesExist old.vars lits
  pub table : IsMarkTable now touched

-- what was read of the cell of the last of the list is its mark
cell-read : (now : MarkCells) (touched rest : List Lit) (lit : Lit) (index : ℕ) (b : Bool) → IsMarkTable now touched → touched ≡ rest ++ lit ∷ [] → index ≡ rank lit → b ≡ get_or now.cells index b → get_or now.cells (rank lit) false ≡ b
cell-read now touched rest lit index b kept whole ranked read =
    let exists = All-contains (λ l. (0 < l.var) × (l.var ≤ now.vars)) touched lit kept.exist (rw whole (end_same rest lit lit refl)) in
    get_or_default now.cells (rank lit) false b (omega (arith, kept.many, cell-within now.vars lit exists.1)) ∙ sym (rw ranked at read)

-- the last of the list is taken out
IsTaking-out : (old now : MarkCells) (touched rest lits : List Lit) (lit : Lit) → touched ≡ rest ++ lit ∷ [] → IsMarked now lit → IsTaking old now touched lits → IsTaking old (record now { cells = set now.cells (rank lit) false }) rest (lits ++ lit ∷ [])
IsTaking-out old now touched rest lits lit whole marked taking =
    let taken = TakesMark-set now lit marked in
    record {
      vars = taking.vars;
      split = λ l. (
        λ held. elim ((taking.split l).0 held) [
          | inr out ↦ inr (Contains-append_left lits (lit ∷ []) l out)
          | inl left ↦ elim (same_literal_or_not l lit) [
            | inl same ↦ inr (end_same lits lit l (sym same))
            | inr other ↦ inl ((taken.members l).1 (left, other))
          ]
        ],
        λ either. (taking.split l).1 (elim either [
          | inl left ↦ inl ((taken.members l).0 left).0
          | inr out ↦ elim (Contains-push_cases lits lit l out) [ inl before ↦ inr before | inr same ↦ inl (subst (IsMarked now) same marked) ]
        ]),
      );
      exist = All-push (λ l. (0 < l.var) × (l.var ≤ old.vars)) lits lit taking.exist
          (subst (λ n. (0 < lit.var) × (lit.var ≤ n)) taking.vars (All-contains (λ l. (0 < l.var) × (l.var ≤ now.vars)) touched lit taking.table.exist (rw whole (end_same rest lit lit refl))));
      table = record {
        many = length-set now.cells (rank lit) false ∙ taking.table.many;
        listed = λ l left.
            let both = (taken.members l).0 left in
            elim (Contains-push_cases rest lit l (rw whole at (taking.table.listed l both.0))) [ inl before ↦ before | inr same ↦ absurd (both.1 (sym same)) ];
        exist = all_prefix (λ l. (0 < l.var) × (l.var ≤ now.vars)) rest (lit ∷ []) (rw whole at taking.table.exist);
      };
    }

-- the same, after what the code reads and writes
pub IsTaking-next : (old now : MarkCells) (touched rest lits more : List Lit) (lit : Lit) (index : ℕ) (b : Bool) → touched ≡ rest ++ lit ∷ [] → index ≡ rank lit → b ≡ get_or now.cells index b → b ≡ true → more ≡ lits ++ lit ∷ [] → IsTaking old now touched lits → IsTaking old (record now { cells = set now.cells index false }) rest more
IsTaking-next old now touched rest lits more lit index b whole ranked read is grows taking = rw (ranked, grows)
    (IsTaking-out old now touched rest lits lit whole (cell-read now touched rest lit index b taking.table whole ranked read ∙ is) taking)

-- the last of the list is not marked any more
pub IsTaking-pass : (old now : MarkCells) (touched rest lits : List Lit) (lit : Lit) (index : ℕ) (b : Bool) → touched ≡ rest ++ lit ∷ [] → index ≡ rank lit → b ≡ get_or now.cells index b → b ≡ false → IsTaking old now touched lits → IsTaking old now rest lits
IsTaking-pass old now touched rest lits lit index b whole ranked read is taking = record {
  vars = taking.vars;
  split = taking.split;
  exist = taking.exist;
  table = record {
    many = taking.table.many;
    listed = λ l marked. elim (Contains-push_cases rest lit l (rw whole at (taking.table.listed l marked))) [
      | inl before ↦ before
      | inr same ↦
          let held : IsMarked now lit = subst (IsMarked now) (sym same) marked in
          absurd (let clash = sym held ∙ cell-read now touched rest lit index b taking.table whole ranked read ∙ is in cc)
    ];
    exist = all_prefix (λ l. (0 < l.var) × (l.var ≤ now.vars)) rest (lit ∷ []) (rw whole at taking.table.exist);
  };
}

-- a list without length has no member
none-among : (touched : List Lit) (l : Lit) → length touched ≡ 0 → ¬ Contains touched l
none-among [] l empty among = nowhere l among
none-among (m ∷ rest) l empty among = absurd (omega arith)

-- the clause of what was taken out is the one that was marked
pub Marks-taken : (old now : MarkCells) (touched lits clause : List Lit) → length touched ≡ 0 → IsTaking old now touched lits → HasExactly clause lits → Marks old clause
Marks-taken old now touched lits clause empty taking exactly = record {
  exactly = λ l. (
    λ marked. elim ((taking.split l).0 marked) [
      | inl left ↦ absurd (none-among touched l empty (taking.table.listed l left))
      | inr out ↦ (exactly l).1 out
    ],
    λ among. (taking.split l).1 (inr ((exactly l).0 among)),
  );
}

-- the variables of a clause with these literals exist
pub exist-taken : (vars : ℕ) (lits clause : List Lit) → VariablesExist vars lits → HasExactly clause lits → VariablesExist vars clause
exist-taken vars lits clause exist exactly k d within =
    All-contains (λ l. (0 < l.var) × (l.var ≤ vars)) lits (get_or clause k d) exist ((exactly (get_or clause k d)).0 (Contains-get_or clause k d within))
