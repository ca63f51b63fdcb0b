-- The private parameters of the links of a path, through one link more and one less.
use Rattle.std.proofs.Common.{◌≡◌, List, [], ◌∷◌, ◌++◌, length, drop, ◌⊎◌, inl, inr, refl, sym, ap, subst, ◌∙◌, arith, length-append}
use Rattle.std.specs.Prelude.{slice_get}
use Rattle.std.proofs.lemmas.List.{append_assoc}
use Rattle.std.proofs.lemmas.Option.{same_Some}
use Rattle.bspl_parser.specs.declared.document.Declaration.{Declaration}
use Rattle.protocol_paths.specs.declared.link.PathLink.{PathLink}
use Rattle.protocol_paths.specs.Flat.{privates_at}
use Rattle.protocol_paths.specs.Path.{end_of}
use Rattle.protocol_paths.specs.Scope.{Scope, after}
use Rattle.protocol_paths.specs.inner.Links.{path_of, scope_along, step_of}
use Rattle.protocol_paths.specs.inner.OwnWords.{AreOwnWords, HaveOwnWords}
use Rattle.protocol_paths.proofs.ResolutionLemmas.{link_last, whole}

-- the head and the tail of equal lists
same_head : {X : Type 0} (x y : X) (xs ys : List X) → x ∷ xs ≡ y ∷ ys → x ≡ y
same_head {X} x y xs ys same = same_Some x y (ap (λ (list : List X). slice_get list 0) same)

same_tail : {X : Type 0} (x y : X) (xs ys : List X) → x ∷ xs ≡ y ∷ ys → xs ≡ ys
same_tail {X} x y xs ys same = ap (λ (list : List X). drop 1 list) same

-- an item of a list is its last one, or is before it
last_cases : {X : Type 0} (links outer rest : List X) (x l : X) → links ++ x ∷ [] ≡ outer ++ l ∷ rest → ((outer ≡ links) × (l ≡ x)) ⊎ ((before : List X) × (links ≡ outer ++ l ∷ before))
last_cases [] [] rest x l same = inl (refl, sym (same_head x l [] rest same))
last_cases [] (y ∷ outer) rest x l same = absurd (omega (arith, ap length (same_tail x y [] (outer ++ l ∷ rest) same), length-append outer (l ∷ rest)))
last_cases (z ∷ links) [] rest x l same = inr (links, ap (λ first. first ∷ links) (same_head z l (links ++ x ∷ []) rest same))
last_cases {X} (z ∷ links) (y ∷ outer) rest x l same =
    let first : z ≡ y = same_head z y (links ++ x ∷ []) (outer ++ l ∷ rest) same in
    elim (last_cases links outer rest x l (same_tail z y (links ++ x ∷ []) (outer ++ l ∷ rest) same)) [
      | inl both ↦ inl (λ i. sym first i ∷ both.0 i, both.1)
      | inr (before, parts) ↦ inr (before, λ i. first i ∷ parts i)
    ]

-- where there is no link, each has its words
pub own_none : (top : Declaration) → HaveOwnWords top []
own_none top = record {
  each = λ outer rest l none. absurd (omega (arith, ap length none, length-append outer (l ∷ rest)));
}

-- the links but the last have theirs
pub own_outer : (top : Declaration) (links outer : List PathLink) (l : PathLink) → links ≡ outer ++ l ∷ [] → HaveOwnWords top links → HaveOwnWords top outer
own_outer top links outer l parts have = record {
  each = λ before rest m here. have.each before (rest ++ l ∷ []) m (parts ∙ ap (λ (ls : List PathLink). ls ++ l ∷ []) here ∙ append_assoc before (m ∷ rest) (l ∷ []));
}

-- and so have the links with one more that has its own
own_more : (top : Declaration) (links more : List PathLink) (l : PathLink) → more ≡ links ++ l ∷ [] → HaveOwnWords top links → AreOwnWords (scope_along top more) l.own.now → HaveOwnWords top more
own_more top links more l parts have own = record {
  each = λ outer rest m here. elim (last_cases links outer rest l m (sym parts ∙ here)) [
    | inl both ↦ subst (λ (x : PathLink). AreOwnWords (scope_along top (outer ++ x ∷ [])) x.own.now) (sym both.1)
        (subst (λ (ls : List PathLink). AreOwnWords (scope_along top ls) l.own.now) (parts ∙ ap (λ (ls : List PathLink). ls ++ l ∷ []) (sym both.0)) own)
    | inr (before, is) ↦ have.each outer before m is
  ];
}

-- this one has those of the scope after it
pub own_next : (top p : Declaration) (links more : List PathLink) (l : PathLink) → p ≡ end_of top (path_of links) → more ≡ links ++ l ∷ [] → HaveOwnWords top links → AreOwnWords (after (record (scope_along top links) { protocol = p }) (step_of l.link)) l.own.now → HaveOwnWords top more
own_next top p links more l ends parts have own =
    own_more top links more l parts have (
    own
    ∙ ap (λ (s : Scope). privates_at (after s (step_of l.link))) (sym (whole top p links ends))
    ∙ ap privates_at (sym (link_last top more links l parts)))

-- the last link has those of the scope
pub own_last : (top p : Declaration) (links outer : List PathLink) (l : PathLink) → links ≡ outer ++ l ∷ [] → p ≡ end_of top (path_of links) → HaveOwnWords top links → AreOwnWords (record (scope_along top links) { protocol = p }) l.own.now
own_last top p links outer l parts ends have =
    have.each outer [] l parts
    ∙ ap (λ (ls : List PathLink). privates_at (scope_along top ls)) (sym parts)
    ∙ ap privates_at (whole top p links ends)
