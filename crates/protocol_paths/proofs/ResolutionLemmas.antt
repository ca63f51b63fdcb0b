-- What becomes of a name through the last reference of a path.
use Rattle.std.proofs.Common.{◌≡◌, ℕ, ◌-◌, ◌<◌, ◌≤◌, List, [], ◌∷◌, ◌++◌, length, get_or, map, Option, Some, None, refl, sym, ap, ◌∙◌, arith}
use Rattle.std.specs.Prelude.{option_copied, slice_get}
use Rattle.std.specs.List.{position}
use Rattle.std.specs.Option.{option_map_or}
use Rattle.std.specs.Slice.{IsItemAt}
use Rattle.std.specs.Str.{bytes_eq}
use Rattle.std.proofs.lemmas.List.{get_or-map, get_or_past, get_or_append_left, get_or-append_right, length-map, map-append}
use Rattle.std.proofs.lemmas.List.Sums.{fold-append}
use Rattle.std.proofs.lemmas.Option.{get_or_from_slice_get, slice_get_within}
use denote.Ref.{Bor}
use Rattle.list_base.proofs.LentItem.{item_at}
use Rattle.bspl_parser.specs.declared.document.Declaration.{Declaration}
use Rattle.bspl_parser.specs.declared.document.Formal.{Formal}
use Rattle.bspl_parser.specs.declared.word.Word.{Word}
use Rattle.protocol_names.specs.Names.{param_words, texts}
use Rattle.protocol_paths.specs.declared.link.PathLink.{PathLink}
use Rattle.protocol_paths.specs.Flat.{entry, privates_at}
use Rattle.protocol_paths.specs.Path.{Step, end_of}
use Rattle.protocol_paths.specs.Scope.{Scope, after, param_at, prefix_after, role_at, scope_at, start}
use Rattle.protocol_paths.specs.inner.Links.{path_of, scope_along, step_of}
use Rattle.protocol_paths.specs.inner.OwnWords.{HaveOwnWords}
use Rattle.protocol_paths.proofs.EntryLemmas.{same_end}
use Rattle.protocol_paths.proofs.PlainLemmas.{substituted_same}

-- one link more is one step more
pub link_last : (top : Declaration) (links outer : List PathLink) (l : PathLink) → links ≡ outer ++ l ∷ [] → scope_along top links ≡ after (scope_along top outer) (step_of l.link)
link_last top links outer l parts =
    ap (scope_along top) parts
    ∙ ap (scope_at (start top)) (map-append (λ (x : PathLink). step_of x.link) outer (l ∷ []))
    ∙ fold-append after (start top) (path_of outer) (step_of l.link ∷ [])

-- without links a name stays as it is
pub role_alone : (top : Declaration) (links : List PathLink) (name : List ℕ) → length links ≡ 0 → name ≡ role_at (scope_along top links) name
role_alone top [] name none = sym (substituted_same (texts top.roles) name)
role_alone top (l ∷ links) name none = absurd (omega (arith, none))

pub param_alone : (top : Declaration) (links : List PathLink) (name : List ℕ) → length links ≡ 0 → name ≡ param_at (scope_along top links) name
param_alone top [] name none = sym (substituted_same (texts (param_words top)) name)
param_alone top (l ∷ links) name none = absurd (omega (arith, none))

-- the item of a mapped list at an index, or the name itself past its end
mapped_at : {X : Type 0} (f : X → List ℕ) (xs : List X) (k : ℕ) (x : X) (name : List ℕ) → slice_get xs k ≡ Some x → get_or (map f xs) k name ≡ f x
mapped_at f xs k x name at = get_or-map f xs k x name (slice_get_within xs k x at) ∙ ap f (get_or_from_slice_get xs k x x at)

mapped_past : {X : Type 0} (f : X → List ℕ) (xs : List X) (k : ℕ) (name : List ℕ) → length xs ≤ k → get_or (map f xs) k name ≡ name
mapped_past f xs k name past = get_or_past (map f xs) k name (omega (arith, past, length-map xs f))

-- what `get` lends
lent_some : {X : Type 0} (xs : List X) (k : ℕ) (found : Option (Bor X)) (x : Bor X) → IsItemAt xs k found → found ≡ Some x → slice_get xs k ≡ Some x.now
lent_some xs k found x lends is = sym (item_at xs k found lends) ∙ ap option_copied is

lent_none : {X : Type 0} (xs : List X) (k : ℕ) (found : Option (Bor X)) → IsItemAt xs k found → found ≡ None → length xs ≤ k
lent_none xs k None lends is = lends.3
lent_none xs k (Some x) lends is = absurd cc

-- the last link, the scope before it and the index of a declared role
pub record RoleAt (top : Declaration) (links outer : List PathLink) (l : PathLink) (name : List ℕ) (index : Option ℕ) : Type 0 where
  pub parts : links ≡ outer ++ l ∷ []
  pub declared : index ≡ position (λ n. bytes_eq n name) (texts l.link.target.now.roles)

-- one that it declares is what the reference gives for it, in the scope before
pub role_given : (top : Declaration) (links outer : List PathLink) (l : PathLink) (name : List ℕ) (k : ℕ) (found : Option (Bor Word)) (w : Bor Word) → RoleAt top links outer l name (Some k) → IsItemAt l.link.reference.now.roles k found → found ≡ Some w → role_at (scope_along top outer) w.now.text ≡ role_at (scope_along top links) name
role_given top links outer l name k found w at lends is =
    sym (mapped_at (λ (v : Word). role_at (scope_along top outer) v.text) l.link.reference.now.roles k w.now name (lent_some l.link.reference.now.roles k found w lends is))
    ∙ ap (λ (o : Option ℕ). option_map_or (λ k. get_or (after (scope_along top outer) (step_of l.link)).roles k name) o name) at.declared
    ∙ ap (λ (s : Scope). role_at s name) (sym (link_last top links outer l at.parts))

-- and stays as it is where the reference gives none
pub role_missing : (top : Declaration) (links outer : List PathLink) (l : PathLink) (name : List ℕ) (k : ℕ) (found : Option (Bor Word)) → RoleAt top links outer l name (Some k) → IsItemAt l.link.reference.now.roles k found → found ≡ None → name ≡ role_at (scope_along top links) name
role_missing top links outer l name k found at lacks is =
    sym (mapped_past (λ (v : Word). role_at (scope_along top outer) v.text) l.link.reference.now.roles k name (lent_none l.link.reference.now.roles k found lacks is))
    ∙ ap (λ (o : Option ℕ). option_map_or (λ k. get_or (after (scope_along top outer) (step_of l.link)).roles k name) o name) at.declared
    ∙ ap (λ (s : Scope). role_at s name) (sym (link_last top links outer l at.parts))

-- the same of a declared parameter
pub record ParamAt (top : Declaration) (links outer : List PathLink) (l : PathLink) (name : List ℕ) (index : Option ℕ) : Type 0 where
  pub parts : links ≡ outer ++ l ∷ []
  pub declared : index ≡ position (λ n. bytes_eq n name) (texts (param_words l.link.target.now))

-- the public ones that are given, and the private ones with the prefix
abbrev given_texts : Scope → PathLink → List (List ℕ)
given_texts scope l = map (λ (f : Formal). param_at scope f.name.text) l.link.reference.now.params

abbrev own_texts : Scope → PathLink → List (List ℕ)
own_texts scope l = map (λ (w : Word). prefix_after scope (step_of l.link) ++ w.text) l.link.target.now.private

-- what is substituted at an index
at_index : (top : Declaration) (links outer : List PathLink) (l : PathLink) (name : List ℕ) (index : Option ℕ) → ParamAt top links outer l name index → option_map_or (λ k. get_or (given_texts (scope_along top outer) l ++ own_texts (scope_along top outer) l) k name) index name ≡ param_at (scope_along top links) name
at_index top links outer l name index at =
    ap (λ (o : Option ℕ). option_map_or (λ k. get_or (after (scope_along top outer) (step_of l.link)).params k name) o name) at.declared
    ∙ ap (λ (s : Scope). param_at s name) (sym (link_last top links outer l at.parts))

pub param_stays : (top : Declaration) (links outer : List PathLink) (l : PathLink) (name : List ℕ) → ParamAt top links outer l name None → name ≡ param_at (scope_along top links) name
param_stays top links outer l name at = at_index top links outer l name None at

pub param_given : (top : Declaration) (links outer : List PathLink) (l : PathLink) (name : List ℕ) (k : ℕ) (found : Option (Bor Formal)) (f : Bor Formal) → ParamAt top links outer l name (Some k) → IsItemAt l.link.reference.now.params k found → found ≡ Some f → param_at (scope_along top outer) f.now.name.text ≡ param_at (scope_along top links) name
param_given top links outer l name k found f at lends is =
    let here = lent_some l.link.reference.now.params k found f lends is in
    let scope = scope_along top outer in
    let within : k < length (given_texts scope l) = omega (arith, slice_get_within l.link.reference.now.params k f.now here, length-map l.link.reference.now.params (λ (g : Formal). param_at scope g.name.text)) in
    sym (mapped_at (λ (g : Formal). param_at scope g.name.text) l.link.reference.now.params k f.now name here)
    ∙ sym (get_or_append_left (given_texts scope l) (own_texts scope l) name k within)
    ∙ at_index top links outer l name (Some k) at

-- past the given ones
past_given : (scope : Scope) (l : PathLink) (k : ℕ) (name : List ℕ) → length l.link.reference.now.params ≤ k → get_or (given_texts scope l ++ own_texts scope l) k name ≡ get_or (own_texts scope l) (k - length l.link.reference.now.params) name
past_given scope l k name past =
    let same = length-map l.link.reference.now.params (λ (g : Formal). param_at scope g.name.text) in
    get_or-append_right (given_texts scope l) (own_texts scope l) (length l.link.reference.now.params) k name same past

-- a map after a map
map_twice : {X Y Z : Type 0} (f : X → Y) (g : Y → Z) (xs : List X) → map g (map f xs) ≡ map (λ x. g (f x)) xs
map_twice f g [] = refl
map_twice f g (x ∷ xs) = ap (λ list. g (f x) ∷ list) (map_twice f g xs)

-- the texts of the last link's own words
own_at : (top : Declaration) (links outer : List PathLink) (l : PathLink) → links ≡ outer ++ l ∷ [] → HaveOwnWords top links → texts l.own.now ≡ own_texts (scope_along top outer) l
own_at top links outer l parts have =
    sym (map_twice entry (λ (e : List ℕ × ℕ). e.0) l.own.now)
    ∙ ap (map (λ (e : List ℕ × ℕ). e.0)) (have.each outer [] l parts ∙ ap privates_at (link_last top (outer ++ l ∷ []) outer l refl))
    ∙ map_twice (λ (w : Word). (prefix_after (scope_along top outer) (step_of l.link) ++ w.text, w.offset)) (λ (e : List ℕ × ℕ). e.0) l.link.target.now.private

-- what is substituted past the given ones is the text of an own word
own_index : (top : Declaration) (links outer : List PathLink) (l : PathLink) (name : List ℕ) (k : ℕ) (none : Option (Bor Formal)) → ParamAt top links outer l name (Some k) → IsItemAt l.link.reference.now.params k none → none ≡ None → HaveOwnWords top links → get_or (texts l.own.now) (k - length l.link.reference.now.params) name ≡ param_at (scope_along top links) name
own_index top links outer l name k none at lacks missing have =
    let scope = scope_along top outer in
    ap (λ (list : List (List ℕ)). get_or list (k - length l.link.reference.now.params) name) (own_at top links outer l at.parts have)
    ∙ sym (past_given scope l k name (lent_none l.link.reference.now.params k none lacks missing))
    ∙ at_index top links outer l name (Some k) at

pub param_own : (top : Declaration) (links outer : List PathLink) (l : PathLink) (name : List ℕ) (k : ℕ) (none : Option (Bor Formal)) (found : Option (Bor Word)) (w : Bor Word) → ParamAt top links outer l name (Some k) → IsItemAt l.link.reference.now.params k none → none ≡ None → HaveOwnWords top links → IsItemAt l.own.now (k - length l.link.reference.now.params) found → found ≡ Some w → w.now.text ≡ param_at (scope_along top links) name
param_own top links outer l name k none found w at lacks missing have lends is =
    sym (mapped_at (λ (v : Word). v.text) l.own.now (k - length l.link.reference.now.params) w.now name (lent_some l.own.now (k - length l.link.reference.now.params) found w lends is))
    ∙ own_index top links outer l name k none at lacks missing have

pub param_missing : (top : Declaration) (links outer : List PathLink) (l : PathLink) (name : List ℕ) (k : ℕ) (none : Option (Bor Formal)) (found : Option (Bor Word)) → ParamAt top links outer l name (Some k) → IsItemAt l.link.reference.now.params k none → none ≡ None → HaveOwnWords top links → IsItemAt l.own.now (k - length l.link.reference.now.params) found → found ≡ None → name ≡ param_at (scope_along top links) name
param_missing top links outer l name k none found at lacks missing have lends is =
    sym (mapped_past (λ (v : Word). v.text) l.own.now (k - length l.link.reference.now.params) name (lent_none l.own.now (k - length l.link.reference.now.params) found lends is))
    ∙ own_index top links outer l name k none at lacks missing have

-- the protocol at the end of a path
pub ends_at : (top : Declaration) (links : List PathLink) → (scope_along top links).protocol ≡ end_of top (path_of links)
ends_at top links = same_end (start top) (path_of links)

-- after one link more the protocol is its target
end_last : (p : Declaration) (path : List Step) (s : Step) → end_of p (path ++ s ∷ []) ≡ s.target
end_last p [] s = refl
end_last p (t ∷ path) s = end_last t.target path s

pub ends_last : (top : Declaration) (links more : List PathLink) (l : PathLink) → more ≡ links ++ l ∷ [] → l.link.target.now ≡ end_of top (path_of more)
ends_last top links more l parts =
    sym (ap (λ ls. end_of top (path_of ls)) parts ∙ ap (end_of top) (map-append (λ (x : PathLink). step_of x.link) links (l ∷ [])) ∙ end_last top (path_of links) (step_of l.link))

-- the scope with the protocol that it has
pub whole : (top p : Declaration) (links : List PathLink) → p ≡ end_of top (path_of links) → scope_along top links ≡ record (scope_along top links) { protocol = p }
whole top p links ends = ap (λ (q : Declaration). record (scope_along top links) { protocol = q }) (ends_at top links ∙ sym ends)

pub next_is : (top p : Declaration) (links more : List PathLink) (l : PathLink) → p ≡ end_of top (path_of links) → more ≡ links ++ l ∷ [] → record (scope_along top more) { protocol = l.link.target.now } ≡ after (record (scope_along top links) { protocol = p }) (step_of l.link)
next_is top p links more l ends parts =
    ap (λ (s : Scope). record s { protocol = l.link.target.now }) (link_last top more links l parts)
    ∙ ap (λ (s : Scope). after s (step_of l.link)) (whole top p links ends)
