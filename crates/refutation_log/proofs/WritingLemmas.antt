-- What was written field by field is the line.
use Rattle.std.proofs.Common.{◌≡◌, ℕ, List, [], ◌∷◌, ◌++◌, map, codes, sym, ap, ◌∙◌}
use Rattle.std.specs.List.{flat_map, join_with_byte}
use Rattle.std.proofs.lemmas.List.{append_assoc, append-nil, map-append}
use Rattle.std.proofs.lemmas.Grind.{flat_map-append}
use Rattle.refutation_log.specs.declared.refutation.Link.{Link}
use Rattle.refutation_log.specs.declared.refutation.Chain.{Chain}
use Rattle.refutation_log.specs.LogText.{link_fields, step_fields, drop_fields}
use Rattle.list_base.specs.Numeral.{numeral}
use Rattle.list_base.specs.Lines.{line_of}
use Rattle.refutation_log.specs.inner.LineFields.{spaced}

-- fields with a space between them are the first one and the others, each after a space
join-spaced : (field : List ℕ) (fields : List (List ℕ)) → join_with_byte 32 (field ∷ fields) ≡ field ++ spaced fields
join-spaced field [] = sym (append-nil field)
join-spaced field (next ∷ fields) = ap (λ (rest : List ℕ). field ++ 32 ∷ rest) (join-spaced next fields)

-- the text of a step so far
abbrev pub step_front : ℕ → List Link → List ℕ
step_front first links = codes "step " ++ numeral first ++ spaced (flat_map link_fields links)

pub step_line_is : (step : Chain) → step_front step.first step.links ++ codes "\n" ≡ line_of (step_fields step)
step_line_is step = ap (λ (body : List ℕ). codes "step " ++ (body ++ codes "\n")) (sym (join-spaced (numeral step.first) (flat_map link_fields step.links)))

pub step_front-push : (old : List ℕ) (first : ℕ) (links : List Link) (link : Link) → (old ++ step_front first links) ++ spaced (link_fields link) ≡ old ++ step_front first (links ++ link ∷ [])
step_front-push old first links link =
    let before : List (List ℕ) = flat_map link_fields links in
    let start : List ℕ = codes "step " ++ numeral first in
    let fields : flat_map link_fields (links ++ link ∷ []) ≡ before ++ link_fields link = flat_map-append link_fields links (link ∷ []) in
    let both : spaced (before ++ link_fields link) ≡ spaced before ++ spaced (link_fields link) = flat_map-append (λ (field : List ℕ). 32 ∷ field) before (link_fields link) in
    append_assoc old (start ++ spaced before) (spaced (link_fields link))
    ∙ ap (λ (xs : List ℕ). old ++ xs) (append_assoc start (spaced before) (spaced (link_fields link)) ∙ ap (λ (xs : List ℕ). start ++ xs) (sym (ap spaced fields ∙ both)))

-- the text of a removal so far
abbrev pub drop_front : List ℕ → List ℕ
drop_front numbers = codes "drop" ++ spaced (map numeral numbers)

pub drop_line_is : (numbers : List ℕ) → drop_front numbers ++ codes "\n" ≡ line_of (drop_fields numbers)
drop_line_is numbers = ap (λ (body : List ℕ). body ++ codes "\n") (sym (join-spaced (codes "drop") (map numeral numbers)))

pub drop_front-push : (old : List ℕ) (numbers : List ℕ) (number : ℕ) → (old ++ drop_front numbers) ++ 32 ∷ numeral number ≡ old ++ drop_front (numbers ++ number ∷ [])
drop_front-push old numbers number =
    let fields : map numeral (numbers ++ number ∷ []) ≡ map numeral numbers ++ numeral number ∷ [] = map-append numeral numbers (number ∷ []) in
    let both : spaced (map numeral numbers ++ numeral number ∷ []) ≡ spaced (map numeral numbers) ++ 32 ∷ numeral number = flat_map-append (λ (field : List ℕ). 32 ∷ field) (map numeral numbers) (numeral number ∷ []) ∙ ap (λ (xs : List ℕ). spaced (map numeral numbers) ++ xs) (append-nil (32 ∷ numeral number)) in
    append_assoc old (drop_front numbers) (32 ∷ numeral number)
    ∙ ap (λ (xs : List ℕ). old ++ xs) (append_assoc (codes "drop") (spaced (map numeral numbers)) (32 ∷ numeral number) ∙ ap (λ (xs : List ℕ). codes "drop" ++ xs) (sym (ap spaced fields ∙ both)))
