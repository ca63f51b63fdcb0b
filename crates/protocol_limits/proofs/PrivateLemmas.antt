-- There are as many private parameters at the ends of paths as the paths have, each weighed by those of the protocol where it ends.
use Rattle.std.proofs.Common.{◌≡◌, ℕ, zero, suc, ◌+◌, List, [], ◌∷◌, ◌++◌, length, get_or, map, Option, Some, None, refl, sym, ◌∙◌, ap, arith, length-append}
use Rattle.std.specs.Prelude.{slice_get}
use Rattle.std.specs.List.{enumerate_from, filter_map, flat_map, sum_by}
use Rattle.std.specs.Option.{option_map_or}
use Rattle.std.proofs.lemmas.Grind.{flat_map-append}
use Rattle.std.proofs.lemmas.List.Sums.{sum_by-cons, sum_by-append}
use Rattle.bspl_parser.specs.declared.document.Declaration.{Declaration}
use Rattle.bspl_parser.specs.declared.document.Item.{Item}
use Rattle.bspl_parser.specs.declared.document.Item.TheVariants.{Message, Reference}
use Rattle.bspl_parser.specs.declared.document.Reference.{Reference as Use}
use Rattle.bspl_parser.specs.declared.word.Word.{Word}
use Rattle.protocol_names.specs.Names.{protocol_of}
use Rattle.protocol_paths.specs.Path.{Step, end_of, paths, private_words, steps, steps_at}
use Rattle.reference_graph.specs.PathCounts.{weight_below}
use Rattle.reference_graph.specs.Laws.{WeightsAddUp}
use Rattle.protocol_limits.specs.Counts.{own_privates}
use Rattle.protocol_limits.specs.Graph.{graph_of, protocol_number, target_of}
use Rattle.protocol_limits.proofs.GraphLemmas.{map_at, successors_at}
use Rattle.protocol_limits.proofs.MessageLemmas.{AreSame, same_target, step, sum_option}

-- the private parameters at the end of a path
abbrev privates_on : Declaration → List Step → List Word
privates_on p path = (end_of p path).private

-- a path that goes on by a step ends where the rest ends
onward : (p : Declaration) (s : Step) (ps : List (List Step)) → flat_map (privates_on p) (map (λ path. s ∷ path) ps) ≡ flat_map (privates_on s.target) ps
onward p s [] = refl
onward p s (path ∷ ps) = ap (λ (ws : List Word). (end_of s.target path).private ++ ws) (onward p s ps)

-- how many private parameters are through a step
abbrev behind_step : ℕ → List Declaration → Step → ℕ
behind_step n protocols s = length (private_words n protocols s.target)

-- those through steps
branches : (n : ℕ) (protocols : List Declaration) (p : Declaration) (ss : List Step) → length (flat_map (privates_on p) (flat_map (λ s. map (λ path. s ∷ path) (paths n protocols s.target)) ss)) ≡ sum_by (behind_step n protocols) ss
branches n protocols p [] = refl
branches n protocols p (s ∷ ss) =
    let here = map (λ path. s ∷ path) (paths n protocols s.target) in
    let there = flat_map (λ t. map (λ path. t ∷ path) (paths n protocols t.target)) ss in
    let parts : length (flat_map (privates_on p) (here ++ there)) ≡ length (flat_map (privates_on p) here) + length (flat_map (privates_on p) there) = ap length (flat_map-append (privates_on p) here there) ∙ length-append (flat_map (privates_on p) here) (flat_map (privates_on p) there) in
    let first : length (flat_map (privates_on p) here) ≡ behind_step n protocols s = ap length (onward p s (paths n protocols s.target)) in
    parts ∙ ap (λ m. m + length (flat_map (privates_on p) there)) first ∙ ap (λ m. behind_step n protocols s + m) (branches n protocols p ss) ∙ sym (sum_by-cons (behind_step n protocols) s ss)

-- the step by a reference
by_reference : (n position : ℕ) (protocols : List Declaration) (r : Use) (found : Option Declaration) → sum_by (behind_step n protocols) (option_map_or (λ q. step position r q ∷ []) found []) ≡ option_map_or (λ q. length (private_words n protocols q)) found 0
by_reference n position protocols r None = refl
by_reference n position protocols r (Some q) = omega (arith, sum_by-cons (behind_step n protocols) (step position r q) [])

-- the steps by the items of a body
by_items : (n : ℕ) (protocols : List Declaration) (f : ℕ → ℕ) → AreSame (λ q. length (private_words n protocols q)) f protocols → (position : ℕ) (items : List Item) → sum_by (behind_step n protocols) (flat_map (steps_at protocols) (enumerate_from position items)) ≡ sum_by f (filter_map (target_of protocols) items)
by_items n protocols f same position [] = refl
by_items n protocols f same position (Message m ∷ items) = by_items n protocols f same (position + 1) items
by_items n protocols f same position (Reference r ∷ items) =
    let here = steps_at protocols (position, Reference r) in
    let there = flat_map (steps_at protocols) (enumerate_from (position + 1) items) in
    let one : sum_by (behind_step n protocols) here ≡ option_map_or f (protocol_number protocols r.protocol.text) 0 = by_reference n position protocols r (protocol_of protocols r.protocol.text) ∙ same_target 0 (λ q. length (private_words n protocols q)) f protocols r.protocol.text same in
    omega (arith, sum_by-append (behind_step n protocols) here there, one, by_items n protocols f same (position + 1) items, sum_option f (protocol_number protocols r.protocol.text) (filter_map (target_of protocols) items))

-- the law, by the number of steps
pub privates_counted : WeightsAddUp → (n number : ℕ) (protocols : List Declaration) (p : Declaration) → slice_get protocols number ≡ Some p → length (private_words n protocols p) ≡ weight_below n (graph_of protocols) (map own_privates protocols) number
privates_counted adds zero number protocols p at =
    let own : length (private_words 0 protocols p) ≡ length p.private = omega (arith, length-append p.private []) in
    own ∙ sym (map_at own_privates protocols number p 0 at) ∙ sym (adds.at_node (graph_of protocols) (map own_privates protocols) number)
privates_counted adds (suc n) number protocols p at =
    let f = weight_below n (graph_of protocols) (map own_privates protocols) in
    let rest = flat_map (privates_on p) (flat_map (λ s. map (λ path. s ∷ path) (paths n protocols s.target)) (steps protocols p)) in
    length-append p.private rest
    ∙ ap (λ m. m + length rest) (sym (map_at own_privates protocols number p 0 at))
    ∙ ap (λ m. get_or (map own_privates protocols) number 0 + m) (branches n protocols p (steps protocols p) ∙ by_items n protocols f (λ k q. privates_counted adds n k protocols q) 1 p.body)
    ∙ ap (λ (bs : List ℕ). get_or (map own_privates protocols) number 0 + sum_by f bs) (sym (successors_at protocols number p at))
    ∙ sym (adds.below (graph_of protocols) (map own_privates protocols) n number)
