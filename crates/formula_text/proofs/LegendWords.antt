-- No word of a legend has an LF.
use Rattle.std.proofs.Common.{◌≡◌, ℕ, Bool, true, false, eqb, List, [], ◌∷◌, ◌++◌, map, length, codes, get_or, inl, inr, refl, sym, subst}
use Rattle.std.specs.List.{All, AllByRecursion, flat_map}
use Rattle.std.proofs.lemmas.Bool.{cases_lt}
use Rattle.std.proofs.lemmas.List.{get_or_past}
use Rattle.std.proofs.lemmas.List.Elements.{All-from_recursion, All-get_or}
use Rattle.bspl_types.specs.declared.expanded.Expanded.{Expanded}
use Rattle.bspl_types.specs.declared.protocol.Message.{Message}
use Rattle.bspl_types.specs.declared.protocol.ParamInfo.{ParamInfo}
use Rattle.bspl_types.specs.Expansion.{no_message, message_name, no_param, param_name}
use Rattle.clause_encoding.specs.declared.variables.Variables.{Variables}
use Rattle.clause_encoding.specs.Rest.{unbound_variables, want_variables}
use Rattle.clause_encoding.specs.Rivals.{selectors}
use Rattle.clause_encoding.specs.Variables.{kinds_following, sent}
use Rattle.list_base.specs.Numeral.{numeral}
use Rattle.bspl_types.specs.declared.property.Property.{Property}
use Rattle.bspl_types.specs.declared.property.Property.TheVariants.{Liveness, Safety}
use Rattle.formula_text.specs.Legend.{Meaning, direction_word, kind_words, lack, legend, message_of_kind, occurrence, occurrences, order, orders, orders_of, own_meanings, selection, unbound}
use Rattle.clause_encoding.specs.Formula.{variables_of}
use Rattle.formula_text.proofs.Names.{empty_lacks, name_lacks}
use Rattle.formula_text.proofs.Numbers.{numeral_printed}
use Rattle.formula_text.proofs.Words.{LacksLf, printed_lacks}

-- the words of a variable's line
abbrev pub meaning_words : Meaning → List (List ℕ)
meaning_words meaning = codes "c" ∷ numeral meaning.0 ∷ meaning.1

-- no word of the meaning has an LF
abbrev pub IsOneLine : Meaning → Type 0
IsOneLine meaning = AllByRecursion LacksLf (meaning_words meaning)

-- what holds of each image
pub all_mapped : {X A : Type 0} (P : A → Type 0) (f : X → A) → ((x : X) → P (f x)) → (xs : List X) → AllByRecursion P (map f xs)
all_mapped P f each [] = tt
all_mapped P f each (x ∷ xs) = (each x, all_mapped P f each xs)

-- of two lists
pub all_both : {A : Type 0} (P : A → Type 0) (xs ys : List A) → AllByRecursion P xs → AllByRecursion P ys → AllByRecursion P (xs ++ ys)
all_both P [] ys all also = also
all_both P (x ∷ xs) ys all also = (all.0, all_both P xs ys all.1 also)

-- of several lists
all_joined : {X A : Type 0} (P : A → Type 0) (f : X → List A) → ((x : X) → AllByRecursion P (f x)) → (xs : List X) → AllByRecursion P (flat_map f xs)
all_joined P f each [] = tt
all_joined P f each (x ∷ xs) = all_both P (f x) (flat_map f xs) (each x) (all_joined P f each xs)

-- the item of an index, or one that stands for none
each_or : {X : Type 0} (P : X → Type 0) (xs : List X) (k : ℕ) (d : X) → All P xs → P d → P (get_or xs k d)
each_or P xs k d all none =
    elim (cases_lt k (length xs)) [
      | inl within ↦ All-get_or P xs k d within all
      | inr past ↦ subst P (sym (get_or_past xs k d past)) none
    ]

-- names have no LF
message_lacks : (x : Expanded) (m : ℕ) → LacksLf (message_name x m)
message_lacks x m =
    each_or (λ (message : Message). LacksLf message.name) x.messages m no_message (λ k d within. name_lacks (get_or x.messages k d).name (x.shape.message_names.named k d within)) empty_lacks

param_lacks : (x : Expanded) (p : ℕ) → LacksLf (param_name x p)
param_lacks x p =
    each_or (λ (param : ParamInfo). LacksLf param.name) x.params p no_param (λ k d within. name_lacks (get_or x.params k d).name (x.shape.param_names.named k d within)) empty_lacks

-- nor have the words between them
sent_lacks : LacksLf (codes "sent")
sent_lacks = All-from_recursion (λ byte. eqb byte 10 ≡ false) (codes "sent") (refl, (refl, (refl, (refl, tt))))

received_lacks : LacksLf (codes "received")
received_lacks = All-from_recursion (λ byte. eqb byte 10 ≡ false) (codes "received") (refl, (refl, (refl, (refl, (refl, (refl, (refl, (refl, tt))))))))

act_lacks : (is_sent : Bool) → LacksLf (direction_word is_sent)
act_lacks true = sent_lacks
act_lacks false = received_lacks

before_lacks : LacksLf (codes "before")
before_lacks = All-from_recursion (λ byte. eqb byte 10 ≡ false) (codes "before") (refl, (refl, (refl, (refl, (refl, (refl, tt))))))

rivals_lacks : LacksLf (codes "rivals")
rivals_lacks = All-from_recursion (λ byte. eqb byte 10 ≡ false) (codes "rivals") (refl, (refl, (refl, (refl, (refl, (refl, tt))))))

produce_lacks : LacksLf (codes "produce")
produce_lacks = All-from_recursion (λ byte. eqb byte 10 ≡ false) (codes "produce") (refl, (refl, (refl, (refl, (refl, (refl, (refl, tt)))))))

unbound_lacks : LacksLf (codes "unbound")
unbound_lacks = All-from_recursion (λ byte. eqb byte 10 ≡ false) (codes "unbound") (refl, (refl, (refl, (refl, (refl, (refl, (refl, tt)))))))

lacks_lacks : LacksLf (codes "lacks")
lacks_lacks = All-from_recursion (λ byte. eqb byte 10 ≡ false) (codes "lacks") (refl, (refl, (refl, (refl, (refl, tt)))))

for_lacks : LacksLf (codes "for")
for_lacks = All-from_recursion (λ byte. eqb byte 10 ≡ false) (codes "for") (refl, (refl, (refl, tt)))

pub c_lacks : LacksLf (codes "c")
c_lacks = All-from_recursion (λ byte. eqb byte 10 ≡ false) (codes "c") (refl, tt)

-- a meaning whose words have no LF
pub one_line : (v : ℕ) (words : List (List ℕ)) → AllByRecursion LacksLf words → IsOneLine (v, words)
one_line v words all = (c_lacks, (printed_lacks (numeral v) (numeral_printed v), all))

kind_lacks : (x : Expanded) (kind : ℕ) → AllByRecursion LacksLf (kind_words x kind)
kind_lacks x kind =
    let m = message_of_kind kind in (act_lacks (eqb kind (sent m)), (message_lacks x m, tt))

-- so it is with those of a property
own_lack : (property : Property) (x : Expanded) → AllByRecursion IsOneLine (own_meanings property x)
own_lack Safety x =
    all_mapped IsOneLine (selection x) (λ chosen. let rivals = chosen.1 in one_line chosen.0 (selection x chosen).1 (rivals_lacks, (message_lacks x rivals.first, (message_lacks x rivals.second, (produce_lacks, (param_lacks x rivals.param, tt)))))) (selectors x)
own_lack Liveness x =
    let params = all_mapped IsOneLine (unbound x) (λ chosen. one_line chosen.0 (unbound x chosen).1 (unbound_lacks, (param_lacks x chosen.1, tt))) (unbound_variables x) in
    let wants = all_mapped IsOneLine (lack x) (λ chosen. let want = chosen.1 in one_line chosen.0 (lack x chosen).1 (lacks_lacks, (param_lacks x want.param, (for_lacks, (message_lacks x want.message, tt))))) (want_variables x) in
    all_both IsOneLine (map (unbound x) (unbound_variables x)) (map (lack x) (want_variables x)) params wants

-- with the kinds
pub kinds_lack : (x : Expanded) (vars : Variables) → AllByRecursion IsOneLine (occurrences x vars)
kinds_lack x vars = all_mapped IsOneLine (occurrence x) (λ kind. one_line kind (kind_words x kind) (kind_lacks x kind)) (kinds_following vars 0)

-- with two kinds in order
pub pairs_lack : (x : Expanded) (vars : Variables) → AllByRecursion IsOneLine (orders x vars)
pairs_lack x vars =
    all_joined IsOneLine (orders_of x vars) (λ i. all_mapped IsOneLine (order x vars i) (λ j. one_line (order x vars i j).0 (order x vars i j).1 (all_both LacksLf (kind_words x i) (codes "before" ∷ kind_words x j) (kind_lacks x i) (before_lacks, kind_lacks x j))) (kinds_following vars i)) (kinds_following vars 0)

-- and with all meanings of a legend
pub legend_lacks : (property : Property) (x : Expanded) → AllByRecursion IsOneLine (legend property x)
legend_lacks property x =
    let vars = variables_of property x in
    all_both IsOneLine (occurrences x vars ++ own_meanings property x) (orders x vars) (all_both IsOneLine (occurrences x vars) (own_meanings property x) (kinds_lack x vars) (own_lack property x)) (pairs_lack x vars)
