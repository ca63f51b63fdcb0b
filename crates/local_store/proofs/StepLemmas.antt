-- One more parameter, in the loops over a message's parameters.
use Rattle.std.proofs.Common.{◌≡◌, ℕ, ◌+◌, ◌<◌, Bool, true, false, cond, List, [], ◌∷◌, ◌++◌, length, take, drop, get_or, map, set, Option, Some, None, is_some, refl, sym, ap, ◌∙◌, append_assoc, arith}
use Rattle.std.specs.List.{zip}
use Rattle.std.specs.Option.{option_or}
use Rattle.std.proofs.lemmas.Bool.{true≢false}
use Rattle.std.proofs.lemmas.List.{at_drop_more, drop_more, take_more_set}
use Rattle.bspl_types.specs.declared.protocol.Carried.{Carried}
use Rattle.bspl_types.specs.declared.value.Value.{Value}
use Rattle.bspl_types.specs.declared.value.Value.TheVariants.{Number}
use Rattle.bspl_types.specs.Adornment.{has_value, valued}
use Rattle.role_knowledge.specs.declared.block.Block.{Block}
use Rattle.local_store.specs.declared.receipt.Receipt.{Receipt}
use Rattle.local_store.specs.inner.Blocks.{block_of, first_block}
use Rattle.local_store.specs.inner.Difference.{difference, first_difference}
use Rattle.local_store.specs.inner.FilledValues.{filled, filling, key_value}

-- without a value of the key no key parameter has one
pub no_key_value : (keys : List ℕ) (left : List Value) (p : ℕ) → length left ≡ 0 → key_value keys left p ≡ None
no_key_value [] left p empty = refl
no_key_value (k ∷ keys) [] p empty = refl
no_key_value (k ∷ keys) (v ∷ left) p empty = absurd (omega arith)

-- the first of two answers, if there is one
pub or_first : {X : Type 0} (found rest : Option X) → is_some found ≡ true → option_or found rest ≡ found
or_first None rest is = absurd (true≢false (sym is))
or_first (Some x) rest is = refl

pub or_rest : {X : Type 0} (found rest : Option X) → is_some found ≡ false → option_or found rest ≡ rest
or_rest None rest is = refl
or_rest (Some x) rest is = absurd (true≢false is)

-- the parameter at the index blocks
pub blocked_at : (cell : ℕ → Option Value) (carried : List Carried) (i : ℕ) (d : Carried) (found : Option Block) → i < length carried → found ≡ block_of (get_or carried i d).adornment (get_or carried i d).param (cell (get_or carried i d).param) → is_some found ≡ true → first_block cell (drop i carried) ≡ first_block cell carried → found ≡ first_block cell carried
blocked_at cell carried i d found within is some same =
    sym (or_first found (first_block cell (drop (i + 1) carried)) some)
    ∙ ap (λ o. option_or o (first_block cell (drop (i + 1) carried))) is
    ∙ sym (at_drop_more (first_block cell) carried i d within)
    ∙ same

-- it does not
pub unblocked_at : (cell : ℕ → Option Value) (carried : List Carried) (i : ℕ) (d : Carried) (found : Option Block) → i < length carried → found ≡ block_of (get_or carried i d).adornment (get_or carried i d).param (cell (get_or carried i d).param) → is_some found ≡ false → first_block cell (drop i carried) ≡ first_block cell carried → first_block cell (drop (i + 1) carried) ≡ first_block cell carried
unblocked_at cell carried i d found within is none same =
    sym (or_rest found (first_block cell (drop (i + 1) carried)) none)
    ∙ ap (λ o. option_or o (first_block cell (drop (i + 1) carried))) is
    ∙ sym (at_drop_more (first_block cell) carried i d within)
    ∙ same

-- the parameter at the index takes a value, or none
pub valued_step : (carried : List Carried) (i : ℕ) (d : Carried) (b : Bool) → i < length carried → has_value (get_or carried i d).adornment ≡ b → valued (drop i carried) ≡ cond b (get_or carried i d ∷ valued (drop (i + 1) carried)) (valued (drop (i + 1) carried))
valued_step carried i d b within is = ap valued (drop_more carried i d within) ∙ ap (λ wants. cond wants (get_or carried i d ∷ valued (drop (i + 1) carried)) (valued (drop (i + 1) carried))) is

-- its value differs
pub differs_at : (cell : ℕ → Option Value) (whole : Option Receipt) (carried : List Carried) (i : ℕ) (d : Carried) (v : Value) (rest left : List Value) (found : Option Receipt) → i < length carried → has_value (get_or carried i d).adornment ≡ true → left ≡ v ∷ rest → found ≡ difference (cell (get_or carried i d).param) (get_or carried i d, v) → is_some found ≡ true → first_difference cell (zip (valued (drop i carried)) left) ≡ whole → found ≡ whole
differs_at cell whole carried i d v rest left found within wants left_is is some same =
    let later = first_difference cell (zip (valued (drop (i + 1) carried)) rest) in
    sym (or_first found later some) ∙ ap (λ o. option_or o later) is
    ∙ sym (ap (λ cs. first_difference cell (zip cs (v ∷ rest))) (valued_step carried i d true within wants))
    ∙ sym (ap (λ vs. first_difference cell (zip (valued (drop i carried)) vs)) left_is)
    ∙ same

-- it does not
pub agrees_at : (cell : ℕ → Option Value) (whole : Option Receipt) (carried : List Carried) (i : ℕ) (d : Carried) (v : Value) (rest left : List Value) (found : Option Receipt) → i < length carried → has_value (get_or carried i d).adornment ≡ true → left ≡ v ∷ rest → found ≡ difference (cell (get_or carried i d).param) (get_or carried i d, v) → is_some found ≡ false → first_difference cell (zip (valued (drop i carried)) left) ≡ whole → first_difference cell (zip (valued (drop (i + 1) carried)) rest) ≡ whole
agrees_at cell whole carried i d v rest left found within wants left_is is none same =
    let later = first_difference cell (zip (valued (drop (i + 1) carried)) rest) in
    sym (or_rest found later none) ∙ ap (λ o. option_or o later) is
    ∙ sym (ap (λ cs. first_difference cell (zip cs (v ∷ rest))) (valued_step carried i d true within wants))
    ∙ sym (ap (λ vs. first_difference cell (zip (valued (drop i carried)) vs)) left_is)
    ∙ same

-- it has none
pub bare_at : (cell : ℕ → Option Value) (whole : Option Receipt) (carried : List Carried) (i : ℕ) (d : Carried) (left : List Value) → i < length carried → has_value (get_or carried i d).adornment ≡ false → first_difference cell (zip (valued (drop i carried)) left) ≡ whole → first_difference cell (zip (valued (drop (i + 1) carried)) left) ≡ whole
bare_at cell whole carried i d left within bare same =
    sym (ap (λ cs. first_difference cell (zip cs left)) (valued_step carried i d false within bare)) ∙ same

-- one more value was written
written : (count : ℕ) (values : List Value) (v : Value) (rest whole : List Value) → count < length values → take count values ++ v ∷ rest ≡ whole → take (count + 1) (set values count v) ++ rest ≡ whole
written count values v rest whole within same =
    ap (λ front. front ++ rest) (take_more_set values count v within)
    ∙ append_assoc (take count values) (v ∷ []) rest
    ∙ same

-- the value of a parameter was read
pub read_more : (g : Carried → Value) (carried : List Carried) (i : ℕ) (d : Carried) (values : List Value) (count : ℕ) (v : Value) → i < length carried → has_value (get_or carried i d).adornment ≡ true → count < length values → v ≡ g (get_or carried i d) → take count values ++ map g (valued (drop i carried)) ≡ map g (valued carried) → take (count + 1) (set values count v) ++ map g (valued (drop (i + 1) carried)) ≡ map g (valued carried)
read_more g carried i d values count v within wants room is same =
    written count values v (map g (valued (drop (i + 1) carried))) (map g (valued carried)) room
    (ap (λ w. take count values ++ w ∷ map g (valued (drop (i + 1) carried))) is
    ∙ sym (ap (λ cs. take count values ++ map g cs) (valued_step carried i d true within wants))
    ∙ same)

pub read_same : (g : Carried → Value) (carried : List Carried) (i : ℕ) (d : Carried) (front whole : List Value) → i < length carried → has_value (get_or carried i d).adornment ≡ false → front ++ map g (valued (drop i carried)) ≡ whole → front ++ map g (valued (drop (i + 1) carried)) ≡ whole
read_same g carried i d front whole within bare same =
    sym (ap (λ cs. front ++ map g cs) (valued_step carried i d false within bare)) ∙ same

-- the value of a parameter was filled in
pub filled_more : (known : ℕ → Value) (of_key : ℕ → Option Value) (outs : List Value) (carried : List Carried) (i : ℕ) (d : Carried) (values : List Value) (count used : ℕ) (next : Value × ℕ) (whole : List Value) → i < length carried → has_value (get_or carried i d).adornment ≡ true → count < length values → next ≡ filling (get_or carried i d).adornment (known (get_or carried i d).param) (of_key (get_or carried i d).param) (get_or outs used (Number 0)) → take count values ++ filled known of_key outs (drop i carried) used ≡ whole → take (count + 1) (set values count next.0) ++ filled known of_key outs (drop (i + 1) carried) (used + next.1) ≡ whole
filled_more known of_key outs carried i d values count used next whole within wants room is same =
    let c = get_or carried i d in
    let filling_of = filling c.adornment (known c.param) (of_key c.param) (get_or outs used (Number 0)) in
    let later = λ (k : ℕ). filled known of_key outs (drop (i + 1) carried) (used + k) in
    let step : filled known of_key outs (drop i carried) used ≡ filling_of.0 ∷ later filling_of.1 = at_drop_more (λ cs. filled known of_key outs cs used) carried i d within ∙ ap (λ b. cond b (filling_of.0 ∷ later filling_of.1) (filled known of_key outs (drop (i + 1) carried) used)) wants in
    written count values next.0 (later next.1) whole room
    (ap (λ n. take count values ++ n.0 ∷ later n.1) is ∙ sym (ap (λ vs. take count values ++ vs) step) ∙ same)

pub filled_same : (known : ℕ → Value) (of_key : ℕ → Option Value) (outs : List Value) (carried : List Carried) (i : ℕ) (d : Carried) (front : List Value) (used : ℕ) (whole : List Value) → i < length carried → has_value (get_or carried i d).adornment ≡ false → front ++ filled known of_key outs (drop i carried) used ≡ whole → front ++ filled known of_key outs (drop (i + 1) carried) used ≡ whole
filled_same known of_key outs carried i d front used whole within bare same =
    let c = get_or carried i d in
    let filling_of = filling c.adornment (known c.param) (of_key c.param) (get_or outs used (Number 0)) in
    let step : filled known of_key outs (drop i carried) used ≡ filled known of_key outs (drop (i + 1) carried) used = at_drop_more (λ cs. filled known of_key outs cs used) carried i d within ∙ ap (λ b. cond b (filling_of.0 ∷ filled known of_key outs (drop (i + 1) carried) (used + filling_of.1)) (filled known of_key outs (drop (i + 1) carried) used)) bare in
    sym (ap (λ vs. front ++ vs) step) ∙ same
