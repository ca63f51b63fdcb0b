-- The steps of a scan: it skips a gap, takes a token, or stops.
use Rattle.std.proofs.Common.{◌≡◌, ℕ, zero, suc, pred, ◌+◌, ◌-◌, ◌<◌, ◌≤◌, Bool, true, false, cond, eqb, ltb, List, [], ◌∷◌, length, take, drop, Option, Some, None, inl, inr, refl, sym, ap, subst, ◌∙◌, arith}
use Rattle.std.specs.Prelude.{IfSome, IsTrue}
use Rattle.std.proofs.lemmas.Bool.{cases_Bool, eqb-true, ltb-true, ltb-false}
use Rattle.std.proofs.lemmas.List.{take_rest, drop_all, drop-drop, length-drop}
use Rattle.bspl_types.specs.Name.{is_name}
use Rattle.bspl_parser.specs.declared.packed_token.Kind.{Kind}
use Rattle.bspl_parser.specs.declared.packed_token.PackedToken.{PackedToken}
use Rattle.bspl_parser.specs.inner.PackedToken.{kind_token, unpacked, IsPacked}
use Rattle.bspl_parser.specs.inner.Scan.{with_token, stopped, scan_after, scan_from, stopped_at}
use Rattle.bspl_parser.specs.inner.Scanner.{gap_len, first_token}
use Rattle.bspl_parser.proofs.GapLengths.{gap_within}
use Rattle.bspl_parser.proofs.Scans.{first_is_longest}

-- nothing is left of no bytes
pub scan_end : (skipped offset : ℕ) → scan_after skipped offset [] ≡ stopped None
unfolding scan_after
scan_end zero offset = refl
scan_end (suc skipped) offset = refl

-- what is skipped is left out
scan_skips : (n offset : ℕ) (bytes : List ℕ) → n ≤ length bytes → scan_after n offset bytes ≡ scan_after 0 (offset + n) (drop n bytes)
unfolding scan_after
scan_skips zero offset bytes within = (let same : offset ≡ offset + 0 = omega arith in ap (λ o. scan_after 0 o bytes) same)
scan_skips (suc n) offset [] within = absurd (omega arith)
scan_skips (suc n) offset (b ∷ bs) within =
    let same : offset + 1 + n ≡ offset + suc n = omega arith in
    scan_skips n (offset + 1) bs (omega arith) ∙ ap (λ o. scan_after 0 o (drop n bs)) same

-- and so is what begins with the first byte
skips_first : (n offset : ℕ) (b : ℕ) (bs : List ℕ) → 0 < n → n ≤ length (b ∷ bs) → scan_after (pred n) (offset + 1) bs ≡ scan_after 0 (offset + n) (drop n (b ∷ bs))
skips_first zero offset b bs some within = absurd (omega arith)
skips_first (suc n) offset b bs some within =
    let same : offset + 1 + n ≡ offset + suc n = omega arith in
    scan_skips n (offset + 1) bs (omega arith) ∙ ap (λ o. scan_after 0 o (drop n bs)) same

-- what has a length is no length of 0
some_gap : (n : ℕ) → 0 < n → eqb n 0 ≡ false
some_gap n some =
    elim (cases_Bool (eqb n 0)) [
      | inl is ↦ absurd (let none = eqb-true n 0 is in omega arith)
      | inr other ↦ other
    ]

-- a gap is skipped
pub skip_step : (offset : ℕ) (bytes : List ℕ) → 0 < gap_len bytes → scan_after 0 offset bytes ≡ scan_after 0 (offset + gap_len bytes) (drop (gap_len bytes) bytes)
unfolding scan_after
skip_step offset [] some = absurd (let none = gap_within [] in omega arith)
skip_step offset (b ∷ bs) some = rw (some_gap (gap_len (b ∷ bs)) some) (skips_first (gap_len (b ∷ bs)) offset b bs some (gap_within (b ∷ bs)))

-- a token is taken
pub token_step : (offset : ℕ) (bytes : List ℕ) (k : Kind) (n : ℕ) → gap_len bytes ≡ 0 → first_token bytes ≡ Some (k, n) → scan_after 0 offset bytes ≡ with_token (kind_token k (take n bytes) offset) (scan_after 0 (offset + n) (drop n bytes))
unfolding scan_after
token_step offset [] k n no_gap found = absurd (let first = first_is_longest [] k n found in let some = first.some in let within = first.within in omega arith)
token_step offset (b ∷ bs) k n no_gap found =
    let first = first_is_longest (b ∷ bs) k n found in
    rw (no_gap, found) (ap (with_token (kind_token k (take n (b ∷ bs)) offset)) (skips_first n offset b bs first.some first.within))

-- the scan stops
pub stop_step : (offset : ℕ) (bytes : List ℕ) → 0 < length bytes → gap_len bytes ≡ 0 → first_token bytes ≡ None → scan_after 0 offset bytes ≡ stopped (Some offset)
unfolding scan_after
stop_step offset [] some no_gap none = absurd (omega arith)
stop_step offset (b ∷ bs) some no_gap none = rw (no_gap, none) refl

-- the length of a token that is found is within the bytes
pub first_within : (bytes : List ℕ) (found : Option (Kind × ℕ)) → found ≡ first_token bytes → IfSome found (λ f. (0 < f.1) × (f.1 ≤ length bytes))
first_within bytes None is = tt
first_within bytes (Some f) is = let prefix = first_is_longest bytes f.0 f.1 (sym is) in (prefix.some, prefix.within)

-- the rest of the text, as a slice of it
abbrev pub left : List ℕ → ℕ → List ℕ
left text offset = take (length text - offset) (drop offset text)

-- what was taken lies within the text
pub room_left : (text : List ℕ) (offset n : ℕ) → offset ≤ length text → n ≤ length (left text offset) → offset + n ≤ length text
room_left text offset n within fits = let rest = ap length (take_rest text offset) in omega (arith, length-drop offset text)

-- a gap of a text is skipped
pub gap_from : (text : List ℕ) (offset n : ℕ) → n ≡ gap_len (left text offset) → 0 < n → scan_from text (offset + n) ≡ scan_from text offset
gap_from text offset n is some =
    let len : n ≡ gap_len (drop offset text) = is ∙ ap gap_len (take_rest text offset) in
    let step = skip_step offset (drop offset text) (omega arith) in
    sym (step ∙ ap (λ m. scan_after 0 (offset + m) (drop m (drop offset text))) (sym len) ∙ ap (scan_after 0 (offset + n)) (drop-drop n offset text))

-- a token of a text is taken
pub token_from : (text : List ℕ) (p : PackedToken) → gap_len (drop p.start text) ≡ 0 → Some (p.kind, p.len) ≡ first_token (left text p.start) → with_token (unpacked text p) (scan_from text (p.start + p.len)) ≡ scan_from text p.start
token_from text p no_gap found =
    let bytes = drop p.start text in
    let step = token_step p.start bytes p.kind p.len no_gap (sym (found ∙ ap first_token (take_rest text p.start))) in
    sym (step ∙ ap (λ r. with_token (unpacked text p) (scan_after 0 (p.start + p.len) r)) (drop-drop p.len p.start text))

-- and lies in it
pub packed_there : (text : List ℕ) (p : PackedToken) → p.start ≤ length text → Some (p.kind, p.len) ≡ first_token (left text p.start) → IsPacked text p
packed_there text p inside found =
    let first = first_is_longest (left text p.start) p.kind p.len (sym found) in
    record {
      within = room_left text p.start p.len inside first.within;
      named = λ is. subst (λ b. IsTrue (is_name (take p.len b))) (take_rest text p.start) (first.named is);
    }

-- the scan stops at a bad byte, or at the end
stop_at : (text : List ℕ) (offset : ℕ) (more : Bool) → ltb offset (length text) ≡ more → gap_len (drop offset text) ≡ 0 → first_token (drop offset text) ≡ None → scan_from text offset ≡ stopped (cond more (Some offset) None)
stop_at text offset true more no_gap none =
    let within = ltb-true offset (length text) more in
    let long = length-drop offset text in
    stop_step offset (drop offset text) (omega arith) no_gap none
stop_at text offset false more no_gap none =
    let past = ltb-false offset (length text) more in
    ap (scan_after 0 offset) (drop_all offset text past) ∙ scan_end 0 offset

-- the scan of a text stops
pub stop_from : (text : List ℕ) (offset : ℕ) → gap_len (drop offset text) ≡ 0 → None ≡ first_token (left text offset) → scan_from text offset ≡ stopped_at text offset
stop_from text offset no_gap none = stop_at text offset (ltb offset (length text)) refl no_gap (sym (none ∙ ap first_token (take_rest text offset)))
