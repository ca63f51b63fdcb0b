-- The tokens of a scan are those of the text.
use Rattle.std.proofs.Common.{◌≡◌, ℕ, zero, suc, ◌+◌, ◌<◌, ◌≤◌, List, [], ◌∷◌, ◌++◌, length, take, drop, Option, Some, None, inl, inr, refl, sym, ap, subst, ◌∙◌, append_assoc, arith}
use Rattle.std.proofs.lemmas.List.{take-append-drop, length-take-le, length-append, length-drop}
use Rattle.bspl_parser.specs.declared.packed_token.Kind.{Kind}
use Rattle.bspl_parser.specs.declared.token.Token.{Token}
use Rattle.bspl_parser.specs.inner.PackedToken.{kind_token}
use Rattle.bspl_parser.specs.inner.Scan.{Scan, with_token, stopped, scan_after, scan_from}
use Rattle.bspl_parser.specs.inner.Scanner.{gap_len, first_token, IsTokenOf}
use Rattle.bspl_parser.specs.Tokens.{IsGap, nothing, IsEnd, BeginsWithToken, TokensTo, Tokens, BeginsNothing, IsBadByte}
use Rattle.bspl_parser.proofs.GapLengths.{IsPassed, gap_is_passed, gap_within, no_gap_there}
use Rattle.bspl_parser.proofs.Gaps.{IsGap-append}
use Rattle.bspl_parser.proofs.PackedTokens.{is_of_kind}
use Rattle.bspl_parser.proofs.Scans.{first_is_longest, first_is_none}
use Rattle.bspl_parser.proofs.ScanSteps.{scan_end, skip_step, token_step, stop_step}

-- the tokens end where the text does
abbrev pub AtEnd : ℕ → List ℕ → Type 0
AtEnd offset rest = IsEnd rest

-- they end where nothing begins
abbrev pub AtBad : ℕ → ℕ → List ℕ → Type 0
AtBad bad offset rest = (offset ≡ bad) × BeginsNothing rest

-- a gap before the tokens
pub gap_before : (End : ℕ → List ℕ → Type 0) (p : List ℕ) → IsGap p → (offset : ℕ) (bytes : List ℕ) (ts : List Token) → TokensTo End (offset + length p) bytes ts → TokensTo End offset (p ++ bytes) ts
gap_before End p gap offset bytes [] of_ts =
    let g = of_ts.0 in
    let r = of_ts.1 in
    let same_offset : offset + length p + length g ≡ offset + length (p ++ g) = omega (arith, length-append p g) in
    (p ++ g, r, IsGap-append gap of_ts.2, ap (λ x. p ++ x) of_ts.3 ∙ sym (append_assoc p g r), subst (λ o. End o r) same_offset of_ts.4)
gap_before End p gap offset bytes (t ∷ ts) of_ts =
    let g = of_ts.0 in
    let x = of_ts.1 in
    let r = of_ts.2 in
    let long = length-append p g in
    let same_offset : offset + length p + length g + length x ≡ offset + length (p ++ g) + length x = omega arith in (
      p ++ g,
      x,
      r,
      record {
        parts = ap (λ x. p ++ x) of_ts.3.parts ∙ sym (append_assoc p g (x ++ r));
        skipped = IsGap-append gap of_ts.3.skipped;
        spelled = of_ts.3.spelled;
        longest = of_ts.3.longest;
        at_offset = of_ts.3.at_offset ∙ (omega arith);
      },
      subst (λ o. TokensTo End o r ts) same_offset of_ts.4,
    )

-- a token that was found begins the bytes
begins : (offset : ℕ) (bytes : List ℕ) (k : Kind) (n : ℕ) (t : Token) → first_token bytes ≡ Some (k, n) → IsTokenOf k (take n bytes) offset t → BeginsWithToken offset bytes t [] (take n bytes) (drop n bytes)
begins offset bytes k n t found is =
    let prefix = first_is_longest bytes k n found in
    record {
      parts = sym (take-append-drop n bytes);
      skipped = nothing;
      spelled = (prefix.spelled offset t is).0;
      longest = prefix.longest;
      at_offset = (prefix.spelled offset t is).1 ∙ (omega arith);
    }

-- a token before the others
token_before : (End : ℕ → List ℕ → Type 0) (offset : ℕ) (bytes : List ℕ) (k : Kind) (n : ℕ) → first_token bytes ≡ Some (k, n) → (ts : List Token) → TokensTo End (offset + n) (drop n bytes) ts → TokensTo End offset bytes (kind_token k (take n bytes) offset ∷ ts)
token_before End offset bytes k n found ts of_ts =
    let first = first_is_longest bytes k n found in
    let len : length (take n bytes) ≡ n = length-take-le n bytes first.within in
    let same_offset : offset + n ≡ offset + 0 + length (take n bytes) = omega arith in
    ([], take n bytes, drop n bytes, begins offset bytes k n (kind_token k (take n bytes) offset) found (is_of_kind k (take n bytes) offset first.named), subst (λ o. TokensTo End o (drop n bytes) ts) same_offset of_ts)

-- the scan's tokens are those of the bytes, up to the end or up to the bad byte
pub record IsScanOf (offset : ℕ) (bytes : List ℕ) (scan : Scan) : Type 0 where
  pub whole : scan.bad_byte ≡ None → TokensTo AtEnd offset bytes scan.tokens
  pub failure : (bad : ℕ) → scan.bad_byte ≡ Some bad → TokensTo (AtBad bad) offset bytes scan.tokens

-- at an end no token is left
at_end : (offset : ℕ) (bytes : List ℕ) → IsEnd bytes → IsScanOf offset bytes (stopped None)
at_end offset bytes end =
    record { whole = λ none. ([], bytes, nothing, refl, end); failure = λ bad some. absurd cc }

-- what is skipped is before the tokens
gap_skipped : (offset : ℕ) (bytes : List ℕ) (n : ℕ) (scan : Scan) → n ≤ length bytes → IsPassed bytes n → (drop n bytes ≡ [] → scan ≡ stopped None) → IsScanOf (offset + n) (drop n bytes) scan → IsScanOf offset bytes scan
gap_skipped offset bytes n scan within (inl gap) last rest =
    let len = length-take-le n bytes within in
    let before : (End : ℕ → List ℕ → Type 0) → TokensTo End (offset + n) (drop n bytes) scan.tokens → TokensTo End offset bytes scan.tokens = λ End of_rest.
    subst (λ b. TokensTo End offset b scan.tokens) (take-append-drop n bytes) (gap_before End (take n bytes) gap offset (drop n bytes) scan.tokens (subst (λ m. TokensTo End (offset + m) (drop n bytes) scan.tokens) (sym len) of_rest)) in
    record {
      whole = λ none. before AtEnd (rest.whole none);
      failure = λ bad some. before (AtBad bad) (rest.failure bad some);
    }
gap_skipped offset bytes n scan within (inr end) last rest = subst (IsScanOf offset bytes) (sym (last end.1)) (at_end offset bytes end.0)

-- a token is taken
token_taken : (offset : ℕ) (bytes : List ℕ) (k : Kind) (n : ℕ) (scan : Scan) → first_token bytes ≡ Some (k, n) → IsScanOf (offset + n) (drop n bytes) scan → IsScanOf offset bytes (with_token (kind_token k (take n bytes) offset) scan)
token_taken offset bytes k n scan found rest =
    record {
      whole = λ none. token_before AtEnd offset bytes k n found scan.tokens (rest.whole none);
      failure = λ bad some. token_before (AtBad bad) offset bytes k n found scan.tokens (rest.failure bad some);
    }

-- where neither a gap nor a token is found the byte is bad
nothing_found : (offset : ℕ) (bytes : List ℕ) → 0 < length bytes → gap_len bytes ≡ 0 → first_token bytes ≡ None → IsScanOf offset bytes (stopped (Some offset))
nothing_found offset bytes some no_gap none =
    let gap = no_gap_there bytes no_gap in
    let is_nothing : BeginsNothing bytes = record {
      some = λ is. (let empty = ap length is in omega arith);
      no_blank = gap.no_blank;
      no_comment = gap.no_comment;
      no_token = first_is_none bytes none;
    } in
    record {
      whole = λ ends. absurd cc;
      failure = λ bad is. (let same_offset : offset + 0 ≡ bad = (let at : offset ≡ bad = cc in omega arith) in
          ([], bytes, nothing, refl, (same_offset, is_nothing)));
    }

-- a step of the scan, and the scan of what is left
one_step : (offset : ℕ) (bytes : List ℕ) → 0 < length bytes → ((n : ℕ) → 0 < n → IsScanOf (offset + n) (drop n bytes) (scan_after 0 (offset + n) (drop n bytes))) → (gap : ℕ) → gap_len bytes ≡ gap → (found : Option (Kind × ℕ)) → first_token bytes ≡ found → IsScanOf offset bytes (scan_after 0 offset bytes)
one_step offset bytes some rest (suc n) gap found f =
    let m = gap_len bytes in
    let has : 0 < m = omega arith in
    let last : drop m bytes ≡ [] → scan_after 0 (offset + m) (drop m bytes) ≡ stopped None = λ none. ap (scan_after 0 (offset + m)) none ∙ scan_end 0 (offset + m) in
    subst (IsScanOf offset bytes) (sym (skip_step offset bytes has)) (gap_skipped offset bytes m (scan_after 0 (offset + m) (drop m bytes)) (gap_within bytes) (gap_is_passed bytes) last (rest m has))
one_step offset bytes some rest zero gap (Some t) f =
    let has = (first_is_longest bytes t.0 t.1 f).some in
    subst (IsScanOf offset bytes) (sym (token_step offset bytes t.0 t.1 gap f)) (token_taken offset bytes t.0 t.1 (scan_after 0 (offset + t.1) (drop t.1 bytes)) f (rest t.1 has))
one_step offset bytes some rest zero gap None f =
    subst (IsScanOf offset bytes) (sym (stop_step offset bytes some gap f)) (nothing_found offset bytes some gap f)

-- the scan of some bytes is theirs
scan_is : (room : ℕ) (offset : ℕ) (bytes : List ℕ) → length bytes ≤ room → IsScanOf offset bytes (scan_after 0 offset bytes)
scan_is room offset [] fits = subst (IsScanOf offset []) (sym (scan_end 0 offset)) (at_end offset [] (inl refl))
scan_is zero offset (b ∷ bs) fits = absurd (omega arith)
scan_is (suc room) offset (b ∷ bs) fits =
    let bytes = b ∷ bs in
    one_step offset bytes (omega arith) (λ n some. scan_is room (offset + n) (drop n bytes) (let long = length-drop n bytes in omega arith)) (gap_len bytes) refl (first_token bytes) refl

-- the tokens of a text without a bad byte
pub tokens_scanned : (text : List ℕ) → (scan_from text 0).bad_byte ≡ None → Tokens text (scan_from text 0).tokens
tokens_scanned text none = (scan_is (length text) 0 text (omega arith)).whole none

-- the first bad byte of a text
pub bad_byte_found : (text : List ℕ) (bad : ℕ) → (scan_from text 0).bad_byte ≡ Some bad → IsBadByte text bad
bad_byte_found text bad some = ((scan_from text 0).tokens, (scan_is (length text) 0 text (omega arith)).failure bad some)
