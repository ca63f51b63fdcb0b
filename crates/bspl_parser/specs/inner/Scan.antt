-- What a scan of a text gives, from an offset on, and one that is a token ahead.
use Rattle.std.specs.Prelude.{◌≡◌, ℕ, zero, suc, pred, ◌+◌, ◌≤◌, ◌==◌, nat_lt, if◌then◌else◌, List}
use Rattle.std.specs.Prelude.{[], ◌∷◌, length, take, drop, Option, Some, None, IfSome, IfNone}
use Rattle.std.specs.Option.{option_map_or}
use Rattle.bspl_parser.specs.declared.packed_token.PackedToken.{PackedToken}
use Rattle.bspl_parser.specs.declared.scanner.Ahead.{Ahead}
use Rattle.bspl_parser.specs.declared.token.Token.{Token}
use Rattle.bspl_parser.specs.inner.PackedToken.{kind_token, unpacked, IsPacked}
use Rattle.bspl_parser.specs.inner.Scanner.{gap_len, first_token}

-- the tokens up to the end, or up to the first byte at which no token begins, with its offset
pub record Scan : Type 0 where
  pub tokens : List Token
  pub bad_byte : Option ℕ

-- the token, and the scan after it
abbrev pub with_token : Token → Scan → Scan
with_token token scan = record scan { tokens = token ∷ scan.tokens }

-- no token, since the bytes end or since none begins at the offset
abbrev pub stopped : Option ℕ → Scan
stopped bad = record { tokens = []; bad_byte = bad }

-- the scan of bytes, the first of which is at the offset, after as many as are skipped
unfoldable pub scan_after : ℕ → ℕ → List ℕ → Scan
scan_after skipped offset [] = stopped None
scan_after (suc skipped) offset (b ∷ bs) = scan_after skipped (offset + 1) bs
scan_after zero offset (b ∷ bs) =
    if gap_len (b ∷ bs) == 0
    then option_map_or
    (λ found. with_token (kind_token found.0 (take found.1 (b ∷ bs)) offset)
    (scan_after (pred found.1) (offset + 1) bs))
    (first_token (b ∷ bs)) (stopped (Some offset))
    else scan_after (pred (gap_len (b ∷ bs))) (offset + 1) bs

-- the scan of a text from an offset on
abbrev pub scan_from : List ℕ → ℕ → Scan
scan_from text offset = scan_after 0 offset (drop offset text)

-- the token before the scan, if there is one
abbrev pub with_next : List ℕ → Option PackedToken → Scan → Scan
with_next text None scan = scan
with_next text (Some p) scan = with_token (unpacked text p) scan

-- the token that was scanned last, if there is one, and the scan from there on
abbrev pub rest_from : List ℕ → Ahead → Scan
rest_from text ahead = with_next text ahead.token (scan_from text ahead.offset)

-- the scan that stops at the offset: there no token begins, or the text ends
abbrev pub stopped_at : List ℕ → ℕ → Scan
stopped_at text offset =
    stopped (if nat_lt offset (length text) then Some offset else None)

-- the token lies in the text; if there is none, the scan stops at the offset
pub record IsAhead (text : List ℕ) (ahead : Ahead) : Type 0 where
  pub short : length text ≤ 4294967295
  pub within : ahead.offset ≤ length text
  pub packed : IfSome ahead.token (IsPacked text)
  pub ended : IfNone ahead.token (scan_from text ahead.offset ≡ stopped_at text ahead.offset)
