-- What a byte of a string is written as.
use Rattle.std.proofs.Common.{◌≡◌, ℕ, ◌/◌, ◌%◌, ◌<◌, ◌≤◌, List, [], ◌∷◌, ◌++◌, false, codes, refl, ◌∙◌}
use Rattle.std.specs.Prelude.{decimal}
use Rattle.std.specs.Char.{digit_char}
use Rattle.std.proofs.lemmas.Bool.{cond-false, cond-true, lt-ltb, le-ltb}
use Rattle.std.proofs.lemmas.List.{append_assoc}
use Rattle.json.specs.Print.{escape_byte, escape_letter, quoted}
use Rattle.serde_json.specs.Data.{Data, Members}
use Rattle.serde_json.specs.Written.{compact_text, members_text}
use Rattle.wire_form.specs.Reply.{only}
use Rattle.wire_form.specs.Request.{sent_data}

-- a byte with a short escape
pub escaped_short : (x : ℕ) → 0 < escape_letter x → escape_byte x ≡ 92 ∷ escape_letter x ∷ []
unfolding escape_byte
escaped_short x some = cond-true _ _ _ (lt-ltb 0 (escape_letter x) some)

-- a control character
pub escaped_control : (x : ℕ) → escape_letter x ≤ 0 → x < 32 → escape_byte x ≡ 92 ∷ 117 ∷ 48 ∷ 48 ∷ digit_char (x / 16) ∷ digit_char (x % 16) ∷ []
unfolding escape_byte
escaped_control x none low = cond-false _ _ _ (le-ltb 0 (escape_letter x) none) ∙ cond-true _ _ _ (lt-ltb x 32 low)

-- any other byte
pub escaped_plain : (x : ℕ) → escape_letter x ≤ 0 → 32 ≤ x → escape_byte x ≡ x ∷ []
unfolding escape_byte
escaped_plain x none high = cond-false _ _ _ (le-ltb 0 (escape_letter x) none) ∙ cond-false _ _ _ (le-ltb x 32 high)

-- the parts of the text of a message
pub message_text : (m : List ℕ) (n s : ℕ) (vs : Members) → compact_text (sent_data m n s vs) ≡
    codes "{\"message\":" ++ (quoted m ++ (codes ",\"number\":" ++ (decimal n ++ (codes ",\"stamp\":" ++ (decimal s ++ (codes ",\"values\":{" ++ (members_text false vs ++ 125 ∷ [])))))))
unfolding escape_byte
message_text m n s vs = refl

-- the text of what was sent
pub sent_text : (text : List ℕ) (d : Data) → ((text ++ codes "{\"sent\":") ++ compact_text d) ++ 125 ∷ [] ≡ text ++ compact_text (only (codes "sent") d)
unfolding escape_byte
sent_text text d = append_assoc (text ++ codes "{\"sent\":") (compact_text d) (125 ∷ []) ∙ append_assoc text (codes "{\"sent\":") (compact_text d ++ 125 ∷ [])

-- ten parts, one after another
pub parts_are : (t a b c d e f g h i : List ℕ) → (((((((((t ++ a) ++ b) ++ c) ++ d) ++ e) ++ f) ++ g) ++ h) ++ i) ≡ t ++ (a ++ (b ++ (c ++ (d ++ (e ++ (f ++ (g ++ (h ++ i))))))))
parts_are t a b c d e f g h i =
    append_assoc _ h i ∙ append_assoc _ g (h ++ i) ∙ append_assoc _ f (g ++ (h ++ i)) ∙ append_assoc _ e (f ++ (g ++ (h ++ i))) ∙ append_assoc _ d (e ++ (f ++ (g ++ (h ++ i))))
    ∙ append_assoc _ c (d ++ (e ++ (f ++ (g ++ (h ++ i))))) ∙ append_assoc _ b (c ++ (d ++ (e ++ (f ++ (g ++ (h ++ i)))))) ∙ append_assoc t a (b ++ (c ++ (d ++ (e ++ (f ++ (g ++ (h ++ i)))))))
