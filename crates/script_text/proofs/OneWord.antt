-- The word with which a line begins tells what kind of line it is.
use Rattle.std.proofs.Common.{◌≡◌, ℕ, cond, List, [], ◌∷◌, codes, refl, sym, ap, ◌∙◌}
use Rattle.std.specs.Str.{bytes_eq}
use Rattle.agent_scripts.specs.declared.statement.Setting.{Setting}
use Rattle.agent_scripts.specs.declared.statement.Setting.TheVariants as settings
use Rattle.agent_scripts.specs.Table.{LineForm, Set, Key, Order, Decline, Bind, written, setting_word}
use Rattle.text_lines.specs.Fields.{Field}

-- the setting of a word
abbrev word_setting : Field → Setting
word_setting word =
    cond (bytes_eq word (codes "keys")) settings.Keys
    (cond (bytes_eq word (codes "seed")) settings.Seed
    (cond (bytes_eq word (codes "loss")) settings.Loss settings.Repeat))

setting_back : (s : Setting) → word_setting (setting_word s) ≡ s
setting_back settings.Keys = refl
setting_back settings.Seed = refl
setting_back settings.Loss = refl
setting_back settings.Repeat = refl

-- two settings of one word are one
pub one_setting : (s t : Setting) → setting_word s ≡ setting_word t → s ≡ t
one_setting s t same = sym (setting_back s) ∙ ap word_setting same ∙ setting_back t

-- the kind of what a line says, as a number
abbrev pub kind : LineForm → ℕ
kind (Set setting n) = 0
kind (Key values) = 1
kind (Order role messages) = 2
kind (Decline message every) = 3
kind (Bind message param rule) = 4

-- and of the line's fields
abbrev fields_kind : List Field → ℕ
fields_kind [] = 0
fields_kind (word ∷ fields) =
    cond (bytes_eq word (codes "key")) 1
    (cond (bytes_eq word (codes "order")) 2
    (cond (bytes_eq word (codes "decline")) 3
    (cond (bytes_eq word (codes "value")) 4 0)))

kind_back : (p : LineForm) → fields_kind (written p) ≡ kind p
kind_back (Set settings.Keys n) = refl
kind_back (Set settings.Seed n) = refl
kind_back (Set settings.Loss n) = refl
kind_back (Set settings.Repeat n) = refl
kind_back (Key values) = refl
kind_back (Order role messages) = refl
kind_back (Decline message every) = refl
kind_back (Bind message param rule) = refl

-- what is written alike is of one kind
pub one_kind : (p q : LineForm) → written p ≡ written q → kind p ≡ kind q
one_kind p q same = sym (kind_back p) ∙ ap fields_kind same ∙ kind_back q
