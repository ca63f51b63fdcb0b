-- Two equal names of a flat protocol.
use Rattle.std.specs.Prelude.{◌≡◌, ℕ, List, ◌∷◌, ◌++◌, ◌⊎◌}
use Rattle.std.specs.List.{Contains}
use Rattle.bspl_parser.specs.declared.document.Declaration.{Declaration}
use Rattle.bspl_parser.specs.declared.word.Word.{Word}
use Rattle.protocol_names.specs.Names.{message_words, param_words, texts}
use Rattle.protocol_expand.specs.WellScoped.{AreDistinct}

-- the first word that has the name of one before it, and its offset
pub record RepeatsFirst (words : List Word) (offset : ℕ) : Type 0 where
  pub before : List Word
  pub word : Word
  pub after : List Word
  pub parts : words ≡ before ++ word ∷ after
  pub distinct : AreDistinct before
  pub repeats : Contains (texts before) word.text
  pub located : word.offset ≡ offset

-- the names of all messages are distinct, and so are those of all parameters
pub record AreNamesDistinct (flat : Declaration) : Type 0 where
  pub messages : AreDistinct (message_words flat)
  pub params : AreDistinct (param_words flat)

-- the names of all messages are distinct, and a parameter is the first that has the name of one
-- before it
pub record RepeatsParam (flat : Declaration) (offset : ℕ) : Type 0 where
  pub messages : AreDistinct (message_words flat)
  pub param : RepeatsFirst (param_words flat) offset

-- a message is the first that has the name of one before it; or none has, and a parameter is
abbrev pub RepeatsName : Declaration → ℕ → Type 0
RepeatsName flat offset = RepeatsFirst (message_words flat) offset ⊎ RepeatsParam flat offset
