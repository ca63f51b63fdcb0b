-- Documents that differ in offsets alone, and texts from which a document is read back.
use Rattle.std.specs.Prelude.{◌≡◌, ℕ, List, Option, map}
use Rattle.std.specs.Option.{option_map}
use Rattle.bspl_parser.specs.declared.document.Formal.{Formal}
use Rattle.bspl_parser.specs.declared.document.Schema.{Schema}
use Rattle.bspl_parser.specs.declared.document.Reference.{Reference}
use Rattle.bspl_parser.specs.declared.document.Item.{Item}
use Rattle.bspl_parser.specs.declared.document.Item.TheVariants as item
use Rattle.bspl_parser.specs.declared.document.Declaration.{Declaration}
use Rattle.bspl_parser.specs.declared.document.Document.{Document}
use Rattle.bspl_parser.specs.declared.word.Word.{Word}
use Rattle.bspl_parser.specs.Judgement.{IsText}

-- the name, as if its offset were 0
abbrev pub word_without_offset : Word → Word
word_without_offset w = record w { offset = 0 }

-- the word `key`, if it is there, as if its offset were 0
abbrev pub key_without_offset : Option ℕ → Option ℕ
key_without_offset key = option_map (λ offset. 0) key

-- a parameter, as if all its offsets were 0
abbrev pub formal_without_offsets : Formal → Formal
formal_without_offsets f = record f {
  offset = 0;
  name = word_without_offset f.name;
  key = key_without_offset f.key;
}

-- a message, as if all its offsets were 0
abbrev pub message_without_offsets : Schema → Schema
message_without_offsets m = record {
  sender = word_without_offset m.sender;
  receiver = word_without_offset m.receiver;
  name = word_without_offset m.name;
  params = map formal_without_offsets m.params;
}

-- a reference, as if all its offsets were 0
abbrev pub reference_without_offsets : Reference → Reference
reference_without_offsets r = record {
  protocol = word_without_offset r.protocol;
  roles = map word_without_offset r.roles;
  params = map formal_without_offsets r.params;
}

-- an item, as if all its offsets were 0
abbrev pub item_without_offsets : Item → Item
item_without_offsets (item.Message m) = item.Message (message_without_offsets m)
item_without_offsets (item.Reference r) = item.Reference (reference_without_offsets r)

-- a protocol, as if all its offsets were 0
abbrev pub declaration_without_offsets : Declaration → Declaration
declaration_without_offsets d = record {
  name = word_without_offset d.name;
  roles = map word_without_offset d.roles;
  public = map formal_without_offsets d.public;
  private = map word_without_offset d.private;
  body = map item_without_offsets d.body;
}

-- a document, as if all its offsets were 0
abbrev pub without_offsets : Document → Document
without_offsets d = record { protocols = map declaration_without_offsets d.protocols }

-- equal but for offsets
abbrev pub AreAlike : Document → Document → Type 0
AreAlike d e = without_offsets d ≡ without_offsets e

-- the text spells a document that is equal to this one but for offsets
pub record ReadsBack (text : List ℕ) (d : Document) : Type 0 where
  pub document : Document
  pub read : IsText text document
  pub alike : AreAlike d document

-- words of one text and one offset are equal
abbrev pub WordsAreEqual : Type 0
WordsAreEqual = (v w : Word) → v.text ≡ w.text → v.offset ≡ w.offset → v ≡ w
