-- A request as its texts.
use Rattle.std.specs.Prelude.{List, map}
use Rattle.wire_form.specs.declared.asked.Asked.{Asked}
use Rattle.wire_form.specs.declared.asked.Asked.TheVariants.{Emission, Receipt}
use Rattle.wire_form.specs.declared.asked.Field.{Field as TextField}
use Rattle.wire_form.specs.Request.{NamedField, Request, emit, receive}
use Rattle.wire_form.specs.Texts.{texts_of}

-- the name and the text of each field
abbrev pub fields_of : List TextField → List NamedField
fields_of fields = map (λ f. (f.name.now, f.text.now)) fields

-- what is asked for
abbrev pub request_of : Asked → Request
request_of (Receipt r) = receive r.message.now r.number r.stamp (fields_of r.fields.items)
request_of (Emission e) = emit (texts_of e.key.items) e.message.now (texts_of e.outs.items)
