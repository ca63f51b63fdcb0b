-- The most that an input may have of each thing, in the order in which it is counted.
use Rattle.std.specs.Prelude.{ℕ}

-- bytes of the whole input: 512 MiB
abbrev pub input_limit : ℕ
input_limit = 536870912

-- bytes of the protocol text: 1 MiB
abbrev pub text_limit : ℕ
text_limit = 1048576

-- protocols that are declared
abbrev pub protocol_limit : ℕ
protocol_limit = 64

-- references on a path from the top protocol
abbrev pub depth_limit : ℕ
depth_limit = 8

-- roles of the top protocol
abbrev pub role_limit : ℕ
role_limit = 8

-- parameters of the expansion, public and private
abbrev pub param_limit : ℕ
param_limit = 64

-- key parameters
abbrev pub key_limit : ℕ
key_limit = 4

-- parameters that one message carries, `nil` ones included
abbrev pub carried_limit : ℕ
carried_limit = 16

-- messages of the expansion
abbrev pub message_limit : ℕ
message_limit = 64

-- bytes of a text that is a value
abbrev pub value_text_limit : ℕ
value_text_limit = 32
