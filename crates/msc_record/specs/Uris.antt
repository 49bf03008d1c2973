-- URIs of files (RFC 3986, sections 2.1 and 2.3).
use Rattle.std.specs.Prelude.{ℕ, Bool, cond, ◌||◌, ◌==◌, List, [], ◌∷◌, codes}
use Rattle.std.specs.Char.{is_ascii_alphanumeric}
use Rattle.std.specs.List.{flat_map}
use Rattle.std.specs.Str.{bytes_eq}
use Rattle.percent_encoding.specs.Percent.{percent_encode_byte}

-- letters, digits, and `-`, `.`, `_`, `~` and `/` stay as they are
abbrev pub stays : ℕ → Bool
stays b = is_ascii_alphanumeric b || (b == 45 || (b == 46 || (b == 95 || (b == 126 || b == 47))))

abbrev pub uri_byte : ℕ → List ℕ
uri_byte b = cond (stays b) (b ∷ []) (percent_encode_byte b)

-- a name with the escapes of all other bytes
unfoldable pub escaped_name : List ℕ → List ℕ
escaped_name name = flat_map uri_byte name

-- the URI of a file; standard input, which is called `-`, has one too
abbrev pub file_uri : List ℕ → List ℕ
file_uri name = cond (bytes_eq name (codes "-")) (codes "stdin") (escaped_name name)
