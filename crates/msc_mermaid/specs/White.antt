-- White space of Mermaid: what `\s` is in JavaScript, but LF and CR, in UTF-8.
use Rattle.std.specs.Prelude.{ℕ, ◌+◌, ◌-◌, Bool, cond, ◌||◌, ◌&&◌, ◌==◌, nat_le, nat_lt, List, [], ◌∷◌, get_or, take, drop}

-- U+0009, U+000B, U+000C, U+0020
abbrev pub is_one : ℕ → Bool
is_one a = a == 9 || a == 11 || a == 12 || a == 32

-- U+00A0
abbrev pub is_two : ℕ → ℕ → Bool
is_two a b = a == 194 && b == 160

-- U+2000 to U+200A, U+2028, U+2029, U+202F, by their last byte
abbrev pub is_general : ℕ → Bool
is_general c = nat_le 128 c && nat_le c 138 || c == 168 || c == 169 || c == 175

-- U+1680, those of is_general, U+205F, U+3000, U+FEFF
abbrev pub is_three : ℕ → ℕ → ℕ → Bool
is_three a b c =
    a == 225 && b == 154 && c == 128 || a == 226 && b == 128 && is_general c || a == 226 && b == 129 && c == 159 || a == 227 && b == 128 && c == 128 || a == 239 && b == 187 && c == 191

-- how many bytes the white space has that begins with these three; 0 if none begins
abbrev pub width : ℕ → ℕ → ℕ → ℕ
width a b c = cond (is_one a) 1 (cond (is_two a b) 2 (cond (is_three a b c) 3 0))

-- how many bytes the white space has that stands here
abbrev pub white : List ℕ → ℕ
white bytes = width (get_or bytes 0 0) (get_or bytes 1 0) (get_or bytes 2 0)

-- white space stands here
abbrev pub begins_white : List ℕ → Bool
begins_white bytes = nat_lt 0 (white bytes)

-- how many bytes are left here of white space, if so many are left of one that began before
abbrev pub ahead : ℕ → List ℕ → ℕ
ahead left bytes = cond (left == 0) (white bytes) left

-- how many bytes of white space stand in front
unfoldable pub front : ℕ → List ℕ → ℕ
front left [] = 0
front left (b ∷ bs) =
    cond (ahead left (b ∷ bs) == 0) 0 (1 + front (ahead left (b ∷ bs) - 1) bs)

-- how many bytes stand up to the last one that is not of white space
unfoldable pub body : ℕ → List ℕ → ℕ
body left [] = 0
body left (b ∷ bs) =
    cond (ahead left (b ∷ bs) == 0 || nat_lt 0 (body (ahead left (b ∷ bs) - 1) bs)) (1 + body (ahead left (b ∷ bs) - 1) bs) 0

-- the bytes behind the white space in front
abbrev pub behind_white : List ℕ → List ℕ
behind_white bytes = drop (front 0 bytes) bytes

-- the bytes before the white space at the end
abbrev pub before_white : List ℕ → List ℕ
before_white bytes = take (body 0 bytes) bytes

-- the bytes without white space at both ends
abbrev pub trimmed : List ℕ → List ℕ
trimmed bytes = before_white (behind_white bytes)
