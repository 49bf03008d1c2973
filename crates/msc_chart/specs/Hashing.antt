-- What an end of a message feeds a hasher: each of its names in one write.
use Rattle.std.specs.Prelude.{◌≡◌, ℕ, Bool, true, ◌&&◌, nat_eq, List, [], ◌∷◌, ◌++◌, Option, Some, None}
use Rattle.std.specs.Borrow.{Bor}
use Rattle.std.specs.Cmp.{booleans_Decides}
use Rattle.std.specs.Cmp.Lexicographic.{pointwise}
use Rattle.std.specs.Hash as fed
use Rattle.std.specs.Hash.{HashWrites, Alike, same_Alike, on_Alike, and-Alike}
use Rattle.std.specs.Option.{option_eq}
use mathlib.Core.Bool.{beq, true≢false}
use mathlib.Core.Path.{refl, sym}
use lib.Pointwise.{bytes_decides}
use Rattle.msc_chart.specs.declared.end.MessageEnd as code

-- all bytes in one write
abbrev pub fed_name : List ℕ → HashWrites
fed_name bytes = bytes ∷ []

-- the bytes of a number, where there is one
abbrev pub fed_number : Option (Bor (List ℕ)) → HashWrites
fed_number None = []
fed_number (Some number) = fed_name number.now

-- an end of a message
abbrev pub fed_end : code.MessageEnd → HashWrites
fed_end e = fed.bool e.sends ++ (fed_name e.sender.now ++ (fed_name e.receiver.now ++ (fed_name e.name.now ++ fed_number e.number)))

-- equal bytes are fed alike
names_alike : Alike (pointwise nat_eq) fed_name
names_alike = same_Alike fed_name bytes_decides

-- bytes are equal
abbrev pub equal_names : Bor (List ℕ) → Bor (List ℕ) → Bool
equal_names p q = pointwise nat_eq p.now q.now

-- numbers are equal where both or neither stand, with equal bytes
abbrev pub equal_numbers : Option (Bor (List ℕ)) → Option (Bor (List ℕ)) → Bool
equal_numbers = option_eq equal_names

-- equal numbers are fed alike
number_fed : (x y : Option (Bor (List ℕ))) → equal_numbers x y ≡ true → fed_number x ≡ fed_number y
number_fed None None h = refl
number_fed None (Some q) h = absurd (true≢false (sym h))
number_fed (Some p) None h = absurd (true≢false (sym h))
number_fed (Some p) (Some q) h = names_alike.fed p.now q.now h

-- the same, as a record
numbers_alike : Alike equal_numbers fed_number
numbers_alike = record { fed = number_fed }

-- ends are equal where they are of one kind, with equal names
abbrev pub equal_ends : code.MessageEnd → code.MessageEnd → Bool
equal_ends x y =
    beq x.sends y.sends && (equal_names x.sender y.sender && (equal_names x.receiver y.receiver
    && (equal_names x.name y.name && equal_numbers x.number y.number)))

-- equal ends are fed alike
pub ends_alike : Alike equal_ends fed_end
ends_alike =
    and-Alike (on_Alike (λ (e : code.MessageEnd). e.sends) (same_Alike fed.bool booleans_Decides))
    (and-Alike (on_Alike (λ (e : code.MessageEnd). e.sender.now) names_alike)
    (and-Alike (on_Alike (λ (e : code.MessageEnd). e.receiver.now) names_alike)
    (and-Alike (on_Alike (λ (e : code.MessageEnd). e.name.now) names_alike) (on_Alike (λ (e : code.MessageEnd). e.number) numbers_alike))))
