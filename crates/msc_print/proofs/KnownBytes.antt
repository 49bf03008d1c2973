-- What writes do to known bytes, one after the other.
use Rattle.std.proofs.Common.{ℕ, List, ◌++◌, Option, Some, None, ap, ◌∙◌, append_assoc}
use Rattle.std.specs.Io.KnownBytes.{Appends}

-- what is written twice is written together
pub Appends-append : (old mid new : Option (List ℕ)) (xs ys : List ℕ) → Appends old mid xs → Appends mid new ys → Appends old new (xs ++ ys)
Appends-append None mid new xs ys a b = tt
Appends-append (Some o) None new xs ys a b = absurd a
Appends-append (Some o) (Some m) None xs ys a b = absurd b
Appends-append (Some o) (Some m) (Some n) xs ys a b = b ∙ ap (λ (t : List ℕ). t ++ ys) a ∙ append_assoc o xs ys
