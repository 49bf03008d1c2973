-- The two forms of LINK: NAME, and NAME>NAME.
use Rattle.std.specs.Prelude.{ℕ, Bool, ◌==◌, List, [], ◌∷◌, Option, None, Some}
use Rattle.std.specs.List.{slice_split}
use Rattle.msc_links.specs.declared.spelling.LinkNames.{LinkNames}
use Rattle.msc_links.specs.declared.spelling.LinkNames.TheVariants.{To, Between}
use Rattle.msc_links.specs.Blanks.{trimmed}

-- the names in LINK: that of a receiver, or those of a sender and a receiver
pub data SpelledLink : Type 0 where
  to_name : List ℕ → SpelledLink
  between_names : List ℕ → List ℕ → SpelledLink

-- the sign between the names of a sender and a receiver
abbrev pub is_arrow : ℕ → Bool
is_arrow b = b == 62

-- LINK is one name, and names are not empty
abbrev pub one_name : List ℕ → Option SpelledLink
one_name [] = None
one_name (b ∷ bs) = Some (to_name (b ∷ bs))

-- LINK is two names, and names are not empty
abbrev pub two_names : List ℕ → List ℕ → Option SpelledLink
two_names [] receiver = None
two_names (b ∷ bs) [] = None
two_names (b ∷ bs) (c ∷ cs) = Some (between_names (b ∷ bs) (c ∷ cs))

-- LINK has one name or two, and the blanks around each do not count
abbrev pub spelled_parts : List (List ℕ) → Option SpelledLink
spelled_parts [] = None
spelled_parts (name ∷ []) = one_name (trimmed name)
spelled_parts (sender ∷ receiver ∷ []) = two_names (trimmed sender) (trimmed receiver)
spelled_parts (first ∷ second ∷ third ∷ more) = None

-- the names in LINK, if it has one of the two forms: the arrow separates them
unfoldable pub spelled : List ℕ → Option SpelledLink
spelled link = spelled_parts (slice_split is_arrow link)

-- the names that the code has found
abbrev pub spelling : LinkNames → SpelledLink
spelling (To receiver) = to_name receiver.now
spelling (Between sender receiver) = between_names sender.now receiver.now
