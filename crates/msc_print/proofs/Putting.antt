-- What goes out in pages.
use Rattle.std.proofs.Common.{◌≡◌, ℕ, List, [], ◌++◌, Option, Err, refl, sym, ap, ◌∙◌, subst, append_assoc}
use Rattle.std.specs.Io.KnownBytes.{Appends}
use Rattle.msc_print.proofs.KnownBytes.{Appends-append}
use Rattle.msc_print.specs.declared.page.WriteFault.{WriteFault}
use Rattle.msc_print.specs.declared.page.WriteFault.TheVariants.{Memory, Device}
use Rattle.msc_print.specs.Pages.{Pages, Puts, WritesBeginning}
use Rattle.msc_print.proofs.PrintLemmas.{Appends-none, joined}

-- nothing is a beginning of every text
pub begins_none : (now : Option (List ℕ)) (text : List ℕ) → WritesBeginning now now text
begins_none now text = ([], text, refl, Appends-none now)

-- a text that stands behind the page was put there
pub pages_in : (now : Option (List ℕ)) (old new text : List ℕ) → new ≡ old ++ text → Pages now now old new text
pages_in now old new text same = ([], sym same, Appends-none now)

-- what is put one after the other is put together
pub pages_then : (before mid after : Option (List ℕ)) (old one new xs ys : List ℕ)
    → Pages before mid old one xs → Pages mid after one new ys → Pages before after old new (xs ++ ys)
pages_then before mid after old one new xs ys (f, first, out) (g, then, more) =
    (f ++ g, joined old one new xs ys f g first then, Appends-append before mid after f g out more)

-- and so does a fault in a part behind it
pub fails_within : (A B : Type 0) (e : WriteFault) (before mid after : Option (List ℕ)) (old one new last first then rest whole : List ℕ)
    → whole ≡ (first ++ then) ++ rest → Pages before mid old one first → Puts {A = A} (Err e) mid after one new then
    → Puts {A = B} (Err e) before after old last whole
fails_within A B Memory before mid after old one new last first then rest whole same (f, is, out) (g, left, split, more) = (
  f ++ g,
  left ++ rest,
  ap (λ (t : List ℕ). old ++ t) same ∙ sym (append_assoc old (first ++ then) rest)
      ∙ ap (λ (t : List ℕ). t ++ rest) (joined old one left first then f g is split) ∙ append_assoc (f ++ g) left rest,
  Appends-append before mid after f g out more,
)
fails_within A B Device before mid after old one new last first then rest whole same put failed = tt

-- with the last page, all went out
pub pages_out : (before mid after : Option (List ℕ)) (old new text whole : List ℕ) → old ++ text ≡ whole
    → Pages before mid old new text → Appends mid after new → Appends before after whole
pages_out before mid after old new text whole same (f, is, out) last =
    subst (Appends before after) (sym is ∙ same) (Appends-append before mid after f new out last)
