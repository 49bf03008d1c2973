-- What is put behind a page after something else.
use Rattle.std.proofs.Common.{◌≡◌, List, ℕ, ◌++◌, Option, Result, Ok, Err, sym, ap, ◌∙◌, subst, append_assoc}
use Rattle.msc_print.specs.Pages.{Puts, WritesBeginning}
use Rattle.msc_print.specs.declared.page.WriteFault.{WriteFault}
use Rattle.msc_print.specs.declared.page.WriteFault.TheVariants.{Memory, Device}

-- what is put behind what stands on the page already is put with that
pub puts_behind : {A : Type 0} (r : Result A WriteFault) (before after : Option (List ℕ)) (old one new xs ys whole : List ℕ)
    → one ≡ old ++ xs → whole ≡ xs ++ ys → Puts r before after one new ys → Puts r before after old new whole
puts_behind (Ok a) before after old one new xs ys whole is same (f, split, out) =
    (f, ap (λ (t : List ℕ). old ++ t) same ∙ sym (append_assoc old xs ys) ∙ ap (λ (t : List ℕ). t ++ ys) (sym is) ∙ split, out)
puts_behind (Err Memory) before after old one new xs ys whole is same begun =
    subst (WritesBeginning before after) (ap (λ (t : List ℕ). t ++ ys) is ∙ append_assoc old xs ys ∙ ap (λ (t : List ℕ). old ++ t) (sym same)) begun
puts_behind (Err Device) before after old one new xs ys whole is same put = tt
