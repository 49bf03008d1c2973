-- What is printed one after the other.
use Rattle.std.proofs.Common.{◌≡◌, ℕ, List, [], ◌++◌, Option, Some, None, Result, Err, refl, sym, ap, ◌∙◌, subst, append_assoc}
use Rattle.std.specs.Io.KnownBytes.{Appends}
use Rattle.std.proofs.lemmas.List.{append-nil}
use Rattle.msc_print.proofs.KnownBytes.{Appends-append}
use Rattle.msc_print.specs.Pages.{Pages, Puts}
use Rattle.msc_print.specs.Printed.{Printed, printed}
use Rattle.msc_print.specs.Prints.{Ends, GoesOut, Prints, Prints'}
use Rattle.msc_print.specs.declared.page.WriteFault.{WriteFault}
use Rattle.msc_print.specs.declared.page.WriteFault.TheVariants.{Memory, Device}

-- where nothing was written, nothing was
pub Appends-none : (now : Option (List ℕ)) → Appends now now []
Appends-none None = tt
Appends-none (Some xs) = sym (append-nil xs)

-- what is put before and after a page, in lists: old and xs are f and one, one and ys are g and new
pub joined : (old one new xs ys f g : List ℕ) → old ++ xs ≡ f ++ one → one ++ ys ≡ g ++ new
    → old ++ (xs ++ ys) ≡ (f ++ g) ++ new
joined old one new xs ys f g first then =
    sym (append_assoc old xs ys) ∙ ap (λ (t : List ℕ). t ++ ys) first ∙ append_assoc f one ys
    ∙ ap (λ (t : List ℕ). f ++ t) then ∙ sym (append_assoc f g new)

-- one after the other
goes_then : (a b c : Option (List ℕ)) (old one rest xs ys : List ℕ) → GoesOut a b old xs one → GoesOut b c one ys rest → GoesOut a c old (xs ++ ys) rest
goes_then a b c old one rest xs ys h k = record {
  front = h.front ++ k.front;
  split = joined old one rest xs ys h.front k.front h.split k.split;
  out = Appends-append a b c h.front k.front h.out k.out;
}

-- less of a text
goes_short : (a b : Option (List ℕ)) (old rest xs ys : List ℕ) → GoesOut a b old xs rest → GoesOut a b old (xs ++ ys) (rest ++ ys)
goes_short a b old rest xs ys h = record {
  front = h.front;
  split = sym (append_assoc old xs ys) ∙ ap (λ (t : List ℕ). t ++ ys) h.split ∙ append_assoc h.front rest ys;
  out = h.out;
}

-- nothing is printed where nothing is done
nothing : (p : ℕ) (o : Option (List ℕ)) (l : List ℕ) (f : Option WriteFault) → Prints (printed p o l f) (printed p o l f) []
nothing p o l None = (refl, record { front = []; split = append-nil l; out = Appends-none o })
nothing p o l (Some f) = refl

pub prints_none : (a : Printed) → Prints a a []
prints_none a = nothing a.place a.out a.page a.fault

-- two texts are printed one after the other
then' : (p p' p'' : ℕ) (o o' o'' : Option (List ℕ)) (l l' l'' : List ℕ) (f f' f'' : Option WriteFault) (xs ys : List ℕ)
    → Prints (printed p o l f) (printed p' o' l' f') xs → Prints (printed p' o' l' f') (printed p'' o'' l'' f'') ys
    → Prints (printed p o l f) (printed p'' o'' l'' f'') (xs ++ ys)
then' p p' p'' o o' o'' l l' l'' (Some e) f' f'' xs ys h k =
    let at : f' ≡ Some e = ap (λ (s : Printed). s.fault) h in
    subst (λ (t : Option WriteFault). Prints (printed p' o' l' t) (printed p'' o'' l'' f'') ys → printed p'' o'' l'' f'' ≡ printed p o l (Some e)) (sym at)
    (λ same. same ∙ subst (λ (t : Option WriteFault). printed p' o' l' t ≡ printed p o l (Some e)) at h) k
then' p p' p'' o o' o'' l l' l'' None None None xs ys h k = (k.0 ∙ h.0, goes_then o o' o'' l l' l'' xs ys h.1 k.1)
then' p p' p'' o o' o'' l l' l'' None None (Some Memory) xs ys h k = (k.0 ∙ h.0, (k.1.0, goes_then o o' o'' l l' k.1.0 xs ys h.1 k.1.1))
then' p p' p'' o o' o'' l l' l'' None None (Some Device) xs ys h k = (k.0 ∙ h.0, tt)
then' p p' p'' o o' o'' l l' l'' None (Some e) f'' xs ys h k =
    subst (λ (s : Printed). Prints (printed p o l None) s (xs ++ ys)) (sym k) (stays e h)
  where
    stays : (e : WriteFault) → Prints (printed p o l None) (printed p' o' l' (Some e)) xs → Prints (printed p o l None) (printed p' o' l' (Some e)) (xs ++ ys)
    stays Memory h = (h.0, (h.1.0 ++ ys, goes_short o o' l h.1.0 xs ys h.1.1))
    stays Device h = h

pub prints_then : (a b c : Printed) (xs ys : List ℕ) → Prints a b xs → Prints b c ys → Prints a c (xs ++ ys)
prints_then a b c xs ys h k =
    then' a.place b.place c.place a.out b.out c.out a.page b.page c.page a.fault b.fault c.fault xs ys h k

-- where memory runs out, nothing goes out any more, and the page may have anything
pub stops : (a b : Printed) (xs : List ℕ) → a.fault ≡ None → b.place ≡ a.place → b.out ≡ a.out → b.fault ≡ Some Memory → Prints a b xs
stops a b xs runs place out now =
    let none = subst (λ (o : Option (List ℕ)). Appends a.out o []) (sym out) (Appends-none a.out) in
    subst (λ (t : Option WriteFault). Prints' t a b xs) (sym runs)
    (place, subst (λ (t : Option WriteFault). Ends t a b xs) (sym now) (a.page ++ xs, record { front = []; split = refl; out = none }))

-- what is printed after a fault leaves a printer as it is
pub prints_no_more : (a : Printed) (f : WriteFault) (xs : List ℕ) → a.fault ≡ Some f → Prints a a xs
prints_no_more a f xs is = subst (λ (t : Option WriteFault). Prints' t a a xs) (sym is) refl

-- What a printer printed after a page was put there: `a` is the printer at first, `b` in the end.
module _ (a b : Printed) (text : List ℕ) (h : Ends b.fault a b text) (before after : Option (List ℕ)) (old new : List ℕ) (from : a.out ≡ before) (page : a.page ≡ old) (to : b.out ≡ after) (rest : b.page ≡ new) where
  -- all of it, without a fault
  pub prints_put : b.fault ≡ None → Pages before after old new text
  prints_put runs =
      let all : Ends None a b text = subst (λ (t : Option WriteFault). Ends t a b text) runs h in (
        all.front,
        ap (λ (p : List ℕ). p ++ text) (sym page) ∙ all.split ∙ ap (λ (p : List ℕ). all.front ++ p) rest,
        subst (λ (o : Option (List ℕ)). Appends o after all.front) from (subst (λ (o : Option (List ℕ)). Appends a.out o all.front) to all.out),
      )

  -- which is a beginning too
  pub prints_begun : (A : Type 0) (result : Result A WriteFault) → result ≡ Err Memory → b.fault ≡ None → Puts result before after old new text
  prints_begun A result stopped runs =
      let all = prints_put runs in
      subst (λ (r : Result A WriteFault). Puts r before after old new text) (sym stopped) (all.0, new, all.1, all.2)

  -- or a beginning of it, up to a fault
  pub prints_failed : (A : Type 0) (f : WriteFault) → b.fault ≡ Some f → Puts {A = A} (Err f) before after old new text
  prints_failed A Device ended = tt
  prints_failed A Memory ended =
      let some : Ends (Some Memory) a b text = subst (λ (t : Option WriteFault). Ends t a b text) ended h in (
        some.1.front,
        some.0,
        ap (λ (p : List ℕ). p ++ text) (sym page) ∙ some.1.split,
        subst (λ (o : Option (List ℕ)). Appends o after some.1.front) from (subst (λ (o : Option (List ℕ)). Appends a.out o some.1.front) to some.1.out),
      )
