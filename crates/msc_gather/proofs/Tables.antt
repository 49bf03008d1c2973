-- The table of links, event by event.
use Rattle.std.proofs.Common.{◌≡◌, ℕ, zero, suc, ◌+◌, ◌<◌, inl, inr, List, [], ◌∷◌, ◌++◌, length, get_or, Option, None, sym, ap, subst, ◌∙◌, refl, length-append, arith}
use Rattle.std.proofs.lemmas.Bool.{cases_lt}
use Rattle.msc_chart.specs.Orders.{WiredChart}
use Rattle.msc_gather.specs.Heads.{IsLink}
use Rattle.msc_gather.specs.Links.{AreLinks}

-- what is put behind a list changes nothing at its places
get_or-append_front : {A : Type 0} (xs ys : List A) (k : ℕ) (d : A) → k < length xs
    → get_or (xs ++ ys) k d ≡ get_or xs k d
get_or-append_front [] ys k d h = absurd (omega arith)
get_or-append_front (x ∷ xs) ys zero d h = refl
get_or-append_front (x ∷ xs) ys (suc k) d h = get_or-append_front xs ys k d (omega arith)

-- and stands at the next
get_or-append_end : {A : Type 0} (xs : List A) (y : A) (ys : List A) (d : A)
    → get_or (xs ++ y ∷ ys) (length xs) d ≡ y
get_or-append_end [] y ys d = refl
get_or-append_end (x ∷ xs) y ys d = get_or-append_end xs y ys d

-- The links of the first n events.
pub record AreLinksTo (chart : WiredChart) (logs : List (List ℕ)) (n : ℕ)
    (links : List (Option ℕ)) : Type 0 where
  pub long : length links ≡ n
  pub each : (e : ℕ) → e < n → IsLink chart logs e (get_or links e None)

-- none yet
pub no_links : (chart : WiredChart) (logs : List (List ℕ)) (links : List (Option ℕ)) → links ≡ []
    → AreLinksTo chart logs 0 links
no_links chart logs links empty = record {
  long = ap (λ (l : List (Option ℕ)). length l) empty;
  each = λ e below. absurd (omega arith);
}

-- one more
pub more_links : {chart : WiredChart} {logs : List (List ℕ)} {n : ℕ} {links next : List (Option ℕ)}
    (link : Option ℕ)
    → AreLinksTo chart logs n links → IsLink chart logs n link → next ≡ links ++ link ∷ []
    → AreLinksTo chart logs (n + 1) next
more_links {chart} {logs} {n} {links} {next} link are is_link same =
    let long : length links ≡ n = are.long in
    let longer : length next ≡ length links + 1 =
    ap (λ (l : List (Option ℕ)). length l) same ∙ length-append links (link ∷ []) in
    record {
      long = omega arith;
      each = λ e below. elim (cases_lt e n) [
        | inl old ↦
            let at_old : get_or next e None ≡ get_or links e None =
            ap (λ (l : List (Option ℕ)). get_or l e None) same
            ∙ get_or-append_front links (link ∷ []) e None (omega arith) in
            subst (λ (o : Option ℕ). IsLink chart logs e o) (sym at_old) (are.each e old)
        | inr ge ↦
            let here : e ≡ length links = omega arith in
            let e_is : n ≡ e = omega arith in
            let at_new : get_or next e None ≡ link =
            ap (λ (l : List (Option ℕ)). get_or l e None) same
            ∙ ap (λ (j : ℕ). get_or (links ++ link ∷ []) j None) here
            ∙ get_or-append_end links link [] None in
            subst (λ (o : Option ℕ). IsLink chart logs e o) (sym at_new)
            (subst (λ (w : ℕ). IsLink chart logs w link) e_is is_link)
      ];
    }

-- all
pub all_links : {chart : WiredChart} {logs : List (List ℕ)} {n : ℕ} {links : List (Option ℕ)}
    → n ≡ length chart.events
    → AreLinksTo chart logs n links → AreLinks chart logs links
all_links {chart} {logs} {n} {links} same are =
    record { long = are.long ∙ same; each = λ e below. are.each e (omega (arith, below, same)) }
