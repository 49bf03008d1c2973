-- The place of an end, as the code finds it.
use Rattle.std.proofs.Common.{◌≡◌, ◌+◌, ◌≤◌, Bool, not, cond, List, [], ◌∷◌, length, map, position, Some, None, refl, ap, ◌∙◌, arith}
use Rattle.std.specs.List.{position_or_len}
use Rattle.std.specs.Option.{unwrap_or}
use Rattle.std.proofs.lemmas.Bool.{ltb-false}
use Rattle.std.specs.Prelude.{nat_lt}
use Rattle.msc_chart.specs.declared.end.MessageEnd as code
use Rattle.msc_chart.specs.declared.end.Mark as coded
use Rattle.msc_chart.specs.declared.end.Mark.TheVariants as marks
use Rattle.msc_chart.specs.Events.{is_end}
use Rattle.msc_chart.specs.Charting.{end_place}
use Rattle.msc_chart.specs.Views.{end_view, mark_view}
use Rattle.msc_chart.proofs.ListLemmas.{by_test}
use Rattle.msc_chart.proofs.MatchingLemmas.{mark_same, mark_same-view}

-- the first place at which the code finds an equal end is the place of that end
pub place-view : (keys : List coded.Mark) (e : code.MessageEnd) → position_or_len (mark_same (marks.OfMessage e)) keys ≡ end_place (map mark_view keys) (end_view e)
place-view [] e = refl
place-view (k ∷ ks) e = rw mark_same-view (ap (λ n. cond (not (is_end (end_view e) (mark_view k))) (1 + n) 0) (place-view ks e))

-- a first place is at most the length, which stands for none
pub place-le : {X : Type 0} (p : X → Bool) (xs : List X) → position_or_len p xs ≤ length xs
place-le p [] = omega arith
place-le p (x ∷ xs) =
    let rest : position_or_len p xs ≤ length xs = place-le p xs in
    by_test (p x)
    (λ found. rw found (omega arith))
    (λ other. rw other (omega (arith, rest)))

-- the first place, or the length
pub unwrap_or-position : {X : Type 0} (p : X → Bool) (xs : List X) → unwrap_or (position p xs) (length xs) ≡ position_or_len p xs
unwrap_or-position p xs =
    let le : position_or_len p xs ≤ length xs = place-le p xs in
    by_test (nat_lt (position_or_len p xs) (length xs))
    (λ below. ap (λ b. unwrap_or (cond b (Some (position_or_len p xs)) None) (length xs)) below)
    (λ past.
    let past_all : length xs ≤ position_or_len p xs = ltb-false _ _ past in
    let same : length xs ≡ position_or_len p xs = omega arith in
    ap (λ b. unwrap_or (cond b (Some (position_or_len p xs)) None) (length xs)) past ∙ same)
