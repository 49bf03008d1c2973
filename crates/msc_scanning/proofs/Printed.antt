-- What is printed of verdicts.
use Rattle.std.proofs.Common.{◌≡◌, ℕ, Bool, true, false, List, [], ◌∷◌, ◌++◌, length, Option, Result, Ok, Err, inl, inr, refl, sym, subst}
use Rattle.std.specs.Io.KnownBytes.{Appends}
use Rattle.msc_answer.specs.Verdicts.{RefusesVerdict, Yields}
use Rattle.msc_answer.specs.declared.ending.Refusal.{Refusal}
use Rattle.msc_answer.specs.declared.tasks.Format.{Format}
use Rattle.msc_answer.specs.declared.tasks.Format.TheVariants as formats
use Rattle.msc_answer.specs.declared.verdicts.Verdict.{Verdict}
use Rattle.msc_chart.specs.Architectures.{queues_word}
use Rattle.msc_chart.specs.declared.queue.Queues.{Queues}
use Rattle.msc_print.proofs.KnownBytes.{Appends-append}
use Rattle.msc_print.proofs.PrintLemmas.{Appends-none as nothing_more}
use Rattle.msc_scanning.specs.Putting.{has_several, header, is_plain, is_shown, plain_in, unseen, with_verdict, IsPut, IsQuietVerdict, IsSaid, IsSaidIn, PutsEach, PutsVerdict, Sees}
use Rattle.msc_scanning.specs.declared.putting.Seen.{Seen}
use Rattle.msc_scanning.specs.Folding.{Folds}
use Rattle.msc_scanning.specs.declared.putting.Target.{Target}
use Rattle.msc_scanning.specs.declared.words.Plan.{Plan}

plain_by : (f : Format) (several : Bool) (word bytes : List ℕ) → plain_in f several ≡ true → IsSaidIn f several word bytes bytes
plain_by formats.Text several word bytes is = refl
plain_by formats.Count true word bytes is = absurd cc
plain_by formats.Count false word bytes is = refl
plain_by formats.Lines true word bytes is = absurd cc
plain_by formats.Lines false word bytes is = refl
plain_by formats.Full several word bytes is = refl

-- where nothing is rewritten, what `check` prints is printed
pub plain_said : (p : Plan) (queues : Queues) (bytes : List ℕ) → is_plain p ≡ true → IsSaid p queues bytes bytes
plain_said p queues bytes is = plain_by p.args.words.check_args.format (has_several p) (queues_word queues) bytes is

module _ (p : Plan) (label : List ℕ) (queues : Queues) (shown : Bool) (verdict : Verdict) where
  -- what is shown, and what is not
  pub shown_put : (bytes said : List ℕ) → is_shown p verdict ≡ true → IsSaid p queues bytes said → IsPut p label queues shown verdict bytes (header p label shown ++ said)
  shown_put bytes said is its = rw is (said, its, refl)

  pub hidden_put : (bytes : List ℕ) → is_shown p verdict ≡ false → IsPut p label queues shown verdict bytes []
  hidden_put bytes is = rw is refl

module _ {W : Type 0} (contents : W → Option (List ℕ)) (p : Plan) (target : Target) (queues : Queues) (shown : Bool) where
  -- a verdict of which nothing is printed
  pub quiet_so : (result : Result Verdict Refusal) (now : W) → p.args.words.quiet ≡ true → IsQuietVerdict p target queues result
      → Yields contents (PutsVerdict p target queues shown) (RefusesVerdict p.args.words.check_args queues target.subject) result now now
  quiet_so (Ok verdict) now is (bytes, prints, wrote) =
      let hidden : is_shown p verdict ≡ false = rw is refl in
      ([], (bytes, prints, hidden_put p target.label.now queues shown verdict bytes hidden), nothing_more _)
  quiet_so (Err refusal) now is (inl spent) = inl spent
  quiet_so (Err refusal) now is (inr (refuses, same)) = inr (refuses, refl)

module _ {W : Type 0} (contents : W → Option (List ℕ)) (p : Plan) (target : Target) (silent : Bool) where
  -- under no architecture nothing is printed
  pub none_each : (all : List Queues) (now : W) → length all ≡ 0 → (seen : Seen) → seen ≡ unseen silent
      → (printed : List ℕ) × PutsEach p target silent all seen.outcome printed × Appends (contents now) (contents now) printed
  none_each [] now none seen same = ([], (seen, refl, (same, refl)), nothing_more _)
  none_each (queues ∷ others) now none seen same = absurd cc

  -- what is printed under the first, and under the others
  pub each_more : (first : Queues) (rest all : List Queues) → all ≡ first ∷ rest → (start : Seen) → start ≡ unseen silent
      → (verdict : Verdict) (middle : Seen) → middle ≡ with_verdict p target.help start verdict → (old mid new : W)
      → (printed : List ℕ) × PutsVerdict p target first start.shown verdict printed × Appends (contents old) (contents mid) printed
      → (end : Seen) → (printed : List ℕ) × Folds (Sees p target) rest middle end printed × Appends (contents mid) (contents new) printed
      → (printed : List ℕ) × PutsEach p target silent all end.outcome printed × Appends (contents old) (contents new) printed
  each_more first rest all same start is verdict middle next old mid new (one, puts, wrote) end (more, folds, wrote_more) = (
    one ++ more,
    (
      end,
      refl,
      subst (λ (queues : List Queues). Folds (Sees p target) queues (unseen silent) end (one ++ more)) (sym same)
          (subst (λ (s : Seen). Folds (Sees p target) (first ∷ rest) s end (one ++ more)) is (middle, one, more, (verdict, next, puts), folds, refl)),
    ),
    Appends-append (contents old) (contents mid) (contents new) one more wrote wrote_more,
  )
