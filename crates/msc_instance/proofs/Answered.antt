-- What has come of instances whose threads were started, and of the others.
use Rattle.std.proofs.Common.{◌≡◌, ℕ, zero, suc, ◌<◌, ◌≤◌, inl, inr, Bool, List, [], ◌∷◌, ◌++◌, length, map, reverse, Some, slice_get, refl, sym, ap, ◌∙◌, arith, subst}
use Rattle.std.specs.Prelude.{All, IfOk, IfErr, Result, Ok, Err}
use Rattle.std.specs.List.{AllZip}
use Rattle.std.proofs.lemmas.List.{append-nil, append_assoc, length-append, reverse-reverse}
use Rattle.std.proofs.lemmas.Slice.Zip.{AllZip-long}
use Rattle.std.proofs.lemmas.Option.{get_or_from_slice_get, slice_get_within}
use Rattle.msc_chart.specs.Drawings.{Drawing}
use Rattle.msc_instance.specs.declared.ends.InstanceEnd.{InstanceEnd}
use Rattle.msc_instance.specs.declared.threads.Job.{Job}
use Rattle.msc_instance.specs.declared.threads.Answer.{Answer}
use Rattle.msc_instance.specs.declared.threads.Answer.TheVariants.{Ran, NotRun}
use Rattle.msc_instance.specs.declared.threads.Gathered.{Gathered}
use Rattle.msc_instance.specs.Gates.{Rule}
use Rattle.msc_instance.specs.Threads.{AnswersRun, HasNotRun, HaveAnswered, HaveRun, HaveStopped, IsClosedJob, IsReady, IsRefused}
use Rattle.msc_instance.proofs.Runs.{paired_more, paired_back}

-- nothing stands before nothing
none_before : {A B : Type 0} (R : A → B → Type 0) (xs : List A) → AllZip R xs [] → xs ≡ []
none_before R [] h = refl
none_before R (x ∷ xs) h = absurd h

-- what stands in the one list has its like in the other
pub like_at : {A B : Type 0} (R : A → B → Type 0) (xs : List A) (ys : List B) → AllZip R xs ys
    → (n : ℕ) (y : B) → slice_get ys n ≡ Some y → (x : A) × (slice_get xs n ≡ Some x) × R x y
like_at R [] [] h n y at = cc
like_at R [] (z ∷ ys) h n y at = absurd h
like_at R (x ∷ xs) [] h n y at = absurd h
like_at R (x ∷ xs) (z ∷ ys) h zero y at = let same : z ≡ y = cc in (x, refl, subst (R x) same h.0)
like_at R (x ∷ xs) (z ∷ ys) h (suc n) y at = like_at R xs ys h.1 n y at

-- the last of a list, at its place
pub last_at : {A : Type 0} (xs : List A) (x : A) → slice_get (xs ++ x ∷ []) (length xs) ≡ Some x
last_at [] x = refl
last_at (y ∷ xs) x = last_at xs x

-- what stands in a list stands in a longer one
early_at : {A : Type 0} (xs ys : List A) (n : ℕ) (x : A) → slice_get xs n ≡ Some x
    → slice_get (xs ++ ys) n ≡ Some x
early_at [] ys n x at = cc
early_at (y ∷ xs) ys zero x at = at
early_at (y ∷ xs) ys (suc n) x at = early_at xs ys n x at

-- and behind another
later_at : {A : Type 0} (xs ys : List A) (n : ℕ) (x : A) → slice_get ys n ≡ Some x
    → (m : ℕ) × (slice_get (xs ++ ys) m ≡ Some x)
later_at [] ys n x at = (n, at)
later_at (y ∷ xs) ys n x at = let (m, there) = later_at xs ys n x at in (suc m, there)

-- one of a list of which something holds
one_of : {A : Type 0} (P : A → Type 0) (xs : List A) (n : ℕ) (x : A) → All P xs
    → slice_get xs n ≡ Some x → P x
one_of P xs n x all at =
    subst P (get_or_from_slice_get xs n x x at) (all n x (slice_get_within xs n x at))

-- an answer was taken off whose instance was not begun
pub told : (all now rest behind : List Answer) (a : Answer) (k : Job)
    → all ≡ now ++ behind → now ≡ rest ++ a ∷ [] → a ≡ NotRun k → HasNotRun all k.number
told all now rest behind a k is last same =
    let here = last_at rest (NotRun k) in
    let there = early_at (rest ++ NotRun k ∷ []) behind (length rest) (NotRun k) here in
    (length rest, k, rw (is, last, same) there, refl)

-- what holds of an answer, where one follows from the other
pub if_ok : {T E : Type 0} (P Q : T → Type 0) (r : Result T E) → ((x : T) → P x → Q x)
    → IfOk r P → IfOk r Q
if_ok P Q (Ok x) f h = f x h
if_ok P Q (Err e) f h = tt

-- and of a refusal
pub if_err : {T E : Type 0} (P Q : E → Type 0) (r : Result T E) → ((e : E) → P e → Q e)
    → IfErr r P → IfErr r Q
if_err P Q (Ok x) f h = tt
if_err P Q (Err e) f h = f e h

module _ (d : Drawing) (gate : Rule) (patience : ℕ) where
  -- the first of them was refused, and so the others are closed
  pub stopped : (jobs rest : List Job) (j : Job) (answers : List Answer) (a : Answer) (g : Gathered)
      → jobs ≡ rest ++ j ∷ [] → answers ≡ [] → AnswersRun d gate patience j a
      → HaveStopped a rest answers g → HaveAnswered d gate patience jobs g
  stopped jobs rest j answers (Ran r) g is none run stops = record {
    others = rest;
    started = j ∷ [];
    whole = is;
    answers = rw (stops.1, none) (run, tt);
    closed = stops.0;
  }
  stopped jobs rest j answers (NotRun k) g is none closed stops = record {
    others = rest ++ j ∷ [];
    started = [];
    whole = is ∙ sym (append-nil (rest ++ j ∷ []));
    answers = rw (stops.3, none) tt;
    closed = rw stops.2 (paired_more IsClosedJob rest stops.0 j k stops.1 closed);
  }

  -- the first of them has answered too
  pub one_answered : (jobs rest : List Job) (j : Job) (a : Answer) (old new : Gathered)
      → jobs ≡ rest ++ j ∷ [] → HaveAnswered d gate patience rest old
      → AnswersRun d gate patience j a → new.answers.items ≡ old.answers.items ++ a ∷ []
      → new.unstarted ≡ old.unstarted → HaveAnswered d gate patience jobs new
  one_answered jobs rest j a old new is have run answers same = record {
    others = have.others;
    started = have.started ++ j ∷ [];
    whole = is ∙ ap (λ l. l ++ j ∷ []) have.whole ∙ append_assoc have.others have.started (j ∷ []);
    answers = rw answers (paired_more (AnswersRun d gate patience) have.started
        old.answers.items j a have.answers run);
    closed = rw same have.closed;
  }

  -- there are no more answers than instances
  pub few_answers : (jobs : List Job) (g : Gathered) → HaveAnswered d gate patience jobs g
      → length g.answers.items ≤ length jobs
  few_answers jobs g have =
      let same = AllZip-long (AnswersRun d gate patience) have.started g.answers.items
      have.answers in
      omega (arith, ap length have.whole, length-append have.others have.started, same)

  -- so there is room for one more
  pub fewer_answers : (jobs rest : List Job) (j : Job) (g : Gathered) → jobs ≡ rest ++ j ∷ []
      → HaveAnswered d gate patience rest g → length g.answers.items < length jobs
  fewer_answers jobs rest j g is have =
      let few = few_answers rest g have in
      omega (arith, few, ap length is, length-append rest (j ∷ []))

  -- answers that are runs
  answers_are_runs : (jobs : List Job) (ran : List InstanceEnd)
      → AllZip (AnswersRun d gate patience) jobs (map Ran ran)
      → HaveRun d gate patience jobs ran
  answers_are_runs [] [] h = tt
  answers_are_runs [] (r ∷ ran) h = absurd h
  answers_are_runs (j ∷ jobs) [] h = absurd h
  answers_are_runs (j ∷ jobs) (r ∷ ran) h = (h.0, answers_are_runs jobs ran h.1)

  -- all were run, in the order of the instances
  pub all_run : (jobs turn : List Job) (ran : List InstanceEnd) (g : Gathered) → turn ≡ reverse jobs
      → HaveAnswered d gate patience turn g → g.unstarted.items ≡ []
      → g.answers.items ≡ reverse (map Ran ran)
      → HaveRun d gate patience jobs ran
  all_run jobs turn ran g is have none left =
      let all : have.others ≡ [] =
      none_before IsClosedJob have.others (subst (AllZip IsClosedJob have.others) none have.closed) in
      let whole : turn ≡ have.started = have.whole ∙ ap (λ l. l ++ have.started) all in
      let back : reverse turn ≡ jobs = ap reverse is ∙ reverse-reverse jobs in
      let zip : AllZip (AnswersRun d gate patience) turn (reverse (map Ran ran)) =
      subst (λ l. AllZip (AnswersRun d gate patience) l (reverse (map Ran ran))) (sym whole)
      (subst (AllZip (AnswersRun d gate patience) have.started) left have.answers) in
      let turned = paired_back (AnswersRun d gate patience) turn (reverse (map Ran ran)) zip in
      answers_are_runs jobs ran
      (subst (AllZip (AnswersRun d gate patience) jobs) (reverse-reverse (map Ran ran))
      (subst (λ l. AllZip (AnswersRun d gate patience) l (reverse (reverse (map Ran ran)))) back
      turned))

  -- who was refused is an instance
  pub refused_is_known : (jobs : List Job) (g : Gathered) (i : ℕ) → All (IsReady d) jobs
      → HaveAnswered d gate patience jobs g → IsRefused g i → i < length d.instances
  refused_is_known jobs g i ready have (inl refused) =
      let (later, k, is, number) = refused in
      let at : slice_get g.unstarted.items (length later) ≡ Some k = rw is (last_at later k) in
      let (j, here, closed) = like_at IsClosedJob have.others g.unstarted.items have.closed
      (length later) k at in
      let there : slice_get jobs (length later) ≡ Some j =
      rw have.whole (early_at have.others have.started (length later) j here) in
      let one = one_of (IsReady d) jobs (length later) j ready there in
      omega (arith, one.known, closed.number, number)
  refused_is_known jobs g i ready have (inr told) =
      let (n, k, at, number) = told.1 in
      let (j, here, closed) = like_at (AnswersRun d gate patience) have.started g.answers.items
      have.answers n (NotRun k) at in
      let (m, behind) = later_at have.others have.started n j here in
      let there : slice_get jobs m ≡ Some j = rw have.whole behind in
      let one = one_of (IsReady d) jobs m j ready there in
      omega (arith, one.known, closed.number, number)
