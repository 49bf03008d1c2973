-- What paths stand for, one more at a time.
use Rattle.std.proofs.Common.{◌≡◌, ◌<◌, ◌≤◌, ◌+◌, ◌||◌, ℕ, Bool, List, [], ◌∷◌, ◌++◌, length, drop, get_or, Option, None, Some, Result, Ok, Err, map, refl, sym, ap, subst, ◌∙◌}
use Rattle.std.proofs.lemmas.List.{append-nil, append_assoc, drop_all, drop_more}
use Rattle.std.specs.Borrow.{Bor}
use Rattle.std.specs.Io.KnownBytes.{Appends, Keeps}
use Rattle.std.specs.List.{list_any}
use Rattle.std.specs.declared.io.Error.{Error}
use Rattle.std.specs.Global.{Vec}
use Rattle.msc_scan.specs.Walks.{AreFound}
use Rattle.msc_scan.specs.declared.walk.Entry.{Entry}
use Rattle.msc_scanning.specs.Scans.{has_input, items_in, path_items, plain_item, PlainItem, AreAllFound, IsInputRead, IsLent, IsRead, PutsItems, PutsScan}
use Rattle.msc_answer.specs.declared.ending.Status.{Status}
use Rattle.msc_report.specs.declared.fault.Fault.{Fault}
use Rattle.msc_scan.specs.Walks.{names_of}
use Rattle.msc_scanning.specs.Files.{Input}
use Rattle.msc_scanning.specs.Putting.{Gives}
use Rattle.msc_scanning.specs.Words.{architectures_of}
use Rattle.msc_scanning.specs.declared.files.Item.{Item}
use Rattle.msc_scanning.specs.declared.words.Plan.{Plan}
use Rattle.msc_scanning.specs.declared.words.ScanArgs.{ScanArgs}
use Rattle.msc_scanning.specs.Words.{words_in}

module _ (skips paths : List (List ℕ)) where
  -- what some first paths stand for: with what those left stand for, it is what all do
  abbrev pub FoundSoFar : List (List ℕ) → List (Vec Entry) → Type 0
  FoundSoFar left found = (more : List (Vec Entry)) → AreAllFound skips left more → AreAllFound skips paths (found ++ more)

  -- one more
  pub one_path : (path : List ℕ) (left : List (List ℕ)) (found : List (Vec Entry)) (entries : Vec Entry) → FoundSoFar (path ∷ left) found
      → AreFound skips path entries.items → FoundSoFar left (found ++ entries ∷ [])
  one_path path left found entries so_far are more rest =
      subst (λ (l : List (Vec Entry)). AreAllFound skips paths l) (sym (append_assoc found (entries ∷ []) more)) (so_far (entries ∷ more) (are, rest))

  -- all
  pub all_paths : (found : List (Vec Entry)) → FoundSoFar [] found → AreAllFound skips paths found
  all_paths found so_far = subst (λ (l : List (Vec Entry)). AreAllFound skips paths l) (append-nil found) (so_far [] tt)

-- the words from a place on, and behind the last
pub words_at : (words : List (Bor (List ℕ))) (i : ℕ) (d : Bor (List ℕ)) → i < length words
    → words_in (drop i words) ≡ (get_or words i d).now ∷ words_in (drop (i + 1) words)
words_at words i d inside = ap words_in (drop_more words i d inside)

pub no_words : (words : List (Bor (List ℕ))) (i : ℕ) → length words ≤ i → words_in (drop i words) ≡ []
no_words words i past = ap words_in (drop_all i words past)

-- a word passes a test
pub any_words : (test : List ℕ → Bool) (words : List (Bor (List ℕ))) → list_any (λ word. test word.now) words ≡ list_any test (words_in words)
any_words test [] = refl
any_words test (word ∷ words) = ap (λ (b : Bool). test word.now || b) (any_words test words)

-- the items of one more path
pub more_items : (paths : List (List ℕ)) (path : List ℕ) (left : List (List ℕ)) (all : List (Vec Entry)) (entries : Vec Entry) (others : List (Vec Entry))
    (done before after : List PlainItem) → before ++ items_in (path ∷ left) (entries ∷ others) ≡ done → after ≡ before ++ path_items path entries.items
    → after ++ items_in left others ≡ done
more_items paths path left all entries others done before after so_far more =
    ap (λ (l : List PlainItem). l ++ items_in left others) more ∙ (append_assoc before (path_items path entries.items) (items_in left others) ∙ so_far)

-- what is lent of the input was read
pub lent_read : (read : Result (Vec ℕ) Error) (input : Input) → IsLent read input → (has : Bool) (rest left : Option (List ℕ))
    → IsInputRead (λ text. text.items) has rest left read → IsInputRead (λ bytes. bytes.now) has rest left input
lent_read (Ok text) (Ok bytes) same has rest left is = subst (λ (t : List ℕ). IsRead has rest left t) (sym same) is
lent_read (Ok text) (Err e) never has rest left is = absurd never
lent_read (Err error) (Ok bytes) never has rest left is = absurd never
lent_read (Err error) (Err lent) same has rest left is = tt

-- what is known of a writer stays where it keeps its bytes
pub appends_kept : (a b c : Option (List ℕ)) (bytes : List ℕ) → Appends a b bytes → Keeps b c → Appends a c bytes
appends_kept None b c bytes wrote kept = tt
appends_kept (Some x) None c bytes wrote kept = absurd wrote
appends_kept (Some x) (Some y) None bytes wrote kept = absurd kept
appends_kept (Some x) (Some y) (Some z) bytes wrote kept = kept ∙ wrote

module _ {W : Type 0} (contents : W → Option (List ℕ)) (x : ScanArgs) (rest left : Option (List ℕ)) where
  -- what was printed of the items of a scan was printed by it
  pub scanned : (plan : Plan) → plan.args ≡ x → plan.architectures.now ≡ architectures_of (words_in x.queues.now)
      → (input : Input) → IsInputRead (λ bytes. bytes.now) (has_input (words_in x.paths.now)) rest left input
      → (all : List (Vec Entry)) → AreAllFound (names_of x.skips.now) (words_in x.paths.now) all
      → (items : List Item) → map plain_item items ≡ items_in (words_in x.paths.now) all
      → (result : Result Status Fault) (old new : W) → Gives contents (PutsItems plan input items) result old new → Gives contents (PutsScan x rest left) result old new
  scanned plan args_are architectures_are input read all found items are_items (Ok status) old new (printed, puts, wrote) = (
    printed,
    record {
      plan = plan;
      args_are = args_are;
      architectures_are = architectures_are;
      input = input;
      read = read;
      all = all;
      found = found;
      items = items;
      are_items = are_items;
      puts = puts;
    },
    wrote,
  )
  scanned plan args_are architectures_are input read all found items are_items (Err fault) old new gives = tt

-- there are no more items
pub no_items : (left : List (List ℕ)) (all : List (Vec Entry)) → all ≡ [] → (before done : List PlainItem) → before ++ items_in left all ≡ done → before ≡ done
no_items left all none before done is =
    sym (append-nil before) ∙ (ap (λ (l : List PlainItem). before ++ l) (sym (ap (items_in left) none ∙ nothing left)) ∙ is)
  where
    nothing : (paths : List (List ℕ)) → items_in paths [] ≡ []
    nothing [] = refl
    nothing (path ∷ paths) = refl
