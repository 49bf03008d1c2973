-- What the names in a folder add, one more.
use Rattle.std.proofs.Common.{◌≡◌, ◌≢◌, ℕ, zero, suc, true, false, List, [], ◌∷◌, ◌++◌, Option, None, Some, Result, Ok, Err, OnOk, refl, sym, ap, inl, inr, ◌∙◌}
use Rattle.std.proofs.lemmas.List.{append-nil, append_assoc}
use Rattle.std.specs.String.{string_bytes}
use Rattle.std.specs.declared.io.Error.{Error}
use Rattle.msc_scan.specs.declared.name.FileKind.{FileKind}
use Rattle.msc_scan.specs.declared.walk.Entry.{Entry}
use Rattle.msc_scan.specs.declared.walk.Found.{Found}
use Rattle.msc_scan.specs.declared.walk.Found.TheVariants.{File, TooDeep, Unread}
use Rattle.msc_scan.specs.Names.{is_passed_over, kind_of_name, whole_name}
use Rattle.msc_scan.specs.Walks.{is_folder, Adds, IsBelow, IsEntry, IsFileAt, IsUnread, Item, OfFile, OfItem, OfItems, OfKind}

-- what holds of a success, if another fact does
pub on_ok : {A E P Q : Type 0} (r : Result A E) → (P → Q) → OnOk r P → OnOk r Q
on_ok (Ok a) f p = f p
on_ok (Err e) f p = tt

-- an entry was added
pub one_added : (is : Found → Type 0) (e : Entry) (old new : List Entry) → is e.found → new ≡ old ++ e ∷ [] → Adds (IsEntry (string_bytes e.name) is) old new
one_added is e old new holds added = (e ∷ [], record { entry = e; name_is = refl; found_is = holds; alone = refl }, added)

-- nothing was added
pub none_added : (are : List Entry → Type 0) (old : List Entry) → are [] → Adds are old old
none_added are old holds = ([], holds, sym (append-nil old))

-- of a name of which more is known
entry_as : (whole name : List ℕ) (is known : Found → Type 0) (added : List Entry) → name ≡ whole → ((found : Found) → is found → known found) → IsEntry name is added → IsEntry whole known added
entry_as whole name is known added same more e = record { entry = e.entry; name_is = e.name_is ∙ same; found_is = more e.entry.found e.found_is; alone = e.alone }

-- a file that is read so
pub file_so : (kind : Option FileKind) (k : FileKind) (whole : List ℕ) (old new : List Entry) → kind ≡ Some k
    → Adds (IsEntry whole (λ it. it ≡ File (Some k))) old new → Adds (OfFile kind whole) old new
file_so kind k whole old new is adds = rw is adds

pub no_file : (kind : Option FileKind) (whole : List ℕ) (old : List Entry) → kind ≡ None → Adds (OfFile kind whole) old old
no_file kind whole old is = rw is (none_added (λ added. added ≡ []) old refl)

module _ (below : List ℕ → List Entry → Type 0) (skips : List (List ℕ)) (folder : List ℕ) where
  -- a name that could not be read
  pub unread_so : (o : Option Item) (name : List ℕ) (error : Error) (old new : List Entry) → o ≡ None → name ≡ folder
      → Adds (IsEntry name (λ it. it ≡ Unread error)) old new → Adds (OfItem below skips folder o) old new
  unread_so o name error old new is same (added, entry, put) =
      rw is (added, entry_as folder name (λ it. it ≡ Unread error) IsUnread added same (λ found so. rw so tt) entry, put)

  module _ (o : Option Item) (item : Item) (whole : List ℕ) (is : o ≡ Some item) (named : whole ≡ whole_name folder item.name) where
    -- a name that is passed over
    pub passed_so : (old : List Entry) → is_passed_over (is_folder item.kind) skips item.name whole ≡ true → Adds (OfItem below skips folder o) old old
    passed_so old over = rw (is, sym named, over) (none_added (λ added. added ≡ []) old refl)

    -- one that is not
    pub kept_so : (old new : List Entry) → is_passed_over (is_folder item.kind) skips item.name whole ≡ false
        → Adds (OfKind below item.kind whole) old new → Adds (OfItem below skips folder o) old new
    kept_so old new kept adds = rw (is, sym named, kept) adds

  -- names, and one more behind them
  items_more : (items : List (Option Item)) (o : Option Item) (xs ys : List Entry) → OfItems below skips folder items xs → OfItem below skips folder o ys
      → OfItems below skips folder (items ++ o ∷ []) (xs ++ ys)
  unfolding OfItems
  items_more [] o xs ys are is = rw are (ys, [], is, refl, sym (append-nil ys))
  items_more (i ∷ items) o xs ys (first, rest, here, later, joined) is =
      (first, rest ++ ys, here, items_more items o rest ys later is, ap (λ l. l ++ ys) joined ∙ append_assoc first rest ys)

  pub more_added : (items : List (Option Item)) (o : Option Item) (old mid new : List Entry) → Adds (OfItems below skips folder items) old mid
      → Adds (OfItem below skips folder o) mid new → Adds (OfItems below skips folder (items ++ o ∷ [])) old new
  more_added items o old mid new (xs, are, before) (ys, is, after) =
      (xs ++ ys, items_more items o xs ys are is, after ∙ (ap (λ l. l ++ ys) before ∙ append_assoc old xs ys))

  pub no_items : (old : List Entry) → Adds (OfItems below skips folder []) old old
  unfolding OfItems
  no_items old = none_added (λ added. added ≡ []) old refl

module _ (levels : ℕ) (skips : List (List ℕ)) (folder : List ℕ) (old new : List Entry) where
  -- too deep
  pub deep_so : (name : List ℕ) → levels ≡ 0 → name ≡ folder → Adds (IsEntry name (λ it. it ≡ TooDeep)) old new → Adds (IsBelow levels skips folder) old new
  unfolding IsBelow
  deep_so name none same (added, entry, put) =
      rw none (added, entry_as folder name (λ it. it ≡ TooDeep) (λ it. it ≡ TooDeep) added same (λ found so. so) entry, put)

  -- a folder that could not be read
  pub unread_folder : (name : List ℕ) (error : Error) → levels ≢ 0 → name ≡ folder → Adds (IsEntry name (λ it. it ≡ Unread error)) old new
      → Adds (IsBelow levels skips folder) old new
  unfolding IsBelow
  unread_folder name error some same (added, entry, put) = unread_at levels some
    where
      unread_at : (n : ℕ) → n ≢ 0 → Adds (IsBelow n skips folder) old new
      unread_at zero none = absurd (none refl)
      unread_at (suc n) more = (added, inl (entry_as folder name (λ it. it ≡ Unread error) IsUnread added same (λ found so. rw so tt) entry), put)

  -- one that was
  pub read_folder : (n : ℕ) (items : List (Option Item)) → levels ≡ suc n → Adds (OfItems (IsBelow n skips) skips folder items) old new
      → Adds (IsBelow levels skips folder) old new
  unfolding IsBelow
  read_folder n items is (added, are, put) = rw is (added, inr (items, are), put)

-- a path for itself
pub file_alone : (e : Entry) (path : List ℕ) (kind : Option FileKind) (entries : List Entry) → string_bytes e.name ≡ path → e.found ≡ File kind → kind ≡ kind_of_name path
    → entries ≡ e ∷ [] → IsFileAt path entries
file_alone e path kind entries named found is alone = record { entry = e; name_is = named; found_is = found ∙ ap File is; alone = alone }
