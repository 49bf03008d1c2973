-- How an answer goes out in pages. A page is what has not gone out yet.
use Rattle.std.specs.Prelude.{◌≡◌, ◌⊎◌, ℕ, List, ◌++◌, Option, Result, Ok, Err}
use Rattle.std.specs.Io.KnownBytes.{Appends}
use Rattle.msc_print.specs.declared.page.WriteFault.{WriteFault}
use Rattle.msc_print.specs.declared.page.WriteFault.TheVariants.{Memory, Device}

-- A text was put behind a page: of both a beginning went behind the known bytes of a writer, and the
-- rest is the page now.
abbrev pub Pages : Option (List ℕ) → Option (List ℕ) → List ℕ → List ℕ → List ℕ → Type 0
Pages before after old new text = (front : List ℕ) × (old ++ text ≡ front ++ new) × Appends before after front

-- a beginning of a text went behind the known bytes of a writer
abbrev pub WritesBeginning : Option (List ℕ) → Option (List ℕ) → List ℕ → Type 0
WritesBeginning before after text = (front rest : List ℕ) × (text ≡ front ++ rest) × Appends before after front

-- it was put, or a beginning of both went out before memory ran out, or the writer failed
abbrev pub Puts : {A : Type 0} → Result A WriteFault → Option (List ℕ) → Option (List ℕ) → List ℕ → List ℕ → List ℕ → Type 0
Puts (Ok a) before after old new text = Pages before after old new text
Puts (Err Memory) before after old new text = WritesBeginning before after (old ++ text)
Puts (Err Device) before after old new text = Unit {0}

-- a text was written, or a beginning of it before memory ran out, or the writer failed
abbrev pub Writes : {A : Type 0} → Result A WriteFault → Option (List ℕ) → Option (List ℕ) → List ℕ → Type 0
Writes (Ok a) before after text = Appends before after text
Writes (Err Memory) before after text = WritesBeginning before after text
Writes (Err Device) before after text = Unit {0}

-- An answer is told, where `says` tells which are right and what is written of each: that went behind
-- the known bytes of a writer; or memory ran out, and the writer has had no call or has a beginning
-- of what is written of such an answer; or the writer failed.
abbrev pub Tells : {W A : Type 0} → (W → Option (List ℕ)) → (A → List ℕ → Type 0) → Result A WriteFault → W → W → Type 0
Tells contents says (Ok a) old new = (printed : List ℕ) × says a printed × Appends (contents old) (contents new) printed
Tells {W} {A} contents says (Err Memory) old new =
    (new ≡ old) ⊎ ((a : A) × (printed : List ℕ) × says a printed × WritesBeginning (contents old) (contents new) printed)
Tells contents says (Err Device) old new = Unit {0}
