-- Answers: a value, or the first fault.
use Rattle.std.specs.Prelude.{◌≡◌, ◌⊎◌, Bool, cond, Result, Ok, Err}
use Rattle.msc_mermaid.specs.declared.fault.ImportFault.{ImportFault}
use Rattle.msc_mermaid.specs.declared.fault.ImportFault.TheVariants.{Memory}

-- what follows a value; a fault stays
infixl 10 ◌>>=◌
abbrev pub ◌>>=◌ : {A B : Type 0} → Result A ImportFault → (A → Result B ImportFault) → Result B ImportFault
(Ok x) >>= f = f x
(Err e) >>= f = Err e

-- the value where the test holds, else the fault
abbrev pub unless : {A : Type 0} → Bool → ImportFault → A → Result A ImportFault
unless test fault x = cond test (Ok x) (Err fault)

-- a fault of the code is that of the definition, unless memory ran out
abbrev pub Fails : {A : Type 0} → ImportFault → Result A ImportFault → Type 0
Fails e said = (e ≡ Memory) ⊎ (said ≡ Err e)

-- What the code answers, seen by view, is what the definition says, unless memory ran out.
abbrev pub Gives : {X A : Type 0} → (X → A) → Result X ImportFault → Result A ImportFault → Type 0
Gives view (Ok x) said = said ≡ Ok (view x)
Gives view (Err e) said = Fails e said
