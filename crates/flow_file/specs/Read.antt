-- What reading a value answers: the value, or the first refusal.
use Rattle.std.specs.Prelude.{◌≡◌, Result, Ok, Err}
use Rattle.flow_file.specs.declared.fault.TextFault.{TextFault}
use Rattle.flow_file.specs.declared.fault.Unread.{Unread}
use Rattle.flow_file.specs.declared.fault.Unread.TheVariants as unread

abbrev pub Reading : Type 0 → Type 0
Reading A = Result A TextFault

infixl 10 ◌>>=◌
abbrev pub ◌>>=◌ : {A B : Type 0} → Reading A → (A → Reading B) → Reading B
(Ok x) >>= f = f x
(Err fault) >>= f = Err fault

-- why nothing was returned is why nothing is to be read, unless memory ran out
abbrev pub Fails : {X : Type 0} → Unread → Reading X → Type 0
Fails (unread.Fault fault) reading = reading ≡ Err fault
Fails unread.NoMemory reading = Unit {0}

-- what was returned, seen by view, is what is to be read, unless memory ran out
abbrev pub GivesBy : {X Y : Type 0} → (X → Y) → Result X Unread → Reading Y → Type 0
GivesBy view (Ok x) reading = reading ≡ Ok (view x)
GivesBy view (Err end) reading = Fails end reading

abbrev pub Gives : {X : Type 0} → Result X Unread → Reading X → Type 0
Gives result reading = GivesBy (λ x. x) result reading
