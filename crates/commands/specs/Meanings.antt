-- What is read, unless memory is lacking. Assumes nothing.
use Rattle.std.specs.Prelude.{◌≡◌, Some, None, Ok, Err, Option, Result}
use Rattle.commands.specs.declared.unread.Unread.{Unread}
use Rattle.commands.specs.declared.unread.Unread.TheVariants.{NotUnderstood, NoMemory}

-- an answer with another value
abbrev pub giving : {X Y : Type 0} → (X → Y) → Result X Unread → Result Y Unread
giving f (Ok x) = Ok (f x)
giving f (Err e) = Err e

-- Unless there was no memory, the answer is what is meant.
abbrev pub Meant : {X : Type 0} → Option X → Result X Unread → Type 0
Meant m (Ok x) = m ≡ Some x
Meant m (Err NotUnderstood) = m ≡ None
Meant m (Err NoMemory) = Unit {0}

-- Where no memory is asked for, the answer is what is meant.
abbrev pub Understood : {X : Type 0} → Option X → Result X Unread → Type 0
Understood m (Ok x) = m ≡ Some x
Understood m (Err NotUnderstood) = m ≡ None
Understood m (Err NoMemory) = ⊥
