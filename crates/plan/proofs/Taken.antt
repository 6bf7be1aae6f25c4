-- What is read of the bytes that a reader has left, where those are known.
use Rattle.std.proofs.Common.{◌≡◌, ℕ, List, [], ◌++◌, Some, None, Option, IfSome, take, subst, ap, ◌∙◌}
use Rattle.std.specs.Option.{option_map}

by_bytes : (n : ℕ) (known : Option (List ℕ)) (before read : List ℕ) → before ≡ [] → IfSome (option_map (take n) known) (λ bytes. read ≡ before ++ bytes) → IfSome known (λ bytes. read ≡ take n bytes)
by_bytes n None before read none h = h
by_bytes n (Some bytes) before read none h = h ∙ ap (λ bs. bs ++ take n bytes) none

-- As far as a limit, from an empty list on.
pub read_up_to : {R : Type 0} (remaining : R → Option (List ℕ)) (n limit : ℕ) (input inner : R) (before read : List ℕ) → limit ≡ n → inner ≡ input → before ≡ []
    → IfSome (option_map (take limit) (remaining inner)) (λ bytes. read ≡ before ++ bytes) → IfSome (remaining input) (λ bytes. read ≡ take n bytes)
read_up_to remaining n limit input inner before read is same none h =
    by_bytes n (remaining input) before read none (subst (λ k. IfSome (option_map (take k) (remaining input)) (λ bytes. read ≡ before ++ bytes)) is
    (subst (λ r. IfSome (option_map (take limit) (remaining r)) (λ bytes. read ≡ before ++ bytes)) same h))
