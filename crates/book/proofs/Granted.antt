-- What is known where a call is not refused.
use Rattle.std.proofs.Common.{◌≡◌, ◌≢◌, ℕ, ◌<◌, true, false, [], ◌∷◌, Ok, inl, inr, arith}
use Rattle.std.proofs.lemmas.Bool.Decides.{nat_tests}
use Rattle.std.proofs.lemmas.Bool.{cases_eq}
use Rattle.cores.specs.Counting.{count, holds}
use Rattle.cores.proofs.Entries.{holds_later, holds_nothing}
use Rattle.cores.specs.Site.{Site}
use Rattle.book.specs.Answers.{link_answer, unlink_answer}

-- two stations of the site
pub record Ends (g : Site) (a b : ℕ) : Type 0 where
  pub on_a : a < g.size
  pub on_b : b < g.size
  pub apart : a ≢ b

-- a link can be set between them
pub record CanLink (g : Site) (a b : ℕ) : Type 0 where
  pub ends : Ends g a b
  pub free : g.linked a b ≡ false
  pub room_a : count g.size (g.linked a) < 32
  pub room_b : count g.size (g.linked b) < 32

pub link_granted : (g : Site) (a b : ℕ) (u : Unit {0}) → link_answer g a b ≡ Ok u → CanLink g a b
link_granted g a b u e = record {
  ends = record { on_a = grind (arith, nat_tests); on_b = grind (arith, nat_tests); apart = λ d. grind (arith, nat_tests) };
  free = grind (arith, nat_tests);
  room_a = grind (arith, nat_tests);
  room_b = grind (arith, nat_tests);
}

-- a link stands between them
pub record CanUnlink (g : Site) (a b : ℕ) : Type 0 where
  pub ends : Ends g a b
  pub stands : g.linked a b ≡ true

pub unlink_granted : (g : Site) (a b : ℕ) (u : Unit {0}) → unlink_answer g a b ≡ Ok u → CanUnlink g a b
unlink_granted g a b u e = record {
  ends = record { on_a = grind (arith, nat_tests); on_b = grind (arith, nat_tests); apart = λ d. grind (arith, nat_tests) };
  stands = grind (arith, nat_tests);
}

pub ends_within : (g : Site) (a b : ℕ) → Ends g a b → (s : ℕ) → holds (a ∷ b ∷ []) s ≡ true → s < g.size
ends_within g a b ends s e = elim (cases_eq s a) [
  | inl at ↦ rw at ends.on_a
  | inr off ↦ elim (cases_eq s b) [
    | inl at ↦ rw at ends.on_b
    | inr other ↦ holds_nothing s (holds_later s b [] (holds_later s a (b ∷ []) e off) other)
  ]
]
