-- The marks of a service list, one by one.
use Rattle.std.proofs.Common.{◌≡◌, ℕ, Bool, true, false, cond, ◌&&◌, List, length, set, replicate, get_or, ◌∙◌, eqb, ltb, inl, inr, arith, length-set}
use Rattle.std.proofs.lemmas.Bool.{cases_lt}
use Rattle.std.proofs.lemmas.List.{get_or-set_same, get_or-set_other, get_or-replicate, length-replicate, set-set, set-get_or}
use Rattle.std.proofs.Math.ListN.{get_or-eq_default}
use Rattle.view.specs.Laws.{MarksStandApart, NoMarkIsSetAtFirst}

changed : (marks : List Bool) (n s t : ℕ) (b : Bool) → length marks ≡ n → get_or (set marks s b) t false ≡ cond (eqb t s && ltb s n) b (get_or marks t false)
changed marks n s t b size =
    let here = get_or-set_same marks s b false in
    let other = get_or-set_other marks s t b false in
    let long = length-set marks s b in
    let past = get_or-eq_default marks false {n = t} in
    let still = get_or-eq_default (set marks s b) false {n = t} in
    grind arith

none_set : (n t : ℕ) → get_or (replicate n false) t false ≡ false
none_set n t = elim (cases_lt t n) [
  | inl h ↦ get_or-replicate n t false false h
  | inr h ↦ get_or-eq_default (replicate n false) false (omega (arith, length-replicate n false))
]

pub marks_apart : MarksStandApart
marks_apart list size s t b = (changed list.marks 512 s t b size, λ h. get_or-eq_default list.marks false (omega (arith, size)))

pub none_at_first : NoMarkIsSetAtFirst
none_at_first t = none_set 512 t

-- a mark that was set, and then is given back
pub restored : (marks : List Bool) (s : ℕ) → set (set marks s true) s (get_or marks s false) ≡ marks
restored marks s = set-set marks s true (get_or marks s false) ∙ set-get_or marks s false
