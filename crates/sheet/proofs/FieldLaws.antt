-- Each field of a sheet: what is read was written so, and what is written is read again, whatever follows.
use Rattle.std.proofs.Common.{◌≡◌, ℕ, zero, suc, ◌<◌, ◌≤◌, Bool, true, false, cond, not, ◌&&◌, eqb, ltb, All, List, [], ◌∷◌, ◌++◌, get_or, is_some, Some, None, Ok, Err, Option, sym, refl, ap, ap₂, ◌∙◌, append_assoc, arith}
use Rattle.std.specs.Int.{w16, from_le_bytes}
use Rattle.std.proofs.lemmas.Nat.{from_le_bytes-to_le_bytes_2, le_bytes_2}
use Rattle.std.proofs.lemmas.Bool.Decides.{nat_tests}
use Rattle.cores.specs.Counting.{bit}
use Rattle.sheet.specs.declared.entry.Entry.{Entry}
use Rattle.sheet.specs.declared.entry.Present.{Present}
use Rattle.sheet.specs.Plans.{Fits}
use Rattle.sheet.specs.Encoding.{field, field_if, up_field, present, map_byte, entry_bytes}
use Rattle.sheet.specs.Fields.{Reading, ◌>>=◌, word_at, field_at, is_map, fields_of, map_at, value_at, up_at}
use Rattle.sheet.specs.Decoding.{entry_at}

abbrev pub AreBytes : List ℕ → Type 0
AreBytes bytes = All (λ b. b < 256) bytes

pub AreBytes-tail : (b : ℕ) (bytes : List ℕ) → AreBytes (b ∷ bytes) → AreBytes bytes
AreBytes-tail b bytes h k d l = h (suc k) d (omega arith)

-- the front of some bytes is this text
pub record Takes (bytes text rest : List ℕ) : Type 0 where
  pub parts : bytes ≡ text ++ rest
  pub rest_bytes : AreBytes rest

pub Takes-none : (bytes : List ℕ) → AreBytes bytes → Takes bytes [] bytes
Takes-none bytes h = record { parts = refl; rest_bytes = h }

pub Takes-then : (a x b y c : List ℕ) → Takes a x b → (AreBytes b → Takes b y c) → Takes a (x ++ y) c
Takes-then a x b y c p f = let q = f p.rest_bytes in record { parts = p.parts ∙ ap (λ t. x ++ t) q.parts ∙ sym (append_assoc x y c); rest_bytes = q.rest_bytes }

-- what follows from a reading that did not fail, with the first part of it
pub bind_ok : {A B C : Type 0} (r : Reading A) (f : A × List ℕ → Reading B) (y : B × List ℕ) → (r >>= f) ≡ Ok y → ((x : A × List ℕ) → r ≡ Ok x → f x ≡ Ok y → C) → C
bind_ok (Ok x) f y e then = then x refl e
bind_ok (Err rest) f y e then = absurd cc

abbrev read_as : {A : Type 0} → A × List ℕ → Reading A
read_as x = Ok x

pub ok_is : {A : Type 0} (a b : A) (l m : List ℕ) → read_as (a, l) ≡ read_as (b, m) → (a ≡ b) × (l ≡ m)
ok_is {A} a b l m e = let pairs : (a, l) ≡ (b, m) = cc in (ap (λ (x : A × List ℕ). x.0) pairs, ap (λ (x : A × List ℕ). x.1) pairs)

-- a test that was passed
pub guard_ok : {A : Type 0} (b : Bool) (x y : A × List ℕ) (rest : List ℕ) → cond b (Ok x) (Err rest) ≡ Ok y → (b ≡ true) × (x ≡ y)
guard_ok true x y rest e = (refl, cc)
guard_ok false x y rest e = absurd cc

-- ---- two bytes

pub word_again : (v : ℕ) (rest : List ℕ) → v < 65536 → word_at (field v ++ rest) ≡ Ok (v, rest)
unfolding word_at field
word_again v rest h = ap (λ n. Ok (n, rest)) (from_le_bytes-to_le_bytes_2 v h)

pub word_takes : (bytes : List ℕ) (v : ℕ) (rest : List ℕ) → word_at bytes ≡ Ok (v, rest) → AreBytes bytes → Takes bytes (field v) rest
unfolding word_at field
word_takes [] v rest e h = absurd cc
word_takes (low ∷ []) v rest e h = absurd cc
word_takes (low ∷ high ∷ bytes) v rest e h =
    let (d, r) = ok_is (from_le_bytes w16 (low ∷ high ∷ [])) v bytes rest e in
    record {
      parts = ap₂ (λ text rest. text ++ rest) (sym (le_bytes_2 (low ∷ high ∷ []) v refl (λ i. at_byte i) (sym d))) r;
      rest_bytes = rw (← r) (AreBytes-tail high bytes (AreBytes-tail low (high ∷ bytes) h));
    }
  where
    at_byte : (i : ℕ) → get_or (low ∷ high ∷ []) i 0 < 256
    at_byte zero = h 0 0 (omega arith)
    at_byte (suc zero) = h 1 0 (omega arith)
    at_byte (suc (suc i)) = omega arith

-- ---- a field that passes a test

pub field_again : (p : ℕ → Bool) (v : ℕ) (rest : List ℕ) → p v ≡ true → v < 65536 → field_at p (field v ++ rest) ≡ Ok (v, rest)
unfolding field_at
field_again p v rest passes h = rw (word_again v rest h, passes) refl

pub field_takes : (p : ℕ → Bool) (bytes : List ℕ) (v : ℕ) (rest : List ℕ) → field_at p bytes ≡ Ok (v, rest)
    → (p v ≡ true) × (AreBytes bytes → Takes bytes (field v) rest)
unfolding field_at
field_takes p bytes v rest e = bind_ok (word_at bytes) (λ word. cond (p word.0) (Ok word) (Err bytes)) (v, rest) e (λ word read passed.
    let (passes, same) = guard_ok (p word.0) word (v, rest) bytes passed in
    let d : word.0 ≡ v = ap (λ r. r.0) same in
    (rw (← d) passes, word_takes bytes v rest (read ∙ ap (λ r. Ok r) same)))

-- ---- a field that may be left out

pub value_again : (n usual v : ℕ) (rest : List ℕ) → n ≤ 65536 → v < n → value_at n usual (not (eqb v usual)) (field_if (not (eqb v usual)) v ++ rest) ≡ Ok (v, rest)
unfolding value_at field_if
value_again n usual v rest few h = go (eqb v usual) refl
  where
    go : (b : Bool) → eqb v usual ≡ b → cond (not b) (field_at (λ v. ltb v n && not (eqb v usual)) (cond (not b) (field v) [] ++ rest)) (Ok (usual, cond (not b) (field v) [] ++ rest)) ≡ Ok (v, rest)
    go true e = let d : usual ≡ v = grind (arith, nat_tests) in ap (λ x. Ok (x, rest)) d
    go false e = field_again (λ v. ltb v n && not (eqb v usual)) v rest (grind (arith, nat_tests)) (omega arith)

pub value_takes : (n usual : ℕ) (present : Bool) (bytes : List ℕ) (v : ℕ) (rest : List ℕ) → usual < n → value_at n usual present bytes ≡ Ok (v, rest)
    → (not (eqb v usual) ≡ present) × (v < n) × (AreBytes bytes → Takes bytes (field_if present v) rest)
unfolding value_at field_if
value_takes n usual true bytes v rest h e =
    let (passes, takes) = field_takes (λ v. ltb v n && not (eqb v usual)) bytes v rest e in
    (grind (arith, nat_tests), grind (arith, nat_tests), takes)
value_takes n usual false bytes v rest h e =
    let (d, r) = ok_is usual v bytes rest e in
    (grind (arith, nat_tests), omega arith, λ are. rw (← r) (Takes-none bytes are))

-- ---- an up

pub up_again : (n : ℕ) (o : Option ℕ) (rest : List ℕ) → n ≤ 65536 → ((u : ℕ) → o ≡ Some u → u < n) → up_at n (is_some o) (up_field o ++ rest) ≡ Ok (o, rest)
unfolding up_at up_field
up_again n None rest few h = refl
up_again n (Some u) rest few h = let below = h u refl in rw (field_again (λ u. ltb u n) u rest (grind (arith, nat_tests)) (omega arith)) refl

abbrev ReadsUp : ℕ → Bool → List ℕ → Option ℕ → List ℕ → Type 0
ReadsUp n present bytes o rest = (is_some o ≡ present) × ((u : ℕ) → o ≡ Some u → u < n) × (AreBytes bytes → Takes bytes (up_field o) rest)

pub up_takes : (n : ℕ) (present : Bool) (bytes : List ℕ) (o : Option ℕ) (rest : List ℕ) → up_at n present bytes ≡ Ok (o, rest) → ReadsUp n present bytes o rest
unfolding up_at up_field
up_takes n true bytes o rest e = bind_ok (field_at (λ u. ltb u n) bytes) (λ u. Ok (Some u.0, u.1)) (o, rest) e (λ u read same.
    let (passes, takes) = field_takes (λ u. ltb u n) bytes u.0 u.1 read in
    let (d, r) = ok_is (Some u.0) o u.1 rest same in
    rw (← d, ← r) (refl, (λ w k. (let same : u.0 ≡ w = cc in grind (arith, nat_tests))), takes))
up_takes n false bytes o rest e =
    let (d, r) = ok_is None o bytes rest e in
    rw (← d, ← r) (refl, (λ u k. absurd cc), Takes-none bytes)

-- ---- a map byte

pub map_again : (has : Present) (rest : List ℕ) → (has.home && has.up) ≡ false → map_at (map_byte has ∷ rest) ≡ Ok (has, rest)
unfolding map_at map_byte is_map fields_of bit
map_again has rest apart = go has.number has.home has.up apart
  where
    go : (number home up : Bool) → (home && up) ≡ false
        → map_at (map_byte (record { number = number; home = home; up = up }) ∷ rest) ≡ Ok (record { number = number; home = home; up = up }, rest)
    go true true false e = refl
    go true false true e = refl
    go true false false e = refl
    go false true false e = refl
    go false false true e = refl
    go false false false e = refl
    go number true true e = absurd cc

map_of_fields : (m : ℕ) → is_map m ≡ true → map_byte (fields_of m) ≡ m
unfolding map_byte is_map fields_of bit
map_of_fields m e = grind (arith, nat_tests)

fields_apart : (m : ℕ) → is_map m ≡ true → ((fields_of m).home && (fields_of m).up) ≡ false
unfolding is_map fields_of
fields_apart m e = grind (arith, nat_tests)

pub map_takes : (bytes : List ℕ) (has : Present) (rest : List ℕ) → map_at bytes ≡ Ok (has, rest)
    → ((has.home && has.up) ≡ false) × (AreBytes bytes → Takes bytes (map_byte has ∷ []) rest)
unfolding map_at
map_takes [] has rest e = absurd cc
map_takes (m ∷ bytes) has rest e =
    let (passes, same) = guard_ok (is_map m) (fields_of m, bytes) (has, rest) (m ∷ bytes) e in
    let d : fields_of m ≡ has = ap (λ r. r.0) same in
    let r : bytes ≡ rest = ap (λ r. r.1) same in
    rw (← d, ← r) (fields_apart m passes, λ are. record { parts = ap (λ b. b ∷ bytes) (sym (map_of_fields m passes)); rest_bytes = AreBytes-tail m bytes are })

-- ---- a station

pub entry_again : (n s : ℕ) (e : Entry) (rest : List ℕ) → n ≤ 65536 → Fits n s e → entry_at n s (entry_bytes s e ++ rest) ≡ Ok (e, rest)
unfolding entry_at entry_bytes
entry_again n s e rest few fits =
    let has = present s e in
    let apart : (has.home && has.up) ≡ false = home_or_up e.up refl in
    let text = field_if has.number e.number ++ (field_if has.home e.home ++ (up_field e.up ++ rest)) in
    let regrouped : (field_if has.number e.number ++ (field_if has.home e.home ++ up_field e.up)) ++ rest ≡ text = simp append_assoc in
    rw (
      regrouped,
      map_again has text apart,
      value_again n 0 e.number (field_if has.home e.home ++ (up_field e.up ++ rest)) few fits.number,
      value_again n s e.home (up_field e.up ++ rest) few fits.home,
      up_again n e.up rest few (λ u d. (fits.up u d).0),
    )
    refl
  where
    home_or_up : (o : Option ℕ) → e.up ≡ o → (not (eqb e.home s) && is_some o) ≡ false
    home_or_up None d = grind arith
    home_or_up (Some u) d = let home = (fits.up u d).1 in grind (arith, nat_tests)

-- only a home has an up
own_home : (h s u : ℕ) (o : Option ℕ) (home up : Bool) → (home && up) ≡ false → not (eqb h s) ≡ home → is_some o ≡ up → o ≡ Some u → h ≡ s
own_home h s u o home up apart d some k = let given : is_some o ≡ true = rw k refl in grind (arith, nat_tests)

pub entry_takes : (n s : ℕ) (bytes : List ℕ) (e : Entry) (rest : List ℕ) → s < n → entry_at n s bytes ≡ Ok (e, rest)
    → Fits n s e × (AreBytes bytes → Takes bytes (entry_bytes s e) rest)
unfolding entry_at entry_bytes
entry_takes n s bytes e rest h read =
    bind_ok (map_at bytes) _ (e, rest) read (λ has map_read read.
    bind_ok (value_at n 0 has.0.number has.1) _ (e, rest) read (λ number number_read read.
    bind_ok (value_at n s has.0.home number.1) _ (e, rest) read (λ home home_read read.
    bind_ok (up_at n has.0.up home.1) _ (e, rest) read (λ up up_read same.
    let first = map_takes bytes has.0 has.1 map_read in
    let second = value_takes n 0 has.0.number has.1 number.0 number.1 (omega arith) number_read in
    let third = value_takes n s has.0.home number.1 home.0 home.1 h home_read in
    let last = up_takes n has.0.up home.1 up.0 up.1 up_read in
    let (d, r) = ok_is (record { number = number.0; home = home.0; up = up.0 }) e up.1 rest same in
    rw (← d, ← r) (
      record { number = second.1; home = third.1; up = λ u k. (last.1 u k, own_home home.0 s u up.0 has.0.home has.0.up first.0 third.0 last.0 k) },
      λ are. rw (second.0, third.0, last.0) (Takes-then bytes (map_byte has.0 ∷ []) has.1 _ up.1 (first.1 are) (λ are.
          Takes-then has.1 (field_if has.0.number number.0) number.1 _ up.1 (second.2 are) (λ are.
          Takes-then number.1 (field_if has.0.home home.0) home.1 (up_field up.0) up.1 (third.2 are) last.2))),
    )))))
