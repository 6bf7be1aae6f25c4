-- What is taken of some bytes is taken whatever follows it, and a fault is one whatever follows its field.
use Rattle.std.proofs.Common.{◌≡◌, ℕ, zero, suc, ◌+◌, ◌<◌, ◌≤◌, Bool, true, false, cond, not, ◌&&◌, eqb, ltb, List, [], ◌∷◌, ◌++◌, length, take, Some, None, Ok, Err, sym, refl, ap, subst, ◌∙◌, inl, inr, append_assoc, arith, sum, slice_index_or, length-append, drop, append-nil, map}
use Rattle.std.specs.Int.{w16, from_le_bytes}
use Rattle.std.proofs.lemmas.Bool.{cases_eq}
use Rattle.std.proofs.lemmas.Bool.Decides.{nat_tests}
use Rattle.std.proofs.lemmas.List.Elements.{All-append}
use Rattle.std.proofs.lemmas.List.Sums.{sum_by-append}
use Rattle.std.proofs.lemmas.List.{take-append-le, get_or-append-add}
use Rattle.std.proofs.Math.Seq.{take-append-add}
use Rattle.std.proofs.Math.ListN.{get_or-append}
use Rattle.cores.specs.Counting.{bit, count}
use Rattle.cores.specs.Numbers.{Group, without}
use Rattle.cores.proofs.Searches.{by_cases}
use Rattle.cores.proofs.Counts.{count_without}
use Rattle.sheet.specs.declared.entry.Entry.{Entry}
use Rattle.sheet.specs.declared.entry.Present.{Present}
use Rattle.sheet.specs.Encoding.{field}
use Rattle.sheet.specs.Fields.{Reading, ◌>>=◌, word_at, field_at, is_map, fields_of, map_at, value_at, up_at}
use Rattle.sheet.specs.Decoding.{entry_at, entries_at, order_at}
use Rattle.sheet.specs.Places.{width_if, entry_widths}
use Rattle.sheet.proofs.FieldLaws.{AreBytes, bind_ok, ok_is, guard_ok, field_again, field_takes, value_takes, up_takes}
use Rattle.sheet.proofs.Lengths.{field_bytes}

-- a reader, of which the bytes at its front are taken or at fault
abbrev pub Reader : Type 0 → Type 0
Reader A = List ℕ → Reading A

-- these bytes are taken for this value, whatever follows
abbrev pub Reads : {A : Type 0} → Reader A → List ℕ → A → Type 0
Reads read text v = (more : List ℕ) → read (text ++ more) ≡ Ok (v, more)

-- some bytes are taken
pub record Can {A : Type 0} (read : Reader A) : Type 0 where
  pub text : List ℕ
  pub value : A
  pub are : AreBytes text
  pub reads : Reads read text value

-- the front of some bytes, which was taken, field by field
pub record Front {A : Type 0} (wide : A → List ℕ) (read : Reader A) (bytes : List ℕ) (v : A) (rest : List ℕ) : Type 0 where
  pub text : List ℕ
  pub parts : bytes ≡ text ++ rest
  pub long : length text ≡ sum (wide v)
  pub reads : Reads read text v

-- some bytes can follow, with which field i of the whole begins here and is so wide
pub record Opens {A : Type 0} (wide : A → List ℕ) (read : Reader A) (front : List ℕ) (width : ℕ) : Type 0 where
  pub more : Can (λ bytes. read (front ++ bytes))
  pub place : ℕ
  pub inside : place < length (wide more.value)
  pub begins : length front ≡ sum (take place (wide more.value))
  pub next : slice_index_or (wide more.value) place 1 ≡ width

-- the bytes in front of a fault, and the rest of a field that is cut. Q is what it takes for them to go on.
pub record Fails {A : Type 0} (Q : Type 0) (wide : A → List ℕ) (read : Reader A) (bytes fault : List ℕ) : Type 0 where
  pub front : List ℕ
  pub rest : List ℕ
  pub width : ℕ
  pub parts : bytes ≡ front ++ (rest ++ fault)
  pub cut : length fault ≡ 0 → length rest < width
  pub whole : 0 < length fault → (rest ≡ []) × (width ≤ length fault)
  pub stays : 0 < length fault → (more : List ℕ) → read (front ++ (take width fault ++ more)) ≡ Err (take width fault ++ more)
  pub opens : Q → Opens wide read front width

pub record Local {A : Type 0} (Q : Type 0) (wide : A → List ℕ) (read : Reader A) : Type 0 where
  pub taken : (bytes : List ℕ) (v : A) (rest : List ℕ) → read bytes ≡ Ok (v, rest) → Front wide read bytes v rest
  pub fails : (bytes fault : List ℕ) → read bytes ≡ Err fault → Fails Q wide read bytes fault
  pub can : Q → Can read

-- a value that was read of some bytes
abbrev pub Given : {A : Type 0} → Reader A → A → Type 0
Given read v = (bytes : List ℕ) × (rest : List ℕ) × (read bytes ≡ Ok (v, rest))

-- ---- one reader, and then the next

pub bind_err : {A B C : Type 0} (r : Reading A) (f : A × List ℕ → Reading B) (fault : List ℕ) → (r >>= f) ≡ Err fault → (r ≡ Err fault → C) → ((x : A × List ℕ) → r ≡ Ok x → f x ≡ Err fault → C) → C
bind_err (Ok x) f fault e first then = then x refl e
bind_err (Err d) f fault e first then = first (let same : d ≡ fault = cc in ap (λ l. Err l) same)

sum-append : (xs ys : List ℕ) → sum (xs ++ ys) ≡ sum xs + sum ys
sum-append xs ys = sum_by-append (λ x. x) xs ys

module _ {A B : Type 0} (Q : Type 0) (wide : A → List ℕ) (read : Reader A) (next : A × List ℕ → Reading B) (next_wide : A → B → List ℕ) (whole_wide : B → List ℕ)
    (one : Local Q wide read) (others : (a : A) → Given read a → Local Q (next_wide a) (λ bytes. next (a, bytes)))
    (splits : (a : A) (w : B) → Given read a → Given (λ bytes. next (a, bytes)) w → whole_wide w ≡ wide a ++ next_wide a w) where
  abbrev both : Reader B
  both bytes = read bytes >>= next

  both_taken : (bytes : List ℕ) (v : B) (rest : List ℕ) → both bytes ≡ Ok (v, rest) → Front whole_wide both bytes v rest
  both_taken bytes v rest e = bind_ok (read bytes) next (v, rest) e (λ x first e.
      let p = one.taken bytes x.0 x.1 first in
      let q = (others x.0 (bytes, x.1, first)).taken x.1 v rest e in
      let split = splits x.0 v (bytes, x.1, first) (x.1, rest, e) in
      record {
        text = p.text ++ q.text;
        parts = p.parts ∙ ap (λ t. p.text ++ t) q.parts ∙ sym (append_assoc p.text q.text rest);
        long = omega (arith, length-append p.text q.text, p.long, q.long, ap sum split, sum-append (wide x.0) (next_wide x.0 v));
        reads = λ more. rw (append_assoc, p.reads (q.text ++ more)) (q.reads more);
      })

  -- what goes on after some bytes goes on to the end
  go_on : (front : List ℕ) → Q → Can (λ bytes. read (front ++ bytes)) → Can (λ bytes. both (front ++ bytes))
  go_on front q c =
      let d = (others c.value (front ++ (c.text ++ []), [], c.reads [])).can q in
      record {
        text = c.text ++ d.text;
        value = d.value;
        are = All-append (λ b. b < 256) c.text d.text c.are d.are;
        reads = λ more. rw (append_assoc c.text d.text more, c.reads (d.text ++ more)) (d.reads more);
      }

  -- and the field that begins there is the same
  opens_on : (front : List ℕ) (width : ℕ) → Q → Opens wide read front width → Opens whole_wide both front width
  unfolding go_on
  opens_on front width q o =
      let c = o.more in
      let d = (others c.value (front ++ (c.text ++ []), [], c.reads [])).can q in
      let split = splits c.value d.value (front ++ (c.text ++ []), [], c.reads []) (d.text ++ [], [], d.reads []) in
      let within : o.place ≤ length (wide c.value) = (let inside = o.inside in omega arith) in
      record {
        more = go_on front q c;
        place = o.place;
        inside = (let inside = o.inside in omega (arith, ap length split, length-append (wide c.value) (next_wide c.value d.value)));
        begins = o.begins ∙ ap sum (sym (take-append-le o.place (wide c.value) (next_wide c.value d.value) within) ∙ ap (take o.place) (sym split));
        next = ap (λ xs. slice_index_or xs o.place 1) split ∙ get_or-append (wide c.value) (next_wide c.value d.value) 1 o.place o.inside ∙ o.next;
      }

  opens_then : (a : A) (bytes text front : List ℕ) (width : ℕ) → Given read a → length text ≡ sum (wide a) → Reads read text a → Opens (next_wide a) (λ bytes. next (a, bytes)) front width
      → Opens whole_wide both (text ++ front) width
  opens_then a bytes text front width given long reads o =
      let c = o.more in
      let split = splits a c.value given (front ++ (c.text ++ []), [], c.reads []) in
      let w = wide a in
      let more = next_wide a c.value in
      record {
        more = record { text = c.text; value = c.value; are = c.are; reads = λ rest. rw (append_assoc text front (c.text ++ rest), reads (front ++ (c.text ++ rest))) (c.reads rest) };
        place = length w + o.place;
        inside = (let inside = o.inside in omega (arith, ap length split, length-append w more));
        begins =
            let taken : take (length w + o.place) (whole_wide c.value) ≡ w ++ take o.place more = ap (take (length w + o.place)) split ∙ take-append-add w more o.place in
            omega (arith, length-append text front, long, o.begins, ap sum taken, sum-append w (take o.place more));
        next = ap (λ xs. slice_index_or xs (length w + o.place) 1) split ∙ get_or-append-add w more o.place 1 ∙ o.next;
      }

  both_fails : (bytes fault : List ℕ) → both bytes ≡ Err fault → Fails Q whole_wide both bytes fault
  both_fails bytes fault e = bind_err (read bytes) next fault e
      (λ first.
      let f = one.fails bytes fault first in
      record { front = f.front; rest = f.rest; width = f.width; parts = f.parts; cut = f.cut; whole = f.whole; stays = λ h more. rw (f.stays h more) refl; opens = λ q. opens_on f.front f.width q (f.opens q) })
      (λ x first e.
      let p = one.taken bytes x.0 x.1 first in
      let f = (others x.0 (bytes, x.1, first)).fails x.1 fault e in
      record {
        front = p.text ++ f.front;
        rest = f.rest;
        width = f.width;
        parts = p.parts ∙ ap (λ t. p.text ++ t) f.parts ∙ sym (append_assoc p.text f.front (f.rest ++ fault));
        cut = f.cut;
        whole = f.whole;
        stays = λ h more. rw (append_assoc p.text f.front (take f.width fault ++ more), p.reads (f.front ++ (take f.width fault ++ more))) (f.stays h more);
        opens = λ q. opens_then x.0 bytes p.text f.front f.width (bytes, x.1, first) p.long p.reads (f.opens q);
      })

  pub bind_local : Local Q whole_wide both
  bind_local = record { taken = both_taken; fails = both_fails; can = λ q. go_on [] q (one.can q) }

pub pure_local : {A : Type 0} (Q : Type 0) (wide : A → List ℕ) (v : A) → wide v ≡ [] → Local Q wide (λ bytes. Ok (v, bytes))
pure_local Q wide v none = record {
  taken = λ bytes w rest e. (let (d, r) = ok_is v w bytes rest e in record { text = []; parts = r; long = ap sum (sym none) ∙ ap (λ x. sum (wide x)) d; reads = λ more. ap (λ x. Ok (x, more)) d });
  fails = λ bytes fault e. absurd cc;
  can = λ q. record { text = []; value = v; are = λ k d h. absurd (omega arith); reads = λ more. refl };
}

-- ---- fields

pub guard_err : {A : Type 0} (b : Bool) (x : A × List ℕ) (rest fault : List ℕ) → cond b (Ok x) (Err rest) ≡ Err fault → (b ≡ false) × (rest ≡ fault)
guard_err true x rest fault e = absurd cc
guard_err false x rest fault e = (refl, cc)

abbrev pub two_bytes : ℕ → List ℕ
two_bytes v = 2 ∷ []

pub field_local : (Q : Type 0) (p : ℕ → Bool) → (Q → (v : ℕ) × (p v ≡ true) × (v < 65536)) → Local Q two_bytes (field_at p)
unfolding field_at word_at
field_local Q p some = record { taken = takes; fails = fails; can = can }
  where
    can : Q → Can (field_at p)
    can q = let (v, passes, small) = some q in record { text = field v; value = v; are = field_bytes v; reads = λ more. field_again p v more passes small }

    opens : Q → Opens two_bytes (field_at p) [] 2
    opens q = record { more = can q; place = 0; inside = omega arith; begins = refl; next = refl }

    takes : (bytes : List ℕ) (v : ℕ) (rest : List ℕ) → field_at p bytes ≡ Ok (v, rest) → Front two_bytes (field_at p) bytes v rest
    takes [] v rest e = absurd cc
    takes (low ∷ []) v rest e = absurd cc
    takes (low ∷ high ∷ bytes) v rest e =
        let n = from_le_bytes w16 (low ∷ high ∷ []) in
        let (passes, same) = guard_ok (p n) (n, bytes) (v, rest) (low ∷ high ∷ bytes) e in
        record { text = low ∷ high ∷ []; parts = ap (λ r. low ∷ high ∷ r.1) same; long = refl; reads = λ more. rw passes (ap (λ r. Ok (r.0, more)) same) }

    cut_at : (bytes fault : List ℕ) → length bytes ≤ 1 → [] ≡ fault → Fails Q two_bytes (field_at p) bytes fault
    cut_at bytes fault short none =
        subst (λ l. Fails Q two_bytes (field_at p) bytes l) none
        (record { front = []; rest = bytes; width = 2; parts = sym (append-nil bytes); cut = λ e. omega arith; whole = λ h. absurd (omega arith); stays = λ h more. absurd (omega arith); opens = opens })

    fails : (bytes fault : List ℕ) → field_at p bytes ≡ Err fault → Fails Q two_bytes (field_at p) bytes fault
    fails [] fault e = cut_at [] fault (omega arith) cc
    fails (low ∷ []) fault e = cut_at (low ∷ []) fault (omega arith) cc
    fails (low ∷ high ∷ bytes) fault e =
        let n = from_le_bytes w16 (low ∷ high ∷ []) in
        let (fails, same) = guard_err (p n) (n, bytes) (low ∷ high ∷ bytes) fault e in
        subst (λ l. Fails Q two_bytes (field_at p) (low ∷ high ∷ bytes) l) same
        (record { front = []; rest = []; width = 2; parts = refl; cut = λ e. absurd (omega arith); whole = λ h. (refl, omega arith); stays = λ h more. rw fails refl; opens = opens })

abbrev pub one_byte : Present → List ℕ
one_byte has = 1 ∷ []

pub map_local : (Q : Type 0) → Local Q one_byte map_at
unfolding map_at is_map
map_local Q = record { taken = takes; fails = fails; can = λ q. can }
  where
    zero_byte : AreBytes (0 ∷ [])
    zero_byte zero d h = omega arith
    zero_byte (suc k) d h = absurd (omega arith)

    can : Can map_at
    can = record { text = 0 ∷ []; value = fields_of 0; are = zero_byte; reads = λ more. refl }

    opens : Q → Opens one_byte map_at [] 1
    opens q = record { more = can; place = 0; inside = omega arith; begins = refl; next = refl }

    takes : (bytes : List ℕ) (v : Present) (rest : List ℕ) → map_at bytes ≡ Ok (v, rest) → Front one_byte map_at bytes v rest
    takes [] v rest e = absurd cc
    takes (m ∷ bytes) v rest e =
        let (passes, same) = guard_ok (is_map m) (fields_of m, bytes) (v, rest) (m ∷ bytes) e in
        record { text = m ∷ []; parts = ap (λ r. m ∷ r.1) same; long = refl; reads = λ more. rw passes (ap (λ r. Ok (r.0, more)) same) }

    fails : (bytes fault : List ℕ) → map_at bytes ≡ Err fault → Fails Q one_byte map_at bytes fault
    fails [] fault e =
        let none : [] ≡ fault = cc in
        subst (λ l. Fails Q one_byte map_at [] l) none
        (record { front = []; rest = []; width = 1; parts = refl; cut = λ e. omega arith; whole = λ h. absurd (omega arith); stays = λ h more. absurd (omega arith); opens = opens })
    fails (m ∷ bytes) fault e =
        let (fails, same) = guard_err (is_map m) (fields_of m, bytes) (m ∷ bytes) fault e in
        subst (λ l. Fails Q one_byte map_at (m ∷ bytes) l) same
        (record { front = []; rest = []; width = 1; parts = refl; cut = λ e. absurd (omega arith); whole = λ h. (refl, omega arith); stays = λ h more. rw fails refl; opens = opens })

-- ---- a station

abbrev pub if_present : {A : Type 0} → Bool → A → List ℕ
if_present present v = width_if present

value_local : (Q : Type 0) (n usual : ℕ) (present : Bool) → (Q → 2 ≤ n) → n ≤ 65536 → Local Q (if_present present) (value_at n usual present)
unfolding value_at
value_local Q n usual true two few = field_local Q (λ v. ltb v n && not (eqb v usual)) (λ q. other (two q))
  where
    other : 2 ≤ n → (v : ℕ) × ((ltb v n && not (eqb v usual)) ≡ true) × (v < 65536)
    other two = elim (cases_eq usual 0) [ inl d ↦ (1, grind (arith, nat_tests), omega arith) | inr d ↦ (0, grind (arith, nat_tests), omega arith) ]
value_local Q n usual false two few = pure_local Q (if_present false) usual refl

up_local : (Q : Type 0) (n : ℕ) (present : Bool) → (Q → 2 ≤ n) → n ≤ 65536 → Local Q (if_present present) (up_at n present)
unfolding up_at
up_local Q n true two few =
    bind_local Q two_bytes (field_at (λ u. ltb u n)) (λ u. Ok (Some u.0, u.1)) (λ u o. []) (if_present true)
    (field_local Q (λ u. ltb u n) (λ q. (0, (let some = two q in grind (arith, nat_tests)), omega arith)))
    (λ u given. pure_local Q (λ o. []) (Some u) refl)
    (λ u o given gives. refl)
up_local Q n false two few = pure_local Q (if_present false) None refl

-- the map byte of a station is that of its fields
map_of : (n s : ℕ) → s < n → (has : Present) (e : Entry)
    → Given (λ bytes. value_at n 0 has.number bytes >>= λ number. value_at n s has.home number.1 >>= λ home. up_at n has.up home.1 >>= λ up. Ok (record { number = number.0; home = home.0; up = up.0 }, up.1)) e
    → entry_widths s e ≡ 1 ∷ (width_if has.number ++ (width_if has.home ++ width_if has.up))
unfolding entry_widths
map_of n s h has e given =
    let (bytes, rest, read) = given in
    bind_ok (value_at n 0 has.number bytes) _ (e, rest) read (λ number number_read read.
    bind_ok (value_at n s has.home number.1) _ (e, rest) read (λ home home_read read.
    bind_ok (up_at n has.up home.1) _ (e, rest) read (λ up up_read same.
    let first = (value_takes n 0 has.number bytes number.0 number.1 (omega arith) number_read).0 in
    let second = (value_takes n s has.home number.1 home.0 home.1 h home_read).0 in
    let third = (up_takes n has.up home.1 up.0 up.1 up_read).0 in
    let is = (ok_is (record { number = number.0; home = home.0; up = up.0 }) e up.1 rest same).0 in
    rw (← is, first, second, third) refl)))

entry_local : (Q : Type 0) (n s : ℕ) → s < n → (Q → 2 ≤ n) → n ≤ 65536 → Local Q (entry_widths s) (entry_at n s)
unfolding entry_at
entry_local Q n s h two few =
    bind_local Q one_byte map_at _ (λ has e. width_if has.number ++ (width_if has.home ++ width_if has.up)) (entry_widths s) (map_local Q)
    (λ has given.
    bind_local Q (if_present has.number) (value_at n 0 has.number) _ (λ number e. width_if has.home ++ width_if has.up) (λ e. width_if has.number ++ (width_if has.home ++ width_if has.up)) (value_local Q n 0 has.number two few)
    (λ number given.
    bind_local Q (if_present has.home) (value_at n s has.home) _ (λ home e. width_if has.up) (λ e. width_if has.home ++ width_if has.up) (value_local Q n s has.home two few)
    (λ home given.
    bind_local Q (if_present has.up) (up_at n has.up) _ (λ up e. []) (λ e. width_if has.up) (up_local Q n has.up two few)
    (λ up given. pure_local Q (λ e. []) (record { number = number; home = home; up = up }) refl)
    (λ up e given gives. sym (append-nil (width_if has.up))))
    (λ home e given gives. refl))
    (λ number e given gives. refl))
    (λ has e given gives. map_of n s h has e gives)

-- ---- the stations, and the order

unfoldable pub widths_from : ℕ → List Entry → List ℕ
widths_from s [] = []
widths_from s (e ∷ es) = entry_widths s e ++ widths_from (s + 1) es

pub entries_local : (Q : Type 0) (n i s : ℕ) → s + i ≤ n → (Q → 2 ≤ n) → n ≤ 65536 → Local Q (widths_from s) (entries_at n i s)
unfolding entries_at widths_from
entries_local Q n zero s h two few = pure_local Q (widths_from s) [] refl
entries_local Q n (suc i) s h two few =
    bind_local Q (entry_widths s) (entry_at n s) _ (λ first es. widths_from (s + 1) (drop 1 es)) (widths_from s) (entry_local Q n s (omega arith) two few)
    (λ first given.
    bind_local Q (widths_from (s + 1)) (entries_at n i (s + 1)) _ (λ others es. []) (λ es. widths_from (s + 1) (drop 1 es)) (entries_local Q n i (s + 1) (omega arith) two few)
    (λ others given. pure_local Q (λ all. []) (first ∷ others) refl)
    (λ others es given gives.
    let (bytes, rest, read) = gives in
    let is = (ok_is (first ∷ others) es bytes rest read).0 in
    rw (← is) (sym (append-nil (widths_from (s + 1) others)))))
    (λ first es given gives.
    let (bytes, rest, read) = gives in
    bind_ok (entries_at n i (s + 1) bytes) _ (es, rest) read (λ others others_read same.
    let is = (ok_is (first ∷ others.0) es others.1 rest same).0 in
    rw (← is) refl))

some_counted : (n : ℕ) (X : Group) → 0 < count n X → (t : ℕ) × (t < n) × (X t ≡ true)
unfolding count bit
some_counted zero X h = absurd (omega arith)
some_counted (suc n) X h = by_cases (X n) (λ x. (n, omega arith, x)) (λ x. let (t, l, y) = some_counted n X (grind arith) in (t, omega arith, y))

abbrev pub two_each : List ℕ → List ℕ
two_each ts = map (λ t. 2) ts

pub order_local : (Q : Type 0) (n : ℕ) (X : Group) (i : ℕ) → n ≤ 65536 → ((t : ℕ) → X t ≡ true → t < n) → i ≤ count n X → Local Q two_each (order_at X i)
unfolding order_at without
order_local Q n X zero few below enough = pure_local Q two_each [] refl
order_local Q n X (suc i) few below enough =
    bind_local Q two_bytes (field_at X) _ (λ first ts. two_each (drop 1 ts)) two_each (field_local Q X (λ q. let (t, l, x) = some_counted n X (omega arith) in (t, x, omega arith))) (λ first given.
    let (bytes, rest, read) = given in
    let (passes, takes) = field_takes X bytes first rest read in
    bind_local Q two_each (order_at (without first X) i) _ (λ others ts. []) (λ ts. two_each (drop 1 ts))
    (order_local Q n (without first X) i few (λ t x. below t (grind arith)) (omega (arith, count_without n X first (below first passes) passes)))
    (λ others given. pure_local Q (λ all. []) (first ∷ others) refl)
    (λ others ts given gives.
    let (bytes, rest, read) = gives in
    let is = (ok_is (first ∷ others) ts bytes rest read).0 in
    rw (← is) (sym (append-nil (two_each others)))))
    (λ first ts given gives.
    let (bytes, rest, read) = gives in
    bind_ok (order_at (without first X) i bytes) _ (ts, rest) read (λ others others_read same.
    let is = (ok_is (first ∷ others.0) ts others.1 rest same).0 in
    rw (← is) refl))
