-- The place of the first fault, in words.
use Rattle.std.proofs.Common.{◌≡◌, ◌≢◌, ℕ, zero, suc, ◌+◌, ◌-◌, ◌<◌, ◌≤◌, Bool, true, false, cond, not, ◌&&◌, eqb, ltb, List, [], ◌∷◌, ◌++◌, map, length, take, drop, sum, Ok, Err, slice_index_or, sym, refl, ap, subst, ◌∙◌, inl, inr, append_assoc, append-nil, arith, length-append, length-take, take-append-drop}
use Rattle.std.specs.List.{flat_map, range_with_len}
use Rattle.std.proofs.Math.ListN.{get_or-append}
use Rattle.std.proofs.Math.Seq.{take-append-add}
use Rattle.std.proofs.lemmas.Bool.{cases_lt, ne_eqb}
use Rattle.std.proofs.lemmas.Bool.Decides.{nat_tests}
use Rattle.std.proofs.lemmas.List.{take_at, take_all, take-append-le, get_or_past}
use Rattle.std.proofs.lemmas.List.Elements.{All-append}
use Rattle.std.proofs.lemmas.List.Sums.{sum_by-cons}
use Rattle.cores.specs.Site.{sized}
use Rattle.view.proofs.Admitted.{sized_within}
use Rattle.sheet.specs.declared.entry.Entry.{Entry}
use Rattle.sheet.specs.Plans.{Plan, WellFormed, stations, entry}
use Rattle.sheet.specs.Encoding.{field, encode}
use Rattle.sheet.specs.Fields.{Reading, ◌>>=◌, word_at, field_at}
use Rattle.sheet.specs.Decoding.{entries_at, order_at, plan_from, sheet_at, plan_or_place, decode}
use Rattle.sheet.specs.Places.{entry_widths, widths, field_start, field_width, BeginsASheet, FirstFault, TheFirstFaultIsNamed}
use Rattle.sheet.proofs.FieldLaws.{AreBytes, bind_ok, ok_is, guard_ok, word_takes, field_takes}
use Rattle.sheet.proofs.SheetLaws.{count_below, accepted, written_and_read, entries, entries_of_plan}
use Rattle.sheet.proofs.Lengths.{length-field, sheet_is_bytes}
use Rattle.sheet.proofs.Locality.{Reader, Local, bind_err, guard_err, bind_local, pure_local, two_bytes, field_local, widths_from, two_each, entries_local, order_local}

-- ---- a sheet without the test that nothing follows

body_at : ℕ → Reader Plan
body_at n bytes = entries_at n n 0 bytes >>= λ es. order_at (λ t. ltb t n) n es.1 >>= λ ts. Ok (plan_from es.0 ts.0, ts.1)

ended : Plan × List ℕ → Reading Plan
ended r = cond (eqb (length r.1) 0) (Ok r) (Err r.1)

plan_at : (ℕ → Bool) → Reader Plan
plan_at p bytes = field_at p bytes >>= λ n. body_at n.0 n.1

sheet_is : (bytes : List ℕ) → sheet_at bytes ≡ (plan_at sized bytes >>= ended)
unfolding sheet_at plan_at body_at ended
sheet_is bytes = counts (field_at sized bytes)
  where
    orders : (es : List Entry) (r : Reading (List ℕ))
        → (r >>= λ ts. cond (eqb (length ts.1) 0) (Ok (plan_from es ts.0, ts.1)) (Err ts.1)) ≡ ((r >>= λ ts. Ok (plan_from es ts.0, ts.1)) >>= λ r. cond (eqb (length r.1) 0) (Ok r) (Err r.1))
    orders es (Ok ts) = refl
    orders es (Err fault) = refl

    stations : (n : ℕ) (r : Reading (List Entry))
        → (r >>= λ es. order_at (λ t. ltb t n) n es.1 >>= λ ts. cond (eqb (length ts.1) 0) (Ok (plan_from es.0 ts.0, ts.1)) (Err ts.1))
        ≡ ((r >>= λ es. order_at (λ t. ltb t n) n es.1 >>= λ ts. Ok (plan_from es.0 ts.0, ts.1)) >>= λ r. cond (eqb (length r.1) 0) (Ok r) (Err r.1))
    stations n (Ok es) = orders es.0 (order_at (λ t. ltb t n) n es.1)
    stations n (Err fault) = refl

    counts : (r : Reading ℕ)
        → (r >>= λ n. entries_at n.0 n.0 0 n.1 >>= λ es. order_at (λ t. ltb t n.0) n.0 es.1 >>= λ ts. cond (eqb (length ts.1) 0) (Ok (plan_from es.0 ts.0, ts.1)) (Err ts.1))
        ≡ ((r >>= λ n. entries_at n.0 n.0 0 n.1 >>= λ es. order_at (λ t. ltb t n.0) n.0 es.1 >>= λ ts. Ok (plan_from es.0 ts.0, ts.1)) >>= λ r. cond (eqb (length r.1) 0) (Ok r) (Err r.1))
    counts (Ok n) = stations n.0 (entries_at n.0 n.0 0 n.1)
    counts (Err fault) = refl

-- how wide the fields of a plan are, behind the count
body_widths : Plan → List ℕ
body_widths p = widths_from 0 (entries p) ++ two_each p.order

widths_are : (p : Plan) → widths p ≡ 2 ∷ body_widths p
unfolding widths entries widths_from body_widths
widths_are p = ap (λ xs. 2 ∷ (xs ++ two_each p.order)) (go 0 (stations p))
  where
    go : (s i : ℕ) → flat_map (λ s. entry_widths s (entry p s)) (range_with_len s i) ≡ widths_from s (map (entry p) (range_with_len s i))
    go s zero = refl
    go s (suc i) = ap (λ rest. entry_widths s (entry p s) ++ rest) (go (s + 1) i)

body_local : (Q : Type 0) (n : ℕ) → (Q → 2 ≤ n) → n ≤ 512 → Local Q body_widths (body_at n)
unfolding body_at body_widths
body_local Q n two few =
    bind_local Q (widths_from 0) (entries_at n n 0) _ (λ es p. two_each p.order) body_widths (entries_local Q n n 0 (omega arith) two (omega arith))
    (λ es given.
    bind_local Q two_each (order_at (λ t. ltb t n) n) _ (λ ts p. []) (λ p. two_each p.order)
    (order_local Q n (λ t. ltb t n) n (omega arith) (λ t x. grind (arith, nat_tests)) (omega (arith, count_below n n (omega arith))))
    (λ ts given. pure_local Q (λ p. []) (plan_from es ts) refl)
    (λ ts p given gives.
    let (bytes, rest, read) = gives in
    let is = (ok_is (plan_from es ts) p bytes rest read).0 in
    rw (← is) (sym (append-nil (two_each ts)))))
    (λ es p given gives.
    let (bytes, rest, read) = gives in
    bind_ok (order_at (λ t. ltb t n) n bytes) _ (p, rest) read (λ ts ts_read same.
    let is = (ok_is (plan_from es ts.0) p ts.1 rest same).0 in
    rw (← is, entries_of_plan es ts.0) refl))

plan_local : (Q : Type 0) (p : ℕ → Bool) → (Q → (v : ℕ) × (p v ≡ true) × (v < 65536)) → ((n : ℕ) → p n ≡ true → (Q → 2 ≤ n) × (n ≤ 512)) → Local Q widths (plan_at p)
unfolding plan_at
plan_local Q p some counts =
    bind_local Q two_bytes (field_at p) (λ n. body_at n.0 n.1) (λ n. body_widths) widths (field_local Q p some)
    (λ n given. let (bytes, rest, read) = given in let (two, few) = counts n (field_takes p bytes n rest read).0 in body_local Q n two few)
    (λ n w given gives. widths_are w)

-- any sheet
any_local : Local ⊥ widths (plan_at sized)
any_local = plan_local ⊥ sized (λ q. absurd q) (λ n counted. ((λ q. absurd q), (sized_within n counted).1))

-- a sheet of two stations or more
several : ℕ → Bool
several n = sized n && not (eqb n 1)

several_local : Local (Unit {0}) widths (plan_at several)
unfolding several
several_local = plan_local (Unit {0}) several (λ q. (2, refl, omega arith)) (λ n counted. ((λ q. grind (arith, nat_tests)), grind (arith, nat_tests)))

several_is : (n : ℕ) → (n ≡ 1 → ⊥) → several n ≡ sized n
unfolding several
several_is n other = grind (arith, nat_tests)

-- bytes that do not count one station are read alike
plan_same : (bytes : List ℕ) → AreBytes bytes → take 2 bytes ≢ field 1 → plan_at sized bytes ≡ plan_at several bytes
unfolding plan_at field_at
plan_same bytes are other = words (word_at bytes) refl
  where
    alike : (word : ℕ × List ℕ) → word_at bytes ≡ Ok word → several word.0 ≡ sized word.0
    alike word read =
        let takes = word_takes bytes word.0 word.1 read are in
        several_is word.0 (λ one. other (ap (take 2) takes.parts ∙ take_at (field word.0) word.1 2 (length-field word.0) ∙ ap field one))

    words : (r : Reading ℕ) → word_at bytes ≡ r
        → ((r >>= λ word. cond (sized word.0) (Ok word) (Err bytes)) >>= λ n. body_at n.0 n.1) ≡ ((r >>= λ word. cond (several word.0) (Ok word) (Err bytes)) >>= λ n. body_at n.0 n.1)
    words (Err fault) read = refl
    words (Ok word) read = rw (alike word read) refl

count_ok : (bytes : List ℕ) (n : ℕ × List ℕ) → field_at several bytes ≡ Ok n → field_at sized bytes ≡ Ok n
unfolding field_at several
count_ok bytes n read = bind_ok (word_at bytes) _ n read (λ word first passed.
    let (passes, same) = guard_ok (several word.0) word n bytes passed in
    let one : sized word.0 ≡ true = grind arith in
    rw (first, one) (ap (λ r. Ok r) same))

several_ok : (bytes : List ℕ) (r : Plan × List ℕ) → plan_at several bytes ≡ Ok r → plan_at sized bytes ≡ Ok r
unfolding plan_at
several_ok bytes r e = bind_ok (field_at several bytes) (λ n. body_at n.0 n.1) r e (λ n read then. rw (count_ok bytes n read) then)

-- what is left behind a fault is no more than the bytes
pub fault_within : (bytes fault : List ℕ) → Err fault ≡ sheet_at bytes → length fault ≤ length bytes
unfolding ended
fault_within bytes fault e = bind_err (plan_at sized bytes) ended fault (sym (sheet_is bytes) ∙ sym e)
    (λ inside. let f = any_local.fails bytes fault inside in omega (arith, ap length f.parts, length-append f.front (f.rest ++ fault), length-append f.rest fault))
    (λ x taken over.
    let p = any_local.taken bytes x.0 x.1 taken in
    let (left, same) = guard_err (eqb (length x.1) 0) x x.1 fault over in
    omega (arith, ap length p.parts, length-append p.text x.1, ap length same))

fault_of : (bytes : List ℕ) (r : Reading Plan) (place : ℕ) → plan_or_place bytes r ≡ Err place → (fault : List ℕ) × (r ≡ Err fault) × (length bytes - length fault ≡ place)
fault_of bytes (Ok read) place e = absurd cc
fault_of bytes (Err fault) place e = (fault, refl, cc)

AreBytes-front : (front rest : List ℕ) → AreBytes (front ++ rest) → AreBytes front
AreBytes-front front rest are k d h = subst (λ b. b < 256) (get_or-append front rest d k h) (are k d (omega (arith, length-append front rest)))

-- ---- the law

accepted_from : (bytes : List ℕ) (p : Plan) → AreBytes bytes → plan_at sized bytes ≡ Ok (p, []) → WellFormed p × (encode p ≡ bytes)
unfolding decode ended
accepted_from bytes p are read =
    let whole : sheet_at bytes ≡ Ok (p, []) = sheet_is bytes ∙ rw read refl in
    let (well, back) = accepted bytes p (rw whole refl) in
    (well, back are)

-- no sheet begins with bytes that are turned down whatever follows them
never : (bytes head tail : List ℕ) → bytes ≡ head ++ tail → 2 ≤ length head → take 2 bytes ≢ field 1
    → ((more : List ℕ) → (fault : List ℕ) × ((plan_at several (head ++ more) >>= ended) ≡ Err fault)) → BeginsASheet head → ⊥
unfolding decode
never bytes head tail parts enough other refuses b =
    let x = head ++ b.rest in
    let are : AreBytes x = subst AreBytes b.begins (sheet_is_bytes b.plan) in
    let alike : take 2 x ≡ take 2 bytes = take-append-le 2 head b.rest enough ∙ sym (take-append-le 2 head tail enough) ∙ ap (take 2) (sym parts) in
    let (fault, refused) = refuses b.rest in
    let turned_down : sheet_at x ≡ Err fault = sheet_is x ∙ ap (λ r. r >>= ended) (plan_same x are (λ d. other (sym alike ∙ d))) ∙ refused in
    let back : plan_or_place x (sheet_at x) ≡ Ok b.plan = subst (λ y. decode y ≡ Ok b.plan) b.begins (written_and_read b.plan b.well_formed) in
    wrong x fault b.plan (subst (λ r. plan_or_place x r ≡ Ok b.plan) turned_down back)
  where
    wrong : (x fault : List ℕ) (p : Plan) → plan_or_place x (Err fault) ≡ Ok p → ⊥
    wrong x fault p e = cc

-- the first field has two bytes
two_first : (p : Plan) (i : ℕ) → 2 ≤ sum (take i (widths p)) + slice_index_or (widths p) i 1
two_first p i = rw (widths_are p) (go i)
  where
    go : (i : ℕ) → 2 ≤ sum (take i (2 ∷ body_widths p)) + slice_index_or (2 ∷ body_widths p) i 1
    go zero = omega arith
    go (suc i) = omega (arith, sum_by-cons (λ x. x) 2 (take i (body_widths p)))

two_at_least : (p : Plan) → 2 ≤ sum (widths p)
two_at_least p = rw (widths_are p) (omega (arith, sum_by-cons (λ x. x) 2 (body_widths p)))

-- what is found of a fault: the place where its field begins, by the bytes in front of it
record Found (bytes : List ℕ) (place : ℕ) : Type 0 where
  plan : Plan
  well_formed : WellFormed plan
  in_front : ℕ
  start : ℕ
  begins : start ≡ field_start plan in_front
  alike : take start bytes ≡ take start (encode plan)
  cut : length bytes < start + field_width plan in_front → place ≡ length bytes
  at_fault : start + field_width plan in_front ≤ length bytes → (place ≡ start) × (BeginsASheet (take (start + field_width plan in_front) bytes) → ⊥)

first_of : (bytes : List ℕ) (place : ℕ) → Found bytes place → FirstFault bytes place
first_of bytes place f =
    let begins = f.begins in
    record {
      plan = f.plan;
      well_formed = f.well_formed;
      in_front = f.in_front;
      alike = subst (λ m. take m bytes ≡ take m (encode f.plan)) begins f.alike;
      cut = λ short. f.cut (omega arith);
      at_fault = λ ends.
          let (place_is, no_sheet) = f.at_fault (omega arith) in
          (place_is ∙ begins, λ b. no_sheet (subst (λ m. BeginsASheet (take (m + field_width f.plan f.in_front) bytes)) (sym begins) b));
    }

module _ (bytes fault : List ℕ) (are : AreBytes bytes) (other : take 2 bytes ≢ field 1) where
  abbrev Named : Type 0
  Named = Found bytes (length bytes - length fault)

  -- a field is at fault, or cut
  in_field : plan_at sized bytes ≡ Err fault → Named
  in_field inside =
      let f = several_local.fails bytes fault (sym (plan_same bytes are other) ∙ inside) in
      let o = f.opens tt in
      let c = o.more in
      let p = c.value in
      let front_are = AreBytes-front f.front (f.rest ++ fault) (subst AreBytes f.parts are) in
      let whole = several_ok (f.front ++ c.text) (p, []) (ap (λ t. plan_at several (f.front ++ t)) (sym (append-nil c.text)) ∙ c.reads []) in
      let (well, sheet) = accepted_from (f.front ++ c.text) p (All-append (λ b. b < 256) f.front c.text front_are c.are) whole in
      let long : length bytes ≡ length f.front + (length f.rest + length fault)
      = ap length f.parts ∙ length-append f.front (f.rest ++ fault) ∙ ap (λ m. length f.front + m) (length-append f.rest fault) in
      let next = o.next in
      record {
        plan = p;
        well_formed = well;
        in_front = o.place;
        start = length f.front;
        begins = o.begins;
        alike = ap (take (length f.front)) f.parts ∙ take_at f.front (f.rest ++ fault) (length f.front) refl ∙ sym (ap (take (length f.front)) sheet ∙ take_at f.front c.text (length f.front) refl);
        cut = λ short. elim (cases_lt 0 (length fault)) [
          | inl some ↦ let (none, wide) = f.whole some in absurd (omega (arith, ap length none))
          | inr none ↦ omega arith
        ];
        at_fault = λ ends.
            let some : 0 < length fault = elim (cases_lt 0 (length fault)) [ inl some ↦ some | inr none ↦ absurd (let short = f.cut (omega arith) in omega arith) ] in
            let (no_rest, wide) = f.whole some in
            let split : bytes ≡ f.front ++ fault = f.parts ∙ ap (λ xs. f.front ++ (xs ++ fault)) no_rest in
            let head = f.front ++ take f.width fault in
            let head_is : take (length f.front + slice_index_or (widths p) o.place 1) bytes ≡ head
            = ap (λ w. take (length f.front + w) bytes) o.next ∙ ap (take (length f.front + f.width)) split ∙ take-append-add f.front fault f.width in
            let parts : bytes ≡ head ++ drop f.width fault = split ∙ ap (λ xs. f.front ++ xs) (sym (take-append-drop f.width fault)) ∙ sym (append_assoc f.front (take f.width fault) (drop f.width fault)) in
            let enough : 2 ≤ length head = omega (arith, length-append f.front (take f.width fault), length-take f.width fault, two_first p o.place, o.begins) in (
              omega (arith, ap length no_rest),
              λ b. never bytes head (drop f.width fault) parts enough other
                  (λ more. (take f.width fault ++ more, rw (append_assoc, f.stays some more) refl)) (subst BeginsASheet head_is b),
            );
      }

  -- a sheet is whole, and more bytes follow
  behind : (x : Plan × List ℕ) → plan_at sized bytes ≡ Ok x → ended x ≡ Err fault → Named
  unfolding ended
  behind x read over =
      let f = several_local.taken bytes x.0 x.1 (sym (plan_same bytes are other) ∙ read) in
      let (left, same) = guard_err (eqb (length x.1) 0) x x.1 fault over in
      let parts : bytes ≡ f.text ++ fault = f.parts ∙ ap (λ xs. f.text ++ xs) same in
      let some : 0 < length fault = (let long = ap length same in grind (arith, nat_tests)) in
      let long : length bytes ≡ length f.text + length fault = ap length parts ∙ length-append f.text fault in
      let text_are = AreBytes-front f.text fault (subst AreBytes parts are) in
      let whole : plan_at sized f.text ≡ Ok (x.0, []) = several_ok f.text (x.0, []) (ap (plan_at several) (sym (append-nil f.text)) ∙ f.reads []) in
      let (well, sheet) = accepted_from f.text x.0 text_are whole in
      let n = length (widths x.0) in
      let one : slice_index_or (widths x.0) n 1 ≡ 1 = get_or_past (widths x.0) n 1 (omega arith) in
      record {
        plan = x.0;
        well_formed = well;
        in_front = n;
        start = length f.text;
        begins = f.long ∙ ap sum (sym (take_all n (widths x.0) (omega arith)));
        alike = ap (take (length f.text)) parts ∙ take_at f.text fault (length f.text) refl ∙ sym (ap (take (length f.text)) sheet ∙ take_all (length f.text) f.text (omega arith));
        cut = λ short. absurd (omega arith);
        at_fault = λ ends.
            let head = f.text ++ take 1 fault in
            let head_is : take (length f.text + slice_index_or (widths x.0) n 1) bytes ≡ head
            = ap (λ w. take (length f.text + w) bytes) one ∙ ap (take (length f.text + 1)) parts ∙ take-append-add f.text fault 1 in
            let split : bytes ≡ head ++ drop 1 fault = parts ∙ ap (λ xs. f.text ++ xs) (sym (take-append-drop 1 fault)) ∙ sym (append_assoc f.text (take 1 fault) (drop 1 fault)) in
            let enough : 2 ≤ length head = omega (arith, length-append f.text (take 1 fault), f.long, two_at_least x.0) in (
              omega arith,
              λ b. never bytes head (drop 1 fault) split enough other
                  (λ more. (let is_some : eqb (length (take 1 fault ++ more)) 0 ≡ false = ne_eqb (length (take 1 fault ++ more)) 0 (λ d. absurd (omega (arith, length-append (take 1 fault) more, length-take 1 fault))) in
                  (take 1 fault ++ more, rw (append_assoc, f.reads (take 1 fault ++ more), is_some) refl))) (subst BeginsASheet head_is b),
            );
      }

pub first_fault : TheFirstFaultIsNamed
unfolding decode
first_fault bytes place are other e =
    let (fault, read, at) = fault_of bytes (sheet_at bytes) place e in
    let found = bind_err (plan_at sized bytes) ended fault (sym (sheet_is bytes) ∙ read) (λ inside. in_field bytes fault are other inside) (λ x taken over. behind bytes fault are other x taken over) in
    subst (FirstFault bytes) at (first_of bytes (length bytes - length fault) found)
