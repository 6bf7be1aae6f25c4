-- Whole sheets: the stations, the order, and both round trips.
use Rattle.std.proofs.Common.{◌≡◌, ℕ, zero, suc, ◌+◌, ◌<◌, ◌≤◌, true, eqb, ltb, List, [], ◌∷◌, ◌++◌, map, length, get_or, None, Ok, Err, sym, refl, ap, subst, ◌∙◌, append_assoc, append-nil, arith}
use Rattle.std.specs.List.{range_with_len, flat_map}
use Rattle.std.proofs.lemmas.Bool.Decides.{nat_tests}
use Rattle.std.proofs.lemmas.List.{ext_get_or, get_or-map, length-map, nil_from_length}
use Rattle.std.proofs.lemmas.List.FromFn.{length-map-range_with_len, get_or-map-range_with_len}
use Rattle.cores.specs.Counting.{bit, count, times}
use Rattle.cores.specs.Numbers.{Group, without}
use Rattle.cores.specs.Site.{sized}
use Rattle.cores.proofs.Searches.{by_cases}
use Rattle.cores.proofs.Counts.{count_without}
use Rattle.cores.proofs.Entries.{times_none, times_cons}
use Rattle.cores.proofs.Sums.{once_length}
use Rattle.view.proofs.Admitted.{sized_within}
use Rattle.sheet.specs.declared.entry.Entry.{Entry}
use Rattle.sheet.specs.Plans.{Plan, WellFormed, Fits, stations, has_equal_lengths, entry}
use Rattle.sheet.specs.Encoding.{field, entry_bytes, station_bytes, encode}
use Rattle.sheet.specs.Fields.{Reading, field_at}
use Rattle.sheet.specs.Decoding.{entry_at, entries_at, order_at, plan_from, sheet_at, plan_or_place, decode, APlanWrittenAndReadIsTheSame}
use Rattle.sheet.proofs.FieldLaws.{AreBytes, Takes, Takes-none, Takes-then, bind_ok, guard_ok, ok_is, field_again, field_takes, entry_again, entry_takes}

-- ---- the stations, from s on

pub bytes_from : ℕ → List Entry → List ℕ
bytes_from s [] = []
bytes_from s (e ∷ es) = entry_bytes s e ++ bytes_from (s + 1) es

abbrev pub FitFrom : ℕ → ℕ → List Entry → Type 0
FitFrom n s [] = Unit {0}
FitFrom n s (e ∷ es) = Fits n s e × FitFrom n (s + 1) es

pub entries_again : (n s : ℕ) (es : List Entry) (rest : List ℕ) → n ≤ 65536 → FitFrom n s es → entries_at n (length es) s (bytes_from s es ++ rest) ≡ Ok (es, rest)
unfolding entries_at bytes_from
entries_again n s [] rest few fit = refl
entries_again n s (e ∷ es) rest few fit =
    rw (append_assoc, entry_again n s e (bytes_from (s + 1) es ++ rest) few fit.0, entries_again n (s + 1) es rest few fit.1) refl

pub entries_take : (n i s : ℕ) (bytes : List ℕ) (es : List Entry) (rest : List ℕ) → s + i ≤ n → entries_at n i s bytes ≡ Ok (es, rest)
    → (length es ≡ i) × FitFrom n s es × (AreBytes bytes → Takes bytes (bytes_from s es) rest)
unfolding entries_at bytes_from
entries_take n zero s bytes es rest h e = let (d, r) = ok_is [] es bytes rest e in rw (← d, ← r) (refl, tt, Takes-none bytes)
entries_take n (suc i) s bytes es rest h e =
    bind_ok (entry_at n s bytes) _ (es, rest) e (λ first read e.
    bind_ok (entries_at n i (s + 1) first.1) _ (es, rest) e (λ others others_read same.
    let one = entry_takes n s bytes first.0 first.1 (omega arith) read in
    let more = entries_take n i (s + 1) first.1 others.0 others.1 (omega arith) others_read in
    let (d, r) = ok_is (first.0 ∷ others.0) es others.1 rest same in
    rw (← d, ← r) (ap suc more.0, (one.0, more.1), λ are. Takes-then bytes (entry_bytes s first.0) first.1 _ others.1 (one.1 are) more.2)))

-- ---- the order

abbrev pub Each : Group → List ℕ → Type 0
Each X ts = (t : ℕ) → times t ts ≡ bit (X t)

each_of_first : (X : Group) (v : ℕ) (ts : List ℕ) → Each X (v ∷ ts) → (X v ≡ true) × Each (without v X) ts
unfolding bit without
each_of_first X v ts each =
    let own = each v in
    let own_first = times_cons v v ts in
    (grind arith, λ t. (let here = each t in let first = times_cons t v ts in grind arith))

pub order_again : (X : Group) (ts rest : List ℕ) → ((t : ℕ) → X t ≡ true → t < 65536) → Each X ts → order_at X (length ts) (flat_map field ts ++ rest) ≡ Ok (ts, rest)
unfolding order_at without
order_again X [] rest few each = refl
order_again X (v ∷ ts) rest few each =
    let (passes, others) = each_of_first X v ts each in
    rw (
      append_assoc,
      field_again X v (flat_map field ts ++ rest) passes (few v passes),
      order_again (without v X) ts rest (λ t x. few t (grind arith)) others,
    )
    refl

-- a group without members has none left to name
pub none_left : (n : ℕ) (X : Group) → ((t : ℕ) → X t ≡ true → t < n) → count n X ≡ 0 → Each X []
unfolding bit
none_left n X below none t = by_cases (X t) (λ x. absurd (omega (arith, count_without n X t (below t x) x))) (λ x. let not_named = times_none t in grind arith)

pub order_takes : (n : ℕ) (X : Group) (i : ℕ) (bytes ts rest : List ℕ) → ((t : ℕ) → X t ≡ true → t < n) → count n X ≡ i → order_at X i bytes ≡ Ok (ts, rest)
    → (length ts ≡ i) × Each X ts × (AreBytes bytes → Takes bytes (flat_map field ts) rest)
unfolding order_at without bit
order_takes n X zero bytes ts rest below all e =
    let (d, r) = ok_is [] ts bytes rest e in
    rw (← d, ← r) (refl, none_left n X below all, Takes-none bytes)
order_takes n X (suc i) bytes ts rest below all e =
    bind_ok (field_at X bytes) _ (ts, rest) e (λ first read e.
    bind_ok (order_at (without first.0 X) i first.1) _ (ts, rest) e (λ others others_read same.
    let (passes, takes) = field_takes X bytes first.0 first.1 read in
    let more = order_takes n (without first.0 X) i first.1 others.0 others.1 (λ t x. below t (grind arith)) (omega (arith, count_without n X first.0 (below first.0 passes) passes)) others_read in
    let (d, r) = ok_is (first.0 ∷ others.0) ts others.1 rest same in
    rw (← d, ← r) (
      ap suc more.0,
      (λ t. (let here = more.1 t in let here_first = times_cons t first.0 others.0 in grind arith)),
      λ are. Takes-then bytes (field first.0) first.1 _ others.1 (takes are) more.2,
    )))

-- ---- plans, and the entries of their stations

unfoldable pub entries : Plan → List Entry
entries p = map (entry p) (range_with_len 0 (stations p))

length-entries : (p : Plan) → length (entries p) ≡ stations p
unfolding entries
length-entries p = length-map-range_with_len (entry p) 0 (stations p)

pub entries_at_each : (p : Plan) (k : ℕ) (d : Entry) → k < stations p → get_or (entries p) k d ≡ entry p k
unfolding entries
entries_at_each p k d h = get_or-map-range_with_len (entry p) 0 (stations p) k k d h (omega arith)

no_entry : Entry
no_entry = record { number = 0; home = 0; up = None }

-- a part of each entry, station by station
part_of_entries : {X : Type 0} (part : Entry → X) (p : Plan) (xs : List X) (d : X) → length xs ≡ stations p → ((k : ℕ) → k < stations p → part (entry p k) ≡ get_or xs k d) → map part (entries p) ≡ xs
part_of_entries part p xs d long same =
    let n = length-entries p in
    ext_get_or d (map part (entries p)) xs (length-map (entries p) part ∙ n ∙ sym long) (λ k h.
    let l : k < stations p = omega (arith, length-map (entries p) part) in
    get_or-map part (entries p) k no_entry d (omega arith) ∙ ap part (entries_at_each p k no_entry l) ∙ same k l)

pub plan_of_entries : (p : Plan) → has_equal_lengths p ≡ true → plan_from (entries p) p.order ≡ p
plan_of_entries p even =
    let numbers = part_of_entries (λ e. e.number) p p.numbers 0 refl (λ k h. refl) in
    let homes = part_of_entries (λ e. e.home) p p.homes 0 (grind (arith, nat_tests)) (λ k h. refl) in
    let ups = part_of_entries (λ e. e.up) p p.ups None (grind (arith, nat_tests)) (λ k h. refl) in
    rw (numbers, homes, ups) refl

pub entries_of_plan : (es : List Entry) (ts : List ℕ) → entries (plan_from es ts) ≡ es
entries_of_plan es ts =
    let p = plan_from es ts in
    let n : stations p ≡ length es = length-map es (λ e. e.number) in
    ext_get_or no_entry (entries p) es (length-entries p ∙ n) (λ k h.
    let l : k < length es = omega (arith, length-entries p) in
    entries_at_each p k no_entry (omega arith)
    ∙ rw (get_or-map (λ (e : Entry). e.number) es k no_entry 0 l, get_or-map (λ (e : Entry). e.home) es k no_entry 0 l, get_or-map (λ (e : Entry). e.up) es k no_entry None l) refl)

-- the stations on a sheet
pub station_bytes_are : (p : Plan) → station_bytes p ≡ bytes_from 0 (entries p)
unfolding station_bytes entries bytes_from
station_bytes_are p = go 0 (stations p)
  where
    go : (s i : ℕ) → flat_map (λ s. entry_bytes s (entry p s)) (range_with_len s i) ≡ bytes_from s (map (entry p) (range_with_len s i))
    go s zero = refl
    go s (suc i) = ap (λ rest. entry_bytes s (entry p s) ++ rest) (go (s + 1) i)

pub fit_from : (n s : ℕ) (es : List Entry) → ((k j : ℕ) (d : Entry) → k < length es → s + k ≡ j → Fits n j (get_or es k d)) → FitFrom n s es
fit_from n s [] fits = tt
fit_from n s (e ∷ es) fits = (fits 0 s e (omega arith) (omega arith), fit_from n (s + 1) es (λ k j d h at. fits (suc k) j d (omega arith) (omega arith)))

pub fit_each : (n s : ℕ) (es : List Entry) → FitFrom n s es → (k j : ℕ) (d : Entry) → k < length es → s + k ≡ j → Fits n j (get_or es k d)
fit_each n s [] fit k j d h at = absurd (omega arith)
fit_each n s (e ∷ es) fit zero j d h at = let same : s ≡ j = omega arith in rw (← same) fit.0
fit_each n s (e ∷ es) fit (suc k) j d h at = fit_each n (s + 1) es fit.1 k j d (omega arith) (omega arith)

-- ---- both ways

pub written_and_read : APlanWrittenAndReadIsTheSame
unfolding decode encode sheet_at bit
written_and_read p well =
    let n = stations p in
    let es = entries p in
    let orders = flat_map field p.order in
    let (some, few) = sized_within n well.counted in
    let counted = field_again sized n (bytes_from 0 es ++ orders) well.counted (omega arith) in
    let fit = fit_from n 0 es (λ k j d h at.
    let l : k < n = omega (arith, length-entries p) in
    let same : k ≡ j = omega arith in
    rw (entries_at_each p k d l, ← same) (well.fits k l)) in
    let named : entries_at n n 0 (bytes_from 0 es ++ orders) ≡ Ok (es, orders)
    = subst (λ i. entries_at n i 0 (bytes_from 0 es ++ orders) ≡ Ok (es, orders)) (length-entries p) (entries_again n 0 es orders (omega arith) fit) in
    let each : order_at (λ t. ltb t n) n orders ≡ Ok (p.order, [])
    = subst (λ ts. order_at (λ t. ltb t n) n ts ≡ Ok (p.order, [])) (append-nil orders)
    (subst (λ i. order_at (λ t. ltb t n) i (orders ++ []) ≡ Ok (p.order, [])) (once_length n p.order well.each_once)
    (order_again (λ t. ltb t n) p.order [] (λ t below. grind (arith, nat_tests)) well.each_once)) in
    rw (station_bytes_are p, counted, named, each, plan_of_entries p well.lengths) refl

placed_ok : (bytes : List ℕ) (r : Reading Plan) (p : Plan) → plan_or_place bytes r ≡ Ok p → (rest : List ℕ) × (r ≡ Ok (p, rest))
placed_ok bytes (Ok read) p e = let d : read.0 ≡ p = cc in (read.1, ap (λ q. Ok (q, read.1)) d)
placed_ok bytes (Err rest) p e = absurd cc

pub count_below : (n m : ℕ) → n ≤ m → count n (λ t. ltb t m) ≡ n
unfolding count bit
count_below zero m h = refl
count_below (suc n) m h = let below = count_below n m in grind (arith, nat_tests)

-- what is read of the parts of a sheet
pub accepted_plan : (n : ℕ) (es : List Entry) (ts : List ℕ) → sized n ≡ true → length es ≡ n → length ts ≡ n → FitFrom n 0 es → Each (λ t. ltb t n) ts → WellFormed (plan_from es ts)
accepted_plan n es ts counted long even fit each =
    let p = plan_from es ts in
    let all : stations p ≡ n = length-map es (λ e. e.number) ∙ long in
    let homes : length p.homes ≡ n = length-map es (λ e. e.home) ∙ long in
    let ups : length p.ups ≡ n = length-map es (λ e. e.up) ∙ long in
    record {
      counted = rw all counted;
      lengths = grind (arith, nat_tests);
      fits = λ s h.
          let l : s < length es = omega arith in
          rw (all, get_or-map (λ (e : Entry). e.number) es s no_entry 0 l, get_or-map (λ (e : Entry). e.home) es s no_entry 0 l, get_or-map (λ (e : Entry). e.up) es s no_entry None l)
          (fit_each n 0 es fit s s no_entry l (omega arith));
      each_once = rw all each;
    }

pub accepted : (bytes : List ℕ) (p : Plan) → decode bytes ≡ Ok p → WellFormed p × (AreBytes bytes → encode p ≡ bytes)
unfolding decode sheet_at encode
accepted bytes p e =
    let (rest, read) = placed_ok bytes (sheet_at bytes) p e in
    bind_ok (field_at sized bytes) _ (p, rest) read (λ count count_read read.
    bind_ok (entries_at count.0 count.0 0 count.1) _ (p, rest) read (λ es es_read read.
    bind_ok (order_at (λ t. ltb t count.0) count.0 es.1) _ (p, rest) read (λ order order_read read.
    let n = count.0 in
    let (ended, same) = guard_ok (eqb (length order.1) 0) (plan_from es.0 order.0, order.1) (p, rest) order.1 read in
    let first = field_takes sized bytes n count.1 count_read in
    let second = entries_take n n 0 count.1 es.0 es.1 (omega arith) es_read in
    let last = order_takes n (λ t. ltb t n) n es.1 order.0 order.1 (λ t x. grind (arith, nat_tests)) (count_below n n (omega arith)) order_read in
    let d : plan_from es.0 order.0 ≡ p = ap (λ r. r.0) same in
    let none : order.1 ≡ [] = nil_from_length order.1 (grind (arith, nat_tests)) in
    rw (← d) (
      accepted_plan n es.0 order.0 first.0 second.0 last.0 second.1 last.1,
      λ are.
          let takes = Takes-then bytes (field n) count.1 _ order.1 (first.1 are) (λ are. Takes-then count.1 (bytes_from 0 es.0) es.1 (flat_map field order.0) order.1 (second.2 are) last.2) in
          let whole : bytes ≡ field n ++ (bytes_from 0 es.0 ++ flat_map field order.0) = takes.parts ∙ rw none (append-nil (field n ++ (bytes_from 0 es.0 ++ flat_map field order.0))) in
          rw (station_bytes_are (plan_from es.0 order.0), entries_of_plan es.0 order.0, length-map es.0 (λ e. e.number), second.0) (sym whole),
    ))))
