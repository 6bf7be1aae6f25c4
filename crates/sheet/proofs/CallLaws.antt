-- What is put is read back, and what is read is put back.
use Rattle.std.proofs.Common.{◌≡◌, ℕ, ◌<◌, Bool, true, false, cond, ◌&&◌, eqb, leb, List, [], ◌∷◌, map, length, get_or, Some, None, Ok, Err, Option, Result, sym, refl, ap, ap₂, ◌∙◌, arith}
use Rattle.std.proofs.lemmas.Bool.Decides.{nat_tests}
use Rattle.std.proofs.lemmas.List.{ext_get_or, get_or-map, length-map}
use Rattle.refusals.specs.declared.Refusal.{Refusal}
use Rattle.refusals.specs.declared.Refusal.TheVariants.{CountOutOfRange, BufferShort}
use Rattle.cores.specs.Site.{sized}
use Rattle.cores.proofs.Searches.{by_cases}
use Rattle.view.specs.Answers.{with_room}
use Rattle.view.proofs.Admitted.{sized_within}
use Rattle.sheet.specs.Plans.{Plan, WellFormed, stations, has_equal_lengths, lowest_fault}
use Rattle.sheet.specs.Encoding.{encode}
use Rattle.sheet.specs.Decoding.{decode}
use Rattle.view.specs.Ups.{up_in_table, up_meant}
use Rattle.sheet.specs.Calls.{plan_in, for_buffer, put_bytes, WhatIsPutIsReadBack, WhatIsReadIsPutBack}
use Rattle.sheet.proofs.SheetLaws.{accepted, written_and_read}
use Rattle.sheet.proofs.Faults.{well_formed_without_fault}

-- what put accepts
put_accepts : (p : Plan) (room : ℕ) (bytes : List ℕ) → put_bytes p room ≡ Ok bytes
    → (has_equal_lengths p ≡ true) × (sized (stations p) ≡ true) × (lowest_fault p ≡ None) × (encode p ≡ bytes)
put_accepts p room bytes e = by_cases (has_equal_lengths p && sized (stations p)) (λ x. faults (lowest_fault p) x (rw x at e) refl) (λ x. absurd (turned_down (rw x at e)))
  where
    turned_down : (let answer : Result (List ℕ) Refusal = Err CountOutOfRange in answer) ≡ Ok bytes → ⊥
    turned_down d = cc

    room_for : (b : Bool) → cond b (Ok (encode p)) (Err (BufferShort (length (encode p)))) ≡ Ok bytes → encode p ≡ bytes
    room_for true d = cc
    room_for false d = absurd cc

    faults : (o : Option ℕ) → (has_equal_lengths p && sized (stations p)) ≡ true → for_buffer room p o ≡ Ok bytes → lowest_fault p ≡ o
        → (has_equal_lengths p ≡ true) × (sized (stations p) ≡ true) × (lowest_fault p ≡ None) × (encode p ≡ bytes)
    faults (Some i) x d is = absurd cc
    faults None x d is = (grind arith, grind arith, is, room_for (leb (length (encode p)) room) d)

back_in_table : (ups : List ℕ) → map up_in_table (map up_meant ups) ≡ ups
back_in_table [] = refl
back_in_table (u ∷ ups) = ap₂ (λ (x : ℕ) (xs : List ℕ). x ∷ xs) (one (eqb u 65535) refl) (back_in_table ups)
  where
    one : (b : Bool) → eqb u 65535 ≡ b → up_in_table (cond b None (Some u)) ≡ u
    one true e = grind (arith, nat_tests)
    one false e = refl

pub put_is_read_back : WhatIsPutIsReadBack
put_is_read_back numbers homes ups order room bytes e =
    let p = plan_in numbers homes ups order in
    let (lengths, counted, none, same) = put_accepts p room bytes e in
    let back = written_and_read p ((well_formed_without_fault p counted lengths).0 none) in
    (p, ap decode (sym same) ∙ back, refl, refl, back_in_table ups, refl)

-- an up below 65,535 means itself
meant_back : (o : Option ℕ) → ((u : ℕ) → o ≡ Some u → u < 65535) → up_meant (up_in_table o) ≡ o
meant_back None few = refl
meant_back (Some u) few = let other : eqb u 65535 ≡ false = (let small = few u refl in grind (arith, nat_tests)) in rw other refl

-- the tables of a well-formed plan hold that plan
pub plan_in_tables : (p : Plan) → WellFormed p → plan_in p.numbers p.homes (map up_in_table p.ups) p.order ≡ p
plan_in_tables p well =
    let few = sized_within (stations p) well.counted in
    let ups_back : map up_meant (map up_in_table p.ups) ≡ p.ups
    = ext_get_or None (map up_meant (map up_in_table p.ups)) p.ups (length-map (map up_in_table p.ups) up_meant ∙ length-map p.ups up_in_table) (λ k h.
    let on_list : k < length p.ups = omega (arith, length-map (map up_in_table p.ups) up_meant, length-map p.ups up_in_table) in
    let on_site : k < stations p = (let lengths = well.lengths in grind (arith, nat_tests)) in
    get_or-map up_meant (map up_in_table p.ups) k 0 None (omega (arith, length-map p.ups up_in_table))
    ∙ ap up_meant (get_or-map up_in_table p.ups k None 0 on_list)
    ∙ meant_back (get_or p.ups k None) (λ u d. omega (arith, ((well.fits k on_site).up u d).0))) in
    ap (λ ups. record { numbers = p.numbers; homes = p.homes; ups = ups; order = p.order }) ups_back

-- so they are put as its sheet, if there is room for it
pub well_formed_is_put : (p : Plan) (room : ℕ) → WellFormed p
    → put_bytes (plan_in p.numbers p.homes (map up_in_table p.ups) p.order) room ≡ with_room (length (encode p)) room (encode p)
well_formed_is_put p room well =
    let none = (well_formed_without_fault p well.counted well.lengths).1 well in
    ap (λ q. put_bytes q room) (plan_in_tables p well) ∙ rw (well.counted, well.lengths, none) refl

pub read_is_put_back : WhatIsReadIsPutBack
read_is_put_back bytes p room are enough e =
    let (well, back) = accepted bytes p e in
    let same = back are in
    let fits : leb (length (encode p)) room ≡ true = grind (arith, nat_tests) in
    well_formed_is_put p room well ∙ rw fits (ap (λ b. Ok b) same)
