-- The laws of lines.
use Rattle.std.proofs.Common.{◌≡◌, ℕ, Bool, true, false, cond, eqb, List, [], ◌∷◌, ◌++◌, sym, refl, ap, ◌∙◌, ◌≢◌}
use Rattle.std.specs.List.{onto_first, AllByRecursion}
use Rattle.std.proofs.lemmas.Bool.{eqb-true, eqb-false}
use Rattle.std.proofs.lemmas.List.Elements.{All-nil, All-cons, All-from_recursion}
use Rattle.text.specs.Texts.{lines}
use Rattle.text.specs.Laws.{Without, LinesHoldNoEnd, written, closed, LinesAreTheText}
use Rattle.text.proofs.Fronts.{by_cases}
use Rattle.text.proofs.LineSteps.{first_line, line_leads}

led_clear : (b : ℕ) (ls : List (List ℕ)) → (b ≡ 10 → ⊥) → AllByRecursion (Without 10) ls → AllByRecursion (Without 10) (onto_first b ls)
led_clear b [] n h = (All-cons (λ x. x ≢ 10) b [] n (All-nil (λ x. x ≢ 10)), tt)
led_clear b (l ∷ ls) n h = (All-cons (λ x. x ≢ 10) b l n h.0, h.1)

each_holds_no_end : (text : List ℕ) → AllByRecursion (Without 10) (lines text)
unfolding lines
each_holds_no_end [] = tt
each_holds_no_end (b ∷ bs) =
    by_cases (eqb b 10) (λ e. rw e (All-nil (λ x. x ≢ 10), each_holds_no_end bs)) (λ e. rw e (led_clear b (lines bs) (eqb-false b 10 e) (each_holds_no_end bs)))

pub hold_no_end : LinesHoldNoEnd
hold_no_end text = All-from_recursion (Without 10) (lines text) (each_holds_no_end text)

-- A byte in front goes through either way.
led_cond : (b : ℕ) (t : Bool) (bs : List ℕ) → b ∷ cond t bs (bs ++ 10 ∷ []) ≡ cond t (b ∷ bs) (b ∷ bs ++ 10 ∷ [])
led_cond b true bs = refl
led_cond b false bs = refl

led_written : (b c : ℕ) (cs : List ℕ) → written (onto_first b (lines (c ∷ cs))) ≡ b ∷ written (lines (c ∷ cs))
led_written b c cs = ap (λ ls. written (onto_first b ls)) (first_line c cs) ∙ ap (λ ls. b ∷ written ls) (sym (first_line c cs))

pub are_the_text : LinesAreTheText
unfolding lines closed
are_the_text [] = refl
are_the_text (b ∷ []) = by_cases (eqb b 10) (λ e. rw e (ap (λ x. x ∷ []) (sym (eqb-true b 10 e)))) (λ e. rw e)
are_the_text (b ∷ c ∷ cs) =
    by_cases (eqb b 10)
    (λ e. rw e (ap (λ x. x ∷ written (lines (c ∷ cs))) (sym (eqb-true b 10 e)) ∙ ap (λ l. b ∷ l) (are_the_text (c ∷ cs)) ∙ led_cond b (closed (eqb c 10) cs) (c ∷ cs)))
    (λ e. ap written (line_leads b (c ∷ cs) e) ∙ led_written b c cs ∙ ap (λ l. b ∷ l) (are_the_text (c ∷ cs)) ∙ led_cond b (closed (eqb c 10) cs) (c ∷ cs))

pub ruleset line_laws = (hold_no_end, are_the_text)
