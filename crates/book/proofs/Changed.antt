-- Links with other rows for two stations, and that they are sound and mean the site with one link more or less.
use Rattle.std.proofs.Common.{◌≡◌, ◌≢◌, ℕ, ◌<◌, ◌≤◌, true, false, not, ◌&&◌, ◌||◌, eqb, List, [], length, set, sym, refl, ap, ◌∙◌, subst, inl, inr, length-set, get_or-set_same, get_or-set_other, arith}
use Rattle.std.proofs.lemmas.Bool.{cases_eq}
use Rattle.cores.specs.Counting.{bit, count, times}
use Rattle.cores.specs.Site.{Site, Lawful}
use Rattle.cores.specs.Links.{ends, joined, parted}
use Rattle.cores.proofs.Links.{link_lawful}
use Rattle.cores.proofs.Sites.{same_site}
use Rattle.cores.proofs.Entries.{holds_times, held_once}
use Rattle.view.specs.Rows.{Rising, Faithful}
use Rattle.view.proofs.Lower.{row_length}
use Rattle.book.specs.Stations.{put, cut}
use Rattle.book.specs.Tables.{Links, row, with_row, site_of, Sound}
use Rattle.book.proofs.Rows.{put_times, put_rises, put_length, cut_times, cut_rises, cut_length}
use Rattle.book.proofs.Granted.{Ends, CanLink, CanUnlink}

-- a row lists the neighbours that a station has on a site, rising
pub record Lists (h : Site) (s : ℕ) (xs : List ℕ) : Type 0 where
  pub once : (t : ℕ) → times t xs ≡ bit (h.linked s t)
  pub rising : Rising xs
  pub room : length xs ≤ 32

-- rows that list the neighbours of a lawful site are sound, and mean it
pub means : (l : Links) (h : Site) → h.size ≡ l.stations → Lawful h → l.stations ≤ 512 → length l.rows ≡ 512 → ((s : ℕ) → Lists h s (row l s)) → Sound l × (site_of l ≡ h)
unfolding bit
means l h size law few records lists =
    let same : site_of l ≡ h = same_site (site_of l) h (sym size) (λ s t.
    let once = (lists s).once t in
    let held = held_once t (row l s) in
    grind arith) in (
      record {
        few = few;
        records = records;
        room = λ s. (lists s).room;
        faithful = subst (λ g. Faithful g (row l)) (sym same) (record { lawful = law; once = λ s t. (lists s).once t; rising = λ s. (lists s).rising });
      },
      same,
    )

module _ (l : Links) (sound : Sound l) (a b : ℕ) (two_ends : Ends (site_of l) a b) where
  abbrev g : Site
  g = site_of l

  within_a : a < length l.rows
  within_a = omega (arith, two_ends.on_a, sound.few, sound.records)

  within_b : b < length l.rows
  within_b = omega (arith, two_ends.on_b, sound.few, sound.records)

  -- the row of b is as it was when that of a is changed
  pub row_b : (xs : List ℕ) → row (with_row l a xs) b ≡ row l b
  row_b xs = get_or-set_other l.rows a b xs [] (λ e. two_ends.apart (sym e))

  -- both rows are changed
  pub both_changed : (xs ys : List ℕ) (h : Site) → h.size ≡ l.stations → Lawful h → Lists h a xs → Lists h b ys
      → ((s t : ℕ) → s ≢ a → s ≢ b → h.linked s t ≡ g.linked s t)
      → Sound (with_row (with_row l a xs) b ys) × (site_of (with_row (with_row l a xs) b ys) ≡ h)
  both_changed xs ys h size law lists_a lists_b others =
      means _ h size law sound.few (length-set (set l.rows a xs) b ys ∙ length-set l.rows a xs ∙ sound.records) (λ s. elim (cases_eq s b) [
        | inl at ↦ rw at (rw (get_or-set_same (set l.rows a xs) b ys [] (omega (arith, within_b, length-set l.rows a xs))) lists_b)
        | inr off_b ↦ subst (Lists h s) (sym (get_or-set_other (set l.rows a xs) b s ys [] off_b)) (elim (cases_eq s a) [
          | inl at ↦ rw at (rw (get_or-set_same l.rows a xs [] within_a) lists_a)
          | inr off_a ↦ subst (Lists h s) (sym (get_or-set_other l.rows a s xs [] off_a)) (record {
            once = λ t. sound.faithful.once s t ∙ ap bit (sym (others s t off_a off_b));
            rising = sound.faithful.rising s;
            room = sound.room s;
          })
        ])
      ])

  -- one neighbour more or less
  more_lists : (h : Site) (s t : ℕ) → ((u : ℕ) → h.linked s u ≡ (g.linked s u || eqb u t)) → g.linked s t ≡ false → length (row l s) < 32 → Lists h s (put t (row l s))
  unfolding bit
  more_lists h s t is free room = record {
    once = λ u.
        let more = put_times t (row l s) u in
        let old = sound.faithful.once s u in
        let now = is u in
        let at : u ≡ t → g.linked s u ≡ g.linked s t = λ e. ap (g.linked s) e in
        grind arith;
    rising = put_rises t (row l s) (sound.faithful.rising s) (let old = sound.faithful.once s t in grind arith);
    room = omega (arith, put_length t (row l s));
  }

  less_lists : (h : Site) (s t : ℕ) → ((u : ℕ) → h.linked s u ≡ (g.linked s u && not (eqb u t))) → g.linked s t ≡ true → Lists h s (cut t (row l s))
  unfolding bit
  less_lists h s t is stands =
      let listed = holds_times (row l s) t stands in
      record {
        once = λ u.
            let less = cut_times t (row l s) listed u in
            let old = sound.faithful.once s u in
            let now = is u in
            let at : u ≡ t → g.linked s u ≡ g.linked s t = λ e. ap (g.linked s) e in
            grind arith;
        rising = cut_rises t (row l s) listed (sound.faithful.rising s);
        room = omega (arith, cut_length t (row l s) listed, sound.room s);
      }

  -- how many neighbours stand in a row
  degree : (s : ℕ) → length (row l s) ≡ count l.stations (g.linked s)
  degree s = row_length g (row l) sound.faithful s

  pub row_room : CanLink g a b → (length (row l a) < 32) × (length (row l b) < 32)
  row_room can = (omega (arith, degree a, can.room_a), omega (arith, degree b, can.room_b))

  -- in the row of b there is room still when that of a is changed
  pub second_room : CanLink g a b → (one : Links) → one ≡ with_row l a (put b (row l a)) → length (row one b) < 32
  second_room can one first = omega (arith, (row_room can).1, ap (λ m. length (row m b)) first, ap length (row_b (put b (row l a))))

  abbrev law : Lawful g
  law = sound.faithful.lawful

  -- both rows are changed, one after the other
  abbrev at_both : (ℕ → List ℕ → List ℕ) → Links
  at_both f = with_row (with_row l a (f b (row l a))) b (f a (row l b))

  in_turn : (f : ℕ → List ℕ → List ℕ) (one two : Links) → one ≡ with_row l a (f b (row l a)) → two ≡ with_row one b (f a (row one b)) → two ≡ at_both f
  in_turn f one two first second = second ∙ ap (λ m. with_row m b (f a (row m b))) first ∙ ap (λ xs. with_row (with_row l a (f b (row l a))) b (f a xs)) (row_b (f b (row l a)))

  pub joined_rows : CanLink g a b → (one two : Links) → one ≡ with_row l a (put b (row l a)) → two ≡ with_row one b (put a (row one b))
      → Sound two × (site_of two ≡ joined g a b)
  unfolding joined ends
  joined_rows can one two first second =
      let h = joined g a b in
      let apart = two_ends.apart in
      let back = law.both_ways a b in
      rw (in_turn put one two first second)
      (both_changed (put b (row l a)) (put a (row l b)) h refl ((link_lawful g law a b).0 two_ends.on_a two_ends.on_b apart)
      (more_lists h a b (λ u. grind arith) can.free (row_room can).0)
      (more_lists h b a (λ u. grind arith) (sym back ∙ can.free) (row_room can).1)
      (λ s t off_a off_b. grind arith))

  pub parted_rows : CanUnlink g a b → (one two : Links) → one ≡ with_row l a (cut b (row l a)) → two ≡ with_row one b (cut a (row one b))
      → Sound two × (site_of two ≡ parted g a b)
  unfolding parted ends
  parted_rows can one two first second =
      let h = parted g a b in
      let apart = two_ends.apart in
      let back = law.both_ways a b in
      rw (in_turn cut one two first second)
      (both_changed (cut b (row l a)) (cut a (row l b)) h refl (link_lawful g law a b).1
      (less_lists h a b (λ u. grind arith) can.stands)
      (less_lists h b a (λ u. grind arith) (sym back ∙ can.stands))
      (λ s t off_a off_b. grind arith))
