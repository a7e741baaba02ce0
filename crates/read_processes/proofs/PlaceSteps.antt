-- The rows where the forms of lines begin, one line after the other.
use mathlib.Core.Path.{◌≡◌, refl, sym, ap, ap₂, subst, ◌∙◌}
use mathlib.Core.Bool.{Bool, true, false}
use mathlib.Core.List.{List, []}
use Prim.Native.Nat.{ℕ, suc, ◌+◌, ◌/◌, ◌%◌, ◌≤◌, ◌<◌}
use native.Mathlib.Omega.{arith}
use lib.ListN.{length, get_or, set, drop, drop_of_length-le}
use lib.Seq.{sets}
use Rattle.meaning.specs.Basics.{if_else}
use Rattle.grammar.specs.Outline.{OutlineLine, Expect, members, choices, options, nothing, one-process, one-member, heads, is_declaration, starts_block}
use Rattle.grammar.specs.Classes.{class_of}
use Rattle.read_classes.specs.ClassNumbers.{number_of}
use Rattle.read_levels.specs.Kinds.{expect_number}
use Rattle.read_levels.proofs.ListingLaws.{kind-split}
use Rattle.read_resolved.specs.Resolved.{declared_names}
use Rattle.read_layout.specs.Standing.{Standing, standing, open_rows}
use Rattle.read_layout.specs.Layout.{process_size, row_beneath, row_after, places_after}
use Rattle.read_layout.specs.Room.{line_end, Room}
use Rattle.read_sizes.specs.Sizes.{beneaths, beneath_of, text_standings, by_line}
use Rattle.read_processes.specs.declared.Onward.{Onward}
use Rattle.read_processes.specs.Onwards.{onward_to, onward_of}
use Rattle.read_processes.specs.Written.{first_places, starts_from, text_starts, Placeable}
use Rattle.read_processes.proofs.OnwardLaws.{onward-told}
use Rattle.read_processes.proofs.TextStands.{first-left, held_at, text-line, text-fits}

either-least : (t : Bool) (p m n : ℕ) → p ≤ m → p ≤ n → p ≤ if_else t m n
either-least true p m n h k = h
either-least false p m n h k = k

-- a line's form ends after its row
row_low : (names : List (List ℕ)) (e : Expect) (x : OutlineLine) (p b t : ℕ) → p ≤ line_end names e x p b t
row_low names members x p b t = either-least (starts_block x) p (suc p + t) (suc p + process_size names x + b + t) (omega arith) (omega arith)
row_low names choices x p b t = omega arith
row_low names options x p b t = omega arith
row_low names nothing x p b t = omega arith
row_low names one-process x p b t = either-least (starts_block x) p (suc p + t) (p + process_size names x + b) (omega arith) (omega arith)
row_low names one-member x p b t = either-least (starts_block x) p (p + t) (p + process_size names x + b + t) (omega arith) (omega arith)
row_low names heads x p b t = either-least (is_declaration x) p (p + t) (p + process_size names x + b) (omega arith) (omega arith)

module _ (text : List ℕ) (starts₀ : List ℕ) where
  -- the lines from one on are still to be placed
  pub record Placing (line : ℕ) (places starts : List ℕ) : Type 0 where
    pub room : Room (declared_names text) 1024 (drop line (text_standings text)) places
    pub told : sets starts line (starts_from (declared_names text) (drop line (text_standings text)) places) ≡ by_line starts₀ (text_starts text)

module _ (text : List ℕ) (declared : ℕ) (kinds : List ℕ) (count : ℕ) (levels owns beneath starts₀ : List ℕ) (h : Placeable text declared kinds count levels owns beneath) where
  pub place_none : Placing text starts₀ 0 (first_places declared) starts₀
  place_none =
      subst (λ (d : ℕ). Placing text starts₀ 0 (first_places d) starts₀) (sym h.counted)
      (record { room = text-fits text h.of-grammar h.few; told = refl })

  pub place-all : (line : ℕ) (places starts : List ℕ) → Placing text starts₀ line places starts → count ≤ line → starts ≡ by_line starts₀ (text_starts text)
  unfolding starts_from
  place-all line places starts p k =
      let d : drop line (text_standings text) ≡ [] = drop_of_length-le (text_standings text) {i = line} (omega (arith, k, h.measured.counted)) in
      sym (ap (λ (ys : List Standing). sets starts line (starts_from (declared_names text) ys places)) d) ∙ p.told

  -- one line
  pub record PlaceStep (line : ℕ) (places starts : List ℕ) : Type 0 where
    pub kind-there : line < length kinds
    pub shallow : get_or levels line 0 < 1024
    pub own-few : get_or owns line 0 ≤ 1048576
    pub row-few : get_or places (get_or levels line 0) 0 ≤ 1048576
    pub beneath-few : get_or beneath line 0 ≤ 1048576
    pub later : (o : Onward) → o ≡ onward_of (get_or kinds line 0 / 16) (get_or kinds line 0 % 16) (get_or owns line 0) (get_or places (get_or levels line 0) 0) (get_or beneath line 0)
        → Placing text starts₀ (line + 1) (set (set places (get_or levels line 0 + 1) o.beneath) (get_or levels line 0) o.later) (set starts line (get_or places (get_or levels line 0) 0))

  pub place-step : (line : ℕ) (places starts : List ℕ) → Placing text starts₀ line places starts → line < count → PlaceStep line places starts
  unfolding Room starts_from beneaths
  place-step line places starts p k =
      let names = declared_names text in
      let all = text_standings text in
      let zs = drop (suc line) all in
      let (e, l, x, d) = first-left all line (omega (arith, k, h.measured.counted)) in
      let m = h.measured.line line (standing e l x) zs d in
      let (_, (ts, w), q) = text-line text h.of-grammar line e l x zs d count kinds k h.kinds-held in
      let (r, room) = subst (λ (ys : List Standing). Room names 1024 ys places) d p.room in
      let told = subst (λ (ys : List Standing). sets starts line (starts_from names ys places) ≡ by_line starts₀ (text_starts text)) d p.told in
      let b0 : get_or beneath line 0 ≡ open_rows zs (suc l) = held_at beneaths beneath_of (λ y ys. refl) all zs (standing e l x) line count beneath h.beneath-held k d in
      let n : get_or kinds line 0 / 16 ≡ expect_number e = ap (λ (m : ℕ). m / 16) q ∙ (kind-split e (class_of x)).0 in
      let c : get_or kinds line 0 % 16 ≡ number_of (class_of x) = ap (λ (m : ℕ). m % 16) q ∙ (kind-split e (class_of x)).1 in
      let i : line + 1 ≡ suc line = omega arith in
      let j : l + 1 ≡ suc l = omega arith in
      let onward : (o : Onward) → o ≡ onward_of (get_or kinds line 0 / 16) (get_or kinds line 0 % 16) (get_or owns line 0) (get_or places l 0) (get_or beneath line 0)
      → o ≡ onward_to (row_beneath names e x (get_or places l 0)) (row_after names e x (get_or places l 0) (open_rows zs (suc l))) =
      λ o u. u
      ∙ ap₂ (λ (a b : ℕ). onward_of a b (get_or owns line 0) (get_or places l 0) (get_or beneath line 0)) n c
      ∙ ap₂ (λ (a b : ℕ). onward_of (expect_number e) (number_of (class_of x)) a (get_or places l 0) b) m.own b0
      ∙ onward-told names x w e r.beneath (get_or places l 0) (open_rows zs (suc l)) r.stands in
      let next : (o : Onward) → o ≡ onward_to (row_beneath names e x (get_or places l 0)) (row_after names e x (get_or places l 0) (open_rows zs (suc l)))
      → set (set places (l + 1) o.beneath) l o.later ≡ places_after names e l x (open_rows zs (suc l)) places =
      λ o u. ap₂ (λ (v : Onward) (a : ℕ). set (set places a v.beneath) l v.later) u j in
      let later : (o : Onward) → o ≡ onward_of (get_or kinds line 0 / 16) (get_or kinds line 0 % 16) (get_or owns line 0) (get_or places l 0) (get_or beneath line 0)
      → Placing text starts₀ (line + 1) (set (set places (l + 1) o.beneath) l o.later) (set starts line (get_or places l 0)) =
      λ o u. subst (λ (a : ℕ). Placing text starts₀ a (set (set places (l + 1) o.beneath) l o.later) (set starts line (get_or places l 0))) (sym i)
      (subst (λ (at : List ℕ). Placing text starts₀ (suc line) at (set starts line (get_or places l 0))) (sym (next o (onward o u))) (record { room = room; told = told })) in
      record {
        kind-there = m.room;
        shallow = omega (arith, m.level, m.shallow);
        own-few = omega (arith, m.own, m.whole);
        row-few = rw m.level (omega (arith, row_low names e x (get_or places l 0) (open_rows zs (suc l)) (open_rows zs l), r.ends));
        beneath-few = omega (arith, b0, m.whole);
        later = rw m.level later;
      }
