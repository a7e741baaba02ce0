-- What the loop over the lines keeps: the levels reached, the lines so far as they are listed, and that what is still to come is told as from the beginning.
use mathlib.Core.Path.{◌≡◌, refl, sym, ap, ap₂, subst, subst₂, ◌∙◌}
use mathlib.Core.Bool.{Bool, true, false}
use mathlib.Core.List.{List, [], ◌∷◌, ◌++◌, map, append-nil}
use mathlib.Core.Option
use mathlib.Core.Option.{Option, none, some, none-ne-some}
use Rattle.std.specs.Prelude as does
use Rattle.std.specs.Prelude.{Some, None, Ok, Err}
use Rattle.std.specs.Option.{ok_or}
use Prim.Native.Nat.{ℕ, zero, suc, ◌+◌, ◌≤◌, ◌<◌}
use native.Mathlib.Numerals.{add-one}
use native.Mathlib.Decide.{dec_lt}
use native.Mathlib.Omega.{arith}
use lib.IntN.{ℤ}
use lib.ListN.{length, get_or, set, take, drop, length-append, length-take, length-drop, length-set}
use lib.Seq.{append_snoc, take-suc-set, get_or-set_same, get_or-set_other}
use borrow.Author.Tests.{le-ltb}
use Rattle.meaning.specs.Basics.{if_else, with_first, all_some}
use Rattle.meaning.specs.Lines.{lines, line_size}
use Rattle.grammar.specs.Outline.{OutlineLine, Lined, lined, Levels, heads, outset, accept_line, accept_all, levels_ended, all_end}
use Rattle.grammar.specs.Classes.{class_of}
use Rattle.grammar.specs.Lines.{line_spelt}
use Rattle.grammar.specs.LineBytes.{at_level, lined_of}
use Rattle.grammar.specs.Places.{take_line, or_rest, place_from, fault_line}
use Rattle.grammar.specs.TextBytes.{IsTextLine, text_line, grammar_fault}
use Rattle.grammar.specs.TextRows.{or_none, text_lines}
use Rattle.grammar.proofs.ClassesTold as grammar-classes
use Rattle.read_tokens.specs.Held.{part, tokens_by, name_held}
use Rattle.read_classes.specs.ClassNumbers.{class_number}
use Rattle.read_classes.specs.LineClasses.{class_by_sorts}
use Rattle.read_classes.proofs.ClassLaws.{class-told}
use Rattle.read_lines.specs.declared.Listed.{Listed}
use Rattle.read_lines.specs.LineParts.{line_from}
use Rattle.read_lines.specs.LineRead.{line_written, SpeltLine, LineRead}
use Rattle.read_lines.proofs.LineLaws.{first-line, no_line, text-line}
use Rattle.read_levels.specs.declared.Step.{Step}
use Rattle.read_levels.specs.Kinds.{expect_number, kind_number, expect_at, expectations, kinds_from, kinds_of}
use Rattle.read_levels.specs.Listing.{Listing, listing, start_of, LineListed, LinesListed, TextListed, level_on, LevelsListed}
use Rattle.read_levels.specs.Steps.{Numbered, ended_to, step_at}
use Rattle.read_levels.specs.Outlines.{Room, fault_of, OutlineRead}
use Rattle.read_levels.proofs.TableTells.{class-few}
use Rattle.read_levels.proofs.LevelLaws.{Holds, expect-top, holds-numbered, ended-all}
use Rattle.read_levels.proofs.StepLaws.{taking, Taken, Stepped, refused, stands, stepped}
use Rattle.read_levels.proofs.ListingLaws.{starts, line_kept, line_before}
use Rattle.read_levels.proofs.LineSteps.{by-snoc, map_snoc, accept-snoc, kinds-snoc, level-low, start-set}

-- where a line's tokens end, how deep it stands and what its class is
pub record LineBounds (r : Listed) (sorts : List ℕ) (room first at : ℕ) : Type 0 where
  pub level-low : r.level + 2 ≤ 16386
  pub stack-room : r.level + 2 ≤ room
  pub few : r.count ≤ 32768
  pub onward : at < r.next
  pub begins : first ≤ r.count
  pub within : r.count ≤ length sorts
  pub short : length sorts ≤ 32768
  pub class-low : class_by_sorts (part sorts first r.count) < 11

-- what is there where a refusal is made of none
pub ok_some : {A : Type 0} (q : does.Option A) (e : ℕ) (x : A) → ok_or q e ≡ Ok x → q ≡ Some x
ok_some None e x h = cc
ok_some (Some y) e x h = cc

pub ok_none : {A : Type 0} (q : does.Option A) (e f : ℕ) → ok_or q e ≡ Err f → (q ≡ None) × (e ≡ f)
ok_none None e f h = (refl, cc)
ok_none (Some y) e f h = cc

-- what is still to come: where the text is at fault, and the lines
abbrev place_left : List ℕ → Levels → ℕ → ℕ → Option ℕ
place_left text k n at = place_from IsTextLine text_line (some k) n (lines (drop at text))

abbrev lines_left : List ℕ → ℕ → Option (List Lined)
lines_left text at = all_some (map text_line (lines (drop at text)))

-- so many lines are read, up to a place: the levels that they leave open, as the stack holds them, and the lines as the lists hold them
pub record Outlining (text levels₀ : List ℕ) (g₀ : Listing) (stack₀ levels : List ℕ) (g : Listing) (stack : List ℕ) (depth count first at : ℕ) : Type 0 where
  pub opened : Levels
  pub done : List Lined
  pub deep : length opened ≡ depth
  pub few : depth ≤ 16386
  pub holds : Holds stack opened
  pub stack-long : length stack ≡ length stack₀
  pub levels-long : length levels ≡ length levels₀
  pub kinds-long : length g.kinds ≡ length g₀.kinds
  pub ends-long : length g.ends ≡ length g₀.ends
  pub sorts-long : length g.sorts ≡ length g₀.sorts
  pub values-long : length g.values ≡ length g₀.values
  pub so_far : count ≤ at
  pub packed : first ≤ at
  pub inside : at ≤ length text
  pub begins : start_of g.ends count ≡ first
  pub ended : (j : ℕ) → j < count → get_or g.ends j 0 ≤ first
  pub taken : accept_all outset done ≡ some opened
  pub listed : LinesListed (name_held text) (λ t. t) done count g
  pub levelled : take count levels ≡ map level_on done
  pub place-left : place_left text opened (suc count) at ≡ fault_line IsTextLine text_line (lines text)
  pub lines_left_lem : (ls : List Lined) → lines_left text at ≡ some ls → lines_left text 0 ≡ some (done ++ ls)

-- The line at a place -----------------------------------------------------------------------------------------------------------------

-- it is not taken
left-none : (text : List ℕ) (k : Levels) (n at : ℕ) → at < length text → take_line IsTextLine text_line (some k) (text_line (line_from text at)) ≡ none → place_left text k n at ≡ some n
unfolding place_from or_rest
left-none text k n at h t = rw (first-line text at h, t)

-- it is taken
left-some : (text : List ℕ) (k later : Levels) (n at : ℕ) → at < length text → take_line IsTextLine text_line (some k) (text_line (line_from text at)) ≡ some later
    → place_left text k n at ≡ place_left text later (suc n) (at + line_size (drop at text))
unfolding place_from or_rest
left-some text k later n at h t = rw (first-line text at h, t)

-- no line is left
left_end : (text : List ℕ) (k : Levels) (n at : ℕ) → length text ≤ at → place_left text k n at ≡ if_else (all_end k) none (some n)
unfolding place_from levels_ended
left_end text k n at h = rw (no_line text at h)

-- the lines with it
lines-first : (text : List ℕ) (at : ℕ) (y : Lined) (ls : List Lined) → at < length text → text_line (line_from text at) ≡ some y → lines_left text (at + line_size (drop at text)) ≡ some ls
    → lines_left text at ≡ some (y ∷ ls)
unfolding all_some
lines-first text at y ls h e f =
    ap (λ (bs : List (List ℕ)). all_some (map text_line bs)) (first-line text at h)
    ∙ ap (λ (o : Option Lined). all_some (o ∷ map text_line (lines (drop (at + line_size (drop at text)) text)))) e
    ∙ ap (with_first y) f

-- The loop ----------------------------------------------------------------------------------------------------------------------------

module _ (text : List ℕ) (levels₀ : List ℕ) (g₀ : Listing) (room : Room (length text) levels₀ g₀) where
  pub short : length text ≤ 32768
  short = let a = room.sorts-long in let b = room.short in omega arith

  fault-is : grammar_fault text ≡ fault_line IsTextLine text_line (lines text)
  unfolding grammar_fault
  fault-is = rw (le-ltb 32768 (length text) short)

  pub outlining-starts : (stack : List ℕ) → 16386 ≤ length stack → Outlining text levels₀ g₀ (set stack 0 6) levels₀ g₀ (set stack 0 6) 1 0 0 0
  unfolding fault_line start_of accept_all kinds_of kinds_from expectations
  outlining-starts stack w =
      record {
        opened = heads ∷ [];
        done = [];
        deep = refl;
        few = omega arith;
        holds = λ i h. let e : i ≡ 0 = omega arith in rw e (get_or-set_same stack 0 6 0 (omega arith) ∙ ap expect_number (sym (expect-top heads [])));
        stack-long = refl;
        levels-long = refl;
        kinds-long = refl;
        ends-long = refl;
        sorts-long = refl;
        values-long = refl;
        so_far = omega arith;
        packed = omega arith;
        inside = omega arith;
        begins = refl;
        ended = λ j h. absurd (omega arith);
        taken = refl;
        listed =
            record {
              counted = refl;
              kinds-held = refl;
              line = λ j l x rest e. absurd (none-there j (lined l x) rest e);
              kinds-long = omega arith;
              ends-long = omega arith;
              even = room.even;
              short = room.short;
            };
        levelled = refl;
        place-left = refl;
        lines_left_lem = λ ls e. e;
      }
    where
      none-there : (j : ℕ) (y : Lined) (rest : List Lined) → drop j [] ≡ y ∷ rest → ⊥
      none-there zero y rest e = let z : ◌≡◌ {A = ℕ} 0 (suc (length rest)) = ap length e in omega arith
      none-there (suc j) y rest e = let z : ◌≡◌ {A = ℕ} 0 (suc (length rest)) = ap length e in omega arith

  module _ (stack₀ levels : List ℕ) (g : Listing) (stack : List ℕ) (depth count first at : ℕ) (o : Outlining text levels₀ g₀ stack₀ levels g stack depth count first at) where
    -- the text is at fault where what is still to come is
    fault-left : grammar_fault text ≡ place_left text o.opened (suc count) at
    fault-left = fault-is ∙ sym o.place-left

    -- the stack holds the levels
    pub levels-ready : 16386 ≤ length stack₀ → (depth ≤ length stack) × Numbered stack depth
    levels-ready roomy =
        let l = o.stack-long in
        let f = o.few in
        (omega arith, subst (Numbered stack) o.deep (holds-numbered stack o.opened o.holds))

    -- the lists have room for one line more
    pub count_fits : at < length text → (count < 32768) × (count < length g.kinds) × (count < length levels) × (count < length g.ends)
    count_fits more =
        let f = o.so_far in
        let s = short in
        (omega (arith, f, s), omega (arith, f, room.kinds-long, o.kinds-long), omega (arith, f, room.levels-long, o.levels-long), omega (arith, f, room.ends-long, o.ends-long))

    -- no line is left
    module _ (end : length text ≤ at) where
      fault-at-end : (t : Bool) → t ≡ ended_to stack 0 depth → grammar_fault text ≡ if_else t none (some (count + 1))
      fault-at-end t e =
          let a : all_end o.opened ≡ t = sym (e ∙ ap (ended_to stack 0) (sym o.deep) ∙ ended-all stack o.opened o.holds) in
          fault-left ∙ left_end text o.opened (suc count) at end ∙ ap₂ (λ (t : Bool) (n : ℕ). if_else t none (some n)) a (sym (add-one count))

      -- the lines are those of the text
      all_done : o.done ≡ text_lines text
      unfolding text_lines all_some
      all_done =
          let none_left : lines_left text at ≡ some [] = ap (λ (bs : List (List ℕ)). all_some (map text_line bs)) (no_line text at end) in
          sym (ap or_none (o.lines_left_lem [] none_left) ∙ append-nil o.done)

      -- all levels may end
      pub outlining-ends : true ≡ ended_to stack 0 depth → OutlineRead text (Ok count) levels g
      outlining-ends e =
          record {
            place = fault-at-end true e;
            listed = λ n i.
                let k : count ≡ n = cc in
                let t : TextListed text count g = record { of-grammar = fault-at-end true e; lines = subst (λ (ls : List Lined). LinesListed (name_held text) (λ t. t) ls count g) all_done o.listed } in
                let m : LevelsListed (text_lines text) count levels = record { held = o.levelled ∙ ap (map level_on) all_done; long = omega (arith, o.so_far, o.inside, o.levels-long, room.levels-long) } in
                subst (λ (n : ℕ). TextListed text n g × LevelsListed (text_lines text) n levels) k (t, m);
          }

    -- a text that is at fault
    faulty : (m : ℕ) → grammar_fault text ≡ some m → (levels : List ℕ) (g : Listing) → OutlineRead text (Err m) levels g
    faulty m e levels g = record { place = e; listed = λ n i. absurd (none-ne-some m (sym (ap fault_of i))) }

    -- a level may not end
    pub outlining-unended : length text ≤ at → false ≡ ended_to stack 0 depth → OutlineRead text (Err (count + 1)) levels g
    outlining-unended end e = faulty (count + 1) (fault-at-end end false e) levels g

    -- the line is not spelt
    pub outlining-unspelt : at < length text → line_written (line_from text at) ≡ none → (levels : List ℕ) (g : Listing) → OutlineRead text (Err (count + 1)) levels g
    unfolding take_line
    outlining-unspelt more h =
        faulty (count + 1)
        (fault-left
        ∙ left-none text o.opened (suc count) at more (ap (take_line IsTextLine text_line (some o.opened)) (text-line (line_from text at) ∙ ap lined_of h))
        ∙ ap some (sym (add-one count)))

    module _ (more : at < length text) (roomy : 16386 ≤ length stack₀) (q : does.Option Listed) (sorts : List ℕ) (values : List ℤ) (read : LineRead text at first g.sorts g.values q sorts values)
        (r : Listed) (there : q ≡ Some r) where
      abbrev here : SpeltLine text at first r sorts values
      here = read.read r there

      -- the line by its tokens
      line-told : text_line (line_from text at) ≡ at_level r.level (line_spelt here.tokens)
      line-told = text-line (line_from text at) ∙ ap lined_of here.is-written

      class-is : class_by_sorts (part sorts first r.count) ≡ class_number (Option.map class_of (line_spelt here.tokens))
      class-is = ap class_by_sorts here.sorts-held ∙ class-told here.tokens ∙ ap class_number (sym (grammar-classes.class-told here.tokens))

      -- the stack is deep enough for it
      level-fits : r.level + 2 ≤ 16386
      level-fits =
          let a = level-low (line_from text at) r.level here.tokens here.is-written in
          let b = length-take (line_size (drop at text)) (drop at text) in
          let c = length-drop at text in
          let d = short in
          omega (arith, a, b, c, d)

      -- its tokens are within the lists
      tokens-fit : (first ≤ r.count) × (r.count ≤ length sorts)
      tokens-fit = let c = here.counted in (omega (arith, c), omega (arith, here.few, here.inside.1, room.sorts-long, o.sorts-long, read.sorts-length))

      -- what is put is within its bounds, and the class is asked for what is there
      pub bounded : LineBounds r sorts (length stack) first at
      bounded =
          let d = short in
          let f = class-few (Option.map class_of (line_spelt here.tokens)) in
          record {
            level-low = level-fits;
            stack-room = omega (arith, level-fits, roomy, o.stack-long);
            few = omega (arith, here.few, here.inside.1, d);
            onward = here.inside.0;
            begins = tokens-fit.0;
            within = tokens-fit.1;
            short = omega (arith, room.short, o.sorts-long, read.sorts-length);
            class-low = omega (arith, class-is, f);
          }

      module _ (class : ℕ) (classed : class ≡ class_by_sorts (part sorts first r.count)) (w : does.Option Step) (told : w ≡ step_at stack depth r.level class) where
        steps : Stepped stack o.opened r.level (line_spelt here.tokens) w
        steps =
            stepped stack o.opened r.level o.holds (omega (arith, level-fits, roomy, o.stack-long)) (line_spelt here.tokens) w
            (told ∙ ap₂ (λ (d c : ℕ). step_at stack d r.level c) (sym o.deep) (classed ∙ class-is))

        -- the line is not taken
        pub outlining-refused : w ≡ None → (levels : List ℕ) (g : Listing) → OutlineRead text (Err (count + 1)) levels g
        unfolding take_line
        outlining-refused b =
            faulty (count + 1)
            (fault-left
            ∙ left-none text o.opened (suc count) at more (ap (take_line IsTextLine text_line (some o.opened)) line-told ∙ by-step (line_spelt here.tokens) steps)
            ∙ ap some (sym (add-one count)))
          where
            by-step : (p : Option OutlineLine) → Stepped stack o.opened r.level p w → taking o.opened r.level p ≡ none
            by-step p (refused _ t) = t
            by-step p (stands x _ t u _) = let z : None ≡ Some t = sym b ∙ u in cc

        -- the line is taken
        module _ (s : Step) (b : w ≡ Some s) where
          abbrev Later : Listing
          Later = listing (set g.kinds count s.kind) (set g.ends count r.count) sorts values

          -- each line is listed after it, the line itself among them
          listed-later : (x : OutlineLine) → line_spelt here.tokens ≡ some x → s.kind ≡ kind_number (expect_at o.opened r.level) (class_of x)
              → LinesListed (name_held text) (λ t. t) (o.done ++ (lined r.level x ∷ [])) (suc count) Later
          listed-later x e k =
              let y = lined r.level x in
              let (_, kinds-room, _, ends-room) = count_fits more in
              let n = length-append o.done (y ∷ []) in
              record {
                counted = omega (arith, n, o.listed.counted);
                kinds-held =
                    take-suc-set g.kinds count s.kind kinds-room
                    ∙ ap₂ (λ (ks : List ℕ) (k : ℕ). ks ++ (k ∷ [])) o.listed.kinds-held k
                    ∙ sym (kinds-snoc r.level x o.opened o.done o.taken);
                line = λ j l z rest d. by-snoc o.done y There before (subst (λ (j : ℕ). There j y) o.listed.counted last) j (lined l z) rest d;
                kinds-long = let a = length-set g.kinds count s.kind in omega (arith, a, kinds-room);
                ends-long = let a = length-set g.ends count r.count in omega (arith, a, ends-room);
                even = read.sorts-length ∙ o.listed.even ∙ sym read.values_length;
                short = omega (arith, read.sorts-length, o.listed.short);
              }
            where
              There : ℕ → Lined → Type 0
              There j (lined l z) = LineListed (name_held text) (λ t. t) z j Later.ends sorts values

              before : (j : ℕ) (y : Lined) (rest : List Lined) → drop j o.done ≡ y ∷ rest → There j y
              before j (lined l z) rest d =
                  let i = line_before o.listed j l z rest d in
                  line_kept (o.listed.line j l z rest d) Later.ends sorts values
                  (start-set g.ends count j r.count (omega arith))
                  (get_or-set_other g.ends count j r.count 0 (λ q. omega arith))
                  first (o.ended j i) read.sorts-kept read.values-kept read.sorts-length

              last : There count (lined r.level x)
              last =
                  let a : start_of Later.ends count ≡ first = start-set g.ends count count r.count (omega arith) ∙ o.begins in
                  let b : get_or Later.ends count 0 ≡ r.count = get_or-set_same g.ends count r.count 0 (count_fits more).3 in
                  let (i, w) = tokens-fit in
                  record {
                    tokens = here.tokens;
                    spelt = e;
                    sorts-held = ap₂ (λ (a b : ℕ). part sorts a b) a b ∙ here.sorts-held;
                    values-held = ap₂ (λ (a b : ℕ). tokens_by (name_held text) (part sorts a b) (part values a b)) a b ∙ here.values-held;
                    begins = omega (arith, a, b, i);
                    within = omega (arith, b, w);
                  }

          -- one line more
          pub outlining-goes-on : Outlining text levels₀ g₀ stack₀ (set levels count r.level) Later
              (set (set stack r.level s.after) (r.level + 1) s.beneath) (r.level + 2) (count + 1) r.count r.next
          unfolding take_line accept_line
          outlining-goes-on = go (line_spelt here.tokens) refl steps
            where
              ends_low : get_or Later.ends count 0 ≡ r.count → (j : ℕ) → Dec (j < count) → j < suc count → get_or Later.ends j 0 ≤ r.count
              ends_low put j (yes i) h = let a = get_or-set_other g.ends count j r.count 0 (λ q. omega arith) in let b = o.ended j i in let c = tokens-fit.0 in omega (arith, a, b, c)
              ends_low put j (no i) h = let e : j ≡ count = omega arith in rw e (omega (arith, put))

              onward : (x : OutlineLine) → line_spelt here.tokens ≡ some x → Taken stack o.opened r.level x s
                  → Outlining text levels₀ g₀ stack₀ (set levels count r.level) Later (set (set stack r.level s.after) (suc r.level) s.beneath) (r.level + 2) (suc count) r.count r.next
              onward x e t =
                  let y = lined r.level x in
                  let is : text_line (line_from text at) ≡ some y = line-told ∙ ap (at_level r.level) e in
                  let after : take_line IsTextLine text_line (some o.opened) (text_line (line_from text at)) ≡ some t.later = ap (take_line IsTextLine text_line (some o.opened)) is ∙ t.taken in
                  let (_, _, levels-room, ends-room) = count_fits more in
                  let put = get_or-set_same g.ends count r.count 0 ends-room in
                  record {
                    opened = t.later;
                    done = o.done ++ (y ∷ []);
                    deep = let d = t.deep in omega arith;
                    few = level-fits;
                    holds = t.holds;
                    stack-long = length-set (set stack r.level s.after) (suc r.level) s.beneath ∙ length-set stack r.level s.after ∙ o.stack-long;
                    levels-long = length-set levels count r.level ∙ o.levels-long;
                    kinds-long = length-set g.kinds count s.kind ∙ o.kinds-long;
                    ends-long = length-set g.ends count r.count ∙ o.ends-long;
                    sorts-long = read.sorts-length ∙ o.sorts-long;
                    values-long = read.values_length ∙ o.values-long;
                    so_far = omega (arith, o.so_far, here.inside.0);
                    packed = here.few;
                    inside = here.inside.1;
                    begins = starts Later.ends count ∙ put;
                    ended = λ j h. ends_low put j (dec_lt j count) h;
                    taken = accept-snoc o.done outset y ∙ ap (λ (k : Option Levels). accept_line k y) o.taken ∙ t.taken;
                    listed = listed-later x e t.told;
                    levelled = take-suc-set levels count r.level levels-room ∙ ap (λ (ks : List ℕ). ks ++ (r.level ∷ [])) o.levelled ∙ sym (map_snoc level_on o.done y);
                    place-left = ap (place_left text t.later (suc (suc count))) here.next-is ∙ sym (left-some text o.opened t.later (suc count) at more after) ∙ o.place-left;
                    lines_left_lem = λ ls f. o.lines_left_lem (y ∷ ls) (lines-first text at y ls more is (ap (lines_left text) (sym here.next-is) ∙ f)) ∙ ap some (sym (append_snoc o.done y ls));
                  }

              go : (q : Option OutlineLine) → line_spelt here.tokens ≡ q → Stepped stack o.opened r.level q w
                  → Outlining text levels₀ g₀ stack₀ (set levels count r.level) Later (set (set stack r.level s.after) (r.level + 1) s.beneath) (r.level + 2) (count + 1) r.count r.next
              go q e (refused z _) = let y : None ≡ Some s = sym z ∙ b in cc
              go q e (stands x i u j t) =
                  let z : Some u ≡ Some s = sym j ∙ b in
                  let same : u ≡ s = cc in
                  subst₂ (λ (j n : ℕ). Outlining text levels₀ g₀ stack₀ (set levels count r.level) Later (set (set stack r.level s.after) j s.beneath) (r.level + 2) n r.count r.next)
                  (sym (add-one r.level))
                  (sym (add-one count))
                  (onward x (e ∙ i) (subst (Taken stack o.opened r.level x) same t))
