-- Whether names are in order, line by line.
use mathlib.Core.Path.{◌≡◌, refl, sym, ap, ap₂, subst, ◌∙◌}
use mathlib.Core.Bool.{Bool, true, false}
use mathlib.Core.List.{List, ◌∷◌, ◌++◌, map}
use mathlib.Core.Option.{Option, none, some}
use Prim.Native.Nat.{ℕ, zero, suc, ◌+◌, ◌-◌, ◌%◌, ◌≤◌, ◌<◌}
use native.Mathlib.Omega.{arith}
use native.Mathlib.Numerals.{add-one}
use native.Mathlib.Decide.{dec_lt}
use lib.IntN.{ℤ}
use lib.ListN.{length, get_or, take, drop, length-drop}
use lib.Seq.{length-take-le, drop-drop}
use lib.Dec.{leb}
use borrow.Author.Tests.{leb-true, leb-false}
use Rattle.meaning.specs.Basics.{if_else, lowest_from, lowest}
use Rattle.grammar.specs.Outline.{Declaration, OutlineLine, declare, Lined, lined}
use Rattle.grammar.specs.Names.{declaration_in, misnamed, names_fault}
use Rattle.grammar.specs.TextRows.{if_declared, declarations, text_lines}
use Rattle.grammar.specs.Classes.{class_of}
use Rattle.read_tokens.specs.Held.{part, name_held, name_of_row, tokens_held, tokens_resolved, row_limit}
use Rattle.read_classes.specs.ClassNumbers.{number_of}
use Rattle.read_levels.specs.Listing.{listing, start_of, sorts_on, LineListed, LinesListed, TextListed}
use Rattle.read_levels.proofs.ListingLaws.{rest-after, starts, starts_first, tokens-counted, line_kept, line-there, line_before, no-line-left, class-at, start-within}
use Rattle.read_names.specs.Listed.{names_at}
use Rattle.read_names.specs.Keys.{Indexed}
use Rattle.read_resolved.specs.Resolved.{resolved_token, declared_names, TextResolved}
use Rattle.read_declared.specs.Declarations.{in_order, Declared}
use Rattle.read_declared.proofs.OrderLaws.{in_order_lem, no-more-than-lines}
use Rattle.read_declared.proofs.KindLaws.{declares-below, declares-not}
use Rattle.read_uses.specs.Misuses.{tokens_misnamed}
use Rattle.read_uses.specs.Places.{place_of}
use Rattle.read_uses.specs.Resolving.{resolved_chunk, NamesKnown, LineHeld, LineChecked}
use Rattle.std.specs.Prelude.{Ok, Err}
use Rattle.read_uses.proofs.PartLaws.{replaced-before, replaced-part, replaced-after, replaced-length}
use Rattle.read_uses.proofs.LineLaws.{spelt-some, resolved-map, line-told, counted-after}

-- The loop ---------------------------------------------------------------------------------------------------------------------------

module _ (text : List ℕ) (count : ℕ) (kinds ends sorts : List ℕ) (vs : List ℤ) where
  abbrev ls : List Lined
  ls = text_lines text

  abbrev ds : List Declaration
  ds = declarations ls

  -- names are in order on the lines before one, and resolved
  pub record Checking (line first seen : ℕ) (ws : List ℤ) : Type 0 where
    pub inside : line ≤ count
    pub begins : first ≡ start_of ends line
    pub counted : seen ≡ length (in_order (take line ls))
    pub fault : names_fault ls ≡ lowest_from (misnamed ls) (suc line) (length (drop line ls))
    pub same_length : length ws ≡ length vs
    pub left : drop first ws ≡ drop first vs
    pub done : (j l : ℕ) (x : OutlineLine) (rest : List Lined) → drop j ls ≡ lined l x ∷ rest → j < line → LineListed name_of_row (resolved_token (declared_names text)) x j ends sorts ws
    pub ended : (j : ℕ) → j < line → get_or ends j 0 ≤ first

  module _ (t : TextListed text count (listing kinds ends sorts vs)) where
    abbrev all : LinesListed (name_held text) (λ u. u) ls count (listing kinds ends sorts vs)
    all = t.lines

    pub checking-start : Checking 0 0 0 vs
    unfolding in_order names_fault lowest lowest_from
    checking-start =
        record {
          inside = omega arith;
          begins = sym (starts_first ends);
          counted = refl;
          fault = refl;
          same_length = refl;
          left = refl;
          done = λ j l x rest e h. absurd (omega (arith, h));
          ended = λ j h. absurd (omega (arith, h));
        }

    -- each line has a token
    later-starts : (j : ℕ) → j ≤ count → j ≤ start_of ends j
    later-starts zero h = omega arith
    later-starts (suc j) h =
        let (l, x, rest, e) = line-there all j (omega arith) in
        let u = all.line j l x rest e in
        let n = tokens-counted u in
        let s = spelt-some u.tokens x u.spelt in
        let i = later-starts j (omega arith) in
        let q = starts ends j in
        omega (arith, n, s, i, q)

    few-lines : count ≤ 32768
    few-lines =
        let a = later-starts count (omega arith) in
        let b = start-within all count (omega arith) in
        let c = all.short in
        omega (arith, a, b, c)

    few-declared : length ds ≤ row_limit
    few-declared =
        let a = ap length (in_order_lem text t.of-grammar) in
        let b = no-more-than-lines ls in
        let c = all.counted in
        let d = few-lines in
        omega (arith, a, b, c, d)

    pub names-known : (froms sizes roles heads nexts : List ℕ) → Declared text froms sizes roles → Indexed (names_at text froms sizes) heads nexts → NamesKnown text froms sizes roles heads nexts
    names-known froms sizes roles heads nexts d i = (d, i, few-declared)

    module _ (line first seen : ℕ) (ws : List ℤ) (g : Checking line first seen ws) where
      -- no line is left
      pub none_left : count ≤ line → Ok tt ≡ place_of (names_fault ls)
      unfolding lowest_from
      none_left k =
          let i = g.inside in
          let e : line ≡ count = omega (arith, i, k) in
          sym (ap place_of (g.fault ∙ ap (λ (ms : List Lined). lowest_from (misnamed ls) (suc line) (length ms)) (ap (λ (n : ℕ). drop n ls) e ∙ no-line-left all)))

      pub all-resolved : count ≤ line → TextResolved text count (listing kinds ends sorts ws)
      all-resolved k =
          let n = g.same_length in
          let v = all.even in
          record {
            of-grammar = t.of-grammar;
            lines = record {
              counted = all.counted;
              kinds-held = all.kinds-held;
              line = λ j l x rest e. let b = line_before all j l x rest e in g.done j l x rest e (omega (arith, b, k));
              kinds-long = all.kinds-long;
              ends-long = all.ends-long;
              even = omega (arith, v, n);
              short = all.short;
            };
          }

      module _ (k : line < count) where
        abbrev end : ℕ
        end = get_or ends line 0

        abbrev level : ℕ
        level = (line-there all line k).0

        abbrev here : OutlineLine
        here = (line-there all line k).1

        abbrev rest : List Lined
        rest = (line-there all line k).2

        there-is : drop line ls ≡ lined level here ∷ rest
        there-is = (line-there all line k).3

        listed : LineListed (name_held text) (λ u. u) here line ends sorts vs
        listed = all.line line level here rest there-is

        -- the places of the line, and numbers that are small
        pub record AtLine : Type 0 where
          pub in-kinds : line < length kinds
          pub in-ends : line < length ends
          pub begins : first ≤ end
          pub in-sorts : end ≤ length sorts
          pub in-values : end ≤ length ws
          pub early : first ≤ 32768
          pub small : line < 32768
          pub few : seen ≤ line

        pub at-line : AtLine
        at-line =
            let a = all.kinds-long in
            let b = all.ends-long in
            let c = listed.begins in
            let d = g.begins in
            let e = listed.within in
            let f = all.even in
            let i = g.same_length in
            let l = few-lines in
            let m = no-more-than-lines (take line ls) in
            let n = length-take-le line ls (let q = all.counted in omega (arith, q, k)) in
            let s = g.counted in
            record {
              in-kinds = omega (arith, a, k);
              in-ends = omega (arith, b, k);
              begins = omega (arith, c, d);
              in-sorts = e;
              in-values = omega (arith, e, f, i);
              early = let r = all.short in omega (arith, c, d, e, r);
              small = omega (arith, l, k);
              few = omega (arith, m, n, s);
            }

        -- its tokens
        abbrev ss : List ℕ
        ss = part sorts first end

        abbrev us : List ℤ
        us = part ws first end

        sorts-here : ss ≡ sorts_on ends sorts line
        sorts-here = ap (λ (a : ℕ). part sorts a end) g.begins

        held-here : tokens_held text ss us ≡ map some listed.tokens
        held-here = ap₂ (tokens_held text) sorts-here (ap (take (end - first)) g.left ∙ ap (λ (a : ℕ). part vs a end) g.begins) ∙ listed.values-held

        values_length : length us ≡ end - first
        values_length =
            let f = at-line in
            let b = f.begins in
            let i = f.in-values in
            length-take-le (end - first) (drop first ws) (let l = length-drop first ws in omega (arith, l, i, b))

        sorts-length : length ss ≡ end - first
        sorts-length =
            let f = at-line in
            let b = f.begins in
            let i = f.in-sorts in
            length-take-le (end - first) (drop first sorts) (let l = length-drop first sorts in omega (arith, l, i, b))

        pub line-held : LineHeld text ss us
        line-held = (sorts-length ∙ sym values_length, (listed.tokens, held-here))

        -- by the line's kind
        abbrev declaring : Bool
        declaring = leb (get_or kinds line 0 % 16) 2

        class-here : get_or kinds line 0 % 16 ≡ number_of (class_of here)
        class-here = class-at all line level here rest there-is

        declares-told : declaring ≡ true → (d : Declaration) × (here ≡ declare d)
        declares-told e = let w = class-here in let l = leb-true (get_or kinds line 0 % 16) 2 e in declares-below here (omega (arith, w, l))

        declares-nothing : declaring ≡ false → declaration_in here ≡ none
        declares-nothing e = let w = class-here in let l = leb-false (get_or kinds line 0 % 16) 2 e in declares-not here (omega (arith, w, l))

        misnamed-here : tokens_misnamed ds declaring seen (map some listed.tokens) ≡ misnamed ls (suc line)
        misnamed-here =
            line-told text t.of-grammar line seen level here rest there-is g.counted listed.tokens listed.spelt declaring declares-told declares-nothing

        declared-more : length (in_order (take (suc line) ls)) ≡ seen + length (if_declared (declaration_in here))
        declared-more = counted-after text t.of-grammar line seen level here rest there-is g.counted listed.tokens listed.spelt

        module _ (b : Bool) (ys : List ℤ) (r : LineChecked text declaring seen ss us b ys) where
          -- the first line that is misnamed, by this one and those after it
          fault-next : names_fault ls ≡ if_else b (some (suc line)) (lowest_from (misnamed ls) (suc (suc line)) (length rest))
          unfolding lowest_from
          fault-next =
              g.fault
              ∙ ap (λ (ms : List Lined). lowest_from (misnamed ls) (suc line) (length ms)) there-is
              ∙ ap (λ (p : Bool). if_else p (some (suc line)) (lowest_from (misnamed ls) (suc (suc line)) (length rest)))
              (sym (r.told ∙ ap (tokens_misnamed ds declaring seen) held-here ∙ misnamed-here))

          -- names are not in order on it
          pub fault-here : b ≡ true → Err (line + 1) ≡ place_of (names_fault ls)
          fault-here e =
              ap (λ (n : ℕ). Err n) (add-one line)
              ∙ sym (ap place_of (fault-next ∙ ap (λ (p : Bool). if_else p (some (suc line)) (lowest_from (misnamed ls) (suc (suc line)) (length rest))) e))

          abbrev new : List ℤ
          new = take first ws ++ (ys ++ drop (end - first) (drop first ws))

          part_length : length ys ≡ end - first
          part_length = r.same_length ∙ values_length

          pub new-length : length new ≡ length vs
          new-length = let f = at-line in replaced-length ws ys first end f.begins f.in-values part_length ∙ g.same_length

          -- they are: its names are resolved
          resolved-here : b ≡ false → LineListed name_of_row (resolved_token (declared_names text)) here line ends sorts new
          resolved-here e =
              let f = at-line in
              record {
                tokens = listed.tokens;
                spelt = listed.spelt;
                sorts-held = listed.sorts-held;
                values-held =
                    ap₂ tokens_resolved (sym sorts-here) (ap (λ (a : ℕ). part new a end) (sym g.begins) ∙ replaced-part ws ys first end f.begins f.in-values part_length)
                    ∙ r.resolved e
                    ∙ ap (map (resolved_chunk (declared_names text))) held-here
                    ∙ resolved-map (declared_names text) listed.tokens;
                begins = listed.begins;
                within = listed.within;
              }

          resolved-each : b ≡ false → (j l : ℕ) (x : OutlineLine) (later : List Lined) → drop j ls ≡ lined l x ∷ later → j < suc line
              → LineListed name_of_row (resolved_token (declared_names text)) x j ends sorts new
          resolved-each e j l x later q i = go (dec_lt j line)
            where
              go : Dec (j < line) → LineListed name_of_row (resolved_token (declared_names text)) x j ends sorts new
              go (yes h) =
                  let f = at-line in
                  line_kept (g.done j l x later q h) ends sorts new refl refl first (g.ended j h) refl (replaced-before ws ys first end f.begins f.in-values part_length) refl
              go (no h) =
                  let same : j ≡ line = omega (arith, h, i) in
                  let z : here ≡ x = same_line (sym there-is ∙ ap (λ (n : ℕ). drop n ls) (sym same) ∙ q) in
                  subst (λ (n : ℕ). LineListed name_of_row (resolved_token (declared_names text)) x n ends sorts new) (sym same)
                  (subst (λ (y : OutlineLine). LineListed name_of_row (resolved_token (declared_names text)) y line ends sorts new) z (resolved-here e))
                where
                  same_line : {l m : ℕ} {x y : OutlineLine} {ps qs : List Lined} → lined l x ∷ ps ≡ lined m y ∷ qs → x ≡ y
                  same_line e = cc

          -- what is left
          next : b ≡ false → (n : ℕ) → n ≡ length (in_order (take (suc line) ls)) → Checking (line + 1) end n new
          next e n c =
              let f = at-line in
              subst (λ (i : ℕ). Checking i end n new) (sym (add-one line))
              (record {
                inside = k;
                begins = sym (starts ends line);
                counted = c;
                fault =
                    fault-next
                    ∙ ap (λ (p : Bool). if_else p (some (suc line)) (lowest_from (misnamed ls) (suc (suc line)) (length rest))) e
                    ∙ ap (λ (ms : List Lined). lowest_from (misnamed ls) (suc (suc line)) (length ms)) (sym (rest-after ls line (lined level here) rest there-is));
                same_length = new-length;
                left =
                    replaced-after ws ys first end f.begins f.in-values part_length ∙ later-left f.begins;
                done = resolved-each e;
                ended = λ j h. ended_by j h (dec_lt j line);
              })
            where
              later-left : first ≤ end → drop end ws ≡ drop end vs
              later-left h =
                  let q : first + (end - first) ≡ end = omega (arith, h) in
                  ap (λ (m : ℕ). drop m ws) (sym q) ∙ sym (drop-drop (end - first) first ws) ∙ ap (drop (end - first)) g.left ∙ drop-drop (end - first) first vs ∙ ap (λ (m : ℕ). drop m vs) q

              ended_by : (j : ℕ) → j < suc line → Dec (j < line) → get_or ends j 0 ≤ end
              ended_by j h (yes i) = let a = g.ended j i in let w = at-line.begins in omega (arith, a, w)
              ended_by j h (no i) = let same : j ≡ line = omega (arith, h, i) in let z = ap (λ (m : ℕ). get_or ends m 0) same in omega (arith, z)

          pub checking-declared : b ≡ false → declaring ≡ true → Checking (line + 1) end (seen + 1) new
          checking-declared e f =
              let (d, q) = declares-told f in
              let c : length (if_declared (declaration_in here)) ≡ 1 = ap (λ (x : OutlineLine). length (if_declared (declaration_in x))) q in
              let w = declared-more in
              next e (seen + 1) (omega (arith, c, w))

          pub checking-other : b ≡ false → declaring ≡ false → Checking (line + 1) end seen new
          checking-other e f =
              let c : length (if_declared (declaration_in here)) ≡ 0 = ap (λ (o : Option Declaration). length (if_declared o)) (declares-nothing f) in
              let w = declared-more in
              next e seen (omega (arith, c, w))

-- the same with a count that is as said
pub checking-same : {text : List ℕ} {count : ℕ} {kinds ends sorts : List ℕ} {vs : List ℤ} {line first m n : ℕ} {ws : List ℤ} → m ≡ n → Checking text count kinds ends sorts vs line first n ws → Checking text count kinds ends sorts vs line first m ws
checking-same {text} {count} {kinds} {ends} {sorts} {vs} {line} {first} {ws = ws} e x = subst (λ (m : ℕ). Checking text count kinds ends sorts vs line first m ws) (sym e) x
