-- The declarations of a text listed line by line, and their rows.
use mathlib.Core.Path.{◌≡◌, refl, sym, ap, ap₂, subst₂, ◌∙◌}
use mathlib.Core.List.{List, [], ◌∷◌, ◌++◌, map, flatten, map-append, append-nil}
use mathlib.Core.Option.{Option}
use Prim.Native.Nat.{ℕ, ◌+◌, ◌*◌, ◌/◌, ◌%◌, ◌≤◌, ◌<◌}
use native.Mathlib.Omega.{arith}
use native.Mathlib.Numerals.{add-one}
use lib.IntN.{ℤ}
use lib.ListN.{length, get_or, set, take, length-append}
use lib.Seq.{length-take-le, take-length, take-suc-set, sets, length-sets}
use Rattle.grammar.specs.Outline.{Declaration}
use Rattle.grammar.specs.Names.{name_of}
use Rattle.grammar.specs.TextRows.{if_declared, declarations, text_lines}
use Rattle.read_table.specs.TableRead.{past}
use Rattle.read_tokens.specs.Held.{part, name_of_row}
use Rattle.read_names.specs.Listed.{name_at, names_at}
use Rattle.read_levels.specs.Listing.{Listing, start_of, TextListed, SomeTextListed}
use Rattle.read_levels.proofs.ListingLaws.{starts, starts_first}
use Rattle.read_resolved.specs.Resolved.{resolved_token, declared_names, TextResolved}
use Rattle.read_declared.specs.Firsts.{name_in}
use Rattle.read_declared.specs.Declarations.{in_order, row_listed, role_number, role_listed, HasMark, Listable, GatheredFrom, RoomForRows, RowsPut}
use Rattle.read_declared.proofs.OrderLaws.{in_order_lem}
use Rattle.read_declared.proofs.DeclaredLines.{order-more, order-within, DeclaredLine, declared-line, OtherLine, other-line, listed-line}
use Rattle.read_declared.proofs.RowSteps.{rows_of, rows_written}

-- the declarations up to a line
abbrev up_to : List ℕ → ℕ → List Declaration
up_to text line = in_order (take line (text_lines text))

-- a line that declares nothing is passed
same-order : (text : List ℕ) (line : ℕ) → OtherLine (text_lines text) line → up_to text (line + 1) ≡ up_to text line
same-order text line o =
    order-more (text_lines text) line o.level o.here o.rest o.at-line
    ∙ ap (λ (e : Option Declaration). up_to text line ++ if_declared e) o.declares-none
    ∙ append-nil (up_to text line)

-- Lists -----------------------------------------------------------------------------------------------------------------------------

taken_more : {A : Type 0} (l : List A) (n : ℕ) (a : A) → n < length l → take (n + 1) (set l n a) ≡ take n l ++ (a ∷ [])
taken_more l n a h = ap (λ (k : ℕ). take k (set l n a)) (add-one n) ∙ take-suc-set l n a h

names_more : (text froms sizes : List ℕ) (a b : ℕ) → length froms ≡ length sizes → names_at text (froms ++ (a ∷ [])) (sizes ++ (b ∷ [])) ≡ names_at text froms sizes ++ (name_at text a b ∷ [])
unfolding names_at
names_more text [] [] a b e = refl
names_more text [] (s ∷ ss) a b e = absurd (omega (arith, e))
names_more text (f ∷ fs) [] a b e = absurd (omega (arith, e))
names_more text (f ∷ fs) (s ∷ ss) a b e = ap (λ (ns : List (List ℕ)). name_at text f s ∷ ns) (names_more text fs ss a b (omega (arith, e)))

-- Names and roles -------------------------------------------------------------------------------------------------------------------

-- the declarations up to a line are listed
record ListedTo (text : List ℕ) (line found : ℕ) (froms sizes roles : List ℕ) : Type 0 where
  counted : found ≡ length (up_to text line)
  named : names_at text (take found froms) (take found sizes) ≡ map name_of (up_to text line)
  roles-held : take found roles ≡ map role_number (up_to text line)

-- for any text whose lines are so listed
pub record Gathering (count : ℕ) (g : Listing) (line first found : ℕ) (froms sizes roles : List ℕ) : Type 0 where
  pub reached : line ≤ count
  pub begins : first ≡ start_of g.ends line
  pub few : found ≤ line
  lists : (text : List ℕ) → TextListed text count g → ListedTo text line found froms sizes roles

pub gathering-start : (count : ℕ) (g : Listing) (froms sizes roles : List ℕ) → Gathering count g 0 0 0 froms sizes roles
unfolding in_order names_at
gathering-start count g froms sizes roles =
    record { reached = omega arith; begins = sym (starts_first g.ends); few = omega arith; lists = λ text h. record { counted = refl; named = refl; roles-held = refl } }

module _ (count : ℕ) (g : Listing) (line first found : ℕ) (froms sizes roles : List ℕ) (s : Gathering count g line first found froms sizes roles) where
  -- all lines are passed
  pub gathering-end : count ≤ line → count ≤ length froms → count ≤ length sizes → count ≤ length roles → GatheredFrom count g found froms sizes roles
  gathering-end k a b c text h =
      let l = s.lists text h in
      let n = h.lines.counted in
      let r = s.reached in
      let f = s.few in
      let z : line ≡ length (text_lines text) = omega (arith, k, n, r) in
      let e : up_to text line ≡ declarations (text_lines text) = ap in_order (ap (λ (m : ℕ). take m (text_lines text)) z ∙ take-length (text_lines text)) ∙ in_order_lem text h.of-grammar in
      let q = l.counted ∙ ap length e in (
        q,
        record {
          named = l.named ∙ ap (map name_of) e;
          roles-held = l.roles-held ∙ ap (map role_number) e;
          froms-counted = length-take-le found froms (omega (arith, f, r, a)) ∙ q;
          sizes-counted = length-take-le found sizes (omega (arith, f, r, b)) ∙ q;
        },
      )

  module _ (i : line < count) where
    next-begins : get_or g.ends line 0 ≡ start_of g.ends (line + 1)
    next-begins = sym (ap (start_of g.ends) (add-one line) ∙ starts g.ends line)

    -- a line is passed
    pub gathering-passes : 2 < get_or g.kinds line 0 % 16 → Gathering count g (line + 1) (get_or g.ends line 0) found froms sizes roles
    gathering-passes k =
        record {
          reached = omega (arith, i);
          begins = next-begins;
          few = let f = s.few in omega (arith, f);
          lists = λ text h.
              let l = s.lists text h in
              let e = same-order text line (other-line h.lines line i k) in
              record { counted = l.counted ∙ sym (ap length e); named = l.named ∙ sym (ap (map name_of) e); roles-held = l.roles-held ∙ sym (ap (map role_number) e) };
        }

    abbrev ss : List ℕ
    ss = part g.sorts first (get_or g.ends line 0)

    abbrev vs : List ℤ
    vs = part g.values first (get_or g.ends line 0)

    -- a declaration can be listed
    pub gathering-listable : SomeTextListed count g → get_or g.kinds line 0 % 16 ≤ 2 → Listable ss vs
    gathering-listable t k = (listed-line t.0 count g t.1 line i k first s.begins).listable

    -- it is
    pub gathering-takes : get_or g.kinds line 0 % 16 ≤ 2 → found < length froms → found < length sizes → found < length roles
        → Gathering count g (line + 1) (get_or g.ends line 0) (found + 1) (set froms found (name_in ss vs / 32)) (set sizes found (name_in ss vs % 32)) (set roles found (role_listed ss vs))
    gathering-takes k a b c =
        record {
          reached = omega (arith, i);
          begins = next-begins;
          few = let f = s.few in omega (arith, f);
          lists = λ text h.
              let l = s.lists text h in
              let x = listed-line text count g h line i k first s.begins in
              let d = x.told.declared in
              let e = order-more (text_lines text) line x.told.level _ x.told.rest x.told.at-line in
              let q = l.counted in
              let m = ap length e ∙ length-append (up_to text line) (d ∷ []) in
              record {
                counted = omega (arith, q, m);
                named =
                    ap₂ (names_at text) (taken_more froms found _ a) (taken_more sizes found _ b)
                    ∙ names_more text (take found froms) (take found sizes) _ _ (length-take-le found froms (omega (arith, a)) ∙ sym (length-take-le found sizes (omega (arith, b))))
                    ∙ ap₂ (λ (ns : List (List ℕ)) (n : List ℕ). ns ++ (n ∷ [])) l.named x.name-is
                    ∙ sym (ap (map name_of) e ∙ map-append name_of (up_to text line) (d ∷ []));
                roles-held =
                    taken_more roles found _ c
                    ∙ ap₂ (λ (rs : List ℕ) (r : ℕ). rs ++ (r ∷ [])) l.roles-held x.told.role
                    ∙ sym (ap (map role_number) e ∙ map-append role_number (up_to text line) (d ∷ []));
              };
        }

-- the same with lists and a count that are as said
pub gathering-same : {count : ℕ} {g : Listing} {line first m n : ℕ} {fs gs ss ts rs qs : List ℕ} → fs ≡ gs → ss ≡ ts → rs ≡ qs → m ≡ n → Gathering count g line first n gs ts qs → Gathering count g line first m fs ss rs
gathering-same {count} {g} {line} {first} {n = n} {fs} {gs} {ss} {ts} {rs} {qs} a b c d x =
    let y = subst₂ (λ (fs ss : List ℕ). Gathering count g line first n fs ss qs) (sym a) (sym b) x in
    subst₂ (λ (rs : List ℕ) (m : ℕ). Gathering count g line first m fs ss rs) (sym c) (sym d) y

-- Rows ------------------------------------------------------------------------------------------------------------------------------

-- the rows of the declarations up to a line are written
record WrittenTo (text : List ℕ) (line found : ℕ) (lent rows : List ℤ) : Type 0 where
  counted : found ≡ length (up_to text line)
  written : rows ≡ past (rows_of (up_to text line)) lent

-- for any text whose lines are so listed
pub record Putting (count : ℕ) (g : Listing) (lent : List ℤ) (line first found : ℕ) (rows : List ℤ) : Type 0 where
  pub reached : line ≤ count
  pub begins : first ≡ start_of g.ends line
  pub few : found ≤ line
  pub same-long : length rows ≡ length lent
  puts : (text : List ℕ) → TextResolved text count g → WrittenTo text line found lent rows

pub putting-start : (count : ℕ) (g : Listing) (rows : List ℤ) → Putting count g rows 0 0 0 rows
unfolding in_order flatten
putting-start count g rows =
    record { reached = omega arith; begins = sym (starts_first g.ends); few = omega arith; same-long = refl; puts = λ text h. record { counted = refl; written = refl } }

module _ (count : ℕ) (g : Listing) (lent : List ℤ) (line first found : ℕ) (rows : List ℤ) (s : Putting count g lent line first found rows) where
  -- all lines are passed
  pub putting-end : count ≤ line → RowsPut count g lent rows
  putting-end k text h =
      let n = h.lines.counted in
      let r = s.reached in
      let z : line ≡ length (text_lines text) = omega (arith, k, n, r) in
      (s.puts text h).written
      ∙ ap (λ (ds : List Declaration). past (rows_of ds) lent) (ap in_order (ap (λ (m : ℕ). take m (text_lines text)) z ∙ take-length (text_lines text)) ∙ in_order_lem text h.of-grammar)

  module _ (i : line < count) where
    -- a line is passed
    pub putting-passes : 2 < get_or g.kinds line 0 % 16 → Putting count g lent (line + 1) (get_or g.ends line 0) found rows
    putting-passes k =
        record {
          reached = omega (arith, i);
          begins = sym (ap (start_of g.ends) (add-one line) ∙ starts g.ends line);
          few = let f = s.few in omega (arith, f);
          same-long = s.same-long;
          puts = λ text h.
              let l = s.puts text h in
              let e = same-order text line (other-line h.lines line i k) in
              record { counted = l.counted ∙ sym (ap length e); written = l.written ∙ sym (ap (λ (ds : List Declaration). past (rows_of ds) lent) e) };
        }

    module _ (k : get_or g.kinds line 0 % 16 ≤ 2) where
      abbrev part-sorts : List ℕ
      part-sorts = part g.sorts first (get_or g.ends line 0)

      abbrev part-values : List ℤ
      part-values = part g.values first (get_or g.ends line 0)

      -- the line of a text, which is a declaration
      here : (text : List ℕ) (h : TextResolved text count g) → DeclaredLine name_of_row (resolved_token (declared_names text)) (text_lines text) line part-sorts part-values
      here text h = declared-line h.lines line i (λ z. refl) k first s.begins

      order-here : (text : List ℕ) (h : TextResolved text count g) → up_to text (line + 1) ≡ up_to text line ++ ((here text h).declared ∷ [])
      order-here text h = let x = here text h in order-more (text_lines text) line x.level _ x.rest x.at-line

      -- it has a mark, and there is room for its row
      pub putting-marked : RoomForRows count g lent → HasMark part-sorts part-values
      putting-marked t = (here t.0 t.1).marked

      pub putting-room : RoomForRows count g lent → 4 * found + 4 ≤ length lent
      putting-room t =
          let q = (s.puts t.0 t.1).counted in
          let m = ap length (order-here t.0 t.1) ∙ length-append (up_to t.0 line) (_ ∷ []) in
          let w = order-within (text_lines t.0) (line + 1) in
          let o = ap length (in_order_lem t.0 t.1.of-grammar) in
          let r = t.2 in
          omega (arith, q, m, w, o, r)

      -- it is written
      pub putting-takes : RoomForRows count g lent → (x : List ℤ) → x ≡ row_listed part-sorts part-values
          → Putting count g lent (line + 1) (get_or g.ends line 0) (found + 1) (sets rows (4 * found) x)
      putting-takes t x y =
          let room = putting-room t in
          record {
            reached = omega (arith, i);
            begins = sym (ap (start_of g.ends) (add-one line) ∙ starts g.ends line);
            few = let f = s.few in omega (arith, f);
            same-long = length-sets rows (4 * found) x ∙ s.same-long;
            puts = λ text h.
                let l = s.puts text h in
                let q = l.counted in
                let d = (here text h).declared in
                let e = order-here text h in
                let m = ap length e ∙ length-append (up_to text line) (d ∷ []) in
                record {
                  counted = omega (arith, q, m);
                  written =
                      ap₂ (λ (rs : List ℤ) (n : ℕ). sets rs (4 * n) x) l.written q
                      ∙ ap (sets (past (rows_of (up_to text line)) lent) (4 * length (up_to text line))) (y ∙ (here text h).row)
                      ∙ rows_written lent (up_to text line) d (omega (arith, room, q))
                      ∙ sym (ap (λ (ds : List Declaration). past (rows_of ds) lent) e);
                };
          }

-- the same with rows and a count that are as said
pub putting-same : {count : ℕ} {g : Listing} {lent : List ℤ} {line first m n : ℕ} {rows left : List ℤ} → rows ≡ left → m ≡ n → Putting count g lent line first n left → Putting count g lent line first m rows
putting-same {count} {g} {lent} {line} {first} a b x = subst₂ (λ (rs : List ℤ) (m : ℕ). Putting count g lent line first m rs) (sym a) (sym b) x
