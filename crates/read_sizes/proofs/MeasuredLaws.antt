-- The lines of a text are as their summing asks.
use mathlib.Core.Path.{◌≡◌, refl, sym, ap, ap₂, subst, ◌∙◌}
use mathlib.Core.Bool.{Bool, true, false}
use mathlib.Core.List.Memᴰ
use mathlib.Core.List.{List, [], ◌∷◌, map}
use mathlib.Core.Option.{Option, none}
use Prim.Native.Nat.{ℕ, zero, suc, ◌+◌, ◌≤◌, ◌<◌}
use native.Mathlib.Omega.{arith}
use borrow.Author.Tests.{eq-eqb, ne_eqb, lt-ltb, le-ltb, eqb-true, eqb-false, ltb-true, ltb-false}
use lib.Dec.{eqb, ltb}
use lib.ListN.{length, get_or, drop, length-drop, length-map, get_or-append}
use lib.Seq.{sets, sets-eq, drop-nil, drop-cons}
use Rattle.meaning.specs.Rows.{row_count}
use Rattle.grammar.specs.Grammar.{Token}
use Rattle.grammar.specs.Outline.{variable, channel, source, sink, OutlineLine, declare, skip, stop, assign, input, output, seq, par, ifs, alts, while, test, guarded, allowed, Lined, lined, Expect, nothing, outset, starts_block}
use Rattle.grammar.specs.Classes.{variable-line, class_of}
use Rattle.grammar.specs.TextBytes.{grammar_fault}
use Rattle.grammar.specs.TextRows.{text_lines, text_rows}
use Rattle.read_classes.specs.ClassNumbers.{number_of}
use Rattle.read_levels.specs.Kinds.{expectations}
use Rattle.read_levels.specs.Listing.{Listing, LinesListed, LevelsListed}
use Rattle.read_levels.proofs.ListingLaws.{line-there, expects-counted, class-at, level-at}
use Rattle.read_counts.specs.OwnRows.{owns_from}
use Rattle.read_counts.specs.ListedRows.{owns_listed}
use Rattle.read_counts.proofs.ListedLaws.{owns-told}
use Rattle.read_layout.specs.Standing.{Standing, standing, stand_all, standings, open_rows}
use Rattle.read_layout.proofs.BlockLaid.{LevelsBelow}
use Rattle.read_layout.proofs.TextLines.{trees-read}
use Rattle.read_layout.proofs.Levels.{NotBeneath, Stepped, text-stepped, text-levels}
use Rattle.read_sizes.specs.Sizes.{level_of, own_of, starts_of, beneath_of, after_of, text_standings, by_line, LineMeasured, Measured}
use Rattle.read_sizes.proofs.LineSteps.{sum_own, text-few}

-- What lines leave open -------------------------------------------------------------------------------------------------------------

-- at all levels below m
unfoldable open_sum : ℕ → List Standing → ℕ
open_sum zero ys = 0
open_sum (suc m) ys = open_sum m ys + open_rows ys m

open-below : (e : Expect) (l : ℕ) (x : OutlineLine) (ys : List Standing) (m : ℕ) → m ≤ l → open_sum m (standing e l x ∷ ys) ≡ open_sum m ys
unfolding open_sum open_rows
open-below e l x ys zero h = refl
open-below e l x ys (suc m) h = let i = open-below e l x ys m (omega arith) in rw (lt-ltb m l (omega arith)) (omega (arith, i))

open-to : (e : Expect) (l : ℕ) (x : OutlineLine) (ys : List Standing) → open_sum (suc l) (standing e l x ∷ ys) ≡ own_of (standing e l x) + open_sum (suc (suc l)) ys
unfolding open_sum open_rows
open-to e l x ys = let i = open-below e l x ys l (omega arith) in rw (le-ltb l l (omega arith), eq-eqb l l refl) (omega (arith, i))

open-past : (e : Expect) (l : ℕ) (x : OutlineLine) (ys : List Standing) (m : ℕ) → l < m → open_sum m (standing e l x ∷ ys) ≡ own_of (standing e l x) + open_sum (suc (suc l)) ys
unfolding open_sum open_rows
open-past e l x ys zero h = absurd (omega arith)
open-past e l x ys (suc m) h = go (open-past e l x ys m) (eqb m l) refl
  where
    go : (l < m → open_sum m (standing e l x ∷ ys) ≡ own_of (standing e l x) + open_sum (suc (suc l)) ys) → (b : Bool) → eqb m l ≡ b → open_sum (suc m) (standing e l x ∷ ys) ≡ own_of (standing e l x) + open_sum (suc (suc l)) ys
    go past true p = ap (λ (w : ℕ). open_sum (suc w) (standing e l x ∷ ys)) (eqb-true m l p) ∙ open-to e l x ys
    go past false p =
        let n = eqb-false m l p in
        let i = past (omega (arith, n, h)) in
        rw (le-ltb m l (omega (arith, h)), p) (omega (arith, i))

-- is no more than they make themselves
open-few : (ys : List Standing) (m : ℕ) → open_sum m ys ≤ sum_own ys
unfolding open_sum open_rows sum_own
open-few [] m = none_open m
  where
    none_open : (m : ℕ) → open_sum m [] ≤ 0
    none_open zero = omega arith
    none_open (suc m) = omega (arith, none_open m)
open-few (standing e l x ∷ ys) m = go (open-few ys (suc (suc l))) (open-few ys m) (ltb l m) refl
  where
    go : open_sum (suc (suc l)) ys ≤ sum_own ys → open_sum m ys ≤ sum_own ys → (b : Bool) → ltb l m ≡ b → open_sum m (standing e l x ∷ ys) ≤ sum_own (standing e l x ∷ ys)
    go f g true p = let i = open-past e l x ys m (ltb-true l m p) in omega (arith, i, f)
    go f g false p = let i = open-below e l x ys m (ltb-false l m p) in omega (arith, i, g)

pub whole-few : (e : Expect) (l : ℕ) (x : OutlineLine) (ys : List Standing) → own_of (standing e l x) + open_rows ys (suc l) + open_rows ys l ≤ sum_own (standing e l x ∷ ys)
unfolding open_sum sum_own
whole-few e l x ys = omega (arith, open-few ys (suc (suc l)))

deeper-none : (n : ℕ) (es : List Expect) (ls : List Lined) → NotBeneath n ls → (i : ℕ) → n < i → open_rows (stand_all es ls) i ≡ 0
unfolding open_rows stand_all
deeper-none n [] ls h i k = refl
deeper-none n (e ∷ es) [] h i k = refl
deeper-none n (e ∷ es) (lined l x ∷ ls) h i k = rw (le-ltb i l (omega (arith, h, k)), ne_eqb i l (omega (arith, h, k))) refl

-- One line of a text ----------------------------------------------------------------------------------------------------------------

-- a block's declaration is told by its class
pub class-starts : (x : OutlineLine) → eqb (number_of (class_of x)) (number_of variable-line) ≡ starts_block x
class-starts (declare (variable z n)) = refl
class-starts (declare (channel z n)) = refl
class-starts (declare (source n)) = refl
class-starts (declare (sink z n)) = refl
class-starts skip = refl
class-starts stop = refl
class-starts (assign a e) = refl
class-starts (input c a) = refl
class-starts (output c e) = refl
class-starts seq = refl
class-starts par = refl
class-starts ifs = refl
class-starts alts = refl
class-starts (while e) = refl
class-starts (test e) = refl
class-starts (guarded e c a) = refl
class-starts (allowed e) = refl

-- a number by line
held_at : (f : Standing → ℕ) (ys zs : List Standing) (y : Standing) (j : ℕ) (lent : List ℕ) → drop j ys ≡ y ∷ zs → length ys ≤ length lent → get_or (by_line lent (map f ys)) j 0 ≡ f y
held_at f ys zs y j lent d h =
    let n = length-map ys f in
    let k = ap length d in
    let i = length-drop j ys in
    ap (λ (w : List ℕ). get_or w j 0) (sets-eq (map f ys) lent 0 (omega (arith, n, h)))
    ∙ get_or-append (map f ys) (drop (0 + length (map f ys)) lent) 0 j (omega (arith, n, k, i))
    ∙ mapped f ys j d
  where
    mapped : (f : Standing → ℕ) (ys : List Standing) (j : ℕ) → drop j ys ≡ y ∷ zs → get_or (map f ys) j 0 ≡ f y
    mapped f [] j d = absurd (omega (arith, ap length (sym (drop-nil {A = Standing} j) ∙ d)))
    mapped f (x ∷ ys) zero d = ap (λ (w : List Standing). get_or (map f w) 0 0) d
    mapped f (x ∷ ys) (suc j) d = mapped f ys j d

pub stood : (es : List Expect) (ls : List Lined) → length es ≡ length ls → length (stand_all es ls) ≡ length ls
unfolding stand_all
stood [] [] p = refl
stood [] (y ∷ ls) p = absurd (omega (arith, p))
stood (e ∷ es) [] p = refl
stood (e ∷ es) (lined l x ∷ ls) p = ap suc (stood es ls (omega (arith, p)))

-- lines from line j on stand where they stood
stand-dropped : (j : ℕ) (es : List Expect) (ls : List Lined) → length es ≡ length ls → drop j (stand_all es ls) ≡ stand_all (drop j es) (drop j ls)
unfolding stand_all
stand-dropped zero es ls p = refl
stand-dropped (suc j) [] ls p = refl
stand-dropped (suc j) (e ∷ es) [] p = absurd (omega (arith, p))
stand-dropped (suc j) (e ∷ es) (lined l x ∷ ls) p = stand-dropped j es ls (omega (arith, p))

owns-stood : (es : List Expect) (ls : List Lined) → owns_from es ls ≡ map own_of (stand_all es ls)
unfolding owns_from stand_all
owns-stood [] ls = refl
owns-stood (e ∷ es) [] = refl
owns-stood (e ∷ es) (lined l x ∷ ls) = ap (λ (ns : List ℕ). own_of (standing e l x) ∷ ns) (owns-stood es ls)

sum-dropped : (j : ℕ) (ys : List Standing) → sum_own (drop j ys) ≤ sum_own ys
unfolding sum_own
sum-dropped zero ys = omega arith
sum-dropped (suc j) [] = omega arith
sum-dropped (suc j) (y ∷ ys) = omega (arith, sum-dropped j ys)

-- the line after a line is at most one level beneath it
stepped-at : (j : ℕ) (ls : List Lined) (l : ℕ) (x : OutlineLine) (rest : List Lined) → drop j ls ≡ lined l x ∷ rest → Stepped ls → NotBeneath (suc l) rest
unfolding Stepped
stepped-at j [] l x rest d s = absurd (omega (arith, ap length (sym (drop-nil {A = Lined} j) ∙ d)))
stepped-at zero (lined m y ∷ ls) l x rest d (f, s) =
    let e : m ≡ l = cc in
    let r : ls ≡ rest = cc in
    subst (λ (n : ℕ). NotBeneath (suc n) rest) e (subst (NotBeneath (suc m)) r f)
stepped-at (suc j) (lined m y ∷ ls) l x rest d (f, s) = stepped-at j ls l x rest d s

-- levels below n
below_at : (n j : ℕ) (ls : List Lined) (l : ℕ) (x : OutlineLine) (rest : List Lined) → drop j ls ≡ lined l x ∷ rest → LevelsBelow n ls → suc l < n
below_at n j [] l x rest d v = absurd (omega (arith, ap length (sym (drop-nil {A = Lined} j) ∙ d)))
below_at n zero (y ∷ ls) l x rest d v = let e : lined l x ≡ y = cc in v (lined l x) (Memᴰ.head e)
below_at n (suc j) (y ∷ ls) l x rest d v = below_at n j ls l x rest d (λ z r. v z (Memᴰ.tail r))

-- Listed lines ----------------------------------------------------------------------------------------------------------------------

module _ {named : ℕ → Option Token} {f : Token → Token} {count : ℕ} {g : Listing} (text : List ℕ) (of-grammar : grammar_fault text ≡ none) (small : row_count (text_rows text) ≤ 1024) (h : LinesListed named f (text_lines text) count g) where
  lines-stood : length (text_standings text) ≡ length (text_lines text)
  unfolding standings
  lines-stood = stood (expectations outset (text_lines text)) (text_lines text) (expects-counted h)

  -- a text has no more lines than rows
  pub few-lines : count ≤ 1024
  few-lines = omega (arith, h.counted, lines-stood, (text-few text of-grammar small).0)

  module _ (levels owns₀ owns : List ℕ) (leveled : LevelsListed (text_lines text) count levels) (long : length owns₀ ≡ 1024) (owned : owns ≡ sets owns₀ 0 (owns_listed count g.kinds g.ends g.sorts)) where
    -- the rows of each line are held
    owns-held : owns ≡ by_line owns₀ (map own_of (text_standings text))
    unfolding standings
    owns-held = owned ∙ ap (sets owns₀ 0) (owns-told h ∙ owns-stood (expectations outset (text_lines text)) (text_lines text))

    -- line j
    line-measured : (j : ℕ) (y : Standing) (zs : List Standing) → drop j (text_standings text) ≡ y ∷ zs → LineMeasured g.kinds levels owns j y zs
    unfolding standings stand_all
    line-measured j y zs d =
        let ls = text_lines text in
        let es = expectations outset ls in
        let p = expects-counted h in
        let within : j < length ls = omega (arith, lines-stood, length-drop j (text_standings text), ap length d) in
        let (l, x, rest, q) = line-there h j (omega (arith, within, h.counted)) in
        let e = get_or es j nothing in
        let later = drop (suc j) es in
        let o : y ∷ zs ≡ standing e l x ∷ stand_all later rest = sym d ∙ stand-dropped j es ls p ∙ ap₂ stand_all (drop-cons es j nothing (omega (arith, within, p))) q in
        let u : y ≡ standing e l x = ap (λ (ys : List Standing). get_or ys 0 y) o in
        let v : zs ≡ stand_all later rest = ap (drop 1) o in
        let (ps, t, _) = trees-read text of-grammar in
        let lv : level_of y ≡ l = ap level_of u in
        let few = few-lines in
        let low = below_at 1025 j ls l x rest q (text-levels ls ps 1025 t (omega (arith, few, h.counted))) in
        let w = whole-few e l x (stand_all later rest) in
        let all : sum_own (standing e l x ∷ stand_all later rest) ≤ 1024 = omega (arith, ap sum_own (d ∙ o), sum-dropped j (text_standings text), (text-few text of-grammar small).1) in
        record {
          room = omega (arith, within, h.counted, h.kinds-long);
          class = ap (λ (n : ℕ). eqb n (number_of variable-line)) (class-at h j l x rest q) ∙ class-starts x ∙ sym (ap starts_of u);
          level = level-at leveled h.counted j l x rest q ∙ sym lv;
          own = ap (λ (ns : List ℕ). get_or ns j 0) owns-held ∙ held_at own_of (text_standings text) zs y j owns₀ d (omega (arith, lines-stood, h.counted, few, long));
          shallow = omega (arith, low, lv);
          whole = subst (λ (z : Standing). own_of z + beneath_of z zs + after_of z zs ≤ 1024) (sym u)
              (subst (λ (z : List Standing). own_of (standing e l x) + open_rows z (suc l) + open_rows z l ≤ 1024) (sym v) (omega (arith, w, all)));
          deeper = λ i k. ap (λ (z : List Standing). open_rows z i) v ∙ deeper-none (suc l) later rest (stepped-at j ls l x rest q (text-stepped ls ps t).1) i (omega (arith, k, lv));
        }

    -- the lines of a text with its levels and the rows that each line makes
    pub measured : Measured g.kinds count levels owns (text_standings text)
    measured = record { counted = h.counted ∙ sym lines-stood; few = few-lines; long = leveled.long; line = line-measured }
