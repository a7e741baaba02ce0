-- The sheets that 10 does not refuse are the printed ones, and each is read as the columns of its lines.
use mathlib.Core.Path.{◌≡◌, refl, sym, ap, ap₂, ◌∙◌, subst}
use mathlib.Core.Bool.{Bool, true, false, not, ◌&&◌, ◌||◌, false≢true}
use mathlib.Core.List.{List, [], ◌∷◌, map, tail, flatten}
use mathlib.Core.Option
use mathlib.Core.Option.{Option, none, some, none-ne-some, some-injective}
use Prim.Native.Nat.{ℕ, zero, suc, ◌+◌, ◌≤◌, ◌<◌}
use native.Mathlib.Decide.{dec_lt}
use native.Mathlib.Omega.{arith}
use lib.IntN.{ℤ, pos}
use lib.ListN.{length, get_or, length-append}
use lib.Dec.{leb, ltb}
use borrow.Author.Tests.{le-ltb, ltb-false, le-leb, lt-leb, leb-false, not-false}
use Rattle.meaning.specs.Limits.{max_sheet, max_lines}
use Rattle.meaning.specs.Texts.{line_feed}
use Rattle.meaning.specs.Basics.{is_some, all_some, lowest}
use Rattle.meaning.specs.Lines.{lines, text, fields, read_line, same}
use Rattle.meaning.specs.Numerals.{number, decimal, printed}
use Rattle.meaning.specs.Declarations.{channels}
use Rattle.meaning.specs.Sheet.{joined, sheet_header, reading, values_of, sheet_line_wrong, sheet_fault, columns, readings}
use Rattle.meaning.specs.PrintedForms.{Each, each_none, each_more, written, reading_bytes, sheet_bytes, IsReading, IsValues}
use Rattle.meaning.specs.PrintedClaims.{SheetForm, SheetReads}
use Rattle.meaning.proofs.LineLaws.{Inner, Plain, commas, text-whole, whole-line, concat-lines, each_append, printed-inner}
use Rattle.meaning.proofs.ReadLaws.{plain, all-inner, text-written, line_reads, line-form}
use Rattle.meaning.proofs.NoFault.{none-lowest, lowest-none, none-mapped, or-false, and_none, or-none, same_refl, same-is}
use Rattle.meaning.proofs.RowLaws.{number-back, number-form}

-- Readings ----------------------------------------------------------------------------------------------------------------------

reading-inner : (v : Option ℤ) → Each Inner (reading_bytes v)
unfolding reading_bytes
reading-inner none = each_none
reading-inner (some z) = printed-inner z

-- a field that is a number is a reading
number-reading : (bs : List ℕ) (z : ℤ) → number bs ≡ some z → reading bs ≡ some (some z)
unfolding number reading
number-reading [] z e = absurd (none-ne-some z e)
number-reading (b ∷ bs) z e = ap (Option.map some) e

reading-back : (v : Option ℤ) → IsReading v → reading (reading_bytes v) ≡ some v
unfolding reading_bytes reading
reading-back none h = refl
reading-back (some z) h = number-reading (printed z) z (number-back z h)

reading-form : (bs : List ℕ) (v : Option ℤ) → reading bs ≡ some v → (bs ≡ reading_bytes v) × IsReading v
unfolding reading reading_bytes
reading-form [] v e = subst (λ (u : Option ℤ). ([] ≡ reading_bytes u) × IsReading u) (some-injective none v e) (refl, tt)
reading-form (b ∷ bs) v e = go (number (b ∷ bs)) refl e
  where
    go : (o : Option ℤ) → number (b ∷ bs) ≡ o → Option.map some o ≡ some v → (b ∷ bs ≡ reading_bytes v) × IsReading v
    go none i h = absurd (none-ne-some v h)
    go (some z) i h = subst (λ (u : Option ℤ). (b ∷ bs ≡ reading_bytes u) × IsReading u) (some-injective (some z) v h) (number-form (b ∷ bs) z i)

-- the line of some readings
abbrev value_line : List (Option ℤ) → List ℕ
value_line v = written (map reading_bytes v)

pub values-read : (k : ℕ) (v : List (Option ℤ)) → 0 < k → IsValues k v → values_of k (value_line v) ≡ some v
unfolding values_of
values-read k [] p h = absurd (let e = h.0 in omega arith)
values-read k (a ∷ v) p h = line_reads reading reading_bytes IsReading reading-inner reading-back reading-form k a v h.0 h.1

pub values-form : (k : ℕ) (l : List ℕ) (v : List (Option ℤ)) → values_of k l ≡ some v → (l ≡ value_line v) × IsValues k v
unfolding values_of
values-form k l v e = line-form reading reading_bytes IsReading reading-inner reading-back reading-form k l v e

-- with no channel there is no line of values
pub no-values : (l : List ℕ) (v : List (Option ℤ)) → values_of 0 l ≡ some v → ⊥
unfolding values_of read_line text fields all_some reading written
no-values l v e = go v (values-form 0 l v e).0 (values-form 0 l v e).1.0
  where
    go : (u : List (Option ℤ)) → l ≡ value_line u → length u ≡ 0 → ⊥
    go [] i h = none-ne-some v (sym (ap (values_of 0) i) ∙ e)
    go (a ∷ u) i h = omega arith

-- Printed sheets ----------------------------------------------------------------------------------------------------------------

decimal-plain : (n : ℕ) → Each Plain (decimal n)
unfolding printed
decimal-plain n = plain (printed-inner (pos n))

pub joined-plain : (cs : List ℕ) → Each Plain (joined cs)
unfolding joined
joined-plain [] = each_none
joined-plain (r ∷ []) = decimal-plain r
joined-plain (r ∷ q ∷ qs) = each_append (decimal-plain r) (each_more refl (joined-plain (q ∷ qs)))

value-lines : (vs : List (List (Option ℤ))) → lines (flatten (map value_line vs)) ≡ map value_line vs
unfolding flatten lines
value-lines [] = refl
value-lines (v ∷ vs) =
    (whole-line (value_line v) (commas (map reading_bytes v)) (text-written (map reading_bytes v) (all-inner reading reading_bytes IsReading reading-inner reading-back reading-form v))).1 (flatten (map value_line vs))
    ∙ ap {B = List (List ℕ)} (λ ls. value_line v ∷ ls) (value-lines vs)

sheet-lines : (cs : List ℕ) (vs : List (List (Option ℤ))) → lines (sheet_bytes cs vs) ≡ sheet_header cs ∷ map value_line vs
unfolding sheet_bytes sheet_header
sheet-lines cs vs =
    (whole-line (sheet_header cs) (joined cs) (text-whole (joined cs) (joined-plain cs))).1 (flatten (map value_line vs))
    ∙ ap {B = List (List ℕ)} (λ ls. sheet_header cs ∷ ls) (value-lines vs)

read-values : (k : ℕ) → 0 < k → (vs : List (List (Option ℤ))) → Each (IsValues k) vs → map (λ l. Option.get_or (values_of k l) []) (map value_line vs) ≡ vs
read-values k p [] h = refl
read-values k p (v ∷ vs) (each_more g h) = ap₂ (λ (o : Option (List (Option ℤ))) (us : List (List (Option ℤ))). Option.get_or o [] ∷ us) (values-read k v p g) (read-values k p vs h)

pub sheet-reads : SheetReads
unfolding SheetReads readings columns
sheet-reads rows vs h =
    ap (λ (ls : List (List ℕ)). columns (map (λ l. Option.get_or (values_of k l) []) (tail ls)) k) (sheet-lines (channels rows 1) vs) ∙ go k h
  where
    k : ℕ
    k = length (channels rows 1)

    go : (n : ℕ) → Each (IsValues n) vs → columns (map (λ l. Option.get_or (values_of n l) []) (map value_line vs)) n ≡ columns vs n
    go zero g = refl
    go (suc m) g = ap (λ (us : List (List (Option ℤ))). columns us (suc m)) (read-values (suc m) (omega arith) vs g)

-- The form ----------------------------------------------------------------------------------------------------------------------

nth_read : (k : ℕ) → 0 < k → (vs : List (List (Option ℤ))) → Each (IsValues k) vs → (i : ℕ) → i < length vs → is_some (values_of k (get_or (map value_line vs) i [])) ≡ true
nth_read k p [] h i l = absurd (omega arith)
nth_read k p (v ∷ vs) (each_more g h) zero l = ap is_some (values-read k v p g)
nth_read k p (v ∷ vs) (each_more g h) (suc i) l = nth_read k p vs h i (omega arith)

length-lines : (vs : List (List (Option ℤ))) → length (map value_line vs) ≡ length vs
length-lines [] = refl
length-lines (v ∷ vs) = ap suc (length-lines vs)

-- lines that are read are printed lines of values, and there are none without a channel
values-of : (k : ℕ) (ls : List (List ℕ)) → ((i : ℕ) → i < length ls → is_some (values_of k (get_or ls i [])) ≡ true) → (vs : List (List (Option ℤ))) × (ls ≡ map value_line vs) × Each (IsValues k) vs × ((k ≡ 0) → vs ≡ [])
values-of k [] f = ([], refl, each_none, λ z. refl)
values-of k (l ∷ ls) f = go (values_of k l) refl (f 0 (omega arith)) (values-of k ls (λ i h. f (suc i) (omega arith)))
  where
    go : (o : Option (List (Option ℤ))) → values_of k l ≡ o → is_some (values_of k l) ≡ true → ((vs : List (List (Option ℤ))) × (ls ≡ map value_line vs) × Each (IsValues k) vs × ((k ≡ 0) → vs ≡ [])) → (vs : List (List (Option ℤ))) × (l ∷ ls ≡ map value_line vs) × Each (IsValues k) vs × ((k ≡ 0) → vs ≡ [])
    go none i h w = absurd (false≢true (sym (ap is_some i) ∙ h))
    go (some v) i h w =
        let q = values-form k l v i in (
          v ∷ w.0,
          ap₂ (λ (x : List ℕ) (xs : List (List ℕ)). x ∷ xs) q.0 w.1,
          each_more q.1 w.2,
          λ z. absurd (no-values l v (subst (λ (n : ℕ). values_of n l ≡ some v) z i)),
        )

-- there is a channel where there is a line of values
some-channel : (k : ℕ) (vs : List (List (Option ℤ))) (i : ℕ) → i < length vs → ((k ≡ 0) → vs ≡ []) → 0 < k
some-channel zero vs i h f = absurd (let e = ap length (f refl) in omega arith)
some-channel (suc k) vs i h f = omega arith

-- a printed sheet has no fault
good : (cs : List ℕ) (vs : List (List (Option ℤ))) → Each (IsValues (length cs)) vs → ((length cs ≡ 0) → vs ≡ []) → length vs ≤ max_lines → (L : ℕ) → sheet_line_wrong false cs (sheet_header cs ∷ map value_line vs) L ≡ false
good cs vs h z l zero = refl
good cs vs h z l (suc zero) = ap not (same_refl (sheet_header cs))
good cs vs h z l (suc (suc i)) = read (dec_lt i (length vs))
  where
    Line : Bool
    Line = is_some (values_of (length cs) (get_or (map value_line vs) i []))

    read : Dec (i < length vs) → (leb (suc (suc i)) (suc (length (map value_line vs))) && (leb max_lines i || not Line)) ≡ false
    read (yes j) =
        and_none (leb (suc (suc i)) (suc (length (map value_line vs)))) (leb max_lines i || not Line)
        (or-none (leb max_lines i) (not Line) (lt-leb max_lines i (omega arith)) (ap not (nth_read (length cs) (some-channel (length cs) vs i j z) vs h i j)))
    read (no j) = ap (λ (t : Bool). t && (leb max_lines i || not Line)) (let n = length-lines vs in lt-leb (suc (suc i)) (suc (length (map value_line vs))) (omega arith))

-- a header is not missing
header-some : (cs : List ℕ) → [] ≡ sheet_header cs → ⊥
unfolding sheet_header
header-some cs e = let h : ◌≡◌ {A = ℕ} 0 (length (joined cs) + 1) = ap length e ∙ length-append (joined cs) (line_feed ∷ []) in omega arith

-- lines without fault are the header and lines of values
sound : (cs : List ℕ) (ls : List (List ℕ)) (long : Bool) → ((L : ℕ) → L < 2 + length ls → sheet_line_wrong long cs ls L ≡ false)
    → (vs : List (List (Option ℤ))) × (ls ≡ sheet_header cs ∷ map value_line vs) × (length vs ≤ max_lines) × Each (IsValues (length cs)) vs × ((length cs ≡ 0) → vs ≡ [])
sound cs [] long f = absurd (header-some cs (same-is [] (sheet_header cs) (not-false (same [] (sheet_header cs)) (f 1 (omega arith)))))
sound cs (l ∷ ls) long f = (k.0, ap₂ (λ (x : List ℕ) (xs : List (List ℕ)). x ∷ xs) first k.1, few, k.2, k.3)
  where
    first : l ≡ sheet_header cs
    first = same-is l (sheet_header cs) (not-false (same l (sheet_header cs)) (f 1 (omega arith)))

    fault : (i : ℕ) → i < length ls → (leb max_lines i || not (is_some (values_of (length cs) (get_or ls i [])))) ≡ false
    fault i h =
        sym (ap (λ (t : Bool). t && (leb max_lines i || not (is_some (values_of (length cs) (get_or ls i []))))) (le-leb (suc (suc i)) (suc (length ls)) (omega arith)))
        ∙ f (suc (suc i)) (omega arith)

    read : (i : ℕ) → i < length ls → is_some (values_of (length cs) (get_or ls i [])) ≡ true
    read i h = not-false (is_some (values_of (length cs) (get_or ls i []))) (or-false (leb max_lines i) (not (is_some (values_of (length cs) (get_or ls i [])))) (fault i h)).1

    k : (vs : List (List (Option ℤ))) × (ls ≡ map value_line vs) × Each (IsValues (length cs)) vs × ((length cs ≡ 0) → vs ≡ [])
    k = values-of (length cs) ls read

    fit : Dec (max_lines < length ls) → length ls ≤ max_lines
    fit (yes h) = absurd (let e = leb-false max_lines max_lines (or-false (leb max_lines max_lines) (not (is_some (values_of (length cs) (get_or ls max_lines [])))) (fault max_lines h)).0 in omega arith)
    fit (no h) = omega arith

    few : length k.0 ≤ max_lines
    few = let n = length-lines k.0 in let m = ap length k.1 in let q = fit (dec_lt max_lines (length ls)) in omega arith

pub sheet-form : SheetForm
unfolding SheetForm sheet_fault sheet_bytes flatten
sheet-form rows sheet = (to, from)
  where
    cs : List ℕ
    cs = channels rows 1

    long : Bool
    long = ltb max_sheet (length sheet)

    Printed : Type 0
    Printed = (vs : List (List (Option ℤ))) × (sheet ≡ sheet_bytes cs vs) × (length sheet ≤ max_sheet) × (length vs ≤ max_lines) × Each (IsValues (length cs)) vs × ((length cs ≡ 0) → vs ≡ [])

    to : sheet_fault rows sheet ≡ none → Printed
    to e = (k.0, sym (concat-lines sheet) ∙ ap flatten k.1, ltb-false max_sheet (length sheet) (f 0 (omega arith)), k.2, k.3, k.4)
      where
        f : (L : ℕ) → L < 2 + length (lines sheet) → sheet_line_wrong long cs (lines sheet) L ≡ false
        f = lowest-none (sheet_line_wrong long cs (lines sheet)) (2 + length (lines sheet)) (none-mapped (λ L. (10, L)) (lowest (sheet_line_wrong long cs (lines sheet)) (2 + length (lines sheet))) e)

        k : (vs : List (List (Option ℤ))) × (lines sheet ≡ sheet_header cs ∷ map value_line vs) × (length vs ≤ max_lines) × Each (IsValues (length cs)) vs × ((length cs ≡ 0) → vs ≡ [])
        k = sound cs (lines sheet) long f

    from : Printed → sheet_fault rows sheet ≡ none
    from h =
        ap (Option.map (λ L. (10, L)))
        (none-lowest (sheet_line_wrong long cs (lines sheet)) (2 + length (lines sheet))
        (λ L l. ap₂ (λ (b : Bool) (ls : List (List ℕ)). sheet_line_wrong b cs ls L) (le-ltb max_sheet (length sheet) h.2) (ap lines h.1 ∙ sheet-lines cs h.0) ∙ good cs h.0 h.4 h.5 h.3 L))
