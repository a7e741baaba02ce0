-- The lines that `lines` finds are the lines as stated by `LineIs`.
use mathlib.Core.Path.{◌≡◌, refl, sym, ap, subst, ◌∙◌}
use mathlib.Core.Bool.{Bool}
use mathlib.Core.List.{List, [], ◌∷◌, ◌++◌, append_assoc}
use Prim.Native.Nat.{ℕ, zero, suc, ◌<◌}
use native.Mathlib.Omega.{arith}
use native.Mathlib.Decide.{ℕ_discrete}
use lib.ListN.{length, get_or}
use Rattle.meaning.specs.Basics.{if_else}
use borrow.Author.Tests.{ne_eqb}
use Rattle.meaning.specs.Texts.{line_feed}
use Rattle.meaning.specs.Lines.{onto, lines}
use Rattle.meaning.specs.PrintedForms.{Each, each_none, each_more}
use Rattle.meaning.specs.ByteClaims.{NoFeed, LineIs, line-ended, line-unended, line-later}
use Rattle.meaning.proofs.LineLaws.{Plain, text-whole, whole-line}

-- no byte of it is a line feed, by the test
pub no-feed : {t : List ℕ} → NoFeed t → Each Plain t
no-feed each_none = each_none
no-feed (each_more {x} p h) = each_more (ne_eqb x line_feed p) (no-feed h)

-- bytes that begin with a whole line
lines-ended : (t more : List ℕ) → NoFeed t → lines (t ++ (line_feed ∷ more)) ≡ (t ++ (line_feed ∷ [])) ∷ lines more
lines-ended t more h =
    ap lines (sym (append_assoc t (line_feed ∷ []) more)) ∙ (whole-line (t ++ (line_feed ∷ [])) t (text-whole t (no-feed h))).1 more

-- bytes without a line feed are one line
lines-unended : (b : ℕ) (bs : List ℕ) → NoFeed (b ∷ bs) → lines (b ∷ bs) ≡ (b ∷ bs) ∷ []
unfolding lines
lines-unended b [] (each_more p h) = ap (λ (t : Bool). if_else t ((b ∷ []) ∷ []) ((b ∷ []) ∷ [])) (ne_eqb b line_feed p)
lines-unended b (c ∷ cs) (each_more p h) =
    ap (λ (t : Bool). if_else t ((b ∷ []) ∷ lines (c ∷ cs)) (onto b (lines (c ∷ cs)))) (ne_eqb b line_feed p) ∙ ap (onto b) (lines-unended c cs h)

-- bytes are a line and more, or have no line feed
data Cut (bs : List ℕ) : Type 0 where
  at-feed : (t more : List ℕ) → NoFeed t → bs ≡ t ++ (line_feed ∷ more) → Cut bs
  without : NoFeed bs → Cut bs

cut : (bs : List ℕ) → Cut bs
cut [] = without each_none
cut (b ∷ bs) = go (ℕ_discrete b line_feed) (cut bs)
  where
    go : Dec (b ≡ line_feed) → Cut bs → Cut (b ∷ bs)
    go (yes e) c = at-feed [] bs each_none (ap (λ (x : ℕ). x ∷ bs) e)
    go (no n) (at-feed t more h e) = at-feed (b ∷ t) more (each_more n h) (ap (λ (l : List ℕ). b ∷ l) e)
    go (no n) (without h) = without (each_more n h)

-- the lines found, by the first
found-ended : (bs t more : List ℕ) → NoFeed t → bs ≡ t ++ (line_feed ∷ more) → lines bs ≡ (t ++ (line_feed ∷ [])) ∷ lines more
found-ended bs t more h e = ap lines e ∙ lines-ended t more h

first-line : (bs : List ℕ) → Cut bs → 0 < length (lines bs) → LineIs bs 1 (get_or (lines bs) 0 [])
unfolding lines
first-line bs (at-feed t more h e) k = subst (λ (ls : List (List ℕ)). LineIs bs 1 (get_or ls 0 [])) (sym (found-ended bs t more h e)) (line-ended t more h e)
first-line [] (without h) k = absurd (omega arith)
first-line (b ∷ bs) (without h) k =
    subst (λ (ls : List (List ℕ)). LineIs (b ∷ bs) 1 (get_or ls 0 [])) (sym (lines-unended b bs h)) (line-unended h (λ e. let z : suc (length bs) ≡ 0 = ap length e in omega arith))

later-line : (i : ℕ) (bs : List ℕ) → Cut bs → suc i < length (lines bs) → ((more : List ℕ) → i < length (lines more) → LineIs more (suc i) (get_or (lines more) i []))
    → LineIs bs (suc (suc i)) (get_or (lines bs) (suc i) [])
unfolding lines
later-line i bs (at-feed t more h e) k f =
    let w = found-ended bs t more h e in
    let few : i < length (lines more) = omega (arith, k, ap (λ (ls : List (List ℕ)). length ls) w) in
    subst (λ (ls : List (List ℕ)). LineIs bs (suc (suc i)) (get_or ls (suc i) [])) (sym w) (line-later t more h e (f more few))
later-line i [] (without h) k f = absurd (omega arith)
later-line i (b ∷ bs) (without h) k f = absurd (omega (arith, k, ap (λ (ls : List (List ℕ)). length ls) (lines-unended b bs h)))

-- each of the lines found is a line
pub line_at : (i : ℕ) (bs : List ℕ) → i < length (lines bs) → LineIs bs (suc i) (get_or (lines bs) i [])
line_at zero bs h = first-line bs (cut bs) h
line_at (suc i) bs h = later-line i bs (cut bs) h (λ more. line_at i more)

-- a line is one of those found
pub line-found : (bs : List ℕ) (n : ℕ) (l : List ℕ) → LineIs bs n l → (i : ℕ) × (n ≡ suc i) × (i < length (lines bs)) × (get_or (lines bs) i [] ≡ l)
line-found bs n l (line-ended t more h e) =
    let w = found-ended bs t more h e in
    (0, refl, subst (λ (ls : List (List ℕ)). 0 < length ls) (sym w) (omega arith), ap (λ (ls : List (List ℕ)). get_or ls 0 []) w)
line-found [] n l (line-unended h ne) = absurd (ne refl)
line-found (b ∷ bs) n l (line-unended h ne) =
    let w = lines-unended b bs h in
    (0, refl, subst (λ (ls : List (List ℕ)). 0 < length ls) (sym w) (omega arith), ap (λ (ls : List (List ℕ)). get_or ls 0 []) w)
line-found bs n l (line-later {n = m} t more h e k) =
    let w = found-ended bs t more h e in
    let (i, p, few, at) = line-found more m l k in
    (suc i, ap suc p, subst (λ (ls : List (List ℕ)). suc i < length ls) (sym w) (omega arith), ap (λ (ls : List (List ℕ)). get_or ls (suc i) []) w ∙ at)
