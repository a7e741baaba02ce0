-- One line more: what is listed of each line before it and of the line itself, and how deep a line of so many bytes can stand.
use mathlib.Core.Path.{◌≡◌, refl, sym, ap, subst, ◌∙◌}
use mathlib.Core.Bool.{Bool, true, false, ◌&&◌}
use mathlib.Core.List.{List, [], ◌∷◌, ◌++◌, map}
use mathlib.Core.Option
use mathlib.Core.Option.{Option, none, some, none-ne-some}
use Prim.Native.Nat.{ℕ, zero, suc, ◌*◌, ◌≤◌, ◌<◌}
use native.Mathlib.Omega.{arith}
use lib.ListN.{length, set, drop}
use lib.Seq.{get_or-set_other}
use lib.Dec.{eqb}
use Rattle.meaning.specs.Basics.{if_else}
use Rattle.meaning.specs.Texts.{line_feed}
use Rattle.meaning.specs.Lines as bytes
use Rattle.meaning.specs.Lines.{text, ending}
use Rattle.grammar.specs.Grammar.{Token}
use Rattle.grammar.specs.Outline.{OutlineLine, Lined, lined, Levels, accept_line, accept_all, outset}
use Rattle.grammar.specs.Classes.{class_of}
use Rattle.grammar.specs.Scan.{space}
use Rattle.grammar.specs.LineBytes.{body_of, Written, written, at_zero, down, line_from_bytes}
use Rattle.read_lines.specs.LineRead.{written_in, line_written}
use Rattle.read_levels.specs.Kinds.{kind_number, expect_at, expectations, kinds_from, kinds_of}
use Rattle.read_levels.specs.Listing.{start_of}

-- Lists -------------------------------------------------------------------------------------------------------------------------------

-- what holds of each of some lines and of one more holds of each of them all
pub by-snoc : (ys : List Lined) (y : Lined) (P : ℕ → Lined → Type 0) → ((j : ℕ) (z : Lined) (rest : List Lined) → drop j ys ≡ z ∷ rest → P j z) → P (length ys) y
    → (j : ℕ) (z : Lined) (rest : List Lined) → drop j (ys ++ (y ∷ [])) ≡ z ∷ rest → P j z
by-snoc [] y P h p zero z rest e = let i : y ≡ z = cc in subst (P 0) i p
by-snoc [] y P h p (suc zero) z rest e = absurd (let n : ◌≡◌ {A = ℕ} 0 (suc (length rest)) = ap length e in omega arith)
by-snoc [] y P h p (suc (suc j)) z rest e = absurd (let n : ◌≡◌ {A = ℕ} 0 (suc (length rest)) = ap length e in omega arith)
by-snoc (x ∷ ys) y P h p zero z rest e = let i : x ≡ z = cc in h 0 z ys (ap (λ (w : Lined). w ∷ ys) i)
by-snoc (x ∷ ys) y P h p (suc j) z rest e = by-snoc ys y (λ k. P (suc k)) (λ k. h (suc k)) p j z rest e

pub map_snoc : {A B : Type 0} (f : A → B) (xs : List A) (y : A) → map f (xs ++ (y ∷ [])) ≡ map f xs ++ (f y ∷ [])
map_snoc f [] y = refl
map_snoc f (x ∷ xs) y = ap (λ (r : List _). f x ∷ r) (map_snoc f xs y)

-- tokens of a line begin as before where later ends are put
pub start-set : (ends : List ℕ) (n i v : ℕ) → i ≤ n → start_of (set ends n v) i ≡ start_of ends i
unfolding start_of
start-set ends n zero v h = refl
start-set ends n (suc i) v h = get_or-set_other ends n i v 0 (λ z. omega arith)

-- Kinds -------------------------------------------------------------------------------------------------------------------------------

refused-on : (ls : List Lined) → accept_all none ls ≡ none
unfolding accept_all accept_line
refused-on [] = refl
refused-on (y ∷ ls) = refused-on ls

-- the levels after one line more
pub accept-snoc : (ls : List Lined) (o : Option Levels) (y : Lined) → accept_all o (ls ++ (y ∷ [])) ≡ accept_line (accept_all o ls) y
unfolding accept_all
accept-snoc [] o y = refl
accept-snoc (z ∷ ls) o y = accept-snoc ls (accept_line o z) y

module _ (l : ℕ) (x : OutlineLine) (k : Levels) where
  kinds-more : (ls : List Lined) (o : Option Levels) → accept_all o ls ≡ some k
      → kinds_from (expectations o (ls ++ (lined l x ∷ []))) (ls ++ (lined l x ∷ [])) ≡ kinds_from (expectations o ls) ls ++ (kind_number (expect_at k l) (class_of x) ∷ [])
  unfolding accept_all accept_line expectations kinds_from
  kinds-more [] o e = rw e refl
  kinds-more (lined m y ∷ ls) none e = absurd (none-ne-some k (sym (refused-on ls) ∙ e))
  kinds-more (lined m y ∷ ls) (some j) e = ap (λ (ks : List ℕ). kind_number (expect_at j m) (class_of y) ∷ ks) (kinds-more ls (accept_line (some j) (lined m y)) e)

  -- the kind of one line more
  pub kinds-snoc : (ls : List Lined) → accept_all outset ls ≡ some k → kinds_of (ls ++ (lined l x ∷ [])) ≡ kinds_of ls ++ (kind_number (expect_at k l) (class_of x) ∷ [])
  unfolding kinds_of
  kinds-snoc ls e = kinds-more ls outset e

-- How deep a line stands ----------------------------------------------------------------------------------------------------------------

level-zero : (o : Option (List Token)) (l : ℕ) (ts : List Token) → at_zero o ≡ some (written l ts) → l ≡ 0
level-zero none l ts e = absurd (none-ne-some (written l ts) e)
level-zero (some us) l ts e = cc

level-bytes : (bs : List ℕ) (l : ℕ) (ts : List Token) → line_from_bytes bs ≡ some (written l ts) → 2 * l ≤ length bs
unfolding line_from_bytes
level-bytes [] l ts e = let z = level-zero (body_of []) l ts e in omega arith
level-bytes (b ∷ []) l ts e = let z = level-zero (body_of (b ∷ [])) l ts e in omega arith
level-bytes (b ∷ c ∷ bs) l ts e = go (eqb b space && eqb c space) e (level-bytes bs)
  where
    deeper : (o : Option Written) → down o ≡ some (written l ts) → ((m : ℕ) (us : List Token) → o ≡ some (written m us) → 2 * m ≤ length bs) → 2 * l ≤ suc (suc (length bs))
    deeper none e h = absurd (none-ne-some (written l ts) e)
    deeper (some (written m us)) e h = let i : suc m ≡ l = cc in let j = h m us refl in omega (arith, i, j)

    go : (t : Bool) → if_else t (down (line_from_bytes bs)) (at_zero (body_of (b ∷ c ∷ bs))) ≡ some (written l ts)
        → ((m : ℕ) (us : List Token) → line_from_bytes bs ≡ some (written m us) → 2 * m ≤ length bs) → 2 * l ≤ suc (suc (length bs))
    go true e h = deeper (line_from_bytes bs) e h
    go false e h = let z = level-zero (body_of (b ∷ c ∷ bs)) l ts e in omega arith

text-shorter : (line t : List ℕ) → bytes.text line ≡ some t → length t < length line
unfolding text
text-shorter [] t e = absurd (none-ne-some t e)
text-shorter (b ∷ bs) t e = go (eqb b line_feed) e (text-shorter bs)
  where
    ends : (s : List ℕ) → ending s ≡ some t → length t < suc (length s)
    ends [] e = let i : [] ≡ t = cc in let n : 0 ≡ length t = ap length i in omega arith
    ends (c ∷ cs) e = absurd (none-ne-some t e)

    more : (o : Option (List ℕ)) → Option.map (λ u. b ∷ u) o ≡ some t → ((u : List ℕ) → o ≡ some u → length u < length bs) → length t < suc (length bs)
    more none e h = absurd (none-ne-some t e)
    more (some u) e h = let i : b ∷ u ≡ t = cc in let n : suc (length u) ≡ length t = ap length i in let j = h u refl in omega arith

    go : (s : Bool) → if_else s (ending bs) (Option.map (λ u. b ∷ u) (bytes.text bs)) ≡ some t → ((u : List ℕ) → bytes.text bs ≡ some u → length u < length bs) → length t < suc (length bs)
    go true e h = ends bs e
    go false e h = more (bytes.text bs) e h

-- its indentation and its line feed are among its bytes
pub level-low : (line : List ℕ) (l : ℕ) (ts : List Token) → line_written line ≡ some (written l ts) → 2 * l < length line
level-low line l ts e = go (bytes.text line) refl e
  where
    go : (o : Option (List ℕ)) → bytes.text line ≡ o → written_in o ≡ some (written l ts) → 2 * l < length line
    go none i e = absurd (none-ne-some (written l ts) e)
    go (some t) i e = let a = level-bytes t l ts e in let b = text-shorter line t i in omega arith
