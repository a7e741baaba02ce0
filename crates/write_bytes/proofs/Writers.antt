-- Writing at a place of a lent buffer: one byte, bytes after bytes, and all of them from the buffer's beginning.
use mathlib.Core.Path.{◌≡◌, refl, sym, ap, ap₂, ◌∙◌}
use mathlib.Core.Bool.{Bool, true, false}
use mathlib.Core.List.{List, [], ◌∷◌, ◌++◌, map, append-nil, append_assoc, flatten}
use Prim.Native.Nat.{ℕ, ◌+◌, ◌≤◌, ◌<◌}
use native.Mathlib.Numerals.{add-one}
use native.Mathlib.Omega.{arith}
use lib.ListN.{length, get_or, take, drop, set, length-append, length-set, drop_of_length-le}
use lib.Seq.{take-append_seam, drop-cons, set-append_seam, drop-nil}
use lib.Dec.{ltb}
use Rattle.meaning.specs.Basics.{if_else}
use borrow.Author.Tests.{lt-ltb, le-ltb}
use Rattle.meaning.specs.Texts.{line_feed, comma}
use Rattle.meaning.specs.Numerals.{decimal}
use Rattle.meaning.specs.Printing.{Line, line_bytes}
use Rattle.base_numbers.specs.declared.Text.{Text}
use Rattle.base_numbers.specs.Printing.{text_of}
use Rattle.write_bytes.specs.Writing.{printed_in, Writer, put, put_all, put_lines, shown, line_of}

-- One byte ------------------------------------------------------------------------------------------------------------------------

pub put-inside : (b at : ℕ) (o : List ℕ) → at < length o → put b (at, o) ≡ (at + 1, set o at b)
unfolding put
put-inside b at o h = ap (λ (t : Bool). if_else t (at + 1, set o at b) (at, o)) (lt-ltb at (length o) h)

pub put-outside : (b at : ℕ) (o : List ℕ) → length o ≤ at → put b (at, o) ≡ (at, o)
unfolding put
put-outside b at o h = ap (λ (t : Bool). if_else t (at + 1, set o at b) (at, o)) (le-ltb at (length o) h)

pub length-put : (b : ℕ) (w : Writer) → length (put b w).1 ≡ length w.1
unfolding put
length-put b w = go (ltb w.0 (length w.1))
  where
    go : (t : Bool) → length (if_else {A = Writer} t (w.0 + 1, set w.1 w.0 b) w).1 ≡ length w.1
    go true = length-set w.1 w.0 b
    go false = refl

-- Bytes after bytes ---------------------------------------------------------------------------------------------------------------

pub length-put_all : (bs : List ℕ) (w : Writer) → length (put_all bs w).1 ≡ length w.1
unfolding put_all
length-put_all [] w = refl
length-put_all (b ∷ bs) w = length-put_all bs (put b w) ∙ length-put b w

pub put_all-append : (xs ys : List ℕ) (w : Writer) → put_all (xs ++ ys) w ≡ put_all ys (put_all xs w)
unfolding put_all
put_all-append [] ys w = refl
put_all-append (x ∷ xs) ys w = put_all-append xs ys (put x w)

pub put_all-next : (bs : List ℕ) (i : ℕ) (w : Writer) → i < length bs → put_all (drop i bs) w ≡ put_all (drop (i + 1) bs) (put (get_or bs i 0) w)
unfolding put_all
put_all-next bs i w h = rw (add-one i, drop-cons bs i 0 h)

pub put_all-done : (bs : List ℕ) (i : ℕ) (w : Writer) → length bs ≤ i → put_all (drop i bs) w ≡ w
unfolding put_all
put_all-done bs i w h = ap (λ (l : List ℕ). put_all l w) (drop_of_length-le bs h)

-- Lines after lines ---------------------------------------------------------------------------------------------------------------

lines-append : (ls ms : List Line) → flatten (map line_bytes (ls ++ ms)) ≡ flatten (map line_bytes ls) ++ flatten (map line_bytes ms)
unfolding flatten
lines-append [] ms = refl
lines-append (l ∷ ls) ms = ap {B = List ℕ} (λ m. line_bytes l ++ m) (lines-append ls ms) ∙ sym (append_assoc (line_bytes l) _ _)

pub put_lines-append : (ls ms : List Line) (w : Writer) → put_lines (ls ++ ms) w ≡ put_lines ms (put_lines ls w)
unfolding put_lines
put_lines-append ls ms w = ap (λ (l : List ℕ). put_all l w) (lines-append ls ms) ∙ put_all-append _ _ w

pub put_lines-none : (w : Writer) → put_lines [] w ≡ w
unfolding put_lines put_all flatten
put_lines-none w = refl

pub put_lines-one : (l : Line) (w : Writer) → put_lines (l ∷ []) w ≡ put_all (line_bytes l) w
unfolding put_lines flatten
put_lines-one l w = ap (λ (m : List ℕ). put_all m w) (append-nil (line_bytes l))

pub length-put_lines : (ls : List Line) (w : Writer) → length (put_lines ls w).1 ≡ length w.1
unfolding put_lines
length-put_lines ls w = length-put_all _ w

-- A line -------------------------------------------------------------------------------------------------------------------------

-- a text shows the bytes that it was made of
pub shown-text : {t : Text} (l : List ℕ) → t ≡ text_of l → shown t ≡ l
shown-text l e = ap shown e ∙ take-append_seam l _

-- a word, two numbers, a value and a line feed, one after another, are a line
pub line_made : (w₀ : Writer) {w₁ w₂ w₃ w₄ w₅ : Writer} {s t : Text} (word : List ℕ) (n p : ℕ) (v : List ℕ)
    → w₁ ≡ put_all word w₀ → s ≡ text_of (decimal n) → w₂ ≡ put_all (comma ∷ shown s) w₁ → t ≡ text_of (decimal p) → w₃ ≡ put_all (comma ∷ shown t) w₂
    → w₄ ≡ put_all (comma ∷ v) w₃ → w₅ ≡ put line_feed w₄ → w₅ ≡ put_all (line_of word n p v) w₀
unfolding put_all
line_made w₀ word n p v e₁ f e₂ g e₃ e₄ e₅ =
    e₅
    ∙ ap (put line_feed) (e₄ ∙ ap (put_all (comma ∷ v)) (e₃ ∙ ap₂ (λ (l : List ℕ) (w : Writer). put_all (comma ∷ l) w) (shown-text (decimal p) g) (e₂ ∙ ap₂ (λ (l : List ℕ) (w : Writer). put_all (comma ∷ l) w) (shown-text (decimal n) f) e₁)))
    ∙ sym (put_all-append (word ++ one ++ two ++ three) (line_feed ∷ []) w₀ ∙ ap (put line_feed) (put_all-append (word ++ one ++ two) three w₀ ∙ ap (put_all three) (put_all-append (word ++ one) two w₀ ∙ ap (put_all two) (put_all-append word one w₀))))
  where
    -- the three fields
    one : List ℕ
    one = comma ∷ decimal n

    two : List ℕ
    two = comma ∷ decimal p

    three : List ℕ
    three = comma ∷ v

-- All of them from the beginning --------------------------------------------------------------------------------------------------

full : (bs o : List ℕ) → put_all bs (length o, o) ≡ (length o, o)
unfolding put_all
full [] o = refl
full (b ∷ bs) o = ap (put_all bs) (put-outside b (length o) o (omega arith)) ∙ full bs o

-- the bytes after some that stand in front
after : (bs front old : List ℕ) → put_all bs (length front, front ++ old) ≡ (length front + length (take (length old) bs), front ++ (take (length old) bs ++ drop (length bs) old))
unfolding put_all
after bs front [] =
    ap (λ (l : List ℕ). put_all bs (length front, l)) (append-nil front)
    ∙ full bs front
    ∙ ap₂ (λ (n : ℕ) (l : List ℕ). (n, l)) (omega arith) (sym (append-nil front) ∙ ap {B = List ℕ} (λ l. front ++ l) (sym (drop-nil (length bs))))
after [] front (o ∷ old) = ap (λ (n : ℕ). (n, front ++ (o ∷ old))) (omega arith)
after (b ∷ bs) front (o ∷ old) =
    ap (put_all bs) (put-inside b (length front) (front ++ (o ∷ old)) (omega (arith, length-append front (o ∷ old))))
    ∙ ap₂ (λ (n : ℕ) (l : List ℕ). put_all bs (n, l)) (sym (length-append front (b ∷ []))) (set-append_seam front o old b ∙ sym (append_assoc front (b ∷ []) old))
    ∙ after bs (front ++ (b ∷ [])) old
    ∙ ap₂ (λ (n : ℕ) (l : List ℕ). (n, l)) (omega (arith, length-append front (b ∷ []))) (append_assoc front (b ∷ []) (take (length old) bs ++ drop (length bs) old))

pub put_all-first : (bs old : List ℕ) → put_all bs (0, old) ≡ printed_in bs old
put_all-first bs old = after bs [] old ∙ ap (λ (n : ℕ). (n, take (length old) bs ++ drop (length bs) old)) (omega arith)
