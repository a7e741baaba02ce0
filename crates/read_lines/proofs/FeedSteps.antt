-- The bytes up to the first line feed, byte by byte, and the tokens that they are read as.
use mathlib.Core.Path.{◌≡◌, refl, sym, ap, ap₂, subst, ◌∙◌}
use mathlib.Core.Bool.{Bool, true, false, ◌&&◌, false≢true}
use mathlib.Core.List.{List, [], ◌∷◌}
use mathlib.Core.Option.{Option, none, some, map}
use Prim.Native.Nat.{ℕ, zero, suc, ◌+◌, ◌*◌, ◌/◌, ◌≤◌, ◌<◌}
use native.Mathlib.Omega.{arith}
use lib.ListN.{length, take, drop}
use lib.Seq.{drop-drop}
use lib.Dec.{eqb}
use borrow.Author.Tests.{eqb-true, eq-eqb, ne_eqb}
use Rattle.meaning.specs.Basics.{if_else}
use Rattle.meaning.specs.Texts.{line_feed}
use Rattle.meaning.specs.Lines.{line_size, ending, text}
use Rattle.grammar.specs.Grammar.{Token}
use Rattle.grammar.specs.Scan.{space, Item, gap, chunk, Edge, start, blank, token, may_not_follow, front, put_token, glue, items, read, tokens}
use Rattle.grammar.specs.Tokens.{token_of, hang, needs_space}
use Rattle.grammar.specs.LineBytes.{Written, written, body_of, at_zero, down, line_from_bytes}
use Rattle.read_tokens.specs.Chunks.{chunk_size}
use Rattle.read_scan.specs.Nexts.{blanks}
use Rattle.read_scan.proofs.NextLaws.{chunk-wide}
use Rattle.read_lines.specs.LineParts.{line_from, indent_of}
use Rattle.read_lines.specs.LineRead.{written_in, line_written}

-- The bytes before the first line feed --------------------------------------------------------------------------------------------

-- the bytes before the first line feed, if there is one
fed : List ℕ → Option (List ℕ)
fed bs = text (take (line_size bs) bs)

fed-none : fed [] ≡ none
unfolding fed text line_size
fed-none = refl

-- a byte more
fed-more : (b : ℕ) (bs : List ℕ) → fed (b ∷ bs) ≡ if_else (eqb b line_feed) (some []) (map (λ t. b ∷ t) (fed bs))
unfolding fed text line_size
fed-more b bs = go (eqb b line_feed) refl
  where
    go : (t : Bool) → eqb b line_feed ≡ t
        → text (take (if_else t 1 (suc (line_size bs))) (b ∷ bs)) ≡ if_else t (some []) (map (λ t. b ∷ t) (text (take (line_size bs) bs)))
    go true e = ap (λ (t : Bool). if_else t (some []) (map (λ t. b ∷ t) none)) e
    go false e = ap (λ (t : Bool). if_else t (ending (take (line_size bs) bs)) (map (λ t. b ∷ t) (text (take (line_size bs) bs)))) e

-- Their items -------------------------------------------------------------------------------------------------------------------

-- spaces and chunks of some bytes
abbrev items_of : List ℕ → List Item
items_of bs = items token_of hang needs_space bs

-- those before the first line feed
items_to : List ℕ → Option (List Item)
items_to bs = map items_of (fed bs)

-- a byte before some items
abbrev before : ℕ → List Item → List Item
before b is = glue token_of hang needs_space b is

items-none : items_to [] ≡ none
unfolding items_to
items-none = ap (map items_of) fed-none

-- the line feed is next
items-fed : (b : ℕ) (bs : List ℕ) → eqb b line_feed ≡ true → items_to (b ∷ bs) ≡ some []
unfolding items_to items
items-fed b bs e = ap (map items_of) (fed-more b bs ∙ ap (λ (t : Bool). if_else t (some []) (map (λ t. b ∷ t) (fed bs))) e)

-- another byte is next
items_more : (b : ℕ) (bs : List ℕ) → eqb b line_feed ≡ false → items_to (b ∷ bs) ≡ map (λ is. if_else (eqb b space) (gap ∷ is) (before b is)) (items_to bs)
unfolding items_to items
items_more b bs e = ap (map items_of) (fed-more b bs ∙ ap (λ (t : Bool). if_else t (some []) (map (λ t. b ∷ t) (fed bs))) e) ∙ go (fed bs)
  where
    go : (o : Option (List ℕ)) → map items_of (map (λ t. b ∷ t) o) ≡ map (λ is. if_else (eqb b space) (gap ∷ is) (before b is)) (map items_of o)
    go none = refl
    go (some t) = refl

items-space : (bs : List ℕ) → items_to (space ∷ bs) ≡ map (λ is. gap ∷ is) (items_to bs)
items-space bs = items_more space bs refl

items-before : (b : ℕ) (bs : List ℕ) → eqb b line_feed ≡ false → eqb b space ≡ false → items_to (b ∷ bs) ≡ map (before b) (items_to bs)
items-before b bs e q = items_more b bs e ∙ ap (λ (t : Bool). map (λ is. if_else t (gap ∷ is) (before b is)) (items_to bs)) q

-- n bytes as a chunk, and then the items of the rest
abbrev ChunkThen : ℕ → List ℕ → Type 0
ChunkThen n bs = items_to bs ≡ map (λ is. chunk (take n bs) ∷ is) (items_to (drop n bs))

-- nothing hangs together with a line feed after it
feed-apart : (b c : ℕ) → eqb c line_feed ≡ true → hang b c ≡ false
feed-apart b c e = subst (λ (n : ℕ). hang b n ≡ false) (sym (eqb-true c line_feed e)) refl

space-apart : (b c : ℕ) → eqb c space ≡ true → hang b c ≡ false
space-apart b c e = subst (λ (n : ℕ). hang b n ≡ false) (sym (eqb-true c space e)) refl

-- a first byte that stays a chunk of its own
stays : (b : ℕ) (bs : List ℕ) → eqb b line_feed ≡ false → eqb b space ≡ false → (f : List Item → List Item) (o : Option (List Item)) → items_to bs ≡ map f o
    → ((is : List Item) → before b (f is) ≡ chunk (b ∷ []) ∷ f is) → ChunkThen 1 (b ∷ bs)
stays b bs e q f o h g = items-before b bs e q ∙ ap (map (before b)) h ∙ go o ∙ sym (ap (map (λ is. chunk (b ∷ []) ∷ is)) h)
  where
    go : (o : Option (List Item)) → map (before b) (map f o) ≡ map (λ is. chunk (b ∷ []) ∷ is) (map f o)
    go none = refl
    go (some is) = ap some (g is)

-- a first byte that hangs together with the next
grows : (b c : ℕ) (cs : List ℕ) → eqb b line_feed ≡ false → eqb b space ≡ false → (m : ℕ) → 0 < m → ChunkThen m (c ∷ cs) → (t : Bool) → hang b c ≡ t → ChunkThen (if_else t (suc m) 1) (b ∷ c ∷ cs)
unfolding glue
grows b c cs e q zero l h t g = absurd (omega arith)
grows b c cs e q (suc m) l h true g = items-before b (c ∷ cs) e q ∙ ap (map (before b)) h ∙ go (items_to (drop m cs))
  where
    go : (o : Option (List Item)) → map (before b) (map (λ is. chunk (c ∷ take m cs) ∷ is) o) ≡ map (λ is. chunk (b ∷ c ∷ take m cs) ∷ is) o
    go none = refl
    go (some is) = ap (λ (t : Bool). some (if_else t (chunk (b ∷ c ∷ take m cs) ∷ is) (chunk (b ∷ []) ∷ chunk (c ∷ take m cs) ∷ is))) g
grows b c cs e q (suc m) l h false g =
    stays b (c ∷ cs) e q (λ is. chunk (c ∷ take m cs) ∷ is) (items_to (drop m cs)) h
    (λ is. ap (λ (t : Bool). if_else t (chunk (b ∷ c ∷ take m cs) ∷ is) (chunk (b ∷ []) ∷ chunk (c ∷ take m cs) ∷ is)) g)

-- the bytes that hang together at the beginning are the first chunk
chunk-to : (b : ℕ) (bs : List ℕ) → eqb b line_feed ≡ false → eqb b space ≡ false → ChunkThen (chunk_size (b ∷ bs)) (b ∷ bs)
unfolding chunk_size glue
chunk-to b [] e q = items-before b [] e q ∙ ap (map (before b)) items-none ∙ sym (ap (map (λ is. chunk (b ∷ []) ∷ is)) items-none)
chunk-to b (c ∷ cs) e q = go (eqb c line_feed) refl (eqb c space) refl (chunk-to c cs) (chunk-wide c cs)
  where
    Goal : Bool → Type 0
    Goal t = ChunkThen (if_else t (suc (chunk_size (c ∷ cs))) 1) (b ∷ c ∷ cs)

    go : (f : Bool) → eqb c line_feed ≡ f → (s : Bool) → eqb c space ≡ s → (eqb c line_feed ≡ false → eqb c space ≡ false → ChunkThen (chunk_size (c ∷ cs)) (c ∷ cs)) → 0 < chunk_size (c ∷ cs)
        → Goal (hang b c)
    go true ef s es h l = subst Goal (sym (feed-apart b c ef)) (stays b (c ∷ cs) e q (λ is. []) (some []) (items-fed c cs ef) (λ is. refl))
    go false ef true es h l =
        subst Goal (sym (space-apart b c es))
        (stays b (c ∷ cs) e q (λ is. gap ∷ is) (items_to cs) (items_more c cs ef ∙ ap (λ (t : Bool). map (λ is. if_else t (gap ∷ is) (before c is)) (items_to cs)) es) (λ is. refl))
    go false ef false es h l = grows b c cs e q (chunk_size (c ∷ cs)) l (h ef es) (hang b c) refl

-- Tokens ------------------------------------------------------------------------------------------------------------------------

-- the tokens that the bytes before the first line feed are, after what stands before them
read_items : Edge Token → Option (List Item) → Option (List Token)
read_items e none = none
read_items e (some is) = read token_of hang needs_space e is

pub read_to : Edge Token → List ℕ → Option (List Token)
read_to e bs = read_items e (items_to bs)

-- no bytes are left
pub read_none : (e : Edge Token) → read_to e [] ≡ none
unfolding read_to read_items
read_none e = ap (read_items e) items-none

-- the line feed is next
pub read-fed : (e : Edge Token) (b : ℕ) (bs : List ℕ) → b ≡ line_feed → read_to e (b ∷ bs) ≡ read token_of hang needs_space e []
unfolding read_to read_items
read-fed e b bs h = ap (read_items e) (items-fed b bs (eq-eqb b line_feed h))

-- a space is next
space-first : (bs : List ℕ) → read_to start (space ∷ bs) ≡ none
unfolding read_to read_items read
space-first bs = ap (read_items start) (items-space bs) ∙ go (items_to bs)
  where
    go : (o : Option (List Item)) → read_items start (map (λ is. gap ∷ is) o) ≡ none
    go none = refl
    go (some is) = refl

space-again : (bs : List ℕ) → read_to blank (space ∷ bs) ≡ read_to blank bs
unfolding read_to read_items read
space-again bs = ap (read_items blank) (items-space bs) ∙ go (items_to bs)
  where
    go : (o : Option (List Item)) → read_items blank (map (λ is. gap ∷ is) o) ≡ read_items blank o
    go none = refl
    go (some is) = refl

space-after : (p : Token) (bs : List ℕ) → read_to (token p) (space ∷ bs) ≡ read_to blank bs
unfolding read_to read_items read
space-after p bs = ap (read_items (token p)) (items-space bs) ∙ go (items_to bs)
  where
    go : (o : Option (List Item)) → read_items (token p) (map (λ is. gap ∷ is) o) ≡ read_items blank o
    go none = refl
    go (some is) = refl

-- spaces are next
pub blanks-first : (bs : List ℕ) → 0 < blanks bs → read_to start bs ≡ none
unfolding blanks
blanks-first [] h = read_none start
blanks-first (b ∷ bs) h = go (eqb b space) refl h
  where
    go : (t : Bool) → eqb b space ≡ t → 0 < if_else t (suc (blanks bs)) 0 → read_to start (b ∷ bs) ≡ none
    go true q h = ap (λ (c : ℕ). read_to start (c ∷ bs)) (eqb-true b space q) ∙ space-first bs
    go false q h = absurd (omega arith)

pub blanks-again : (bs : List ℕ) → read_to blank bs ≡ read_to blank (drop (blanks bs) bs)
unfolding blanks
blanks-again [] = refl
blanks-again (b ∷ bs) = go (eqb b space) refl (blanks-again bs)
  where
    go : (t : Bool) → eqb b space ≡ t → read_to blank bs ≡ read_to blank (drop (blanks bs) bs) → read_to blank (b ∷ bs) ≡ read_to blank (drop (if_else t (suc (blanks bs)) 0) (b ∷ bs))
    go true q i = ap (λ (c : ℕ). read_to blank (c ∷ bs)) (eqb-true b space q) ∙ space-again bs ∙ i
    go false q i = refl

pub blanks-after : (p : Token) (bs : List ℕ) → 0 < blanks bs → read_to (token p) bs ≡ read_to blank (drop (blanks bs) bs)
unfolding blanks
blanks-after p [] h = absurd (omega arith)
blanks-after p (b ∷ bs) h = go (eqb b space) refl h
  where
    go : (t : Bool) → eqb b space ≡ t → 0 < if_else t (suc (blanks bs)) 0 → read_to (token p) (b ∷ bs) ≡ read_to blank (drop (if_else t (suc (blanks bs)) 0) (b ∷ bs))
    go true q h = ap (λ (c : ℕ). read_to (token p) (c ∷ bs)) (eqb-true b space q) ∙ space-after p bs ∙ blanks-again bs
    go false q h = absurd (omega arith)

-- a chunk is next
pub read-chunk : (e : Edge Token) (b : ℕ) (bs : List ℕ) → (b ≡ line_feed → ⊥) → eqb b space ≡ false
    → let n = chunk_size (b ∷ bs) in
    read_to e (b ∷ bs) ≡ put_token token_of hang needs_space e (token_of (take n (b ∷ bs))) (λ t. read_to (token t) (drop n (b ∷ bs)))
unfolding read_to read_items read
read-chunk e b bs f q = ap (read_items e) (chunk-to b bs (ne_eqb b line_feed f) q) ∙ go e (items_to (drop (chunk_size (b ∷ bs)) (b ∷ bs)))
  where
    s : List ℕ
    s = take (chunk_size (b ∷ bs)) (b ∷ bs)

    empty : (e : Edge Token) (o : Option Token) → none ≡ put_token token_of hang needs_space e o (λ t. none)
    empty e none = refl
    empty e (some t) = each (may_not_follow token_of hang needs_space e t)
      where
        each : (m : Bool) → none ≡ if_else m none (front token_of hang needs_space t none)
        each true = refl
        each false = refl

    go : (e : Edge Token) (o : Option (List Item)) → read_items e (map (λ is. chunk s ∷ is) o) ≡ put_token token_of hang needs_space e (token_of s) (λ t. read_items (token t) o)
    go e none = empty e (token_of s)
    go start (some is) = refl
    go blank (some is) = refl
    go (token p) (some is) = refl

-- Levels ------------------------------------------------------------------------------------------------------------------------

-- tokens at a level
abbrev pub written_at : ℕ → Option (List Token) → Option Written
written_at l none = none
written_at l (some ts) = some (written l ts)

-- the tokens that bytes are, if there are any
abbrev read_body : Option (List ℕ) → Option (List Token)
read_body none = none
read_body (some t) = body_of t

body-to : (bs : List ℕ) → read_to start bs ≡ read_body (fed bs)
unfolding read_to read_items items_to tokens
body-to bs = go (fed bs)
  where
    go : (o : Option (List ℕ)) → read_items start (map items_of o) ≡ read_body o
    go none = refl
    go (some t) = refl

no-level : (o : Option (List Token)) → at_zero o ≡ written_at 0 o
no-level none = refl
no-level (some ts) = refl

one-level : (l : ℕ) (o : Option (List Token)) → down (written_at l o) ≡ written_at (suc l) o
one-level l none = refl
one-level l (some ts) = refl

-- no two spaces are first
flat : (b c : ℕ) (bs : List ℕ) → (eqb b space && eqb c space) ≡ false → written_in (fed (b ∷ c ∷ bs)) ≡ written_at 0 (read_to start (b ∷ c ∷ bs))
unfolding line_from_bytes
flat b c bs h =
    let e = fed-more b (c ∷ bs) ∙ ap (λ (o : Option (List ℕ)). if_else (eqb b line_feed) (some []) (map (λ t. b ∷ t) o)) (fed-more c bs) in
    ap written_in e ∙ go (eqb b line_feed) (eqb c line_feed) (fed bs) ∙ sym (ap (written_at 0) (body-to (b ∷ c ∷ bs) ∙ ap read_body e))
  where
    go : (x y : Bool) (o : Option (List ℕ))
        → let p = if_else x (some []) (map (λ t. b ∷ t) (if_else y (some []) (map (λ t. c ∷ t) o))) in
        written_in p ≡ written_at 0 (read_body p)
    go true y o = no-level (body_of [])
    go false true o = no-level (body_of (b ∷ []))
    go false false none = refl
    go false false (some t) = ap (λ (u : Bool). if_else u (down (line_from_bytes t)) (at_zero (body_of (b ∷ c ∷ t)))) h ∙ no-level (body_of (b ∷ c ∷ t))

single : (b : ℕ) → written_in (fed (b ∷ [])) ≡ written_at 0 (read_to start (b ∷ []))
unfolding line_from_bytes
single b =
    let e = fed-more b [] ∙ ap (λ (o : Option (List ℕ)). if_else (eqb b line_feed) (some []) (map (λ t. b ∷ t) o)) fed-none in
    ap written_in e ∙ go (eqb b line_feed) ∙ sym (ap (written_at 0) (body-to (b ∷ []) ∙ ap read_body e))
  where
    go : (x : Bool) → written_in (if_else x (some []) none) ≡ written_at 0 (read_body (if_else x (some []) none))
    go true = no-level (body_of [])
    go false = refl

-- two spaces are first
indented : (bs : List ℕ) → written_in (fed (space ∷ space ∷ bs)) ≡ down (written_in (fed bs))
unfolding line_from_bytes
indented bs = ap written_in (fed-more space (space ∷ bs) ∙ ap (map (λ t. space ∷ t)) (fed-more space bs)) ∙ go (fed bs)
  where
    go : (o : Option (List ℕ)) → written_in (map (λ t. space ∷ t) (map (λ t. space ∷ t) o)) ≡ down (written_in o)
    go none = refl
    go (some t) = refl

-- the bytes before the first line feed are levels, and then tokens
written-to : (bs : List ℕ) → written_in (fed bs) ≡ written_at (indent_of bs) (read_to start (drop (2 * indent_of bs) bs))
unfolding blanks
written-to [] = ap written_in fed-none ∙ sym (ap (written_at 0) (body-to [] ∙ ap read_body fed-none))
written-to (b ∷ []) = go (eqb b space)
  where
    At : ℕ → Type 0
    At l = written_in (fed (b ∷ [])) ≡ written_at l (read_to start (drop (2 * l) (b ∷ [])))

    go : (x : Bool) → At (if_else x 1 0 / 2)
    go true = single b
    go false = single b
written-to (b ∷ c ∷ bs) = go (eqb b space) refl (eqb c space) refl (written-to bs)
  where
    At : ℕ → Type 0
    At l = written_in (fed (b ∷ c ∷ bs)) ≡ written_at l (read_to start (drop (2 * l) (b ∷ c ∷ bs)))

    go : (x : Bool) → eqb b space ≡ x → (y : Bool) → eqb c space ≡ y → written_in (fed bs) ≡ written_at (indent_of bs) (read_to start (drop (2 * indent_of bs) bs))
        → At (if_else x (suc (if_else y (suc (blanks bs)) 0)) 0 / 2)
    go true p true q h =
        let l : suc (indent_of bs) ≡ suc (suc (blanks bs)) / 2 = omega arith in
        let d : suc (suc (2 * indent_of bs)) ≡ 2 * suc (indent_of bs) = omega arith in
        subst At l
        (ap₂ (λ (x y : ℕ). written_in (fed (x ∷ y ∷ bs))) (eqb-true b space p) (eqb-true c space q)
        ∙ indented bs
        ∙ ap down h
        ∙ one-level (indent_of bs) (read_to start (drop (2 * indent_of bs) bs))
        ∙ ap (λ (n : ℕ). written_at (suc (indent_of bs)) (read_to start (drop n (b ∷ c ∷ bs)))) d)
    go true p false q h = flat b c bs (rw (p, q))
    go false p y q h = flat b c bs (rw p)

-- so is the line at a place of a text
pub line-written : (bytes : List ℕ) (at : ℕ) → let l = indent_of (drop at bytes) in line_written (line_from bytes at) ≡ written_at l (read_to start (drop (at + 2 * l) bytes))
unfolding fed
line-written bytes at =
    let l = indent_of (drop at bytes) in
    written-to (drop at bytes) ∙ ap (λ (bs : List ℕ). written_at l (read_to start bs)) (drop-drop (2 * l) at bytes)

-- Sizes -------------------------------------------------------------------------------------------------------------------------

-- the line feed is next
pub fed-sized : (b : ℕ) (bs : List ℕ) → b ≡ line_feed → line_size (b ∷ bs) ≡ 1
unfolding line_size
fed-sized b bs e = rw (eq-eqb b line_feed e)

-- another byte is next
more-sized : (b : ℕ) (bs : List ℕ) → (b ≡ line_feed → ⊥) → line_size (b ∷ bs) ≡ suc (line_size bs)
unfolding line_size
more-sized b bs f = rw (ne_eqb b line_feed f)

-- bytes that hang together and are no line feed are within a line
pub chunk-sized : (b : ℕ) (bs : List ℕ) → (b ≡ line_feed → ⊥) → let n = chunk_size (b ∷ bs) in line_size (b ∷ bs) ≡ n + line_size (drop n (b ∷ bs))
unfolding chunk_size
chunk-sized b [] f = let e = more-sized b [] f in omega arith
chunk-sized b (c ∷ cs) f = go (hang b c) refl (chunk-sized c cs)
  where
    Sized : ℕ → Type 0
    Sized n = line_size (b ∷ c ∷ cs) ≡ n + line_size (drop n (b ∷ c ∷ cs))

    go : (t : Bool) → hang b c ≡ t → ((c ≡ line_feed → ⊥) → line_size (c ∷ cs) ≡ chunk_size (c ∷ cs) + line_size (drop (chunk_size (c ∷ cs)) (c ∷ cs))) → Sized (if_else t (suc (chunk_size (c ∷ cs))) 1)
    go true h i =
        let e = more-sized b (c ∷ cs) f in
        let j = i (λ q. false≢true (sym (feed-apart b c (eq-eqb c line_feed q)) ∙ h)) in
        omega (arith, e, j)
    go false h i = let e = more-sized b (c ∷ cs) f in omega (arith, e)

-- so are spaces
pub blanks-sized : (k : ℕ) (bs : List ℕ) → k ≤ blanks bs → (line_size bs ≡ k + line_size (drop k bs)) × (k ≤ length bs)
unfolding blanks
blanks-sized zero bs h = (omega arith, omega arith)
blanks-sized (suc k) [] h = absurd (omega arith)
blanks-sized (suc k) (b ∷ bs) h = go (eqb b space) refl h (blanks-sized k bs)
  where
    go : (t : Bool) → eqb b space ≡ t → suc k ≤ if_else t (suc (blanks bs)) 0 → (k ≤ blanks bs → (line_size bs ≡ k + line_size (drop k bs)) × (k ≤ length bs))
        → (line_size (b ∷ bs) ≡ suc k + line_size (drop k bs)) × (suc k ≤ suc (length bs))
    go true q h i =
        let e = more-sized b bs (λ f. let z = eqb-true b space q in omega (arith, z, f)) in
        let (j, l) = i (omega arith) in
        (omega (arith, e, j), omega (arith, l))
    go false q h i = absurd (omega arith)
