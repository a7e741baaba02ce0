-- What the next chunk of a text is read as, after the spaces before it.
use mathlib.Core.Path.{◌≡◌, refl, sym, ap, ap₂, subst, ◌∙◌}
use mathlib.Core.Bool.{Bool, true, false, ◌&&◌, ◌||◌, and-false}
use mathlib.Core.List.{List, [], ◌∷◌}
use mathlib.Core.Option.{Option, none, some, none-ne-some, some-injective}
use Prim.Native.Nat.{ℕ, zero, suc, ◌+◌, ◌-◌, ◌≤◌, ◌<◌}
use native.Mathlib.Omega.{arith}
use lib.IntN.{pos}
use lib.ListN.{length, get_or, take, drop, length-drop}
use lib.Seq.{drop-drop, drop-cons, get_or-drop, length-take-le}
use lib.Dec.{eqb}
use borrow.Author.Tests.{eqb-true, eqb-false, lt-ltb, le-ltb}
use Rattle.meaning.specs.Basics.{if_else}
use Rattle.meaning.specs.Texts.{line_feed}
use Rattle.meaning.specs.Lines.{same, line_size}
use Rattle.meaning.specs.Numerals.{is_digit, natural, digits_value}
use Rattle.meaning.specs.Numerals as numerals
use Rattle.grammar.specs.Grammar.{Token, name}
use Rattle.grammar.specs.Scan.{Edge, start, blank, token, may_not_follow, front, put_token, read}
use Rattle.grammar.specs.Tokens.{hang, is_word_byte, needs_space, is_wordlike, token_of, is_word, or_number, token_spelt, symbols}
use Rattle.read_tokens.specs.Sorts as sorts
use Rattle.read_tokens.specs.Lexemes.{token_lexeme}
use Rattle.read_tokens.specs.Chunks.{chunk_size}
use Rattle.read_tokens.specs.Held.{token_sort, token_by, name_held, placed}
use Rattle.read_tokens.proofs.HeldLaws.{held-told, name-held-told, name-by-sort}
use Rattle.read_scan.specs.Nexts.{blanks, chunk_in}
use Rattle.read_scan.specs.LastBytes.{last_of}
use Rattle.read_scan.proofs.LastTells.{last-tells, name-is, part-last}
use Rattle.read_scan.proofs.NextLaws.{chunk-wide, chunk-within, AfterBlanks, nothing, begun, after-blanks}
use Rattle.read_scan.proofs.NextSteps.{no_bytes}
use Rattle.read_lines.specs.LineParts.{misplaced, held_value}
use Rattle.read_lines.proofs.FeedSteps.{read_to, read_none, read-fed, blanks-first, blanks-after, read-chunk, fed-sized, chunk-sized, blanks-sized}

-- The first chunk of some bytes -------------------------------------------------------------------------------------------------

-- the bytes that hang together at the beginning
abbrev first_chunk : List ℕ → List ℕ
first_chunk bs = take (chunk_size bs) bs

-- a line feed hangs together with nothing after it, and is no token
feed-parts : (c : ℕ) → hang line_feed c ≡ false
feed-parts c = go (is_word_byte c) (is_digit c) (eqb c 61) (eqb c 62)
  where
    go : (w d e m : Bool) → ((w && false) || ((d && false) || ((e && false) || (m && false)))) ≡ false
    go w d e m = simp and-false

feed-alone : (bs : List ℕ) → chunk_size (line_feed ∷ bs) ≡ 1
unfolding chunk_size
feed-alone [] = refl
feed-alone (c ∷ cs) = ap (λ (t : Bool). if_else t (suc (chunk_size (c ∷ cs))) 1) (feed-parts c)

feed-untold : token_of (line_feed ∷ []) ≡ none
unfolding token_of is_word or_number token_spelt symbols same numerals.number natural digits_value
feed-untold = refl

feed-no-token : (bs : List ℕ) → token_of (first_chunk (line_feed ∷ bs)) ≡ none
feed-no-token bs = ap (λ (n : ℕ). token_of (take n (line_feed ∷ bs))) (feed-alone bs) ∙ feed-untold

-- a token is next: what is read if it may stand there
pub record TokenNext (bs : List ℕ) (t : Token) : Type 0 where
  pub reads : (e : Edge Token) → read_to e bs ≡ if_else (may_not_follow token_of hang needs_space e t) none (front token_of hang needs_space t (read_to (token t) (drop (chunk_size bs) bs)))
  pub sized : line_size bs ≡ chunk_size bs + line_size (drop (chunk_size bs) bs)
  pub wide : 0 < chunk_size bs

token-next : {bs : List ℕ} → AfterBlanks bs → (t : Token) → token_of (first_chunk bs) ≡ some t → TokenNext bs t
unfolding chunk_size
token-next nothing t h = absurd (none-ne-some t (sym no_bytes ∙ h))
token-next (begun c cs q) t h = record {
  reads = λ e. read-chunk e c cs no-feed q ∙ ap (λ (o : Option Token). put_token token_of hang needs_space e o (λ u. read_to (token u) (drop (chunk_size (c ∷ cs)) (c ∷ cs)))) h;
  sized = chunk-sized c cs no-feed;
  wide = chunk-wide c cs;
}
  where
    no-feed : c ≡ line_feed → ⊥
    no-feed e = none-ne-some t (sym (feed-no-token cs) ∙ sym (ap (λ (b : ℕ). token_of (first_chunk (b ∷ cs))) e) ∙ h)

-- no token is next, and no line feed: nothing is read
none-next : {bs : List ℕ} → AfterBlanks bs → token_of (first_chunk bs) ≡ none → (get_or bs 0 0 ≡ line_feed → ⊥) → (e : Edge Token) → read_to e bs ≡ none
none-next nothing h f e = read_none e
none-next (begun c cs q) h f e = read-chunk e c cs f q ∙ ap (λ (o : Option Token). put_token token_of hang needs_space e o (λ u. read_to (token u) (drop (chunk_size (c ∷ cs)) (c ∷ cs)))) h

-- no token after a space: nothing is read
blank-next : (bs : List ℕ) → AfterBlanks bs → token_of (first_chunk bs) ≡ none → read_to blank bs ≡ none
unfolding read
blank-next [] w h = read_none blank
blank-next (c ∷ cs) w h = go (eqb c line_feed) refl
  where
    go : (t : Bool) → eqb c line_feed ≡ t → read_to blank (c ∷ cs) ≡ none
    go true e = read-fed blank c cs (eqb-true c line_feed e)
    go false e = none-next w h (eqb-false c line_feed e) blank

-- The next token of a text ------------------------------------------------------------------------------------------------------

-- what stands before a place: nothing of the line yet, or a token, which is a word or number exactly if its last byte says so
pub data EdgeAt (text : List ℕ) (p : ℕ) : Bool → Edge Token → Type 0 where
  unbegun : EdgeAt text p false start
  ended_by : (t : Token) → 0 < p → is_wordlike t ≡ is_word_byte (get_or text (p - 1) 0) → EdgeAt text p true (token t)

module _ (text : List ℕ) (p : ℕ) where
  -- where the next token begins and ends
  abbrev pub from : ℕ
  from = p + blanks (drop p text)

  abbrev pub to : ℕ
  to = from + chunk_size (drop from text)

  after-spaces : drop (blanks (drop p text)) (drop p text) ≡ drop from text
  after-spaces = drop-drop (blanks (drop p text)) p text

  next-begins : AfterBlanks (drop from text)
  next-begins = subst AfterBlanks after-spaces (after-blanks (drop p text))

  -- a token is next
  module _ (t : Token) (h : token_of (chunk_in text from) ≡ some t) where
    next : TokenNext (drop from text) t
    next = token-next next-begins t h

    -- what is read after it
    abbrev pub later : Option (List Token)
    later = front token_of hang needs_space t (read_to (token t) (drop to text))

    reads_at : (e : Edge Token) → read_to e (drop from text) ≡ if_else (may_not_follow token_of hang needs_space e t) none later
    reads_at e = next.reads e ∙ ap (λ (bs : List ℕ). if_else (may_not_follow token_of hang needs_space e t) none (front token_of hang needs_space t (read_to (token t) bs))) (drop-drop (chunk_size (drop from text)) from text)

    pub to-later : (p ≤ from) × (from < to) × (to ≤ length text)
    to-later =
        let w = next.wide in
        let i = chunk-within (drop from text) in
        let j = length-drop from text in
        (omega arith, omega arith, omega arith)

    -- its last byte tells whether it is a word or number
    pub last_byte : is_wordlike t ≡ is_word_byte (get_or text (to - 1) 0)
    last_byte =
        let (l, w, i) = to-later in
        let n : to - from ≡ chunk_size (drop from text) = omega arith in
        last-tells (chunk_in text from) t h ∙ ap is_word_byte (sym (ap (λ (k : ℕ). last_of (take k (drop from text))) n) ∙ part-last text from to w i)

    -- the line goes on after it
    pub line-sized : p + line_size (drop p text) ≡ to + line_size (drop to text)
    line-sized =
        let a = (blanks-sized (blanks (drop p text)) (drop p text) (omega arith)).0 ∙ ap (λ (bs : List ℕ). blanks (drop p text) + line_size bs) after-spaces in
        let b = next.sized ∙ ap (λ (bs : List ℕ). chunk_size (drop from text) + line_size bs) (drop-drop (chunk_size (drop from text)) from text) in
        omega (arith, a, b)

    -- what is read from the place on: nothing if the token may not stand there
    pub token-read : (any : Bool) (e : Edge Token) → EdgeAt text p any e → read_to e (drop p text) ≡ if_else (misplaced text any p from to) none later
    token-read any e w = go (blanks (drop p text)) refl w
      where
        Read : Edge Token → Bool → Type 0
        Read e m = read_to e (drop p text) ≡ if_else m none later

        no-space : blanks (drop p text) ≡ 0 → (e : Edge Token) → Read e (may_not_follow token_of hang needs_space e t)
        no-space z e = let f : p ≡ from = omega arith in ap (λ (k : ℕ). read_to e (drop k text)) f ∙ reads_at e

        go : {any : Bool} {e : Edge Token} (k : ℕ) → blanks (drop p text) ≡ k → EdgeAt text p any e → Read e (misplaced text any p from to)
        go zero z unbegun = subst (λ (b : Bool). Read start (if_else b true false)) (sym (le-ltb p from (omega arith))) (no-space z start)
        go zero z (ended_by q l i) =
            subst (λ (b : Bool). Read (token q) (if_else b false (is_word_byte (get_or text (p - 1) 0) && is_word_byte (get_or text (to - 1) 0)))) (sym (le-ltb p from (omega arith)))
            (subst (λ (m : Bool). Read (token q) m) (ap₂ (λ (x y : Bool). x && y) i last_byte) (no-space z (token q)))
        go (suc k) z unbegun =
            subst (λ (b : Bool). Read start (if_else b true false)) (sym (lt-ltb p from (omega arith))) (blanks-first (drop p text) (omega arith))
        go (suc k) z (ended_by q l i) =
            subst (λ (b : Bool). Read (token q) (if_else b false (is_word_byte (get_or text (p - 1) 0) && is_word_byte (get_or text (to - 1) 0)))) (sym (lt-ltb p from (omega arith)))
            (blanks-after q (drop p text) (omega arith) ∙ ap (read_to blank) after-spaces ∙ reads_at blank)

    -- it is told by its sort and the number that is listed
    pub listed-token : token_by (name_held text) (token_lexeme t).sort (held_value (token_lexeme t).sort (token_lexeme t).value from to) ≡ some t
    listed-token = go (eqb (token_sort t) sorts.name) refl
      where
        go : (b : Bool) → eqb (token_sort t) sorts.name ≡ b → token_by (name_held text) (token_sort t) (if_else b (pos (placed from (to - from))) (token_lexeme t).value) ≡ some t
        go true e =
            let i = eqb-true (token_sort t) sorts.name e in
            let (n, j) = name-by-sort t i in
            let (same-letters, few) = name-is (chunk_in text from) n (h ∙ ap some j) in
            let k : to - from ≡ chunk_size (drop from text) = omega arith in
            let l = length-take-le (chunk_size (drop from text)) (drop from text) (chunk-within (drop from text)) in
            ap (λ (s : ℕ). token_by (name_held text) s (pos (placed from (to - from)))) i
            ∙ name-held-told text n from (to - from) (omega arith) (same-letters ∙ ap (λ (m : ℕ). take m (drop from text)) (sym k))
            ∙ ap some (sym j)
        go false e = held-told (name_held text) t (λ n q. eqb-false (token_sort t) sorts.name e (ap token_sort (some-injective t (name n) q)))

  -- no token is next: the line is ended if there are tokens before, and its line feed is at the place
  pub end_read : p < length text → token_of (chunk_in text from) ≡ none → (any : Bool) (e : Edge Token) → EdgeAt text p any e
      → read_to e (drop p text) ≡ if_else (any && eqb (get_or text p 0) line_feed) (some []) none
  unfolding read
  end_read l h any e w = go (eqb (get_or text p 0) line_feed) refl w
    where
      other : {any : Bool} {e : Edge Token} → (get_or text p 0 ≡ line_feed → ⊥) → EdgeAt text p any e → (k : ℕ) → blanks (drop p text) ≡ k → read_to e (drop p text) ≡ none
      other {any} {e} f w zero z =
          let i : p ≡ from = omega arith in
          let j : from + 0 ≡ p = omega arith in
          ap (λ (k : ℕ). read_to e (drop k text)) i
          ∙ none-next next-begins h (λ q. f (sym (get_or-drop from text 0 0 ∙ ap (λ (k : ℕ). get_or text k 0) j) ∙ q)) e
      other f unbegun (suc k) z = blanks-first (drop p text) (omega arith)
      other f (ended_by q a b) (suc k) z = blanks-after q (drop p text) (omega arith) ∙ ap (read_to blank) after-spaces ∙ blank-next (drop from text) next-begins h

      fed : (e : Edge Token) → get_or text p 0 ≡ line_feed → read_to e (drop p text) ≡ read token_of hang needs_space e []
      fed e q = ap (read_to e) (drop-cons text p 0 l) ∙ read-fed e (get_or text p 0) (drop (suc p) text) q

      go : {any : Bool} {e : Edge Token} (t : Bool) → eqb (get_or text p 0) line_feed ≡ t → EdgeAt text p any e → read_to e (drop p text) ≡ if_else (any && t) (some []) none
      go true q unbegun = fed start (eqb-true (get_or text p 0) line_feed q)
      go true q (ended_by t a b) = fed (token t) (eqb-true (get_or text p 0) line_feed q)
      go false q unbegun = other (eqb-false (get_or text p 0) line_feed q) unbegun (blanks (drop p text)) refl
      go false q (ended_by t a b) = other (eqb-false (get_or text p 0) line_feed q) (ended_by t a b) (blanks (drop p text)) refl

  -- where it is, the line ends after it
  pub end-sized : p < length text → get_or text p 0 ≡ line_feed → line_size (drop p text) ≡ 1
  end-sized l q = ap line_size (drop-cons text p 0 l) ∙ fed-sized (get_or text p 0) (drop (suc p) text) q
