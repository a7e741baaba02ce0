-- The tokens of a line listed one after the other.
use mathlib.Core.Path.{◌≡◌, refl, sym, ap, ap₂, subst, ◌∙◌}
use mathlib.Core.Bool.{Bool, true, false}
use mathlib.Core.List.{List, [], ◌∷◌, ◌++◌, map, map-append, append-nil, append_assoc}
use mathlib.Core.Option
use mathlib.Core.Option.{Option, none, some}
use Rattle.std.specs.Prelude as lines
use Rattle.std.specs.Prelude.{Some, None}
use Rattle.std.specs.Bool.{then_some}
use Prim.Native.Nat.{ℕ, suc, ◌+◌, ◌-◌, ◌*◌, ◌≤◌, ◌<◌}
use native.Mathlib.Omega.{arith}
use lib.IntN.{ℤ}
use lib.ListN.{length, get_or, take, drop, set, length-set, length-drop, length-append, drop_of_length-le}
use lib.Seq.{drop-drop, take-set-le, drop-set-add, take-suc-set, length-take-le}
use lib.Dec.{eqb, ltb}
use borrow.Author.Tests.{lt-ltb, le-ltb, eqb-true}
use Rattle.meaning.specs.Basics.{if_else}
use Rattle.meaning.specs.Texts.{line_feed}
use Rattle.meaning.specs.Lines.{line_size}
use Rattle.grammar.specs.Grammar.{Token}
use Rattle.grammar.specs.Scan.{Edge, start, token, front}
use Rattle.grammar.specs.Tokens.{hang, needs_space, is_word_byte, token_of}
use Rattle.grammar.specs.LineBytes.{written}
use Rattle.grammar.proofs.LinesSound.{split-and}
use Rattle.read_tokens.specs.Lexemes.{token_lexeme}
use Rattle.read_tokens.specs.Held.{token_sort, part, token_by, tokens_by, name_held, tokens_held}
use Rattle.read_tokens.specs.declared.Lexeme.{Lexeme}
use Rattle.read_tokens.proofs.HeldLaws.{tokens-more}
use Rattle.read_scan.specs.declared.Next.{Next}
use Rattle.read_scan.specs.Nexts.{blanks, chunk_in, standing, next_in}
use Rattle.read_lines.specs.declared.Listed.{Listed}
use Rattle.read_lines.specs.LineParts.{line_from, indent_of, misplaced, held_value, ended_at}
use Rattle.read_lines.specs.LineRead.{line_written, SpeltLine, LineRead}
use Rattle.read_lines.proofs.FeedSteps.{read_to, read_none, written_at, line-written, blanks-sized}
use Rattle.read_lines.proofs.NextRead.{EdgeAt, unbegun, ended_by, from, to, to-later, last_byte, line-sized, token-read, listed-token, end_read, end-sized}

-- Lists -------------------------------------------------------------------------------------------------------------------------

-- a part of a list grows by what is written at its end
part-more : {A : Type 0} (xs : List A) (a n : ℕ) (x : A) → a ≤ n → n < length xs → part (set xs n x) a (n + 1) ≡ part xs a n ++ (x ∷ [])
part-more xs a n x h l =
    let m = n - a in
    let e : a + m ≡ n = omega arith in
    let k : n + 1 - a ≡ suc m = omega arith in
    let d = length-drop a xs in
    ap (λ (j : ℕ). take j (drop a (set xs n x))) k
    ∙ ap (λ (j : ℕ). take (suc m) (drop a (set xs j x))) (sym e)
    ∙ ap (λ (ys : List _). take (suc m) ys) (drop-set-add a xs m x)
    ∙ take-suc-set (drop a xs) m x (omega arith)

part_length : {A : Type 0} (xs : List A) (a n : ℕ) → n ≤ length xs → length (part xs a n) ≡ n - a
part_length xs a n l = let d = length-drop a xs in length-take-le (n - a) (drop a xs) (omega arith)

part_none : {A : Type 0} (xs : List A) (a : ℕ) → part xs a a ≡ []
part_none xs a = let e : a - a ≡ 0 = omega arith in ap (λ (n : ℕ). take n (drop a xs)) e

-- The next token ----------------------------------------------------------------------------------------------------------------

-- a token is next
pub record Found (text : List ℕ) (p : ℕ) (n : Next) (l : Lexeme) : Type 0 where
  pub token : Token
  pub is-token : token_of (chunk_in text (from text p)) ≡ some token
  pub sort-is : l.sort ≡ (token_lexeme token).sort
  pub value-is : l.value ≡ (token_lexeme token).value
  pub from_is : n.from ≡ from text p
  pub to_is : n.to ≡ to text p
  pub places : (p ≤ n.from) × (n.from < n.to) × (n.to ≤ length text)

-- the next token by what its chunk is
next-by : (text : List ℕ) (p : ℕ) (n : Next) → n ≡ next_in text p → (o : Option Token) → token_of (chunk_in text (from text p)) ≡ o → n ≡ standing o (from text p) (to text p)
unfolding next_in
next-by text p n is o e = is ∙ ap (λ (o : Option Token). standing o (from text p) (to text p)) e

pub found : (text : List ℕ) (p : ℕ) (n : Next) → n ≡ next_in text p → (l : Lexeme) → n.token ≡ Some l → Found text p n l
found text p n is l h = go (token_of (chunk_in text (from text p))) refl
  where
    go : (o : Option Token) → token_of (chunk_in text (from text p)) ≡ o → Found text p n l
    go none e = let q : Some l ≡ None = sym h ∙ ap (λ (m : Next). m.token) (next-by text p n is none e) in cc
    go (some t) e =
        let i = next-by text p n is (some t) e in
        let f : n.from ≡ from text p = ap (λ (m : Next). m.from) i in
        let g : n.to ≡ to text p = ap (λ (m : Next). m.to) i in
        let q : Some l ≡ Some (token_lexeme t) = sym h ∙ ap (λ (m : Next). m.token) i in
        let j : l ≡ token_lexeme t = cc in
        let (a, b, c) = to-later text p t e in
        record {
          token = t;
          is-token = e;
          sort-is = ap (λ (m : Lexeme). m.sort) j;
          value-is = ap (λ (m : Lexeme). m.value) j;
          from_is = f;
          to_is = g;
          places = (omega (arith, a, f), omega (arith, b, f, g), omega (arith, c, g));
        }

-- none is
unfound : (text : List ℕ) (p : ℕ) (n : Next) → n ≡ next_in text p → n.token ≡ None → token_of (chunk_in text (from text p)) ≡ none
unfound text p n is h = go (token_of (chunk_in text (from text p))) refl
  where
    go : (o : Option Token) → token_of (chunk_in text (from text p)) ≡ o → o ≡ none
    go none e = refl
    go (some t) e = let q : Some (token_lexeme t) ≡ None = sym (ap (λ (m : Next). m.token) (next-by text p n is (some t) e)) ∙ h in cc

-- Tokens listed up to a place ---------------------------------------------------------------------------------------------------

-- where the tokens of a line begin
abbrev begin : List ℕ → ℕ → ℕ
begin text at = at + 2 * indent_of (drop at text)

pub record Scanned (text : List ℕ) (at first : ℕ) (sorts₀ : List ℕ) (values₀ : List ℤ) (sorts : List ℕ) (values : List ℤ) (p count : ℕ) : Type 0 where
  pub tokens : List Token
  pub edge : Edge Token
  pub stands : EdgeAt text p (ltb first count) edge
  pub reads : read_to start (drop (begin text at) text) ≡ Option.map (λ us. tokens ++ us) (read_to edge (drop p text))
  pub sized : at + line_size (drop at text) ≡ p + line_size (drop p text)
  pub counted : count ≡ first + length tokens
  pub few : count ≤ p
  pub later : at ≤ p
  pub within : p ≤ length text
  pub sorts-length : length sorts ≡ length sorts₀
  pub values_length : length values ≡ length values₀
  pub sorts-kept : take first sorts ≡ take first sorts₀
  pub values-kept : take first values ≡ take first values₀
  pub sorts-held : part sorts first count ≡ map token_sort tokens
  pub values-held : tokens_held text (part sorts first count) (part values first count) ≡ map some tokens

-- none yet
pub scan-start : (text : List ℕ) (at first : ℕ) (sorts : List ℕ) (values : List ℤ) → at < length text → first ≤ at
    → Scanned text at first sorts values sorts values (begin text at) first
unfolding tokens_by
scan-start text at first sorts values l f =
    let h : 2 * indent_of (drop at text) ≤ blanks (drop at text) = omega arith in
    let (s, w) = blanks-sized (2 * indent_of (drop at text)) (drop at text) h in
    let d = length-drop at text in
    let e = ap line_size (drop-drop (2 * indent_of (drop at text)) at text) in
    record {
      tokens = [];
      edge = start;
      stands = subst (λ (b : Bool). EdgeAt text (begin text at) b start) (sym (le-ltb first first (omega arith))) unbegun;
      reads = empty (read_to start (drop (begin text at) text));
      sized = omega (arith, s, e);
      counted = omega arith;
      few = omega arith;
      later = omega arith;
      within = omega (arith, w, d, l);
      sorts-length = refl;
      values_length = refl;
      sorts-kept = refl;
      values-kept = refl;
      sorts-held = part_none sorts first;
      values-held = ap (λ (ss : List ℕ). tokens_held text ss (part values first first)) (part_none sorts first);
    }
  where
    empty : (o : Option (List Token)) → o ≡ Option.map (λ us. [] ++ us) o
    empty none = refl
    empty (some us) = refl

module _ {text : List ℕ} {at first : ℕ} {sorts₀ : List ℕ} {values₀ : List ℤ} {sorts : List ℕ} {values : List ℤ} {p count : ℕ}
    (scanned : Scanned text at first sorts₀ values₀ sorts values p count) where
  -- what the line is, by what is read from the place on
  written-by : (o : Option (List Token)) → read_to scanned.edge (drop p text) ≡ o → line_written (line_from text at) ≡ written_at (indent_of (drop at text)) (Option.map (λ us. scanned.tokens ++ us) o)
  written-by o h =
      line-written text at
      ∙ ap (written_at (indent_of (drop at text))) (scanned.reads ∙ ap (Option.map (λ us. scanned.tokens ++ us)) h)

  -- the line is none of the grammar
  refuses : read_to scanned.edge (drop p text) ≡ none → (r : lines.Option Listed) → r ≡ None → LineRead text at first sorts₀ values₀ r sorts values
  refuses h r s = record {
    sorts-length = scanned.sorts-length;
    values_length = scanned.values_length;
    sorts-kept = scanned.sorts-kept;
    values-kept = scanned.values-kept;
    refused = λ e. written-by none h;
    read = λ l e. let q : Some l ≡ None = sym e ∙ s in cc;
  }

  -- the text ends
  pub scan-past-end : length text ≤ p → LineRead text at first sorts₀ values₀ None sorts values
  scan-past-end h = refuses (ap (read_to scanned.edge) (drop_of_length-le text h) ∙ read_none scanned.edge) None refl

  -- no token is next
  pub scan-ended : (n : Next) → n ≡ next_in text p → n.token ≡ None → p < length text → (level : ℕ) → level ≡ indent_of (drop at text)
      → (spelt : Bool) → spelt ≡ ended_at text (ltb first count) p → (r : lines.Option Listed) → r ≡ then_some spelt (record { level = level; count = count; next = p + 1 })
      → LineRead text at first sorts₀ values₀ r sorts values
  scan-ended n is h l level e spelt q r i = go spelt q i
    where
      told : read_to scanned.edge (drop p text) ≡ if_else (ended_at text (ltb first count) p) (some []) none
      told = end_read text p l (unfound text p n is h) (ltb first count) scanned.edge scanned.stands

      line : Listed
      line = record { level = level; count = count; next = p + 1 }

      spelt-line : true ≡ ended_at text (ltb first count) p → SpeltLine text at first line sorts values
      spelt-line b =
          let feed = eqb-true (get_or text p 0) line_feed (split-and (ltb first count) (eqb (get_or text p 0) line_feed) (sym b)).1 in
          let z = end-sized text p l feed in
          let s = scanned.sized in
          let a = scanned.later in
          let f = scanned.few in
          record {
            tokens = scanned.tokens;
            is-written =
                written-by (some []) (told ∙ ap (λ (t : Bool). if_else t (some []) none) (sym b))
                ∙ ap₂ (λ (k : ℕ) (ts : List Token). some (written k ts)) (sym e) (append-nil scanned.tokens);
            next-is = omega (arith, z, s);
            inside = (omega (arith, a), omega (arith, l));
            counted = scanned.counted;
            few = omega (arith, f);
            sorts-held = scanned.sorts-held;
            values-held = scanned.values-held;
          }

      go : (b : Bool) → b ≡ ended_at text (ltb first count) p → r ≡ then_some b line → LineRead text at first sorts₀ values₀ r sorts values
      go false b i = refuses (told ∙ ap (λ (t : Bool). if_else t (some []) none) (sym b)) r i
      go true b i = record {
        sorts-length = scanned.sorts-length;
        values_length = scanned.values_length;
        sorts-kept = scanned.sorts-kept;
        values-kept = scanned.values-kept;
        refused = λ e. let q : Some line ≡ None = sym i ∙ e in cc;
        read = λ l e. let q : Some line ≡ Some l = sym i ∙ e in let j : line ≡ l = cc in subst (λ (l : Listed). SpeltLine text at first l sorts values) j (spelt-line b);
      }

  module _ (n : Next) (x : Lexeme) (t : Found text p n x) where
    -- what is read from the place on
    read-there : read_to scanned.edge (drop p text)
        ≡ if_else (misplaced text (ltb first count) p n.from n.to) none (front token_of hang needs_space t.token (read_to (token t.token) (drop n.to text)))
    read-there =
        token-read text p t.token t.is-token (ltb first count) scanned.edge scanned.stands
        ∙ sym
        (ap₂ (λ (a b : ℕ). if_else (misplaced text (ltb first count) p a b) none (front token_of hang needs_space t.token (read_to (token t.token) (drop b text)))) t.from_is t.to_is)

    -- the token stands where it may not
    pub scan-misplaced : misplaced text (ltb first count) p n.from n.to ≡ true → LineRead text at first sorts₀ values₀ None sorts values
    scan-misplaced m =
        refuses (read-there ∙ ap (λ (b : Bool). if_else b none (front token_of hang needs_space t.token (read_to (token t.token) (drop n.to text)))) m) None refl

    -- the token is listed
    pub scan-more : misplaced text (ltb first count) p n.from n.to ≡ false → (v : ℤ) → v ≡ held_value x.sort x.value n.from n.to
        → count < length sorts → count < length values
        → Scanned text at first sorts₀ values₀ (set sorts count x.sort) (set values count v) n.to (count + 1)
    scan-more m v held room-s room-v =
        let ts = scanned.tokens in
        let u = t.token in
        let (a, b, c) = t.places in
        let k = scanned.counted in
        let f = scanned.few in
        let g = scanned.later in
        let ft : first ≤ count = omega (arith, k) in
        let z = line-sized text p u t.is-token in
        let y = ap (λ (j : ℕ). j + line_size (drop j text)) t.to_is in
        let s = scanned.sized in
        let lt = length-append ts (u ∷ []) in
        let lp = part_length sorts first count (omega (arith, room-s)) in
        let lq = part_length values first count (omega (arith, room-v)) in
        let es = part-more sorts first count x.sort ft room-s in
        let ev = part-more values first count v ft room-v in
        record {
          tokens = ts ++ (u ∷ []);
          edge = token u;
          stands =
              subst (λ (b : Bool). EdgeAt text n.to b (token u)) (sym (lt-ltb first (count + 1) (omega (arith, ft))))
              (ended_by u (omega (arith, b)) (last_byte text p u t.is-token ∙ ap (λ (j : ℕ). is_word_byte (get_or text (j - 1) 0)) (sym t.to_is)));
          reads =
              scanned.reads
              ∙ ap (Option.map (λ us. ts ++ us)) (read-there ∙ ap (λ (b : Bool). if_else b none (front token_of hang needs_space u (read_to (token u) (drop n.to text)))) m)
              ∙ joined (read_to (token u) (drop n.to text));
          sized = omega (arith, s, z, y);
          counted = omega (arith, k, lt);
          few = omega (arith, f, a, b);
          later = omega (arith, g, a, b);
          within = c;
          sorts-length = length-set sorts count x.sort ∙ scanned.sorts-length;
          values_length = length-set values count v ∙ scanned.values_length;
          sorts-kept = take-set-le first sorts count x.sort ft ∙ scanned.sorts-kept;
          values-kept = take-set-le first values count v ft ∙ scanned.values-kept;
          sorts-held = es ∙ ap₂ (λ (l : List ℕ) (k : ℕ). l ++ (k ∷ [])) scanned.sorts-held t.sort-is ∙ sym (map-append token_sort ts (u ∷ []));
          values-held =
              ap₂ (λ (l : List ℕ) (ws : List ℤ). tokens_held text l ws) es ev
              ∙ tokens-more (name_held text) (part sorts first count) (part values first count) x.sort v (lp ∙ sym lq)
              ∙ ap₂ (λ (l : List (Option Token)) (o : Option Token). l ++ (o ∷ [])) scanned.values-held this
              ∙ sym (map-append some ts (u ∷ []));
        }
      where
        joined : (o : Option (List Token)) → Option.map (λ us. scanned.tokens ++ us) (front token_of hang needs_space t.token o) ≡ Option.map (λ us. (scanned.tokens ++ (t.token ∷ [])) ++ us) o
        joined none = refl
        joined (some us) = ap some (sym (append_assoc scanned.tokens (t.token ∷ []) us))

        this : token_by (name_held text) x.sort v ≡ some t.token
        this =
            ap (token_by (name_held text) x.sort) held
            ∙ ap₂ (λ (a b : ℕ). token_by (name_held text) x.sort (held_value x.sort x.value a b)) t.from_is t.to_is
            ∙ ap₂ (λ (k : ℕ) (w : ℤ). token_by (name_held text) k (held_value k w (from text p) (to text p))) t.sort-is t.value-is
            ∙ listed-token text p t.token t.is-token
