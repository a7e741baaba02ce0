-- The names of a line, token by token.
use mathlib.Core.Path.{◌≡◌, refl, sym, ap, ap₂, subst, ◌∙◌}
use mathlib.Core.Bool.{Bool, true, false, ◌||◌, or-false, false≢true}
use mathlib.Core.List.{List, [], ◌∷◌, ◌++◌, map}
use mathlib.Core.Option.{Option, none, some}
use Prim.Native.Nat.{ℕ, zero, suc, ◌+◌, ◌≤◌, ◌<◌}
use native.Mathlib.Omega.{arith}
use native.Mathlib.Numerals.{add-one}
use lib.IntN.{ℤ, pos}
use lib.ListN.{length, get_or, get_elem?, take, drop, set, drop_of_length-le, length-set, length-map}
use lib.Seq.{take_all, drop-cons, take-set-le, drop-set-lt, get_or-set_same}
use lib.Dec.{leb}
use borrow.Author.Tests.{lt-ltb}
use Rattle.meaning.specs.Basics.{if_else, any_passes}
use Rattle.meaning.specs.Rows.{natural_of}
use Rattle.grammar.specs.Outline.{Declaration}
use Rattle.grammar.specs.Names.{use_of, Use}
use Rattle.grammar.specs.TextRows.{name_row, declarations, text_lines}
use Rattle.grammar.specs.Grammar.{Token, name}
use Rattle.read_tokens.specs.Held.{name_held, name_of_row, tokens_held, tokens_resolved, row_limit, token_by, tokens_by, letters_at}
use Rattle.read_tokens.proofs.HeldLaws.{sorts-of-held, tokens-length}
use Rattle.read_tokens.specs.Sorts as sorts
use Rattle.read_classes.specs.Parts.{sort_of, mark_in}
use Rattle.read_names.specs.Listed.{names_at}
use Rattle.read_resolved.specs.Resolved.{declared_names}
use Rattle.read_declared.specs.Declarations.{role_number}
use Rattle.read_uses.specs.Misuses.{misnamed_as, misnamed_in, tokens_misnamed, misnamed_by, mark_past, bare_at}
use Rattle.read_uses.specs.Resolving.{resolved_chunk, NamesKnown, LineHeld, LineChecked}
use Rattle.read_uses.specs.Uses.{uses_from, sort_by, mark_after, bare_before, chunk_use}
use Rattle.read_uses.proofs.RoleLaws.{roles-tell, declared-row}
use Rattle.read_uses.proofs.MarkLaws.{mark-ahead-told, bare-told, mark-from}
use Rattle.read_uses.proofs.TokenLaws.{token-step, token-last, map_last, some-there, sorts-map, natural-name, name_by, other-by, no-use, unresolved, any_append}

-- The loop ---------------------------------------------------------------------------------------------------------------------------

module _ (text : List ℕ) (declares : Bool) (seen : ℕ) (ss : List ℕ) (vs : List ℤ) where
  abbrev ds : List Declaration
  ds = declarations (text_lines text)

  abbrev names : List (List ℕ)
  names = declared_names text

  abbrev os : List (Option Token)
  os = tokens_held text ss vs

  abbrev passes : List Use → Bool
  passes us = any_passes (misnamed_in ds declares seen) us

  -- the tokens before a place are in order and resolved, and those from there on decide
  pub record Resolving (m at : ℕ) (ws : List ℤ) : Type 0 where
    pub inside : at ≤ length ss
    pub same_length : length ws ≡ length vs
    pub left : drop at ws ≡ drop at vs
    pub decides : passes (uses_from m (drop at os)) ≡ tokens_misnamed ds declares seen os
    pub done : tokens_resolved (take at ss) (take at ws) ≡ map (resolved_chunk names) (take at os)

  module _ (held : LineHeld text ss vs) where
    even : length ss ≡ length vs
    even = held.0

    -- the sorts are those of the tokens
    sorts-are : ss ≡ map sort_of os
    sorts-are = let (ts, e) = held.1 in sorts-of-held text ss vs ts held.0 e ∙ sym (sorts-map ts) ∙ sym (ap (map sort_of) e)

    pub resolving-start : (m : ℕ) → m ≡ mark_in ss → Resolving m 0 vs
    unfolding tokens_by
    resolving-start m e =
        record {
          inside = omega arith;
          same_length = refl;
          left = refl;
          decides = ap (λ (k : ℕ). passes (uses_from k os)) (e ∙ ap mark_in sorts-are ∙ mark-ahead-told os);
          done = refl;
        }

    module _ (m at : ℕ) (ws : List ℤ) (r : Resolving m at ws) where
      -- no token is left
      pub resolving-end : length ss ≤ at → LineChecked text declares seen ss vs false ws
      unfolding uses_from any_passes
      resolving-end h =
          let n = tokens-length (name_held text) ss vs even in
          let l = r.same_length in
          let d = even in
          record {
            same_length = r.same_length;
            told = sym (ap (λ (ps : List (Option Token)). passes (uses_from m ps)) (drop_of_length-le os {i = at} (omega (arith, n, h)))) ∙ r.decides;
            resolved = λ _.
                ap₂ tokens_resolved (sym (take_all at ss h)) (sym (take_all at ws (omega (arith, h, l, d))))
                ∙ r.done
                ∙ ap (map (resolved_chunk names)) (take_all at os (omega (arith, n, h)));
          }

      module _ (h : at < length ss) where
        abbrev sort : ℕ
        sort = get_or ss at 0

        abbrev chunk : Option Token
        chunk = token_by (name_held text) sort (get_or vs at (pos 0))

        abbrev later : List (Option Token)
        later = drop (suc at) os

        pub in-values : at < length ws
        in-values = let l = r.same_length in let d = even in omega (arith, h, l, d)

        chunks : drop at os ≡ chunk ∷ later
        chunks = token-step (name_held text) ss vs at even h

        -- the number is as it was
        kept : get_or ws at (pos 0) ≡ get_or vs at (pos 0)
        kept =
            let d = even in
            ap (λ (l : List ℤ). get_or l 0 (pos 0)) (sym (drop-cons ws at (pos 0) in-values) ∙ r.left ∙ drop-cons vs at (pos 0) (omega (arith, h, d)))

        kept-later : drop (suc at) ws ≡ drop (suc at) vs
        kept-later =
            let d = even in
            ap (drop 1) (sym (drop-cons ws at (pos 0) in-values) ∙ r.left ∙ drop-cons vs at (pos 0) (omega (arith, h, d)))

        -- its token
        chunk-some : (t : Token) × (chunk ≡ some t)
        chunk-some = let (ts, e) = held.1 in some-there ts at chunk later (ap (drop at) (sym e) ∙ chunks)

        chunk-sort : sort_of chunk ≡ sort
        chunk-sort =
            ap (λ (ps : List (Option Token)). get_or (map sort_of ps) 0 0) (sym chunks)
            ∙ first-sort at os
            ∙ ap (λ (ks : List ℕ). get_or ks at 0) (sym sorts-are)
          where
            first-sort : (n : ℕ) (ps : List (Option Token)) → get_or (map sort_of (drop n ps)) 0 0 ≡ get_or (map sort_of ps) n 0
            first-sort zero ps = refl
            first-sort (suc n) [] = refl
            first-sort (suc n) (p ∷ ps) = first-sort n ps

        -- what the token decides, and what those after it do
        abbrev here : Bool
        here = passes (chunk_use (sort_by m) (bare_before later) chunk)

        mark-after : mark_past ss at ≡ mark_after chunk later
        mark-after =
            ap₂ (λ (s k : ℕ). if_else (leb sorts.skip s) k sorts.no_token) (sym chunk-sort) (ap (λ (ks : List ℕ). mark_in (drop (suc at) ks)) sorts-are ∙ mark-from (suc at) os)

        parts : (here || passes (uses_from (mark_past ss at) later)) ≡ tokens_misnamed ds declares seen os
        unfolding uses_from
        parts =
            ap (λ (k : ℕ). here || passes (uses_from k later)) mark-after
            ∙ sym (any_append (misnamed_in ds declares seen) (chunk_use (sort_by m) (bare_before later) chunk) (uses_from (mark_after chunk later) later))
            ∙ sym (ap (λ (ps : List (Option Token)). passes (uses_from m ps)) chunks)
            ∙ r.decides

        -- the next place, where the token is in order and resolved
        next : (ws' : List ℤ) → length ws' ≡ length vs → take at ws' ≡ take at ws → drop (suc at) ws' ≡ drop (suc at) vs
            → token_by name_of_row sort (get_or ws' at (pos 0)) ≡ resolved_chunk names chunk → here ≡ false → (k : ℕ) → k ≡ mark_past ss at → Resolving k (at + 1) ws'
        next ws' l a b c f k e =
            let d = even in
            let n = tokens-length (name_held text) ss vs even in
            subst (λ (i : ℕ). Resolving k i ws') (sym (add-one at))
            (record {
              inside = omega (arith, h);
              same_length = l;
              left = b;
              decides = ap (λ (j : ℕ). passes (uses_from j later)) e ∙ ap (λ (t : Bool). t || passes (uses_from (mark_past ss at) later)) (sym f) ∙ parts;
              done =
                  token-last name_of_row ss ws' at (omega (arith, d, l)) h
                  ∙ ap₂ (λ (ps : List (Option Token)) (p : Option Token). ps ++ (p ∷ [])) (ap (tokens_resolved (take at ss)) a ∙ r.done) c
                  ∙ sym (map_last (resolved_chunk names) (take at os) chunk)
                  ∙ ap (map (resolved_chunk names)) (sym (last_taken at os chunk later (omega (arith, n, h)) chunks));
            })
          where
            last_taken : (i : ℕ) (ps : List (Option Token)) (p : Option Token) (qs : List (Option Token)) → i < length ps → drop i ps ≡ p ∷ qs → take (suc i) ps ≡ take i ps ++ (p ∷ [])
            last_taken i [] p qs g q = absurd (omega arith)
            last_taken zero (x ∷ ps) p qs g q = let z : x ≡ p = cc in ap (λ (y : Option Token). y ∷ []) z
            last_taken (suc i) (x ∷ ps) p qs g q = ap (λ (l : List (Option Token)). x ∷ l) (last_taken i ps p qs (omega arith) q)

        -- a token of another sort
        pub resolving-other : (sort ≡ sorts.name → ⊥) → (k : ℕ) → k ≡ mark_past ss at → Resolving k (at + 1) ws
        unfolding any_passes
        resolving-other g k e =
            let u : sort_of chunk ≡ sorts.name → ⊥ = λ q. g (sym chunk-sort ∙ q) in
            next ws r.same_length refl kept-later
            (ap (token_by name_of_row sort) kept ∙ other-by name_of_row (name_held text) sort (get_or vs at (pos 0)) g ∙ unresolved names chunk u)
            (ap passes (no-use (sort_by m) (bare_before later) chunk u)) k e

        -- a name
        module _ (g : sort ≡ sorts.name) where
          placed-name : (k : ℕ) × (get_or vs at (pos 0) ≡ pos k)
          placed-name =
              let (t, e) = chunk-some in
              natural-name (name_held text) (get_or vs at (pos 0)) t (ap (λ (s : ℕ). token_by (name_held text) s (get_or vs at (pos 0))) (sym g) ∙ e)

          pub natural-value : (k : ℕ) × (get_or ws at (pos 0) ≡ pos k)
          natural-value = let (k, e) = placed-name in (k, kept ∙ e)

          abbrev letters : List ℕ
          letters = letters_at text (natural_of (get_or ws at (pos 0)))

          chunk-is : chunk ≡ some (name letters)
          chunk-is =
              let (k, e) = natural-value in
              ap₂ (token_by (name_held text)) g (sym kept ∙ e)
              ∙ name_by (name_held text) k
              ∙ ap (λ (v : ℤ). some (name (letters_at text (natural_of v)))) (sym e)

          module _ (froms sizes roles heads nexts : List ℕ) (known : NamesKnown text froms sizes roles heads nexts)
              (found : ℕ) (is : found ≡ name_row (names_at text froms sizes) letters) where
            found-row : name_row names letters ≡ found
            found-row = sym (is ∙ ap (λ (ns : List (List ℕ)). name_row ns letters) known.0.named)

            module _ (b : Bool) (bare : b ≡ bare_at ss (at + 1)) (t : Bool) (told : t ≡ misnamed_by declares seen found roles b (sort_by m)) where
              here-told : t ≡ here
              unfolding any_passes
              here-told =
                  let u = use_of letters b (sort_by m) in
                  let bare-is : b ≡ bare_before later = bare ∙ ap₂ bare_at sorts-are (add-one at) ∙ bare-told os (suc at) in
                  told
                  ∙ ap (λ (rs : List ℕ). misnamed_by declares seen found rs b (sort_by m)) known.0.roles-held
                  ∙ roles-tell ds declares seen found letters b (sort_by m)
                  ∙ ap (λ (i : ℕ). misnamed_as declares seen i (get_elem? ds i) u) (sym found-row)
                  ∙ sym (or-false (misnamed_in ds declares seen u))
                  ∙ ap₂ (λ (c : Bool) (o : Option Token). passes (chunk_use (sort_by m) c o)) bare-is (sym chunk-is)

              -- it is not in order
              pub resolving-fault : t ≡ true → LineChecked text declares seen ss vs true ws
              resolving-fault e =
                  record {
                    same_length = r.same_length;
                    told = ap (λ (x : Bool). x || passes (uses_from (mark_past ss at) later)) (sym e ∙ here-told) ∙ parts;
                    resolved = λ q. absurd (false≢true (sym q));
                  }

              -- it is, and so it is declared
              pub found-small : t ≡ false → found < row_limit
              found-small e =
                  let h = declared-row declares seen found roles b (sort_by m) (sym told ∙ e) in
                  let c = ap length known.0.roles-held ∙ length-map ds role_number in
                  let w = known.2 in
                  omega (arith, h, c, w)

              -- and is resolved
              pub resolving-name : t ≡ false → (k : ℕ) → k ≡ mark_past ss at → Resolving k (at + 1) (set ws at (pos found))
              resolving-name e k q =
                  next (set ws at (pos found)) (length-set ws at (pos found) ∙ r.same_length) (take-set-le at ws at (pos found) (omega arith))
                  (drop-set-lt (suc at) ws at (pos found) (omega arith) ∙ kept-later)
                  (ap₂ (token_by name_of_row) g (get_or-set_same ws at (pos found) (pos 0) in-values)
                  ∙ name_by name_of_row found
                  ∙ ap (λ (x : Bool). if_else x (some (name (found ∷ []))) none) (lt-ltb found row_limit (found-small e))
                  ∙ ap (λ (i : ℕ). some (name (i ∷ []))) (sym found-row)
                  ∙ ap (resolved_chunk names) (sym chunk-is))
                  (sym here-told ∙ e) k q

-- the same with numbers that are as said
pub resolving-same : {text : List ℕ} {declares : Bool} {seen : ℕ} {ss : List ℕ} {vs : List ℤ} {mark at : ℕ} {us ws : List ℤ} → us ≡ ws → Resolving text declares seen ss vs mark at ws → Resolving text declares seen ss vs mark at us
resolving-same {text} {declares} {seen} {ss} {vs} {mark} {at} e x = subst (Resolving text declares seen ss vs mark at) (sym e) x
