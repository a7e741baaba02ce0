-- A line: what its tokens tell of its names.
use mathlib.Core.Path.{◌≡◌, refl, sym, ap, ap₂, subst, ◌∙◌}
use mathlib.Core.Bool.{Bool, true, false, ◌||◌, or-false}
use mathlib.Core.List.{List, [], ◌∷◌, ◌++◌, map}
use mathlib.Core.Option.{Option, none, some, none-ne-some, some-injective}
use Prim.Native.Nat.{ℕ, zero, suc, ◌+◌, ◌<◌}
use native.Mathlib.Omega.{arith}
use lib.ListN.{length, get_elem?, take, drop, length-append, length-drop, take-append-drop}
use lib.Seq.{length-take-le}
use lib.Dec.{ltb}
use Rattle.meaning.specs.Basics.{if_else, any_passes}
use Rattle.meaning.specs.Lines.{same}
use Rattle.meaning.proofs.NoFault.{same_refl}
use Rattle.grammar.specs.Outline.{Declaration, OutlineLine, declare, Lined, lined, skip, stop, assign, input, output, seq, par, ifs, alts, while, test, guarded, allowed, is_declaration}
use Rattle.grammar.specs.Names.{use_of, uses_of, name_of, declaration_in, first_declared, misused, declared_before, declared_again, misnamed, Sort, Use}
use Rattle.grammar.specs.TextRows.{if_declared, name_row, declarations, text_lines}
use Rattle.grammar.proofs.LineRead.{line-sound}
use Rattle.grammar.specs.Grammar.{Mark, Token}
use Rattle.grammar.specs.Machine.{phrase, close, reach}
use Rattle.grammar.specs.Lines.{ints, chans, Header, scalar, array, host-in, host-out, Alone, skips, stops, seqs, pars, chooses, selects, Spells, declares, word, repeats, assigns, inputs, outputs, tests, guards, allows, line_spelt, of_cut, cut_at_mark, single}
use Rattle.grammar.specs.TextBytes.{grammar_fault}
use Rattle.grammar.specs.Names as names
use Rattle.read_classes.specs.Parts.{part_at_mark}
use Rattle.read_resolved.specs.Resolved.{resolved_token}
use Rattle.read_declared.specs.Declarations.{in_order}
use Rattle.read_declared.proofs.OrderLaws.{in_order_lem, in-order-append}
use Rattle.read_uses.specs.Misuses.{misused_in, misnamed_as, misnamed_in, tokens_misnamed, unfit}
use Rattle.read_uses.specs.Resolving.{resolved_chunk}
use Rattle.read_uses.specs.Uses.{uses_from, uses_in}
use Rattle.read_uses.proofs.UseLaws.{uses-told}
use Rattle.read_uses.proofs.MisuseLaws.{misused-told, again-told}

-- The tokens of a line ---------------------------------------------------------------------------------------------------------------

-- no line is spelt by no token
no-tokens : line_spelt [] ≡ none
unfolding line_spelt cut_at_mark of_cut single phrase close reach
no-tokens = refl

pub spelt-some : (ts : List Token) (x : OutlineLine) → line_spelt ts ≡ some x → 0 < length ts
spelt-some [] x e = absurd (none-ne-some x (sym no-tokens ∙ e))
spelt-some (t ∷ ts) x e = omega arith

alone-declares-nothing : {m : Mark} {x : OutlineLine} → Alone m x → declaration_in x ≡ none
alone-declares-nothing skips = refl
alone-declares-nothing stops = refl
alone-declares-nothing seqs = refl
alone-declares-nothing pars = refl
alone-declares-nothing chooses = refl
alone-declares-nothing selects = refl

spelt-header : {ts : List Token} {x : OutlineLine} → Spells ts x → (d : Declaration) → declaration_in x ≡ some d → Header ts d
spelt-header (declares {ts} {d = c} h) d e = subst (Header ts) (some-injective c d e) h
spelt-header (word a) d e = absurd (none-ne-some d (sym (alone-declares-nothing a) ∙ e))
spelt-header (repeats p) d e = absurd (none-ne-some d e)
spelt-header (assigns p q) d e = absurd (none-ne-some d e)
spelt-header (inputs p q) d e = absurd (none-ne-some d e)
spelt-header (outputs p q) d e = absurd (none-ne-some d e)
spelt-header (tests p) d e = absurd (none-ne-some d e)
spelt-header (guards p q r) d e = absurd (none-ne-some d e)
spelt-header (allows p) d e = absurd (none-ne-some d e)

-- the one name in a declaration
abbrev OneName : List Token → Declaration → Type 0
OneName ts d = (b : Bool) × (s : Sort) × (uses_in (map some ts) ≡ use_of (name_of d) b s ∷ [])

header-name : {ts : List Token} {d : Declaration} → Header ts d → OneName ts d
unfolding part_at_mark uses_from
header-name (scalar ints) = (_, _, refl)
header-name (scalar chans) = (_, _, refl)
header-name (array ints) = (_, _, refl)
header-name (array chans) = (_, _, refl)
header-name host-in = (_, _, refl)
header-name host-out = (_, _, refl)

no-declaration : (x : OutlineLine) → declaration_in x ≡ none → is_declaration x ≡ false
no-declaration (declare d) e = absurd (none-ne-some d (sym e))
no-declaration skip e = refl
no-declaration stop e = refl
no-declaration (assign a b) e = refl
no-declaration (input a b) e = refl
no-declaration (output a b) e = refl
no-declaration seq e = refl
no-declaration par e = refl
no-declaration ifs e = refl
no-declaration alts e = refl
no-declaration (while a) e = refl
no-declaration (test a) e = refl
no-declaration (guarded a b c) e = refl
no-declaration (allowed a) e = refl

pub resolved-map : (ns : List (List ℕ)) (ts : List Token) → map (resolved_chunk ns) (map (λ t. some t) ts) ≡ map (λ t. some (resolved_token ns t)) ts
resolved-map ns [] = refl
resolved-map ns (t ∷ ts) = ap (λ (os : List (Option Token)). some (resolved_token ns t) ∷ os) (resolved-map ns ts)

-- Names ------------------------------------------------------------------------------------------------------------------------------

-- a declared name has a declaration
named-there : (ps qs : List Declaration) (d : Declaration)
    → (c : Declaration) × (get_elem? (ps ++ (d ∷ qs)) (name_row (map name_of (ps ++ (d ∷ qs))) (name_of d)) ≡ some c)
unfolding name_row
named-there [] qs d = (d, ap (λ (t : Bool). get_elem? (d ∷ qs) (if_else t 0 (suc (name_row (map name_of qs) (name_of d))))) (same_refl (name_of d)))
named-there (p ∷ ps) qs d = go (same (name_of d) (name_of p)) (named-there ps qs d)
  where
    all : List Declaration
    all = ps ++ (d ∷ qs)

    go : (t : Bool) → (c : Declaration) × (get_elem? all (name_row (map name_of all) (name_of d)) ≡ some c)
        → (c : Declaration) × (get_elem? (p ∷ all) (if_else t 0 (suc (name_row (map name_of all) (name_of d)))) ≡ some c)
    go true h = (p, refl)
    go false h = h

-- on a line that is no declaration only uses matter
misnamed-use : (ds : List Declaration) (seen : ℕ) (u : Use) → misnamed_in ds false seen u ≡ misused_in ds u
misnamed-use ds seen u = go (get_elem? ds (name_row (map name_of ds) u.named))
  where
    go : (o : Option Declaration) → misnamed_as false seen (name_row (map name_of ds) u.named) o u ≡ unfit o u
    go none = refl
    go (some d) = refl

any_same : (p q : Use → Bool) (us : List Use) → ((u : Use) → p u ≡ q u) → any_passes p us ≡ any_passes q us
unfolding any_passes
any_same p q [] h = refl
any_same p q (u ∷ us) h = ap₂ (λ (a b : Bool). a || b) (h u) (any_same p q us h)

-- Lines ------------------------------------------------------------------------------------------------------------------------------

-- the line after some lines
there : (passed : List Lined) (y : Lined) (rest : List Lined) → get_elem? (passed ++ (y ∷ rest)) (length passed) ≡ some y
there [] y rest = refl
there (z ∷ passed) y rest = there passed y rest

-- one line more
taken_more : (ls : List Lined) (j : ℕ) (y : Lined) (rest : List Lined) → drop j ls ≡ y ∷ rest → take (suc j) ls ≡ take j ls ++ (y ∷ [])
taken_more [] zero y rest e = absurd (let z : ◌≡◌ {A = ℕ} 0 (suc (length rest)) = ap length e in omega arith)
taken_more [] (suc j) y rest e = absurd (let z : ◌≡◌ {A = ℕ} 0 (suc (length rest)) = ap length e in omega arith)
taken_more (x ∷ ls) zero y rest e = let z : x ≡ y = cc in ap (λ (w : Lined). w ∷ []) z
taken_more (x ∷ ls) (suc j) y rest e = ap (λ (ms : List Lined). x ∷ ms) (taken_more ls j y rest e)

-- By its tokens ----------------------------------------------------------------------------------------------------------------------

module _ (text : List ℕ) (fine : grammar_fault text ≡ none) (line seen level : ℕ) (here : OutlineLine) (rest : List Lined) (there-is : drop line (text_lines text) ≡ lined level here ∷ rest)
    (counted : seen ≡ length (in_order (take line (text_lines text)))) (ts : List Token) (spelt : line_spelt ts ≡ some here) where
  abbrev ls : List Lined
  ls = text_lines text

  abbrev ds : List Declaration
  ds = declarations ls

  -- the lines before it, and those after it
  abbrev passed : List Lined
  passed = take line ls

  passed_length : length passed ≡ line
  passed_length =
      let n : length (drop line ls) ≡ suc (length rest) = ap length there-is in
      let l = length-drop line ls in
      length-take-le line ls (omega (arith, n, l))

  whole : ls ≡ passed ++ (lined level here ∷ rest)
  whole = sym (take-append-drop line ls) ∙ ap (λ (ms : List Lined). passed ++ ms) there-is

  ordered : in_order (passed ++ (lined level here ∷ rest)) ≡ ds
  ordered = sym (ap in_order whole) ∙ in_order_lem text fine

  next-misnamed : misnamed ls (suc line) ≡ names.line_misnamed ls line (some (lined level here))
  next-misnamed =
      ap (names.line_misnamed ls line) (ap₂ (λ (ms : List Lined) (i : ℕ). get_elem? ms i) whole (sym passed_length) ∙ there passed (lined level here) rest)

  -- a declaration
  module _ (d : Declaration) (q : here ≡ declare d) where
    declared-name : OneName ts d
    declared-name = header-name (spelt-header (line-sound ts here spelt) d (ap declaration_in q))

    declared-there : (c : Declaration) × (get_elem? ds (name_row (map name_of ds) (name_of d)) ≡ some c)
    unfolding in_order
    declared-there =
        let o : in_order passed ++ (d ∷ in_order rest) ≡ ds = sym (in-order-append passed (lined level here ∷ rest) ∙ ap (λ (x : OutlineLine). in_order passed ++ (if_declared (declaration_in x) ++ in_order rest)) q) ∙ ordered in
        subst (λ (es : List Declaration). (c : Declaration) × (get_elem? es (name_row (map name_of es) (name_of d)) ≡ some c)) o (named-there (in_order passed) (in_order rest) d)

    declaration-told : tokens_misnamed ds true seen (map some ts) ≡ misnamed ls (suc line)
    unfolding any_passes
    declaration-told =
        let (b, s, u) = declared-name in
        let (c, w) = declared-there in
        let row = name_row (map name_of ds) (name_of d) in
        ap (any_passes (misnamed_in ds true seen)) u
        ∙ or-false (misnamed_in ds true seen (use_of (name_of d) b s))
        ∙ ap (λ (o : Option Declaration). misnamed_as true seen row o (use_of (name_of d) b s)) w
        ∙ sym
        (next-misnamed
        ∙ ap (λ (x : OutlineLine). names.line_misnamed ls line (some (lined level x))) q
        ∙ or-false (declared_before line (first_declared (name_of d) ls))
        ∙ ap₂ (λ (i : ℕ) (ms : List Lined). declared_before i (first_declared (name_of d) ms)) (sym passed_length) whole
        ∙ again-told passed (lined level here ∷ rest) (name_of d)
        ∙ ap₂ (λ (es : List Declaration) (i : ℕ). ltb (name_row (map name_of es) (name_of d)) i) ordered (sym counted))

  -- another line
  other-told : declaration_in here ≡ none → tokens_misnamed ds false seen (map some ts) ≡ misnamed ls (suc line)
  other-told q =
      ap (any_passes (misnamed_in ds false seen)) (uses-told ts here (line-sound ts here spelt) (no-declaration here q))
      ∙ any_same (misnamed_in ds false seen) (misused_in ds) (uses_of here) (misnamed-use ds seen)
      ∙ sym
      (next-misnamed
      ∙ ap (λ (o : Option Declaration). declared_again ls line o || any_passes (λ u. misused (first_declared u.named ls) u) (uses_of here)) q
      ∙ any_same (λ u. misused (first_declared u.named ls) u) (misused_in ds) (uses_of here)
      (λ u. misused-told ls u ∙ ap (λ (es : List Declaration). misused_in es u) (in_order_lem text fine)))

  -- whether names are not in order on a line, which is a declaration or not
  pub line-told : (b : Bool) → (b ≡ true → (d : Declaration) × (here ≡ declare d)) → (b ≡ false → declaration_in here ≡ none) → tokens_misnamed ds b seen (map some ts) ≡ misnamed ls (suc line)
  line-told true e f = let (d, q) = e refl in declaration-told d q
  line-told false e f = other-told (f refl)

  -- the declarations up to the next line
  pub counted-after : length (in_order (take (suc line) ls)) ≡ seen + length (if_declared (declaration_in here))
  unfolding in_order
  counted-after =
      let e = ap (λ (ms : List Lined). length (in_order ms)) (taken_more ls line (lined level here) rest there-is) ∙ ap length (in-order-append passed (lined level here ∷ [])) in
      let a = length-append (in_order passed) (if_declared (declaration_in here) ++ []) in
      let c = length-append (if_declared (declaration_in here)) [] in
      let d = counted in
      omega (arith, e, a, c, d)
