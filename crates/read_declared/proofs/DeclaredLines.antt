-- The lines of a text by their kinds: a declaration with what its listed tokens tell, or a line that declares nothing.
use mathlib.Core.Path.{◌≡◌, refl, sym, ap, subst, ◌∙◌}
use mathlib.Core.List.{List, [], ◌∷◌, ◌++◌, append-nil}
use mathlib.Core.Option.{Option, none, some, none-ne-some}
use Prim.Native.Nat.{ℕ, ◌+◌, ◌-◌, ◌/◌, ◌%◌, ◌≤◌, ◌<◌}
use native.Mathlib.Omega.{arith}
use native.Mathlib.Decide.{dec_lt}
use lib.IntN.{ℤ, pos, negsuc}
use lib.ListN.{length, get_or, take, drop, length-append, length-drop, take-append-drop, drop_of_length-le}
use lib.Seq.{length-take-le, take-add, take-nil}
use Rattle.meaning.specs.Rows.{natural_of}
use Rattle.grammar.specs.Grammar.{Token, name, number}
use Rattle.grammar.specs.Outline.{Declaration, OutlineLine, declare, Lined, lined}
use Rattle.grammar.specs.Names.{name_of, declaration_in}
use Rattle.grammar.specs.TextRows.{declaration_row, if_declared, text_lines}
use Rattle.grammar.proofs.TextPlaces.{text-lines}
use Rattle.read_tokens.specs.Held.{part, by_natural, tokens_by, name_held, letters_at}
use Rattle.read_classes.specs.Parts.{mark_at}
use Rattle.read_names.specs.Listed.{name_at}
use Rattle.read_levels.specs.Listing.{Listing, start_of, sorts_on, values_on, LinesListed, TextListed}
use Rattle.read_levels.proofs.ListingLaws.{line-there, class-at}
use Rattle.read_tokens.specs.Sorts as sorts
use Rattle.read_declared.specs.Firsts.{place_of_sort, name_in}
use Rattle.read_declared.specs.Declarations.{in_order, row_listed, role_number, role_listed, HasMark, Listable}
use Rattle.read_declared.proofs.HeaderLaws.{headed, header-marked, name-listed, header_row, header-role}
use Rattle.read_declared.proofs.NameLaws.{declared-lettered}
use Rattle.read_declared.proofs.OrderLaws.{in-order-append}
use Rattle.read_declared.proofs.KindLaws.{declares-below, declares-not}

-- the declarations up to a line, and that of the line
pub order-more : (ls : List Lined) (j l : ℕ) (x : OutlineLine) (rest : List Lined) → drop j ls ≡ lined l x ∷ rest → in_order (take (j + 1) ls) ≡ in_order (take j ls) ++ if_declared (declaration_in x)
unfolding in_order
order-more ls j l x rest e = ap in_order (take-add j 1 ls ∙ ap (λ (ms : List Lined). take j ls ++ take 1 ms) e) ∙ in-order-append (take j ls) (lined l x ∷ []) ∙ ap (λ (ds : List Declaration). in_order (take j ls) ++ ds) (append-nil (if_declared (declaration_in x)))

-- those up to a line are no more than all
pub order-within : (ls : List Lined) (j : ℕ) → length (in_order (take j ls)) ≤ length (in_order ls)
order-within ls j =
    let e = ap (λ (ms : List Lined). length (in_order ms)) (take-append-drop j ls) in
    let f = ap length (in-order-append (take j ls) (drop j ls)) in
    let h = length-append (in_order (take j ls)) (in_order (drop j ls)) in
    omega (arith, e, f, h)

part-sized : {A : Type 0} (xs : List A) (a b : ℕ) → b ≤ length xs → length (part xs a b) ≡ b - a
part-sized xs a b h = let d = length-drop a xs in length-take-le (b - a) (drop a xs) (omega (arith, d, h))

-- a declaration on a line, and its listed tokens
pub record DeclaredLine (named : ℕ → Option Token) (f : Token → Token) (ls : List Lined) (line : ℕ) (ss : List ℕ) (vs : List ℤ) : Type 0 where
  pub declared : Declaration
  pub level : ℕ
  pub rest : List Lined
  pub at-line : drop line ls ≡ lined level (declare declared) ∷ rest
  pub marked : HasMark ss vs
  pub name-there : place_of_sort sorts.name ss < length vs
  pub name-as : by_natural named (get_or vs (place_of_sort sorts.name ss) (pos 0)) ≡ some (f (name (name_of declared)))
  pub row : row_listed ss vs ≡ declaration_row declared
  pub role : role_listed ss vs ≡ role_number declared

-- a line that declares nothing
pub record OtherLine (ls : List Lined) (line : ℕ) : Type 0 where
  pub level : ℕ
  pub here : OutlineLine
  pub rest : List Lined
  pub at-line : drop line ls ≡ lined level here ∷ rest
  pub declares-none : declaration_in here ≡ none

module _ {named : ℕ → Option Token} {f : Token → Token} {ls : List Lined} {count : ℕ} {g : Listing} (h : LinesListed named f ls count g) (line : ℕ) (i : line < count) where
  pub other-line : 2 < get_or g.kinds line 0 % 16 → OtherLine ls line
  other-line k =
      let (l, x, rest, e) = line-there h line i in
      let c = class-at h line l x rest e in
      record { level = l; here = x; rest = rest; at-line = e; declares-none = declares-not x (omega (arith, k, c)) }

  pub declared-line : ((z : ℤ) → f (number z) ≡ number z) → get_or g.kinds line 0 % 16 ≤ 2 → (first : ℕ) → first ≡ start_of g.ends line
      → DeclaredLine named f ls line (part g.sorts first (get_or g.ends line 0)) (part g.values first (get_or g.ends line 0))
  declared-line keeps k first b =
      let (l, x, rest, e) = line-there h line i in
      let c = class-at h line l x rest e in
      let (d, w) = declares-below x (omega (arith, k, c)) in
      let t = h.line line l x rest e in
      let ts = t.tokens in
      let p = headed ts d (t.spelt ∙ ap some w) in
      let ss = sorts_on g.ends g.sorts line in
      let vs = values_on g.ends g.values line in
      let held = ap (λ (rs : List ℕ). tokens_by named rs vs) (sym t.sorts-held) ∙ t.values-held in
      let q = subst (λ (rs : List ℕ). (place_of_sort sorts.name rs < length vs) × (by_natural named (get_or vs (place_of_sort sorts.name rs) (pos 0)) ≡ some (f (name (name_of d))))) (sym t.sorts-held) (name-listed named f p vs held) in
      subst (λ (n : ℕ). DeclaredLine named f ls line (part g.sorts n (get_or g.ends line 0)) (part g.values n (get_or g.ends line 0))) (sym b) (record {
        declared = d;
        level = l;
        rest = rest;
        at-line = e ∙ ap (λ (y : OutlineLine). lined l y ∷ rest) w;
        marked = (
          part-sized g.sorts (start_of g.ends line) (get_or g.ends line 0) t.within ∙ sym (part-sized g.values (start_of g.ends line) (get_or g.ends line 0) (let v = h.even in let w = t.within in omega (arith, v, w))),
          subst (λ (rs : List ℕ). mark_at rs < length rs) (sym t.sorts-held) (header-marked p),
        );
        name-there = q.0;
        name-as = q.1;
        row = ap (λ (rs : List ℕ). row_listed rs vs) t.sorts-held ∙ header_row named f keeps p vs held;
        role = ap (λ (rs : List ℕ). role_listed rs vs) t.sorts-held ∙ header-role named f keeps p vs held;
      })

-- Names by where they stand ---------------------------------------------------------------------------------------------------------

-- a name with letters that is listed by where it stands: it stands in the text
pub name-placed : (text n : List ℕ) (v : ℤ) → by_natural (name_held text) v ≡ some (name n) → 0 < length n
    → (v ≡ pos (natural_of v)) × (letters_at text (natural_of v) ≡ n) × (natural_of v / 32 < length text)
name-placed text n (negsuc k) e l = absurd (none-ne-some (name n) e)
name-placed text n (pos k) e l = (refl, is, there (dec_lt (k / 32) (length text)))
  where
    is : letters_at text k ≡ n
    is = cc

    there : Dec (k / 32 < length text) → k / 32 < length text
    there (yes h) = h
    there (no h) =
        let z : letters_at text k ≡ [] = ap (take (k % 32)) (drop_of_length-le text {i = k / 32} (omega (arith, h))) ∙ take-nil (k % 32) in
        let m = ap length (sym z ∙ is) in
        absurd (omega (arith, m, l))

-- a declaration of a text, and its name
pub record ListedLine (text : List ℕ) (line : ℕ) (ss : List ℕ) (vs : List ℤ) : Type 0 where
  pub told : DeclaredLine (name_held text) (λ t. t) (text_lines text) line ss vs
  pub listable : Listable ss vs
  pub name-is : name_at text (name_in ss vs / 32) (name_in ss vs % 32) ≡ name_of told.declared

pub listed-line : (text : List ℕ) (count : ℕ) (g : Listing) → TextListed text count g → (line : ℕ) → line < count → get_or g.kinds line 0 % 16 ≤ 2 → (first : ℕ) → first ≡ start_of g.ends line
    → ListedLine text line (part g.sorts first (get_or g.ends line 0)) (part g.values first (get_or g.ends line 0))
listed-line text count g h line i k first b =
    let d = declared-line h.lines line i (λ z. refl) k first b in
    let s = (text-lines text h.of-grammar).0 in
    let l = declared-lettered text h.of-grammar line d.level d.declared d.rest d.at-line in
    let (v, n, w) = name-placed text (name_of d.declared) _ d.name-as l in
    record { told = d; listable = (d.marked, (d.name-there, v), omega (arith, w, s)); name-is = n }
